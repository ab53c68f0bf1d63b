use Rattle.std.proofs.Common.{◌≡◌, ◌∙◌, ◌-◌, ap, map, sym}
use Rattle.std.specs.Prelude.{not, option_map, slice_get}
use Rattle.std.proofs.lemmas.Option.{slice_get-map}
use Rattle.bully_page.specs.Page.{cell_text, is_same_slot, name_text}
use Rattle.bully_picture.specs.Words.{is_same_stand}
use Rattle.bully_picture.proofs.WrittenLemmas.{writes-as, writes-then}
use Rattle.bully_page.proofs.changes.push_change.Goals as goal

pub returns : goal.returns
returns c =
    let change = c.args.change.now in
    let named : option_map (λ s. s.now) c.name_at.result ≡ slice_get (map (λ s. s.now) c.args.names.now) (change.node - 1) =
    c.name_at.ensures ∙ ap (λ k. option_map (λ s. s.now) (slice_get c.args.names.now (k - 1))) c.number.ensures.number ∙ sym (slice_get-map (λ s. s.now) c.args.names.now (change.node - 1)) in
    let same : cell_text (not c.is_same_stand-has_new_stand.result) (not c.is_same_slot-has_new_call.result) change.after
    ≡ cell_text (not (is_same_stand change.before change.after)) (not (is_same_slot change.before.call change.after.call)) change.after =
    ap (λ b. cell_text (not b) (not c.is_same_slot-has_new_call.result) change.after) c.is_same_stand-has_new_stand.ensures
    ∙ ap (λ b. cell_text (not (is_same_stand change.before change.after)) (not b) change.after) c.is_same_slot-has_new_call.ensures in
    writes-then (writes-then (writes-then (writes-then (writes-then c.push_node.ensures (writes-as (ap name_text named) c.push_name.ensures)) c.push.ensures) c.push_snapshot.ensures)
    (writes-as same c.push_snapshot-2.ensures)) c.push-2.ensures
