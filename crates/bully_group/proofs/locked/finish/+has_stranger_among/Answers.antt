-- The seats are the first and the rest, for which the first one's actor is taken.
use Rattle.std.proofs.Common.{rules, ◌≡◌, ◌↔◌, ◌<◌, ◌≤◌, ◌∷◌, List, Bool, true, false, length, ap, sym, refl, ◌∙◌, subst, slice_set, slice_index_or, ℕ}
use Rattle.bully_group.specs.Finish.{AreOfGroup, AreFree}
use Rattle.bully_group.specs.Seat.{SeatState}
use Rattle.bully_group.proofs.FinishLemmas.{nobody_strange, group_by_first, group_behind_first}
use Rattle.bully_group.proofs.locked.finish.+has_stranger_among.Goals as goal

pub returns-in_default : goal.returns-in_default
returns-in_default t c = (λ r. nobody_strange c.args.nodes c.args.taken.now c.args.seats.now c.in_default.ensures.cases, λ all. refl)

pub returns : goal.returns
returns t c =
    let s : SeatState = record { actor = c.seat.inside.actor; log = c.seat.inside.log.items } in
    let rest : List SeatState = c.in-Some.rest.now in
    let taken : List Bool = c.args.taken.now in
    let is : c.args.seats.now ≡ s ∷ rest = c.in-Some.ensures.cases.0 ∙ ap (λ (x : SeatState). x ∷ rest) (sym c.seat.view_is) in
    let within : s.actor < length taken = search rules in
    let own : s.actor ≤ c.args.nodes = search rules in
    let free : slice_index_or taken s.actor false ≡ false = search rules in
    let at : c.from-2.result ≡ s.actor = search rules in
    let told : (c.has_stranger_among.result ≡ false) ↔ (AreOfGroup c.args.nodes rest × AreFree (slice_set taken s.actor true) rest) =
    subst (λ (k : ℕ). (c.has_stranger_among.result ≡ false) ↔ (AreOfGroup c.args.nodes rest × AreFree (slice_set taken k true) rest)) at c.has_stranger_among.ensures in
    rw is (
      λ r. group_by_first c.args.nodes taken s rest within own free (told.0 r),
      λ all. told.1 (group_behind_first c.args.nodes taken s rest within all),
    )
