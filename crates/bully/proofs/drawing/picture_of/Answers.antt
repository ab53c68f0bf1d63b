use Rattle.std.proofs.Common.{◌≡◌, map, option_map, string_bytes, subst, sym}
use Rattle.bully.specs.DrawAnswer.{IsBelow, names_in}
use Rattle.bully.proofs.DrawLemmas.{picture-above}
use Rattle.bully.proofs.drawing.picture_of.Goals as goal

pub returns : goal.returns
returns c =
    let finished = c.args.film.now.finished in
    picture-above string_bytes c.picture_in.result c.args.drawing finished _ (names_in (option_map (λ s. s.now) c.args.names)) c.as_str.result.now
    (subst (IsBelow finished.stop) (sym c.as_str.ensures.value) c.in_ok-below.ensures)
    (subst (λ given. map (λ s. s.now) given ≡ names_in (option_map (λ s. s.now) c.args.names)) (sym c.as_slice.ensures.value) c.in_ok-names.ensures)
    c.picture_in.ensures
