-- The lane begins with how the node stands before the first row.
use Rattle.std.proofs.Common.{◌≡◌, ◌∙◌, ◌++◌, ◌∷◌, [], Some, ap, subst}
use Rattle.std.specs.Prelude.{slice_get}
use Rattle.bully_film.specs.declared.snapshot.NodeSnapshot.{NodeSnapshot}
use Rattle.bully_film.specs.Behind.{world_behind}
use Rattle.bully_film.specs.Scene.{snapshot}
use Rattle.bully_picture.proofs.columns.push_start.Goals as goal

pub returns-in-Some : goal.returns-in-Some
returns-in-Some c = λ window trace is.
    let first : Some c.in-Some.start.now ≡ Some (snapshot (world_behind trace.setup is.before) c.args.node) =
    c.in-Some.ensures.value ∙ ap (λ l. slice_get l 0) (c.as_slice.ensures.value ∙ c.in_ok-lane.ensures window trace is) in
    let same : c.in-Some.start.now ≡ snapshot (world_behind trace.setup is.before) c.args.node = cc in
    subst (λ (start : NodeSnapshot). c.push.new.self.items ≡ c.args.now.now.items ++ start ∷ []) same c.in_ok-push-in-Some.ensures.items
