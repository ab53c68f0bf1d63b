use Rattle.std.proofs.Common.{◌≡◌, ◌∙◌, subst, rules}
use Rattle.std.specs.Prelude.{IfOk}
use Rattle.bully_film.specs.Lane.{IsLane, row_before}
use Rattle.bully_film.specs.Scene.{lane_of}
use Rattle.bully_film.proofs.whole.lane_at.Goals as goal

pub returns : goal.returns
returns c = λ window trace is.
    let first : c.row_before.result ≡ row_before c.args.finished.now.scenes.items = search rules in
    let seen : c.as_slice-2.result.now ≡ lane_of trace.setup is.before c.args.node is.shown = c.as_slice-2.ensures.value ∙ c.in_ok-snapshots.ensures window trace is in
    subst (λ k. IfOk c.stretched.result (IsLane c.args.node k (lane_of trace.setup is.before c.args.node is.shown))) first
    (subst (λ l. IfOk c.stretched.result (IsLane c.args.node c.row_before.result l)) seen c.stretched.ensures)
