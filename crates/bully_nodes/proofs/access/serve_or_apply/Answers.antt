use Rattle.bully_nodes.proofs.RunLemmas.{ends_served, ends_applied}
use Rattle.bully_nodes.proofs.access.serve_or_apply.Goals as goal

pub returns-then-branch : goal.returns-then-branch
returns-then-branch g c = ends_served c.args.event.now c.in_ok-serve_at.field-0 _ _ c.if-branch.true c.in_ok-serve_at.ensures

pub returns : goal.returns
returns g c = ends_applied c.apply_to.result c.args.event.now c.in_ok-serve_at.field-0 _ _ _ c.if-branch.false c.in_ok-serve_at.ensures c.apply_to.ensures
