use Rattle.std.proofs.Common.{map}
use Rattle.bully.proofs.MemberLemmas.{members-within}
use Rattle.bully.proofs.tables.plan_with.Goals as goal

pub plan_after-requires : goal.plan_after-requires
plan_after-requires c =
    members-within c.args.config.now c.setup.result.now (map (λ s. s.now) c.as_slice.result.now) c.in_ok-members.members
    c.setup.ensures.within c.setup.ensures.setup c.in_ok-members.ensures.ok
