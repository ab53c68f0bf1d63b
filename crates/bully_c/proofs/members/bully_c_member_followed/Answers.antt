use Rattle.bully_c.specs.declared.openings.HeldMember.{HeldMember}
use Rattle.bully_c.proofs.StepLemmas.{at-open-of}
use Rattle.bully_c.proofs.members.bully_c_member_followed.Goals as goal

pub returns : goal.returns
returns c = at-open-of HeldMember _ _ _ c.in-Some.held.value c.deref_mut.result.now c.tell_follow-status.new.held c.tell_follow-status.result c.in-Some.ensures.taken c.deref_mut.ensures.value c.put.ensures c.tell_follow-status.ensures
