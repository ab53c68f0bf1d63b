use Rattle.bully_member.proofs.AdmitLemmas.{admits_bare}
use Rattle.bully_member.proofs.RoleLemmas.{answers_bare, due_bare, sees_bare}
use Rattle.bully_member.proofs.needs_no_promises.Goals as goal

pub returns-clause-sees : goal.returns-clause-sees
returns-clause-sees c = sees_bare

pub returns-clause-due : goal.returns-clause-due
returns-clause-due c = due_bare

pub returns-clause-answers : goal.returns-clause-answers
returns-clause-answers c m now s sees needs = answers_bare m now s needs sees

pub returns-clause-admits : goal.returns-clause-admits
returns-clause-admits c = admits_bare
