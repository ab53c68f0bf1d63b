use Rattle.std.proofs.Common.{sym, ◌∙◌}
use Rattle.bully_member.proofs.AdmitLemmas.{admitted_alike}
use Rattle.bully_member.proofs.admits_alike.Goals as goal

pub returns-clause-admitted : goal.returns-clause-admitted
returns-clause-admitted c = admitted_alike

pub returns-clause-alike : goal.returns-clause-alike
returns-clause-alike c m n now then leases one other = admitted_alike m now leases one ∙ sym (admitted_alike n then leases other)
