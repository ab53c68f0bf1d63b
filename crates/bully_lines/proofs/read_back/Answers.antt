use Rattle.bully_lines.proofs.ReadBackLemmas.{reads-reply, reads-request}
use Rattle.bully_lines.proofs.ToldLemmas.{replies-told, requests-told}
use Rattle.bully_lines.proofs.read_back.Goals as goal

pub returns-clause-request : goal.returns-clause-request
returns-clause-request c = reads-request

pub returns-clause-reply : goal.returns-clause-reply
returns-clause-reply c = reads-reply

pub returns-clause-requests : goal.returns-clause-requests
returns-clause-requests c = requests-told

pub returns-clause-replies : goal.returns-clause-replies
returns-clause-replies c = replies-told
