use Rattle.std.proofs.Common.{rules}
use Rattle.bully_account.proofs.AccountLemmas.{all-judged}
use Rattle.bully_account.proofs.ToldLemmas.{verdict-told}
use Rattle.bully_account.proofs.telling.verdict_told.Goals as goal

pub returns-clause-told : goal.returns-clause-told
returns-clause-told c = λ known all.
    let judge = c.args.account.now.judge in
    verdict-told known judge c.verdict-verdict.result c.in_ok-nodes.nodes.items c.verdict-verdict.ensures
    (search rules) c.in_ok-nodes.ensures (all-judged known c.args.account.now all)
