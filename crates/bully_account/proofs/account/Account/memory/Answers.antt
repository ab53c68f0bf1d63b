use Rattle.std.proofs.Common.{IfSome, sym, subst, arith}
use Rattle.bully_account.specs.Accounts.{AccountState, HasTaken, rows_before}
use Rattle.bully_account.specs.RowsOf.{IsRemembered}
use Rattle.bully_account.proofs.RowsLemmas.{remembered-told}
use Rattle.bully_account.proofs.account.Account.memory.Goals as goal

pub returns-clause-rows : goal.returns-clause-rows
returns-clause-rows c = λ setup rows taken.
    let here = subst (λ (a : AccountState). HasTaken setup rows a) (sym c.self.view_is) taken in
    subst (λ (a : AccountState). IfSome c.of.result (λ memory. IsRemembered setup (rows_before a.stop rows) c.args.node memory.now)) c.self.view_is
    (remembered-told setup (rows_before c.self.inside.stop rows) c.args.node _ _ c.of.result _ c.of.ensures.memory here.remembered (omega (arith, c.of.ensures.node)))
