use Rattle.std.proofs.Common.{◌++◌, ◌∷◌, [], sym, subst}
use Rattle.bully_account.specs.Remembered.{Remembered}
use Rattle.bully_account.specs.RowsOf.{AreRemembered}
use Rattle.bully_account.proofs.RowsLemmas.{remembered-push}
use Rattle.bully_account.proofs.memory.push_memory.Goals as goal

pub returns-clause-remembered : goal.returns-clause-remembered
returns-clause-remembered c = λ all.
    let items = c.args.nodes.now.items in
    let setup = c.args.setup.now in
    rw c.in_ok-push.ensures.items
    (subst (λ (m : Remembered). AreRemembered setup [] 1 (items ++ m ∷ [])) (sym c.in_ok-new.ensures) (remembered-push setup 1 items all))
