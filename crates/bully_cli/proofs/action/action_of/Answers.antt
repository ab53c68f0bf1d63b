use Rattle.std.proofs.Common.{subst, map, IfOk, Some, ◌≡◌}
use Rattle.clap.specs.Words.{subcommand_of}
use Rattle.bully_cli.specs.Words.{asked_in, program, texts_of}
use Rattle.bully_cli.proofs.ActionLemmas.{answer-asked}
use Rattle.bully_cli.proofs.action.action_of.Goals as goal

pub returns-in-Ok-clause-asked : goal.returns-in-Ok-clause-asked
returns-in-Ok-clause-asked g c = subst (λ y. IfOk c.action_in.result (λ action. asked_in y ≡ Some (texts_of action))) c.in-Ok.ensures.rows c.action_in.ensures.asked

pub returns-in-Ok-clause-parsed : goal.returns-in-Ok-clause-parsed
returns-in-Ok-clause-parsed g c = λ what parses.
    answer-asked c.action_in.result _ (subcommand_of program (map g.S.AsStr.text c.args.words.now)) what c.in-Ok.ensures.rows parses.asks c.action_in.ensures.asked c.action_in.ensures.nothing
