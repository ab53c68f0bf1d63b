use Rattle.std.proofs.Common.{◌≡◌, ◌∙◌, refl, ap, subst, true, map, IfErr}
use Rattle.std.proofs.lemmas.Result.{IfOk-weaker}
use Rattle.clap.specs.Simple.{is_simple, HasMatchesOf}
use Rattle.clap.specs.Words.{app_of, fault_of, is_simple_and_free, kind_of, subcommand_of, subcommand_rows_of, takes, FailsBy}
use Rattle.clap.specs.declared.error.kind.ErrorKind.{ErrorKind}
use Rattle.clap.proofs.OnLiterals.{clap_on_literals}
use Rattle.bully_cli.specs.Words.{program}
use Rattle.bully_cli.proofs.action.matches_of.Goals as goal

is_plain : is_simple program ≡ true
unfolding clap_on_literals
is_plain = refl

is_free : is_simple_and_free program ≡ true
unfolding clap_on_literals
is_free = refl

pub returns-clause-rows : goal.returns-clause-rows
returns-clause-rows g c =
    let command_is : app_of c.in_ok-command_line.field-0 ≡ program = c.in_ok-command_line.ensures in
    let words = map g.S.AsStr.text c.args.words.now in
    IfOk-weaker c.try_get_matches_from.result (HasMatchesOf (app_of c.in_ok-command_line.field-0) words) (λ m. subcommand_rows_of m ≡ subcommand_of program words)
    (λ m has. (has (ap is_simple command_is ∙ is_plain)).1 ∙ ap (λ a. subcommand_of a words) command_is) c.try_get_matches_from.ensures.matches

pub returns-clause-passes : goal.returns-clause-passes
returns-clause-passes g c =
    let command_is : app_of c.in_ok-command_line.field-0 ≡ program = c.in_ok-command_line.ensures in
    subst (λ a. IfErr c.try_get_matches_from.result (λ error. takes a (map g.S.AsStr.text c.args.words.now) ≡ true → kind_of error ≡ ErrorKind.OutOfMemory))
    command_is c.try_get_matches_from.ensures.passes

pub returns-clause-kinds : goal.returns-clause-kinds
returns-clause-kinds g c =
    let command_is : app_of c.in_ok-command_line.field-0 ≡ program = c.in_ok-command_line.ensures in
    subst (λ a. FailsBy (fault_of a (map g.S.AsStr.text c.args.words.now)) c.try_get_matches_from.result)
    command_is (c.try_get_matches_from.ensures.kinds (ap is_simple_and_free command_is ∙ is_free))
