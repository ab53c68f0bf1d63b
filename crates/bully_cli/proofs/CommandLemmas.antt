-- What a command reads once another one, or an argument, was added to it.
use Rattle.std.proofs.Common.{◌≡◌, ◌∙◌, ap, ap₂, arith, false, Result, Ok, Err, IfOk, IsOkAnd}
use Rattle.std.proofs.lemmas.Grind.{common_steps}
use Rattle.std.specs.declared.alloc.AllocError.{AllocError}
use Rattle.clap.specs.Words.{AddsArg, AddsSubcommand, App, Rule, rule_of, with_rule, with_subcommand}
use Rattle.clap.specs.declared.builder.arg.Arg.{Arg}
use Rattle.clap.specs.declared.builder.command.Command.{Command}
use Rattle.bully_cli.specs.Words.{IsLocalCommand, ReadsAs}

pub added_command : (whole part : App) (one other made : Result Command AllocError) → ReadsAs whole one → IsLocalCommand part other
    → IfOk made (λ c. IsOkAnd one (λ a. IsOkAnd other (λ b. AddsSubcommand a b c)))
    → ReadsAs (with_subcommand whole part.top) made
added_command whole part one other (Err e) reads local adds = tt
added_command whole part (Ok a) (Ok b) (Ok c) reads local adds = adds.shape local.1 ∙ ap₂ with_subcommand reads (ap (λ (x : App). x.top) local.0)
added_command whole part (Ok a) (Err e) (Ok c) reads local adds = absurd adds
added_command whole part (Err e) other (Ok c) reads local adds = absurd adds

pub added_arg : (whole : App) (rule : Rule) (one made : Result Command AllocError) (arg : Arg) → IsLocalCommand whole one
    → rule_of arg ≡ rule → arg.global ≡ false
    → IfOk made (λ c. IsOkAnd one (λ a. AddsArg a arg c))
    → IsLocalCommand (with_rule whole rule) made
added_arg whole rule one (Err e) arg reads is local adds = tt
added_arg whole rule (Ok a) (Ok c) arg reads is local adds =
    (adds.shape local ∙ ap₂ with_rule reads.0 is, grind (arith, common_steps, adds.globals, reads.1, local))
added_arg whole rule (Err e) (Ok c) arg reads is local adds = absurd adds
