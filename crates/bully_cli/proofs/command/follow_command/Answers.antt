use Rattle.bully_cli.specs.Words.{json_rule}
use Rattle.bully_cli.proofs.CommandLemmas.{added_arg}
use Rattle.bully_cli.proofs.command.follow_command.Goals as goal

pub returns : goal.returns
returns c =
    added_arg _ json_rule _ c.joined.result c.json_arg.result c.trace_command-command.ensures c.json_arg.ensures.rule c.json_arg.ensures.local c.joined.ensures
