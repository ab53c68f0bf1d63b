use Rattle.bully_cli.specs.Words.{explained_rule, json_rule}
use Rattle.bully_cli.proofs.CommandLemmas.{added_arg}
use Rattle.bully_cli.proofs.command.explain_command.Goals as goal

pub returns : goal.returns
returns c =
    let with_explained_rule = added_arg _ explained_rule _ c.joined-command.result c.explained_arg.result c.trace_command-command.ensures c.explained_arg.ensures.rule c.explained_arg.ensures.local c.joined-command.ensures in
    added_arg _ json_rule _ c.joined.result c.json_arg.result with_explained_rule c.json_arg.ensures.rule c.json_arg.ensures.local c.joined.ensures
