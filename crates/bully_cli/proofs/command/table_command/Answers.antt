use Rattle.bully_cli.specs.Words.{json_rule, member_rule, old_rule}
use Rattle.bully_cli.proofs.CommandLemmas.{added_arg}
use Rattle.bully_cli.proofs.command.table_command.Goals as goal

pub returns : goal.returns
returns c =
    let with_member_rule = added_arg _ member_rule _ c.joined-command.result c.member_arg.result c.config_command-command.ensures c.member_arg.ensures.rule c.member_arg.ensures.local c.joined-command.ensures in
    let with_old_rule = added_arg _ old_rule _ c.joined-command-2.result c.old_arg.result with_member_rule c.old_arg.ensures.rule c.old_arg.ensures.local c.joined-command-2.ensures in
    added_arg _ json_rule _ c.joined.result c.json_arg.result with_old_rule c.json_arg.ensures.rule c.json_arg.ensures.local c.joined.ensures
