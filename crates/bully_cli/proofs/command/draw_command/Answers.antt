use Rattle.bully_cli.specs.Words.{claims_rule, html_rule, names_rule, rows_rule, text_rule}
use Rattle.bully_cli.proofs.CommandLemmas.{added_arg}
use Rattle.bully_cli.proofs.command.draw_command.Goals as goal

pub returns : goal.returns
returns c =
    let with_rows_rule = added_arg _ rows_rule _ c.joined-command.result c.rows_arg.result c.trace_command-command.ensures c.rows_arg.ensures.rule c.rows_arg.ensures.local c.joined-command.ensures in
    let with_text_rule = added_arg _ text_rule _ c.joined-command-2.result c.text_arg.result with_rows_rule c.text_arg.ensures.rule c.text_arg.ensures.local c.joined-command-2.ensures in
    let with_html_rule = added_arg _ html_rule _ c.joined-command-3.result c.html_arg.result with_text_rule c.html_arg.ensures.rule c.html_arg.ensures.local c.joined-command-3.ensures in
    let with_names_rule = added_arg _ names_rule _ c.joined-command-4.result c.names_arg.result with_html_rule c.names_arg.ensures.rule c.names_arg.ensures.local c.joined-command-4.ensures in
    added_arg _ claims_rule _ c.joined.result c.claims_arg.result with_names_rule c.claims_arg.ensures.rule c.claims_arg.ensures.local c.joined.ensures
