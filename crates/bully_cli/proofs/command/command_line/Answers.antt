use Rattle.clap.specs.Words.{with_subcommand}
use Rattle.bully_cli.specs.Words.{annotate_app, bare, check_app, completion_app, draw_app, explain_app, follow_app, play_app, run_app, table_app, upgrade_app, ReadsAs}
use Rattle.bully_cli.proofs.CommandLemmas.{added_command}
use Rattle.bully_cli.proofs.command.command_line.Goals as goal

pub returns : goal.returns
returns c =
    let check = with_subcommand bare check_app.top in
    let explain = with_subcommand check explain_app.top in
    let follow = with_subcommand explain follow_app.top in
    let upgrade = with_subcommand follow upgrade_app.top in
    let annotate = with_subcommand upgrade annotate_app.top in
    let draw = with_subcommand annotate draw_app.top in
    let play = with_subcommand draw play_app.top in
    let run = with_subcommand play run_app.top in
    let table = with_subcommand run table_app.top in
    let reads_check : ReadsAs check c.joined-command.result = added_command bare check_app _ _ c.joined-command.result c.bare_command.ensures c.check_command.ensures c.joined-command.ensures in
    let reads_explain : ReadsAs explain c.joined-command-2.result = added_command check explain_app _ _ c.joined-command-2.result reads_check c.explain_command.ensures c.joined-command-2.ensures in
    let reads_follow : ReadsAs follow c.joined-command-3.result = added_command explain follow_app _ _ c.joined-command-3.result reads_explain c.follow_command.ensures c.joined-command-3.ensures in
    let reads_upgrade : ReadsAs upgrade c.joined-command-4.result = added_command follow upgrade_app _ _ c.joined-command-4.result reads_follow c.upgrade_command.ensures c.joined-command-4.ensures in
    let reads_annotate : ReadsAs annotate c.joined-command-5.result = added_command upgrade annotate_app _ _ c.joined-command-5.result reads_upgrade c.annotate_command.ensures c.joined-command-5.ensures in
    let reads_draw : ReadsAs draw c.joined-command-6.result = added_command annotate draw_app _ _ c.joined-command-6.result reads_annotate c.draw_command.ensures c.joined-command-6.ensures in
    let reads_play : ReadsAs play c.joined-command-7.result = added_command draw play_app _ _ c.joined-command-7.result reads_draw c.play_command.ensures c.joined-command-7.ensures in
    let reads_run : ReadsAs run c.joined-command-8.result = added_command play run_app _ _ c.joined-command-8.result reads_play c.run_command.ensures c.joined-command-8.ensures in
    let reads_table : ReadsAs table c.joined-command-9.result = added_command run table_app _ _ c.joined-command-9.result reads_run c.table_command.ensures c.joined-command-9.ensures in
    added_command table completion_app _ _ c.joined.result reads_table c.completion_command.ensures c.joined.ensures
