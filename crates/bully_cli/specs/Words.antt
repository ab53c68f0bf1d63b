-- What the words after the program's name ask for, as clap reads them.
use Rattle.std.specs.Prelude.{◌≡◌, Bool, true, false, not, ◌&&◌, List, [], ◌∷◌, Option, Some, None, Result, IfOk, map}
use Rattle.std.specs.Prelude.{option_and_then, option_map, codes, if◌then◌else◌}
use Rattle.std.specs.List.{list_all}
use Rattle.std.specs.Str.{bytes_eq}
use Rattle.std.specs.declared.alloc.AllocError.{AllocError}
use Rattle.clap.specs.Words.{App, app_of, Row, Rule, Text, Kinds, all_of, fault_of, first_of, new_app, new_rule}
use Rattle.clap.specs.Words.{subcommand_of, takes, with_rule, with_subcommand}
use Rattle.clap.specs.declared.builder.action.ArgAction.TheVariants.{Append, Set, SetTrue}
use Rattle.clap.specs.declared.builder.command.Command.{Command}
use Rattle.clap.specs.declared.builder.command.Command.TheViews.{out-Command as fields_of}
use Rattle.clap.specs.declared.error.kind.ErrorKind.{ErrorKind}
use Rattle.clap.specs.declared.error.kind.ErrorKind.TheVariants as kind
use Rattle.std.specs.Borrow.{Bor}
use Rattle.bully_cli.specs.declared.action.Action.{Action}
use Rattle.bully_cli.specs.declared.action.DrawWords.{DrawWords}

-- the program before its commands, of which one is required; its words come without its name, and it tells its version
abbrev pub bare : App
bare = record (new_app (codes "bully")) {
  top = record (new_app (codes "bully")).top { no_binary_name = true; subcommand_required = true; has_version = true };
}

-- the path of a configuration
abbrev pub config_rule : Rule
config_rule = record (new_rule (codes "CONFIG")) { required = true }

-- the names of the members, one at least
abbrev pub member_rule : Rule
member_rule = record (new_rule (codes "MEMBER")) { required = true; action = Some Append }

-- an option with a value
abbrev pub option_rule : Text → Rule
option_rule name = record (new_rule name) { long = Some name; value_names = 1; action = Some Set }

-- the owners of the old table, where there is one
abbrev pub old_rule : Rule
old_rule = option_rule (codes "old")

-- the path of a configuration that is to be explained, where there is one
abbrev pub explained_rule : Rule
explained_rule = option_rule (codes "config")

-- which rows are drawn, where that is said
abbrev pub rows_rule : Rule
rows_rule = option_rule (codes "rows")

-- the path of the configuration whose names stand over the lanes, where there is one
abbrev pub names_rule : Rule
names_rule = option_rule (codes "names")

-- an option without a value
abbrev pub flag_rule : Text → Rule
flag_rule name = record (new_rule name) { long = Some name; action = Some SetTrue }

-- that the picture is drawn as text
abbrev pub text_rule : Rule
text_rule = flag_rule (codes "text")

-- that the picture stands in a page
abbrev pub html_rule : Rule
html_rule = flag_rule (codes "html")

-- that claims are left out of the picture
abbrev pub claims_rule : Rule
claims_rule = flag_rule (codes "without-claims")

-- that the answer is one for tools
abbrev pub json_rule : Rule
json_rule = flag_rule (codes "json")

-- the path of a trace, where there is one
abbrev pub file_rule : Rule
file_rule = new_rule (codes "FILE")

-- the name of a shell
abbrev pub shell_rule : Rule
shell_rule = record (new_rule (codes "SHELL")) { required = true }

-- a command that reads a trace
abbrev pub trace_app : Text → App
trace_app name = with_rule (new_app name) file_rule

abbrev pub check_app : App
check_app = with_rule (trace_app (codes "check")) json_rule

abbrev pub explain_app : App
explain_app = with_rule (with_rule (trace_app (codes "explain")) explained_rule) json_rule

abbrev pub follow_app : App
follow_app = with_rule (trace_app (codes "follow")) json_rule

abbrev pub upgrade_app : App
upgrade_app = trace_app (codes "upgrade")

abbrev pub annotate_app : App
annotate_app = trace_app (codes "annotate")

abbrev pub draw_app : App
draw_app = with_rule (with_rule
    (with_rule (with_rule (with_rule (trace_app (codes "draw")) rows_rule) text_rule) html_rule) names_rule) claims_rule

abbrev pub play_app : App
play_app = with_rule (new_app (codes "play")) config_rule

abbrev pub run_app : App
run_app = with_rule (new_app (codes "run")) config_rule

abbrev pub table_app : App
table_app =
    with_rule (with_rule (with_rule (with_rule (new_app (codes "table")) config_rule) member_rule) old_rule) json_rule

abbrev pub completion_app : App
completion_app = with_rule (new_app (codes "completion")) shell_rule

-- the program with all of its commands
abbrev pub program : App
program =
    with_subcommand (with_subcommand (with_subcommand (with_subcommand (with_subcommand
    (with_subcommand (with_subcommand (with_subcommand (with_subcommand (with_subcommand bare check_app.top)
    explain_app.top) follow_app.top) upgrade_app.top) annotate_app.top) draw_app.top) play_app.top) run_app.top)
    table_app.top) completion_app.top

-- where the command was made, it reads words as this
abbrev pub ReadsAs : App → Result Command AllocError → Type 0
ReadsAs app made = IfOk made (λ command. app_of command ≡ app)

-- where the command was made, it reads words as this, and none of its arguments is global
abbrev pub IsLocalCommand : App → Result Command AllocError → Type 0
IsLocalCommand app made = IfOk made (λ command. (app_of command ≡ app) × ((fields_of command).has_globals ≡ false))

-- which rows of which trace are drawn, and how: the values of FILE, `--rows`, `--text`, `--html`, `--names` and
-- `--without-claims`, where they are there
pub record Drawn : Type 0 where
  pub file : Option Text
  pub rows : Option Text
  pub text : Option Text
  pub html : Option Text
  pub names : Option Text
  pub without_claims : Option Text

-- what words ask for: to judge a trace, with FILE and `--json`; to explain the verdict on it, or a configuration, with
-- FILE, `--config` and `--json`; to follow one that grows; to upgrade or to annotate it; to draw it; to play the
-- configuration at a path, or to run its node threads; to plan a table for the configuration at a path, members by
-- name, the owners in an old table, and `--json`; or the completion of a shell. Where FILE is there the trace stands
-- there, and else on the input
pub data Asked : Type 0 where
  checking : Option Text → Option Text → Asked
  explaining : Option Text → Option Text → Option Text → Asked
  following : Option Text → Option Text → Asked
  upgrading : Option Text → Asked
  annotating : Option Text → Asked
  drawing : Drawn → Asked
  playing : Text → Asked
  running : Text → Asked
  planning : Text → List Text → Option Text → Option Text → Asked
  completing : Text → Asked

-- with the values of CONFIG, MEMBER, `--old` and `--json`, where the first two are there
abbrev pub planning_of : Option Text → Option (List Text) → Option Text → Option Text → Option Asked
planning_of (Some path) (Some members) old json = Some (planning path members old json)
planning_of _ _ old json = None

abbrev pub planning_in : List Row → Option Asked
planning_in rows = planning_of (first_of (codes "CONFIG") rows) (all_of (codes "MEMBER") rows)
    (first_of (codes "old") rows) (first_of (codes "json") rows)

abbrev pub drawn_in : List Row → Drawn
drawn_in rows = record {
  file = first_of (codes "FILE") rows;
  rows = first_of (codes "rows") rows;
  text = first_of (codes "text") rows;
  html = first_of (codes "html") rows;
  names = first_of (codes "names") rows;
  without_claims = first_of (codes "without-claims") rows;
}

-- what a command asks for with what clap found after it
abbrev pub asked_by : Text → List Row → Option Asked
asked_by name rows =
    if bytes_eq name (codes "check") then Some (checking (first_of (codes "FILE") rows) (first_of (codes "json") rows))
    else if bytes_eq name (codes "explain") then Some
    (explaining (first_of (codes "FILE") rows) (first_of (codes "config") rows) (first_of (codes "json") rows))
    else if bytes_eq name (codes "follow")
    then Some (following (first_of (codes "FILE") rows) (first_of (codes "json") rows))
    else if bytes_eq name (codes "upgrade") then Some (upgrading (first_of (codes "FILE") rows))
    else if bytes_eq name (codes "annotate") then Some (annotating (first_of (codes "FILE") rows))
    else if bytes_eq name (codes "draw") then Some (drawing (drawn_in rows))
    else if bytes_eq name (codes "play") then option_map playing (first_of (codes "CONFIG") rows)
    else if bytes_eq name (codes "run") then option_map running (first_of (codes "CONFIG") rows)
    else if bytes_eq name (codes "table") then planning_in rows
    else if bytes_eq name (codes "completion") then option_map completing (first_of (codes "SHELL") rows)
    else None

abbrev pub asked_in : Option (Text × List Row) → Option Asked
asked_in command = option_and_then (λ p. asked_by p.0 p.1) command

-- what the words ask for
abbrev pub asked_for : List Text → Option Asked
asked_for words = asked_in (subcommand_of program words)

abbrev pub text_of : Option (Bor Text) → Option Text
text_of value = option_map (λ s. s.now) value

abbrev pub drawn_of : DrawWords → Drawn
drawn_of words = record {
  file = text_of words.file;
  rows = text_of words.rows;
  text = text_of words.text;
  html = text_of words.html;
  names = text_of words.names;
  without_claims = text_of words.without_claims;
}

-- an action, with its texts
abbrev pub texts_of : Action → Asked
texts_of (Action.Check words) = checking (text_of words.file) (text_of words.json)
texts_of (Action.Explain words) = explaining (text_of words.file) (text_of words.config) (text_of words.json)
texts_of (Action.Follow words) = following (text_of words.file) (text_of words.json)
texts_of (Action.Upgrade file) = upgrading (text_of file)
texts_of (Action.Annotate file) = annotating (text_of file)
texts_of (Action.Draw words) = drawing (drawn_of words)
texts_of (Action.Play path) = playing path.now
texts_of (Action.Run path) = running path.now
texts_of (Action.Table words) =
    planning words.config.now (map (λ s. s.now) words.members.items) (text_of words.old) (text_of words.json)
texts_of (Action.Completion shell) = completing shell.now

-- the words are good, and they ask for this
pub record ParsesAs (words : List Text) (what : Asked) : Type 0 where
  pub good : takes program words ≡ true
  pub asks : asked_for words ≡ Some what

abbrev pub is_help : ErrorKind → Bool
is_help kind.DisplayHelp = true
is_help kind.DisplayVersion = true
is_help _ = false

abbrev pub is_filled : Kinds → Bool
is_filled [] = false
is_filled (k ∷ ks) = true

-- clap finds a mistake in the words
abbrev pub is_mistake : List Text → Bool
is_mistake words = is_filled (fault_of program words) && list_all (λ k. not (is_help k)) (fault_of program words)

-- the words ask for help
abbrev pub asks_for_help : List Text → Bool
asks_for_help words = is_filled (fault_of program words) && list_all is_help (fault_of program words)
