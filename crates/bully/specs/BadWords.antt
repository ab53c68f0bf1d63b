-- The lines of bad words: which word is bad, and what may stand there.
use Rattle.std.specs.Prelude.{ℕ, List, codes}

-- two forms of a picture are asked for
abbrev pub html_line : List ℕ
html_line = codes "bully: words: Html: give --html or --text, not both\n"

-- the rows to be drawn are none, or too many
abbrev pub rows_line : List ℕ
rows_line = codes
    "bully: words: Rows: --rows takes FROM-TO, as 2-50: row 1 is the header, FROM is at most TO, and 2000 rows are the most\n"

-- a trace is named beside a configuration
abbrev pub file_line : List ℕ
file_line = codes "bully: words: File: give FILE or --config, not both\n"

-- JSON is asked for beside a configuration
abbrev pub json_line : List ℕ
json_line = codes "bully: words: Json: give --config or --json, not both\n"

-- no such shell is known
abbrev pub shell_line : List ℕ
shell_line = codes "bully: words: Shell: the shell has to be bash, zsh or fish\n"
