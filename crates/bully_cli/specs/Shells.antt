-- The shells that complete words, by name.
use Rattle.std.specs.Prelude.{List, ℕ, Option, Some, None, codes, if◌then◌else◌}
use Rattle.std.specs.Str.{bytes_eq}
use Rattle.bully_cli.specs.declared.shells.Shell.{Shell}

abbrev pub shell_named : List ℕ → Option Shell
shell_named name =
    if bytes_eq name (codes "bash") then Some Shell.Bash
    else if bytes_eq name (codes "zsh") then Some Shell.Zsh
    else if bytes_eq name (codes "fish") then Some Shell.Fish
    else None
