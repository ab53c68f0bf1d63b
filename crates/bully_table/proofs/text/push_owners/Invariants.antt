use Rattle.std.proofs.Common.{◌≡◌, ◌++◌, take, string_bytes}
use Rattle.bully_table.specs.TableText.{owners_text}
use Rattle.bully_table.proofs.text.push_owners.Given as goal

abbrev pub invariant-loop-place : goal.invariant-loop-place
invariant-loop-place l =
    string_bytes l.text ≡ string_bytes l.initial.text ++ owners_text l.separator (take l.place l.table)
