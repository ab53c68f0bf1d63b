use Rattle.std.proofs.Common.{◌≡◌, ◌++◌, take, string_bytes}
use Rattle.bully_table.specs.TableText.{owners_text}
use Rattle.bully_c.proofs.tables.push_numbers.Given as goal

abbrev pub invariant-loop-place : goal.invariant-loop-place
invariant-loop-place l = string_bytes l.text ≡ string_bytes l.initial.text ++ owners_text 32 (take l.place l.owners)
