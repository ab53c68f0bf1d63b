use Rattle.std.proofs.Common.{◌≡◌, ◌++◌, length, take, string_bytes}
use Rattle.std.specs.Str.{chars}
use Rattle.bully_json.specs.Objects.{escaped}
use Rattle.bully_json.proofs.values.push_escaped.Given as goal

abbrev pub invariant-loop-letter : goal.invariant-loop-letter
invariant-loop-letter l = string_bytes l.text ≡ string_bytes l.initial.text ++ escaped (take (length l.yielded) (chars l.raw))
