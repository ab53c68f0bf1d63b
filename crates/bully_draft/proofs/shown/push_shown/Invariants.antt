use Rattle.std.proofs.Common.{◌≡◌, ◌++◌, length, take, string_bytes, map}
use Rattle.std.specs.Str.{chars, encode_utf8_all}
use Rattle.bully_draft.specs.Shown.{shown_letter}
use Rattle.bully_draft.proofs.shown.push_shown.Given as goal

abbrev pub invariant-loop-letter : goal.invariant-loop-letter
invariant-loop-letter l = string_bytes l.text ≡ string_bytes l.initial.text ++ encode_utf8_all (map shown_letter (take (length l.yielded) (chars l.raw)))
