-- The words of events, read back.
use Rattle.std.proofs.Common.{◌≡◌, false, Some, refl, codes}
use Rattle.std.specs.Str.{bytes_eq}
use Rattle.bully_calls.specs.declared.kind.NodeEventKind.{NodeEventKind}
use Rattle.bully_calls.specs.Events.{kind_named, node_word}
use Rattle.bully_rows.proofs.LineTexts.{IsBare}

pub word-read : (kind : NodeEventKind) → kind_named (node_word kind) ≡ Some kind
word-read NodeEventKind.Recover = refl
word-read kind = refl

pub no-claim : (kind : NodeEventKind) → bytes_eq (node_word kind) (codes "saw") ≡ false
no-claim NodeEventKind.Recover = refl
no-claim kind = refl

pub bare-word : (kind : NodeEventKind) → IsBare (node_word kind)
bare-word NodeEventKind.Recover = refl
bare-word kind = refl
