use Rattle.std.proofs.Common.{◌≡◌, length}
use Rattle.bully_text.proofs.EachLemmas.{HasGiven}
use Rattle.bully_text.proofs.bounded.taken_each.Given as goal

abbrev pub invariant-loop-bytes : goal.invariant-loop-bytes
invariant-loop-bytes l = record {
  given : HasGiven l.fn.from l.before l.given l.bytes l.place l.count;
  end : l.bytes-end ≡ length l.given;
}
