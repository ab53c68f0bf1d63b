use Rattle.std.proofs.Common.{◌≡◌, take, length}
use Rattle.bully_agree.proofs.WholeLemmas.{LedTo}
use Rattle.bully_agree.proofs.whole_calls.first_break.Given as goal

-- the events so far led to the progress
abbrev pub invariant-loop-index : goal.invariant-loop-index
invariant-loop-index l = record {
  led : LedTo (take l.index l.events) l.progress;
  end : l.index-end ≡ length l.events;
}
