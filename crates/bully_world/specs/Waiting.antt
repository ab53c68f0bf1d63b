-- The map of waiting callers that a world keeps beside its states.
use Rattle.std.specs.Prelude.{◌≡◌, ◌↔◌, ℕ, List, length, Contains, Option, Some, None, option_and_then, if◌then◌else◌}
use Rattle.bully_calls.specs.Pending.{is_sent}
use Rattle.bully_calls.specs.Slot.{SlotCall}
use Rattle.bully_calls.specs.Waiting.{callers_of, with_caller, without_caller}
use Rattle.bully_world.specs.State.{StoredNode, kept_of}

-- the callee of a call that was sent and didn't run yet
abbrev pub sent_callee : SlotCall → Option ℕ
sent_callee p = if is_sent p.phase then Some p.call.callee else None

abbrev pub sent_in : StoredNode → Option ℕ
sent_in m = option_and_then sent_callee m.slot.content

-- the map tells exactly which callers have a sent call to which callee
pub record IsWaiting (ms : List StoredNode) (waiting : List (List ℕ)) : Type 0 where
  pub count : length waiting ≡ length ms
  pub tells : (j i : ℕ) → Contains (callers_of waiting j) i ↔ (sent_in (kept_of ms i) ≡ Some j)

-- node i's call, if any, isn't sent to this callee any more
abbrev pub without_sent : ℕ → Option ℕ → List (List ℕ) → List (List ℕ)
without_sent i None waiting = waiting
without_sent i (Some j) waiting = without_caller j i waiting

-- node i's call, if any, is sent to this callee
abbrev pub with_sent : ℕ → Option ℕ → List (List ℕ) → List (List ℕ)
with_sent i None waiting = waiting
with_sent i (Some j) waiting = with_caller j i waiting
