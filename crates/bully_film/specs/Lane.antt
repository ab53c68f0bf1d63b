-- How one node stood, row by row, and the stretches over which it stayed so.
use Rattle.std.specs.Prelude.{◌≡◌, ◌≢◌, ℕ, Bool, false, not, ◌+◌, ◌-◌, ◌≤◌, ◌==◌, ◌++◌, List, [], ◌∷◌, Option, Some}
use Rattle.std.specs.Prelude.{None, map, option_map, replicate, length, if◌then◌else◌}
use Rattle.bully_calls.specs.declared.call.Answer.{Answer}
use Rattle.bully_calls.specs.declared.call.Call.{Call}
use Rattle.bully_calls.specs.declared.call.PendingCall.{PendingCall}
use Rattle.bully_calls.specs.declared.call.Phase.{Phase}
use Rattle.bully_film.specs.declared.scene.Scene.{Scene}
use Rattle.bully_film.specs.declared.snapshot.NodeSnapshot.{NodeSnapshot}
use Rattle.bully_film.specs.declared.whole.Lane.{Lane}
use Rattle.bully_film.specs.declared.slots.End.{End}
use Rattle.bully_film.specs.declared.slots.HeldCall.{HeldCall}
use Rattle.bully_film.specs.declared.stands.Stand.{Stand}
use Rattle.bully_film.specs.declared.stretches.Stretch.{Stretch}

-- node j before the row, where it is so where the row doesn't speak of it
abbrev pub snapshot_before : ℕ → NodeSnapshot → Scene → NodeSnapshot
snapshot_before j now s = if s.own.node == j then s.own.before else (if s.other.node == j then s.other.before else now)

-- and after it
abbrev pub snapshot_after : ℕ → NodeSnapshot → Scene → NodeSnapshot
snapshot_after j now s = if s.own.node == j then s.own.after else (if s.other.node == j then s.other.after else now)

-- node j before these rows, after which it is so
abbrev pub start_snapshot : ℕ → List Scene → NodeSnapshot → NodeSnapshot
start_snapshot j [] at_end = at_end
start_snapshot j (s ∷ scenes) at_end = snapshot_before j (start_snapshot j scenes at_end) s

-- and after each of them, before which it is so
abbrev pub snapshots_after : ℕ → NodeSnapshot → List Scene → List NodeSnapshot
snapshots_after j now [] = []
snapshots_after j now (s ∷ scenes) = snapshot_after j now s ∷ snapshots_after j (snapshot_after j now s) scenes

-- node j before these rows, and after each of them
abbrev pub lane_in : ℕ → List Scene → NodeSnapshot → List NodeSnapshot
lane_in j scenes at_end = start_snapshot j scenes at_end ∷ snapshots_after j (start_snapshot j scenes at_end) scenes

abbrev pub stand_of : NodeSnapshot → Stand
stand_of snapshot = record { status = snapshot.status; coordinator = snapshot.coordinator }

abbrev pub held_of : PendingCall → HeldCall
held_of held = record { call = held.call; phase = held.phase }

abbrev pub held_in : NodeSnapshot → Option HeldCall
held_in snapshot = option_map held_of snapshot.call

-- a stretch over which a slot held the same, or nothing
abbrev pub Holding : Type 0
Holding = Stretch (Option HeldCall)

-- what stretches say of each row that they span
abbrev pub spread : {T : Type 0} → List (Stretch T) → List T
spread [] = []
spread (one ∷ others) = replicate (one.last + 1 - one.first) one.seen ++ spread others

-- the stretches lie end to end, from this row up to before that one
abbrev pub AreJoined : {T : Type 0} → ℕ → List (Stretch T) → ℕ → Type 0
AreJoined first [] end = first ≡ end
AreJoined first (one ∷ others) end = (one.first ≡ first) × (first ≤ one.last) × AreJoined (one.last + 1) others end

-- after this something else is seen, if anything
abbrev pub EndsBefore : {T : Type 0} → T → List (Stretch T) → Type 0
EndsBefore value [] = Unit {0}
EndsBefore value (one ∷ others) = value ≢ one.seen

-- those that meet differ
abbrev pub AreApart : {T : Type 0} → List (Stretch T) → Type 0
AreApart [] = Unit {0}
AreApart (one ∷ others) = EndsBefore one.seen others × AreApart others

-- how a call ends after which the slot holds another one, or the same in another phase
abbrev pub IsEndBy : HeldCall → Call → End → Type 0
IsEndBy next call End.Ran = (next.call ≡ call) × ((answer : Answer) × (next.phase ≡ Phase.Ran answer))
IsEndBy next call End.Failed = (next.call ≡ call) × (next.phase ≡ Phase.Failed)
IsEndBy next call End.GivenUp = next.call ≡ call → next.phase ≡ Phase.Sent
IsEndBy next call End.UnderWay = ⊥

-- the same where the slot may be empty after it
abbrev pub IsEndBefore : Option HeldCall → Call → End → Type 0
IsEndBefore None call end = end ≡ End.GivenUp
IsEndBefore (Some next) call end = IsEndBy next call end

-- the same of the stretches after it, of which there may be none
abbrev pub IsEndIn : List Holding → Call → End → Type 0
IsEndIn [] call end = end ≡ End.UnderWay
IsEndIn (holding ∷ holdings) call end = IsEndBefore holding.seen call end

-- the number of the row before those of the scenes: of the header, where there are none
abbrev pub row_before : List Scene → ℕ
row_before [] = 1
row_before (s ∷ scenes) = s.number - 1

-- the slot holds an orphan
abbrev pub is_orphan : NodeSnapshot → Bool
is_orphan snapshot = elim snapshot.call as (λ _. Bool) [ None ↦ false | Some held ↦ not held.is_live ]

-- the lane of node i, which stood so after each row from this one on
pub record IsLane (i first : ℕ) (snapshots : List NodeSnapshot) (lane : Lane) : Type 0 where
  pub node : lane.node ≡ i
  pub bars : spread lane.bars.items ≡ map stand_of snapshots
  pub bars_joined : AreJoined first lane.bars.items (first + length snapshots)
  pub bars_apart : AreApart lane.bars.items
  pub holdings : spread lane.holdings.items ≡ map held_in snapshots
  pub holdings_joined : AreJoined first lane.holdings.items (first + length snapshots)
  pub holdings_apart : AreApart lane.holdings.items
  pub orphans : lane.orphans.items ≡ map is_orphan snapshots

-- the lanes of the nodes from node i on, of which each stood so
abbrev pub AreLanes : (ℕ → List NodeSnapshot) → ℕ → ℕ → List Lane → Type 0
AreLanes snapshots first i [] = Unit {0}
AreLanes snapshots first i (lane ∷ lanes) = IsLane i first (snapshots i) lane × AreLanes snapshots first (i + 1) lanes
