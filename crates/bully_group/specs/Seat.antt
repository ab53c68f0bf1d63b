-- What contracts see of a seat, and whether it is one of a history.
use Rattle.std.specs.Prelude.{◌≡◌, ◌≢◌, ◌-◌, ◌<◌, ◌≤◌, ℕ, List, [], length, Option, Some, slice_get}
use Rattle.bully_base.specs.declared.TheConstants.{NODES_MAX}
use Rattle.bully_watch.specs.declared.entry.Entry.{Entry}

-- an actor, and each entry that it was answered beside its index
pub record SeatState : Type 0 where
  pub actor : ℕ
  pub log : List (ℕ × Entry)

abbrev pub actor_of : SeatState → ℕ
actor_of s = s.actor

abbrev pub last_of : SeatState → Option (ℕ × Entry)
last_of s = slice_get s.log (length s.log - 1)

-- what every seat keeps: the indices in its log rise, and its entries are its actor's
pub record IsSeat (s : SeatState) : Type 0 where
  pub within : s.actor ≤ NODES_MAX
  pub rising : (i j : ℕ) (p q : ℕ × Entry) → i < j → slice_get s.log i ≡ Some p → slice_get s.log j ≡ Some q → p.0 < q.0
  pub own : (i : ℕ) (p : ℕ × Entry) → slice_get s.log i ≡ Some p → p.1.actor ≡ s.actor

-- the seat's last entry stands in this history at its index; so it does where the log is empty
pub record IsKnown (history : List Entry) (s : SeatState) : Type 0 where
  pub stands : (index : ℕ) (e : Entry) → last_of s ≡ Some (index, e) → slice_get history index ≡ Some e

-- it has this index, and isn't there
abbrev pub IsForeign : List Entry → SeatState → ℕ → Type 0
IsForeign history s index = (e : Entry) × (last_of s ≡ Some (index, e)) × (slice_get history index ≢ Some e)

-- the seats of so many actors, in order from the operator's, which were answered nothing
pub record AreNewSeats (count : ℕ) (seats : List SeatState) : Type 0 where
  pub len : length seats ≡ count
  pub each : (i : ℕ) (s : SeatState) → slice_get seats i ≡ Some s → (s.actor ≡ i) × (s.log ≡ [])
