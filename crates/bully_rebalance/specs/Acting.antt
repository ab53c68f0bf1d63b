-- What a process knows of its session in a store of bully_work.
use Rattle.std.specs.Prelude.{◌≡◌, ◌<◌, ◌≤◌, ◌⊎◌, ℕ, List, Contains, take}
use Rattle.bully_replica.specs.Replica.{IsLogOf, ReplicaState}
use Rattle.bully_work.specs.Store.{HasPromised, HasWork, Piece, Promised, Store}

-- the promise reaches no further than this offset of this epoch
abbrev pub IsReachedBy : Promised → (e promised : ℕ) → Type 0
IsReachedBy p e promised = (p.epoch < e) ⊎ ((p.epoch ≡ e) × (p.offset ≤ promised))

-- the process acts for name i by session n, in epoch e as this node: its replica has learned what the session has of
-- that epoch, no promise of the session reaches further than it knows, and it knows all partitions on which the session
-- works
pub record ActsBy (r : ReplicaState) (e node promised : ℕ) (works : List ℕ) (s : Store) (i n : ℕ) : Type 0 where
  pub epoch : (s.sessions i n).epoch ≡ e
  pub setup : r.world.setup ≡ (s.epochs e).setup
  pub number : node ≡ (s.epochs e).number i
  pub learned : IsLogOf r (take (s.sessions i n).learned (s.epochs e).log)
  pub reached : (p : Promised) → HasPromised s i n p → IsReachedBy p e promised
  pub known : (x : Piece) → HasWork s i n x → Contains works x.partition

-- the piece has this token of this epoch, and this partition
pub record IsPiece (x : Piece) (e by k : ℕ) : Type 0 where
  pub epoch : x.epoch ≡ e
  pub token : x.plan.token ≡ by
  pub partition : x.partition ≡ k
