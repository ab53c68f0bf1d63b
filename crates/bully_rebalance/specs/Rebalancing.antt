-- The events that make a group stable.
use Rattle.std.specs.Prelude.{◌≡◌, ◌≢◌, ◌<◌, ◌≤◌, ◌++◌, ◌-◌, ◌*◌, ◌==◌, ◌&&◌, ◌||◌, not, if◌then◌else◌, ℕ, zero, suc}
use Rattle.std.specs.Prelude.{Bool, true, false, List, [], ◌∷◌, Option, Some, None, length}
use Rattle.bully_agree.specs.Fencing.{IsLastPlan, Planned}
use Rattle.bully_base.specs.Setup.{Setup}
use Rattle.bully_calls.specs.declared.call.Answer.{Answer}
use Rattle.bully_calls.specs.declared.event.Event.{Event}
use Rattle.bully_replica.specs.Replica.{ReplicaState}
use Rattle.bully_rebalance.specs.Stable.{AllStable, OwnersAreLive}
use Rattle.bully_table.specs.Planning.{IsFewest, planned}
use Rattle.bully_world.specs.Cause.{is_down_at}
use Rattle.bully_world.specs.Lawful.{IsLawful}
use Rattle.bully_world.specs.State.{world_of}
use Rattle.bully_world.specs.World.{World}

-- these events, this many times
abbrev pub repeated : ℕ → List Event → List Event
repeated zero events = []
repeated (suc n) events = events ++ repeated n events

-- a whole call of node h: it is answered, or fails
abbrev pub whole_call : ℕ → Bool → List Event
whole_call h is_answered = Event.Start h ∷ (if is_answered then Event.Run h else Event.Lose h) ∷ Event.Return h ∷ []

abbrev pub is_member : List ℕ → ℕ → Bool
is_member [] k = false
is_member (m ∷ ms) k = (m == k) || is_member ms k

abbrev pub event_if : Bool → Event → List Event
event_if true event = event ∷ []
event_if false event = []

-- each of the nodes from 1 to n that is up crashes
abbrev pub crashing : World → ℕ → List Event
crashing w zero = []
crashing w (suc n) = crashing w n ++ event_if (not (is_down_at w (suc n))) (Event.Crash (suc n))

-- node i, by whether it is live, whether it is to stand for election, and whether it is Down: one that is up and not
-- live crashes, one that is live and Down recovers, and the one that stands for election recovers anew: it crashes
-- first, if it is up
abbrev pub prepared_by : Bool → Bool → Bool → ℕ → List Event
prepared_by is_live stands is_down i =
    event_if (not is_down && (not is_live || stands)) (Event.Crash i)
    ++ event_if (is_live && (is_down || stands)) (Event.Recover i)

-- the same of all nodes from 1 to n
abbrev pub preparing : World → List ℕ → ℕ → ℕ → List Event
preparing w live h zero = []
preparing w live h (suc n) =
    preparing w live h n ++ prepared_by (is_member live (suc n)) (suc n == h) (is_down_at w (suc n)) (suc n)

-- node h halts the nodes from k down to 1, and the live ones answer
abbrev pub halting : List ℕ → ℕ → ℕ → List Event
halting live h zero = []
halting live h (suc k) = whole_call h (is_member live (suc k)) ++ halting live h k

-- n calls, which are all answered, or all fail; and then a move
abbrev pub calling : ℕ → ℕ → Bool → List Event
calling h n are_answered = repeated n (whole_call h are_answered) ++ Event.Move h ∷ []

-- node h is the highest live node, and this many other nodes are live: it stands for election, asks all nodes above,
-- halts all below, announces itself, plans from the old table, and hands the table out
abbrev pub rebalancing_by : Setup → World → Option (List ℕ) → List ℕ → ℕ → ℕ → List Event
rebalancing_by setup w old live h others =
    ((((preparing w live h setup.nodes ++ calling h (setup.nodes - h) false)
    ++ (halting live h (h - 1) ++ Event.Move h ∷ [])) ++ calling h others true)
    ++ Event.Plan h (planned setup old live) ∷ []) ++ calling h others true

-- the events that make the group of world w stable among these nodes, which are in falling order: with no live node all
-- crash; else the highest stands for election, and nothing comes between the parts of a call
abbrev pub rebalancing : Setup → World → Option (List ℕ) → List ℕ → List Event
rebalancing setup w old [] = crashing w setup.nodes
rebalancing setup w old (h ∷ low) = rebalancing_by setup w old (h ∷ low) h (length low)

-- the table from which a new plan has the fewest moves: the last plan's, or else the one of the epoch before
abbrev pub table_before : Option Planned → Option (List ℕ) → Option (List ℕ)
table_before (Some p) old = Some p.table
table_before None old = old

-- the events that rebalance the replica's group
abbrev pub rebalancing_of : ReplicaState → Option (List ℕ) → List ℕ → List Event
rebalancing_of r old live = rebalancing r.world.setup (world_of r.world) (table_before r.last old) live

-- after this log a plan of these events is the last; its owners are live, and its table is the planned one: no balanced
-- table has fewer moves from the old one
pub record PlansAnew (setup : Setup) (log : List Event) (old : Option (List ℕ)) (live : List ℕ)
    (more : List Event) : Type 0 where
  pub plan : Planned
  pub last : IsLastPlan (log ++ more) plan
  pub behind : length log < plan.token
  pub owners : OwnersAreLive plan.table live
  pub table : plan.table ≡ planned setup old live
  pub fewest : IsFewest setup old plan.table live

-- after this log these events are lawful and few, and lead to a world that is stable among these nodes, by a new plan
-- if any node is live
pub record Rebalances (setup : Setup) (log : List Event) (old : Option (List ℕ)) (live : List ℕ)
    (more : List Event) : Type 0 where
  pub few : length more ≤ 11 * setup.nodes
  pub answers : List Answer
  pub world : World
  pub lawful : IsLawful setup (log ++ more) answers world
  pub stable : AllStable world setup live
  pub plan : live ≢ [] → PlansAnew setup log old live more
