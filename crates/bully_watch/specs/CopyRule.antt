-- The rule over the shown copy of the world and what each seat of the kit's table knows of the history.
use Rattle.std.specs.Prelude.{◌≡◌, ◌+◌, ℕ, List, [], ◌++◌, length, Option, Some, None, true, false}
use mathlib.Core.Option.{some}
use mathlib.Core.List.{IsPrefix}
use lib.ListN.{get_elem?}
use Rattle.bully_base.specs.Setup.{Setup, even_setup}
use Rattle.bully_world.specs.Cause.{cause}
use Rattle.bully_calls.specs.declared.event.Refused.{Refused}
use Rattle.bully_world.specs.State.{WorldState, world_of}
use Rattle.bully_world.specs.StepOf.{StepResult, step_of}
use Rattle.bully_world.specs.World.{World}
use Rattle.bully_watch.specs.History.{IsHistory}
use Rattle.bully_watch.specs.Observation.{Prefix}
use Rattle.bully_watch.specs.declared.entry.Entry.{Entry}
use Rattle.bully_watch.specs.declared.knowledge.Knowledge.{Knowledge}

-- what both copies have in common
pub record WorldCopyState : Type 0 where
  pub setup : Setup
  pub events : ℕ
  pub world : World

abbrev pub copy_of : WorldState → WorldCopyState
copy_of w = record { setup = w.setup; events = w.events; world = world_of w }

abbrev pub world_after : World → StepResult → World
world_after w None = w
world_after w (Some r) = r.0

abbrev pub unless_refused : Option Refused → WorldCopyState → WorldCopyState → WorldCopyState
unless_refused None old new = new
unless_refused (Some why) old new = old

-- an event that is refused changes nothing
abbrev pub applied_to : WorldCopyState → Entry → WorldCopyState
applied_to p e =
    unless_refused (cause p.setup p.world p.events e.event) p
    (record p { events = p.events + 1; world = world_after p.world (step_of p.setup p.world e.event) })

-- what a reader knows before it has learned of a publisher
abbrev pub no_knowledge : Knowledge
no_knowledge = record {
  is_named = false;
  publisher = record { name = 0; setup = even_setup 0 0 0 };
  seen = [];
}

-- a seat knows a prefix of the history, and, where it has learned of a publisher, its setup
abbrev pub Knows : Setup → List Entry → Knowledge → Type 0
Knows setup history k = IsPrefix k.seen history × (k.is_named ≡ true → k.publisher.setup ≡ setup)

-- the entries are a history that leads to this world
abbrev pub LeadsToCopy : List Entry → WorldState → Type 0
LeadsToCopy entries w = IsHistory w.setup entries (world_of w) × (w.events ≡ length entries)

-- one history leads to the shown copy, and each seat knows a prefix of it
abbrev pub IsPublished : WorldState → List Knowledge → Type 0
IsPublished w seats =
    (history : List Entry) × LeadsToCopy history w
    × ((seat : ℕ) (k : Knowledge) → get_elem? seats seat ≡ some k → Knows w.setup history k)

-- what a reader knows after a look: the whole history that leads to the copy, of which what it knew is a prefix
abbrev pub SeesAll : Knowledge → WorldState → Knowledge → Type 0
SeesAll before w after =
    (after ≡ record before { seen = after.seen }) × IsPrefix before.seen after.seen × LeadsToCopy after.seen w
    × (before.is_named ≡ true → before.publisher.setup ≡ w.setup)

abbrev pub prefix_of : Knowledge → Prefix
prefix_of k = record { publisher = k.publisher; entries = k.seen }

-- what a publisher keeps: its seat bears its name and knows what is shown, and what it took in goes on from there
pub record IsPublisher (name count : ℕ) (k : Knowledge) (shown : WorldState) (pending : List Entry) : Type 0 where
  pub named : k.is_named ≡ true
  pub owned : k.publisher.name ≡ name
  pub setup : k.publisher.setup ≡ shown.setup
  pub leads : LeadsToCopy k.seen shown
  pub taken : (w : World) × IsHistory shown.setup (k.seen ++ pending) w
  pub counted : count ≡ length (k.seen ++ pending)
