-- What an observer reads of the shown copy.
use Rattle.std.specs.Prelude.{◌≡◌, ℕ, List}
use Rattle.bully_agree.specs.Leader.{IsLeader}
use Rattle.bully_base.specs.Setup.{Setup}
use Rattle.bully_world.specs.State.{WorldState, world_of}
use Rattle.bully_world.specs.World.{vector}
use Rattle.bully_watch.specs.CopyRule.{LeadsToCopy}
use Rattle.bully_watch.specs.declared.entry.Entry.{Entry}
use Rattle.bully_watch.specs.declared.glance.Glance.{Glance}
use Rattle.bully_watch.specs.declared.glance.Leader.{Leader}

-- it is what comes of reading a copy of this setup that the entries lead to
abbrev pub IsSeen : {A : Type 0} → Setup → List Entry → (WorldState → A → Type 0) → A → Type 0
IsSeen setup entries sees seen = (w : WorldState) × LeadsToCopy entries w × (w.setup ≡ setup) × sees w seen

-- what a glance at node i reads
abbrev pub glance_in : WorldState → ℕ → Glance
glance_in w i = record {
  events = w.events;
  status = (vector (world_of w) i).status;
  coordinator = (vector (world_of w) i).coordinator;
}

-- who leads in a copy
abbrev pub IsLeaderIn : WorldState → Leader → Type 0
IsLeaderIn w l = (l.events ≡ w.events) × IsLeader (world_of w) l.node
