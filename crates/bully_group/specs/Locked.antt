-- What contracts see of a locked group and of a finished one, and what these keep.
use Rattle.std.specs.Prelude.{◌≡◌, ◌+◌, ℕ, List, length, Option, Some, None}
use mathlib.Core.List.{IsPrefix}
use Rattle.bully_agree.specs.View.{View, view_of}
use Rattle.bully_base.specs.Setup.{Setup}
use Rattle.bully_watch.specs.declared.entry.Entry.{Entry}
use Rattle.bully_watch.specs.History.{IsHistory}
use Rattle.bully_watch.specs.declared.knowledge.PublisherId.{PublisherId}
use Rattle.bully_watch.specs.Observation.{PublisherState}
use Rattle.bully_world.specs.State.{WorldState, world_of}
use Rattle.bully_world.specs.World.{World}

-- the world, the history, how many entries the book counts, and the publisher of a watched group
pub record LockedState : Type 0 where
  pub world : WorldState
  pub history : List Entry
  pub counted : ℕ
  pub publisher : Option PublisherState

-- a publisher, if there is one, is of this setup, and showed and took in beginnings of the history
abbrev pub FollowsHistory : Setup → List Entry → Option PublisherState → Type 0
FollowsHistory own history None = Unit {0}
FollowsHistory own history (Some p) = (p.publisher.setup ≡ own) × IsPrefix p.shown history × IsPrefix p.taken history

-- who publishes a group, if anybody
abbrev pub name_of : Option PublisherState → Option PublisherId
name_of None = None
name_of (Some p) = Some p.publisher

-- What every locked group keeps, with this setup, this publisher's name and a ledger of so many parts: the entries are
-- a history, the world is the one that it leads to, the book counts its entries, the publisher is the one that is
-- named, and none where none is, and it follows the history; and the ledger has a part for the operator and for each
-- node
pub record IsLocked (own : Setup) (named : Option PublisherId) (cut : ℕ) (s : LockedState) : Type 0 where
  pub setup : s.world.setup ≡ own
  pub history : IsHistory own s.history (world_of s.world)
  pub events : s.world.events ≡ length s.history
  pub counted : s.counted ≡ length s.history
  pub publisher : name_of s.publisher ≡ named
  pub follows : FollowsHistory own s.history s.publisher
  pub parts : cut ≡ own.nodes + 1

-- what is shown of it: the view of its world
abbrev pub view_in : LockedState → View
view_in s = view_of s.world.setup (length s.history) (world_of s.world)

-- the history of a finished group, its view, and the publisher that it keeps
pub record ClosedState : Type 0 where
  pub history : List Entry
  pub view : View
  pub publisher : Option PublisherState

-- what every finished group keeps: its entries are a history, the view is that of the world that it leads to, and its
-- publisher follows the history
pub record IsClosed (c : ClosedState) : Type 0 where
  pub world : World
  pub history : IsHistory c.view.setup c.history world
  pub view : c.view ≡ view_of c.view.setup (length c.history) world
  pub follows : FollowsHistory c.view.setup c.history c.publisher
