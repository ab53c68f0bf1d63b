-- What observers see: a publisher's history, as far as it was shown.
use Rattle.std.specs.Prelude.{◌≡◌, ◌<◌, ◌≤◌, ◌⊎◌, ℕ, ltb, List, length, Result, IfOk, MatchResult, if◌then◌else◌}
use mathlib.Core.List.{IsPrefix}
use Rattle.bully_agree.specs.Leader.{IsLeader}
use Rattle.bully_agree.specs.View.{View, view_of, shown}
use Rattle.bully_base.specs.Setup.{Setup}
use Rattle.bully_world.specs.World.{World}
use Rattle.bully_watch.specs.History.{IsHistory}
use Rattle.bully_watch.specs.declared.entry.Entry.{Entry}
use Rattle.bully_watch.specs.declared.glance.Glance.{Glance}
use Rattle.bully_watch.specs.declared.glance.GlanceFault.{GlanceFault}
use Rattle.bully_watch.specs.declared.glance.GlanceFault.TheVariants.{Gone, BadNode}
use Rattle.bully_watch.specs.declared.glance.Leader.{Leader}
use Rattle.bully_watch.specs.declared.knowledge.PublisherId.{PublisherId}
use Rattle.bully_watch.specs.declared.publisher.OpenFault.{OpenFault}
use Rattle.bully_watch.specs.declared.publisher.OpenFault.TheVariants.{BadObservers, OutOfMemory}

-- a prefix of a publisher's history: what an observer saw or learned so far, or what was told
pub record Prefix : Type 0 where
  pub publisher : PublisherId
  pub entries : List Entry

-- a publisher: which it is, the prefix that it shows, and what it took in, of which a part may not be shown yet
pub record PublisherState : Type 0 where
  pub publisher : PublisherId
  pub shown : List Entry
  pub taken : List Entry

-- entries that a publisher may show: a history of its group that goes on from what it took in
pub record MayPublish (p : PublisherState) (entries : List Entry) : Type 0 where
  pub history : (w : World) × IsHistory p.publisher.setup entries w
  pub taken : IsPrefix p.taken entries

-- what a publish of them does: it tells and shows the whole. Refused, it shows what it showed, and may have taken in a
-- part
pub record Publishes {E : Type 0} (p : PublisherState) (entries : List Entry) (q : PublisherState)
    (result : Result Prefix E) : Type 0 where
  pub publisher : q.publisher ≡ p.publisher
  pub told : IfOk result (λ t. (t.publisher ≡ p.publisher) × (t.entries ≡ entries))
  pub shown : MatchResult result (λ _. q.shown ≡ entries) (λ _. q.shown ≡ p.shown)
  pub taken : MatchResult result (λ _. q.taken ≡ entries) (λ _. IsPrefix q.taken entries)

-- the longer of two prefixes of one history
abbrev pub longer : List Entry → List Entry → List Entry
longer seen told = if ltb (length seen) (length told) then told else seen

-- an observation: the view of the world that this prefix of the publisher's history leads to
abbrev pub Looks : PublisherId → List Entry → View → Type 0
Looks p entries v = (w : World) × IsHistory p.setup entries w × (v ≡ view_of p.setup (length entries) w)

-- a glance at node i: what an observation shows of it
abbrev pub Glances : PublisherId → List Entry → ℕ → Glance → Type 0
Glances p entries i g =
    (v : View) × Looks p entries v
    × (g ≡ record { events = v.events; status = (shown v i).status; coordinator = (shown v i).coordinator })

-- why there is no glance at node i of a group
abbrev pub IsGlanceFault : Setup → ℕ → GlanceFault → Type 0
IsGlanceFault setup i Gone = Unit {0}
IsGlanceFault setup i BadNode = setup.nodes < i

-- who leads in the world that this prefix of the publisher's history leads to
abbrev pub Leads : PublisherId → List Entry → Leader → Type 0
Leads p entries l = (w : World) × IsHistory p.setup entries w × (l.events ≡ length entries) × IsLeader w l.node

-- why a publisher for so many observers isn't opened
abbrev pub IsOpenFault : ℕ → OpenFault → Type 0
IsOpenFault observers BadObservers = (observers ≡ 0) ⊎ (8 < observers)
IsOpenFault observers OutOfMemory = (0 < observers) × (observers ≤ 8)
