-- What a publish of a locked group does, and when each of its faults comes.
use Rattle.std.specs.Prelude.{◌≡◌, ◌≢◌, Some, None}
use Rattle.bully_watch.specs.Observation.{PublisherState}
use Rattle.bully_group.specs.declared.locked.publish.PublishFault.{PublishFault}
use Rattle.bully_group.specs.declared.locked.publish.PublishFault.TheVariants.{NotWatched, Foreign, OutOfMemory}
use Rattle.bully_group.specs.Locked.{LockedState}
use Rattle.bully_group.specs.Seat.{SeatState, IsKnown, IsForeign}

-- the publisher shows the whole history, and all else is as it was
abbrev pub Shows : LockedState → LockedState → Type 0
Shows s s' =
    (p : PublisherState)
    × (s.publisher ≡ Some p)
    × (s' ≡ record s { publisher = Some (record p { shown = s.history; taken = s.history }) })

-- the publisher shows what it showed, whatever it took in of the history, and all else is as it was
abbrev pub ShowsNoMore : LockedState → LockedState → Type 0
ShowsNoMore s s' =
    (p q : PublisherState)
    × (s.publisher ≡ Some p)
    × (s' ≡ record s { publisher = Some q })
    × (q.publisher ≡ p.publisher)
    × (q.shown ≡ p.shown)

-- when each fault of a publish comes, in their order
abbrev pub IsPublishFault : LockedState → SeatState → PublishFault → Type 0
IsPublishFault s seat NotWatched = s.publisher ≡ None
IsPublishFault s seat (Foreign index) = (s.publisher ≢ None) × IsForeign s.history seat index
IsPublishFault s seat OutOfMemory = (s.publisher ≢ None) × IsKnown s.history seat

-- what each fault of a publish leaves
abbrev pub AfterFault : LockedState → LockedState → PublishFault → Type 0
AfterFault s s' NotWatched = s' ≡ s
AfterFault s s' (Foreign index) = s' ≡ s
AfterFault s s' OutOfMemory = ShowsNoMore s s'
