-- What an event is, and what is so of all events of a kind; the words and numbers of refusals.
use Rattle.std.specs.Prelude.{ℕ, List, [], ◌∷◌, ◌++◌, Option, Some, None, codes, find, map}
use Rattle.std.specs.Str.{bytes_eq}
use Rattle.bully_calls.specs.declared.event.Event.{Event}
use Rattle.bully_calls.specs.declared.event.Refused.{Refused}
use Rattle.bully_calls.specs.declared.kind.EventKind.{EventKind}
use Rattle.bully_calls.specs.declared.kind.NodeEventKind.{NodeEventKind}
use Rattle.bully_calls.specs.declared.kind.NodeEventKind.TheVariants.{Recover, Crash, Check, Timeout, Start, Run, Lose}
use Rattle.bully_calls.specs.declared.kind.NodeEventKind.TheVariants.{Return, Drop, Move}
use Rattle.bully_calls.specs.declared.kind.Saying.{Saying}
use Rattle.bully_calls.specs.declared.kind.Whose.{Whose}

-- the node that the event names
abbrev pub node_of : Event → ℕ
node_of (Event.Recover i) = i
node_of (Event.Crash i) = i
node_of (Event.Check i) = i
node_of (Event.Timeout i) = i
node_of (Event.Start i) = i
node_of (Event.Run i) = i
node_of (Event.Lose i) = i
node_of (Event.Return i) = i
node_of (Event.Drop i) = i
node_of (Event.Move i) = i
node_of (Event.Plan i table) = i

-- what the event is, but for its node and for the table of a plan
abbrev pub kind_of : Event → EventKind
kind_of (Event.Recover i) = EventKind.Node Recover
kind_of (Event.Crash i) = EventKind.Node Crash
kind_of (Event.Check i) = EventKind.Node Check
kind_of (Event.Timeout i) = EventKind.Node Timeout
kind_of (Event.Start i) = EventKind.Node Start
kind_of (Event.Run i) = EventKind.Node Run
kind_of (Event.Lose i) = EventKind.Node Lose
kind_of (Event.Return i) = EventKind.Node Return
kind_of (Event.Drop i) = EventKind.Node Drop
kind_of (Event.Move i) = EventKind.Node Move
kind_of (Event.Plan i table) = EventKind.Plan

-- the event of this kind at node i
abbrev pub event_at : NodeEventKind → ℕ → Event
event_at Recover i = Event.Recover i
event_at Crash i = Event.Crash i
event_at Check i = Event.Check i
event_at Timeout i = Event.Timeout i
event_at Start i = Event.Start i
event_at Run i = Event.Run i
event_at Lose i = Event.Lose i
event_at Return i = Event.Return i
event_at Drop i = Event.Drop i
event_at Move i = Event.Move i

-- the same; none for a plan, which has a table, too
abbrev pub event_of_kind : EventKind → ℕ → Option Event
event_of_kind (EventKind.Node kind) i = Some (event_at kind i)
event_of_kind EventKind.Plan i = None

-- the kinds of event that name a node and no more, in the order of the table of rows
abbrev pub every_node_event_kind : List NodeEventKind
every_node_event_kind = Recover ∷ Crash ∷ Check ∷ Timeout ∷ Start ∷ Run ∷ Lose ∷ Return ∷ Drop ∷ Move ∷ []

-- all kinds of event, in that order
abbrev pub every_event_kind : List EventKind
every_event_kind = map EventKind.Node every_node_event_kind ++ EventKind.Plan ∷ []

-- what is so of all events of a kind: the word of their rows, whose they are, and what a row may say beside one
pub record EventFacts : Type 0 where
  pub word : List ℕ
  pub whose : Whose
  pub saying : Saying

abbrev pub facts : List ℕ → Whose → Saying → EventFacts
facts w o s = record { word = w; whose = o; saying = s }

-- the table of events
abbrev pub facts_of : EventKind → EventFacts
facts_of (EventKind.Node Recover) = facts (codes "recover") Whose.Operator Saying.Nothing
facts_of (EventKind.Node Crash) = facts (codes "crash") Whose.Operator Saying.Nothing
facts_of (EventKind.Node Check) = facts (codes "check") Whose.Named Saying.Nothing
facts_of (EventKind.Node Timeout) = facts (codes "timeout") Whose.Named Saying.Nothing
facts_of (EventKind.Node Start) = facts (codes "start") Whose.Named Saying.Offered
facts_of (EventKind.Node Run) = facts (codes "run") Whose.Callee Saying.Replied
facts_of (EventKind.Node Lose) = facts (codes "lose") Whose.Named Saying.Held
facts_of (EventKind.Node Return) = facts (codes "return") Whose.Named Saying.Brought
facts_of (EventKind.Node Drop) = facts (codes "drop") Whose.Named Saying.Held
facts_of (EventKind.Node Move) = facts (codes "move") Whose.Named Saying.Nothing
facts_of EventKind.Plan = facts (codes "plan") Whose.Named Saying.Nothing

abbrev pub word_of : EventKind → List ℕ
word_of kind = (facts_of kind).word

abbrev pub whose_of : EventKind → Whose
whose_of kind = (facts_of kind).whose

abbrev pub saying_of : EventKind → Saying
saying_of kind = (facts_of kind).saying

-- of a kind that names a node and no more: the word of its rows, and what they may say beside the event
abbrev pub node_word : NodeEventKind → List ℕ
node_word kind = word_of (EventKind.Node kind)

abbrev pub node_saying : NodeEventKind → Saying
node_saying kind = saying_of (EventKind.Node kind)

-- the kind of this word, of those that name a node and no more
abbrev pub kind_named : List ℕ → Option NodeEventKind
kind_named word = find (λ kind. bytes_eq word (node_word kind)) every_node_event_kind

-- why an event is refused, as a verdict spells it
abbrev pub refusal_word : Refused → List ℕ
refusal_word Refused.Full = codes "Full"
refusal_word Refused.BadNode = codes "BadNode"
refusal_word Refused.IsDown = codes "IsDown"
refusal_word Refused.IsUp = codes "IsUp"
refusal_word Refused.Busy = codes "Busy"
refusal_word Refused.NoStep = codes "NoStep"
refusal_word Refused.SlotBusy = codes "SlotBusy"
refusal_word Refused.NoCall = codes "NoCall"
refusal_word Refused.CalleeDown = codes "CalleeDown"
refusal_word Refused.CalleeUp = codes "CalleeUp"
refusal_word Refused.BadTable = codes "BadTable"
refusal_word Refused.NotOrphan = codes "NotOrphan"

-- its number in the order of refusals, from 1
abbrev pub refusal_number : Refused → ℕ
refusal_number Refused.Full = 1
refusal_number Refused.BadNode = 2
refusal_number Refused.IsDown = 3
refusal_number Refused.IsUp = 4
refusal_number Refused.Busy = 5
refusal_number Refused.NoStep = 6
refusal_number Refused.SlotBusy = 7
refusal_number Refused.NoCall = 8
refusal_number Refused.CalleeDown = 9
refusal_number Refused.CalleeUp = 10
refusal_number Refused.BadTable = 11
refusal_number Refused.NotOrphan = 12
