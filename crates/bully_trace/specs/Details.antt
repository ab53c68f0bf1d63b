-- What a row of version 3 may say beside an event of a call, and beside a claim: which call it was and what was
-- answered, and all of a node's vector.
use Rattle.std.specs.Prelude.{ℕ, Bool, true, false, List, Option, Some, None, ◌&&◌, ◌==◌, bytes_eq, option_map}
use Rattle.std.specs.Prelude.{option_and_then, if◌then◌else◌}
use Rattle.bully_base.specs.declared.node.Status.{Status}
use Rattle.bully_base.specs.declared.node.Status.TheVariants.{Down, Election, Reorganization, Normal}
use Rattle.bully_base.specs.Setup.{Setup, is_node}
use Rattle.bully_base.specs.NodeSetEq.{same_set}
use Rattle.bully_calls.specs.declared.call.Answer.{Answer}
use Rattle.bully_calls.specs.declared.call.Call.{Call}
use Rattle.bully_calls.specs.declared.call.CallKind.{CallKind}
use Rattle.bully_calls.specs.declared.call.CallKind.TheVariants.{AreYouUp, AreYouNormal, Halt, NewCoordinator, Ready}
use Rattle.bully_calls.specs.declared.kind.EventKind.{EventKind}
use Rattle.bully_calls.specs.declared.kind.NodeEventKind.{NodeEventKind}
use Rattle.bully_calls.specs.declared.kind.Saying.{Saying}
use Rattle.bully_calls.specs.Events.{kind_of, node_of, node_saying}
use Rattle.bully_calls.specs.Pending.{Pending, answer_of, outcome_of}
use Rattle.bully_calls.specs.declared.event.Event.{Event}
use Rattle.bully_calls.specs.declared.call.Answer.TheVariants.{Done, Yes, No, Failed, Discarded}
use Rattle.bully_handlers.specs.Handler.{reply}
use Rattle.bully_handlers.specs.Vector.{is_down, is_election, is_reorganization, is_normal}
use Rattle.bully_steps.specs.declared.point.Want.{Want}
pub use Rattle.bully_world.specs.Place.{call_at}
use Rattle.bully_world.specs.Step.{offer}
use Rattle.bully_world.specs.Turn.{same_node}
use Rattle.bully_world.specs.World.{World, pending, vector}
use Rattle.bully_rows.specs.declared.detail.Detail.{Detail}
use Rattle.bully_rows.specs.declared.detail.DetailedEvent.{DetailedEvent}
use Rattle.bully_rows.specs.declared.trace.Claim.{Claim}
use Rattle.bully_rows.specs.EventsTold.{answered, unanswered}
use Rattle.bully_rows.specs.Whole.{Whole}

abbrev pub same_kind : CallKind → CallKind → Bool
same_kind AreYouUp AreYouUp = true
same_kind AreYouNormal AreYouNormal = true
same_kind Halt Halt = true
same_kind NewCoordinator NewCoordinator = true
same_kind Ready Ready = true
same_kind _ _ = false

abbrev pub same_call : Call → Call → Bool
same_call a b = (a.callee == b.callee) && same_kind a.kind b.kind

abbrev pub same_answer : Answer → Answer → Bool
same_answer Done Done = true
same_answer Yes Yes = true
same_answer No No = true
same_answer Failed Failed = true
same_answer Discarded Discarded = true
same_answer _ _ = false

abbrev pub same_answers : Option Answer → Option Answer → Bool
same_answers None None = true
same_answers None (Some b) = false
same_answers (Some a) None = false
same_answers (Some a) (Some b) = same_answer a b

-- the call that is offered
abbrev pub offered_call : Want → Option Call
offered_call (Want.Start call) = Some call
offered_call _ = None

-- what a call brings where it returns; that of an orphan is discarded
abbrev pub brought : Pending → Option Answer
brought c = option_map (λ o. if c.is_live then answer_of o else Discarded) (outcome_of c.phase)

-- what there is to say of an event of node i of this kind in the world before it, by what its rows say; none where
-- there is no such call
abbrev pub said_by : Saying → NodeEventKind → Setup → World → ℕ → Option Detail
said_by Saying.Nothing kind setup w i = None
said_by Saying.Offered kind setup w i = option_map (unanswered kind) (offered_call (offer setup w i))
said_by Saying.Held kind setup w i = option_map (unanswered kind) (call_at w i)
said_by Saying.Replied kind setup w i =
    option_map (λ call. answered kind call (reply call.kind (vector w call.callee))) (call_at w i)
said_by Saying.Brought kind setup w i =
    option_and_then (λ c. option_map (answered kind c.call) (brought c)) (pending w i)

-- this is what there is to say, of an event of one kind
abbrev pub is_said : Option Detail → Detail → Bool
is_said None detail = false
is_said (Some there) detail = same_call there.call detail.call && same_answers there.answer detail.answer

-- what is said of an event of node i is so in the world before it
abbrev pub says : Setup → World → ℕ → Detail → Bool
says setup w i detail = is_said (said_by (node_saying detail.kind) detail.kind setup w i) detail

-- the same, of nodes that the group has
abbrev pub is_so : Setup → World → DetailedEvent → Bool
is_so setup w e = is_node setup e.node && is_node setup e.detail.call.callee && says setup w e.node e.detail

-- what there is to say of an event in the world before it
abbrev pub said_at : EventKind → Setup → World → ℕ → Option DetailedEvent
said_at (EventKind.Node kind) setup w i =
    option_map (λ d. record { node = i; detail = d }) (said_by (node_saying kind) kind setup w i)
said_at EventKind.Plan setup w i = None

abbrev pub said_of : Setup → World → Event → Option DetailedEvent
said_of setup w e = said_at (kind_of e) setup w (node_of e)

abbrev pub same_status : Status → Status → Bool
same_status Down s = is_down s
same_status Election s = is_election s
same_status Reorganization s = is_reorganization s
same_status Normal s = is_normal s

abbrev pub same_task : Option (List ℕ) → Option (List ℕ) → Bool
same_task None None = true
same_task None (Some b) = false
same_task (Some a) None = false
same_task (Some a) (Some b) = bytes_eq a b

-- the claim is true of the world
abbrev pub is_true : Setup → World → Claim → Bool
is_true setup w claim =
    is_node setup claim.node
    && same_status claim.status (vector w claim.node).status
    && same_node claim.coordinator (vector w claim.node).coordinator

-- and so is the rest of the vector that it tells
abbrev pub is_whole : Setup → World → Whole → Bool
is_whole setup w whole =
    is_true setup w whole.claim
    && same_node (vector w whole.claim.node).halter whole.halter
    && same_set (vector w whole.claim.node).up whole.up
    && same_task (vector w whole.claim.node).task whole.task
