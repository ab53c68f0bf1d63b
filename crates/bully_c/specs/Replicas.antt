-- What an export over a replica answers.
use Rattle.std.specs.Prelude.{◌≡◌, ◌⊎◌, ◌+◌, ◌==◌, ℕ, List, [], ◌∷◌, Bool, Option, Some, None, Ok, MatchOption, true}
use Rattle.std.specs.Prelude.{false, reverse, unwrap_or, if◌then◌else◌}
use Rattle.std.specs.List.{ends_with, starts_with}
use Rattle.std.specs.Option.{option_map}
use Rattle.bully_base.specs.Setup.{IsNode, IsSetup, Setup}
use Rattle.bully_calls.specs.declared.event.Event.{Event}
use Rattle.bully_calls.specs.declared.event.Refused.{Refused}
use Rattle.bully_agent.specs.Agent.{AgentState}
use Rattle.bully_replica.specs.RowReplica.{RowReplicaState, FollowsUpTo, StopsAt}
use Rattle.bully_replica.specs.LastPlan.{planner_in, table_in}
use Rattle.bully_replica.specs.Next.{IsNext}
use Rattle.bully_replica.specs.Replica.{ReplicaState, first_replica, token_of}
use Rattle.bully_replica.specs.declared.row_replica.LearnFault.{LearnFault}
use Rattle.bully_rows.specs.Headers.{Record, version_for}
use Rattle.bully_rows.specs.Rows.{records_of, trace_of}
use Rattle.bully_rows.specs.Trace.{headed}
use Rattle.bully_rows.specs.TraceText.{event_fields, header_fields, line_of}
use Rattle.bully_rows.specs.declared.TheConstants.{ROWS_MAX}
use Rattle.bully_rows.specs.declared.header.Header.{Header}
use Rattle.bully_rows.specs.declared.header.Version.{Version}
use Rattle.bully_rows.specs.declared.trace.TraceCause.{TraceCause}
use Rattle.bully_world.specs.State.{WorldState, cause_in, state_at}
use Rattle.bully_c.specs.Arguments.{IsCopied, IsSetupRefusal}
use Rattle.bully_c.specs.Exports.{AtOpenOf, ShowsOf, number_or_none, shown}
use Rattle.bully_calls.specs.Events.{refusal_number}
use Rattle.bully_c.specs.Numbers.{event_numbered, learn_fault_number, trace_number}
use Rattle.bully_c.specs.declared.replicas.CGroup.{CGroup}
use Rattle.bully_c.specs.declared.shown.CState.{CState}
use Rattle.bully_c.specs.declared.status.TheConstants.{BAD_EVENT, BAD_HEADER, BAD_NODE, OK, OPEN, OUT_OF_MEMORY}
use Rattle.bully_c.specs.declared.status.TheConstants.{ROW_END}

-- ---- handles

abbrev pub AtLog : (RowReplicaState → ℕ → RowReplicaState → Type 0) → Option RowReplicaState → ℕ
    → Option RowReplicaState → Type 0
AtLog = AtOpenOf RowReplicaState

abbrev pub ShowsLog : (RowReplicaState → ℕ → Type 0) → RowReplicaState → ℕ → RowReplicaState → Type 0
ShowsLog = ShowsOf RowReplicaState

-- the text is that of a header, and no row comes after it
abbrev pub IsHeaderAlone : List ℕ → Header → Type 0
IsHeaderAlone text header = trace_of (records_of text) ≡ Ok (headed header [])

-- the replica of a log with this header, before any row
abbrev pub opened_log : Header → RowReplicaState
opened_log header = record { replica = first_replica header; rows = 0 }

-- why it isn't opened: there is no such header, or no memory
abbrev pub RefusesHeader : List ℕ → ℕ → Type 0
RefusesHeader text status = ((status ≡ BAD_HEADER) × ((header : Header) → ¬ IsHeaderAlone text header))
    ⊎ (status ≡ OUT_OF_MEMORY)

abbrev pub IsLogOpening : List ℕ → Option RowReplicaState → ℕ → Option RowReplicaState → Type 0
IsLogOpening text (Some held) status new = (status ≡ OPEN) × (new ≡ Some held)
IsLogOpening text None status new =
    ((header : Header) × IsHeaderAlone text header × (status ≡ OK) × (new ≡ Some (opened_log header)))
    ⊎ (RefusesHeader text status × (new ≡ None))

-- ---- rows that are learned

abbrev same_byte : ℕ → ℕ → Bool
same_byte a b = a == b

-- the text starts with a byte-order mark, which a reader of `csv` would drop
abbrev pub has_mark : List ℕ → Bool
has_mark text = starts_with same_byte text (239 ∷ 187 ∷ 191 ∷ [])

-- it is empty, or its last line has a line end
abbrev pub has_end : List ℕ → Bool
has_end [] = true
has_end (byte ∷ bytes) = ends_with same_byte (byte ∷ bytes) (10 ∷ [])

-- all that is left was learned, or why the first of it wasn't
abbrev pub EndsLearning : List Record → RowReplicaState → ℕ → Type 0
EndsLearning left f status =
    ((status ≡ OK) × (left ≡ [])) ⊎ ((fault : LearnFault) × (status ≡ learn_fault_number fault) × StopsAt left f fault)

-- a text that starts with a mark starts with no row, or with one that is too many
abbrev pub mark_number : RowReplicaState → ℕ
mark_number f = if f.rows == ROWS_MAX then trace_number TraceCause.TooManyRows else trace_number TraceCause.BadRow

-- this many rows of the text were learned, up to the first that isn't; no row of a text that starts with a mark, or
-- without its end
abbrev pub IsLearning : List ℕ → ℕ → RowReplicaState → ℕ → RowReplicaState → Type 0
IsLearning text taken held status after =
    ((has_end text ≡ false) × (status ≡ ROW_END) × (taken ≡ 0) × (after ≡ held))
    ⊎ ((has_end text ≡ true) × (has_mark text ≡ true) × (status ≡ mark_number held) × (taken ≡ 0) × (after ≡ held))
    ⊎ ((has_end text ≡ true) × (has_mark text ≡ false) × (left : List Record)
    × FollowsUpTo (records_of text) held after left
    × (after.rows ≡ held.rows + taken) × EndsLearning left after status)

-- ---- rows to be appended

-- why the event isn't appended, if it isn't: the log has as many rows as a trace has at most, or the event is refused
abbrev pub append_cause : RowReplicaState → Event → Option Refused
append_cause f e = if f.rows == ROWS_MAX then Some Refused.Full else cause_in f.replica.world e

-- nothing refuses the event, and this is its line
abbrev pub IsAllowedRow : RowReplicaState → Event → List ℕ → Type 0
IsAllowedRow f e text = (append_cause f e ≡ None) × (text ≡ line_of (event_fields e))

-- why there is no such row
abbrev pub RefusesRow : RowReplicaState → Event → ℕ → Type 0
RefusesRow f e status = ((why : Refused) × (append_cause f e ≡ Some why) × (status ≡ refusal_number why))
    ⊎ (status ≡ OUT_OF_MEMORY)

-- the group has the node of this number
abbrev pub HasNode : RowReplicaState → ℕ → Type 0
HasNode f node = IsNode f.replica.world.setup node

-- the row that the node appends next, or nothing if it rests
abbrev pub IsNextRow : RowReplicaState → ℕ → List ℕ → Type 0
IsNextRow f node text = HasNode f node × (next : Option Event) × IsNext f.replica node next
    × MatchOption next (text ≡ []) (λ e. IsAllowedRow f e text)

abbrev pub RefusesNext : RowReplicaState → ℕ → ℕ → Type 0
RefusesNext f node status =
    ((status ≡ BAD_NODE) × ¬ HasNode f node)
    ⊎ (HasNode f node
    × ((status ≡ OUT_OF_MEMORY) ⊎ ((next : Event) × IsNext f.replica node (Some next) × RefusesRow f next status)))

-- the row of an event by its number
abbrev pub IsEventRow : RowReplicaState → ℕ → ℕ → List ℕ → Type 0
IsEventRow f node number text = HasNode f node × (e : Event) × (event_numbered number node ≡ Some e)
    × IsAllowedRow f e text

abbrev pub RefusesEvent : RowReplicaState → ℕ → ℕ → ℕ → Type 0
RefusesEvent f node number status =
    ((status ≡ BAD_NODE) × ¬ HasNode f node)
    ⊎ (HasNode f node × (event_numbered number node ≡ None) × (status ≡ BAD_EVENT))
    ⊎ (HasNode f node × (e : Event) × (event_numbered number node ≡ Some e) × RefusesRow f e status)

-- a text is written into the room; or the status says why there is none, and nothing is written
abbrev pub IsWritten : (List ℕ → Type 0) → (ℕ → Type 0) → List ℕ → ℕ → ℕ → List ℕ → ℕ → Type 0
IsWritten Is Refuses before count_before status after count =
    ((text : List ℕ) × Is text × IsCopied text before status after count)
    ⊎ (Refuses status × (after ≡ before) × (count ≡ count_before))

-- the header of this version and this setup
abbrev pub IsHeaderIn : Version → Setup → List ℕ → Type 0
IsHeaderIn version s text = text ≡ line_of (header_fields version s)

-- the header of a setup
abbrev pub IsHeaderRow : Setup → List ℕ → Type 0
IsHeaderRow s text = IsSetup s × IsHeaderIn (version_for s) s text

-- the header of a setup for rows that say more
abbrev pub IsDetailedHeaderRow : Setup → List ℕ → Type 0
IsDetailedHeaderRow s text = IsSetup s × IsHeaderIn Version.Three s text

abbrev pub RefusesHeaderRow : Setup → ℕ → Type 0
RefusesHeaderRow s status = IsSetupRefusal s status ⊎ (IsSetup s × (status ≡ OUT_OF_MEMORY))

-- ---- what a replica shows

-- what an agent of node i would keep in this world
abbrev pub agent_in : WorldState → ℕ → AgentState
agent_in w i = record { setup = w.setup; node = i; events = w.events; number = 0; node_state = state_at w i }

-- this is shown of a node; for another number the status says that there is no such node, and nothing is written
abbrev pub ShowsNode : Setup → ℕ → ℕ → Type 0 → Type 0 → Type 0
ShowsNode s node status Shown Same = (IsNode s node × Shown) ⊎ ((status ≡ BAD_NODE) × (¬ IsNode s node) × Same)

-- a node's state, as an agent of it would show it
abbrev pub IsStateShown : WorldState → ℕ → CState → ℕ → CState → Type 0
IsStateShown w node before status after =
    ShowsNode w.setup node status ((status ≡ OK) × (after ≡ shown (agent_in w node))) (after ≡ before)

-- a list that a node has in this world, from the first
abbrev pub IsListShown : WorldState → ℕ → List ℕ → List ℕ → ℕ → ℕ → List ℕ → ℕ → Type 0
IsListShown w node items before count_before status after count =
    ShowsNode w.setup node status (IsCopied items before status after count) ((after ≡ before) × (count ≡ count_before))

abbrev pub up_in : WorldState → ℕ → List ℕ
up_in w node = reverse (state_at w node).vector.vector.up

abbrev pub task_in : WorldState → ℕ → List ℕ
task_in w node = unwrap_or (state_at w node).vector.vector.task []

abbrev pub group_shown : RowReplicaState → CGroup
group_shown f =
    let r = f.replica in let s = r.world.setup in
    record {
      rows = f.rows;
      events = r.world.events;
      token = token_of r.last;
      planner = number_or_none (option_map planner_in r.last);
      nodes = s.nodes;
      partitions = s.partitions;
      keeps = if s.keeps then 1 else 0;
    }

abbrev pub table_shown : ReplicaState → List ℕ
table_shown r = unwrap_or (option_map table_in r.last) []
