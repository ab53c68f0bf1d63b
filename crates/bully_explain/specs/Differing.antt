-- What a row says beside what the group shows, in two columns.
use Rattle.std.specs.Prelude.{ℕ, ◌-◌, List, [], ◌++◌, Option, Some, None, codes, length, max, nat_le, option_and_then}
use Rattle.std.specs.Prelude.{option_map, replicate, if◌then◌else◌}
use Rattle.std.specs.Fmt.{decimal}
use Rattle.bully_base.specs.Setup.{Setup}
use Rattle.bully_calls.specs.Events.{node_saying, refusal_word}
use Rattle.bully_calls.specs.declared.call.Answer.{Answer}
use Rattle.bully_calls.specs.declared.kind.Saying.{Saying}
use Rattle.bully_handlers.specs.Vector.{Vector}
use Rattle.bully_world.specs.World.{World, vector}
use Rattle.bully_rows.specs.EventsTold.{event_of_detailed}
use Rattle.bully_rows.specs.TraceText.{node_text, set_text, task_text}
use Rattle.bully_rows.specs.Whole.{Whole}
use Rattle.bully_rows.specs.Words.{answer_word, call_word, status_word}
use Rattle.bully_rows.specs.declared.detail.DetailedEvent.{DetailedEvent}
use Rattle.bully_rows.specs.declared.trace.Claim.{Claim}
use Rattle.bully_rows.specs.declared.trace.Row.{Row}
use Rattle.bully_trace.specs.Details.{said_of}
use Rattle.bully_trace.specs.declared.verdict.Verdict.{Verdict}

-- a word, filled up with spaces to so many bytes
abbrev pub padded : ℕ → List ℕ → List ℕ
padded width word = word ++ replicate (width - length word) 32

-- the spaces after so many bytes in the first column, two at least
abbrev pub gap : ℕ → List ℕ
gap taken = replicate (max (16 - taken) 2) 32

-- the name of a part, before the columns
abbrev pub part_name : List ℕ → List ℕ
part_name part = codes "  " ++ padded 14 part

-- the line of a part: its name, what the row says, and what the group shows: a word each
abbrev pub words_beside : List ℕ → List ℕ → List ℕ → List ℕ
words_beside part said shown = part_name part ++ padded 16 said ++ shown ++ codes "\n"

-- the same of what may be longer
abbrev pub sides : List ℕ → List ℕ → List ℕ → List ℕ
sides part said shown = part_name part ++ (said ++ (gap (length said) ++ (shown ++ codes "\n")))

-- the heads of the columns, after a blank line
abbrev pub heads : List ℕ → List ℕ
heads head = codes "\n" ++ replicate 16 32 ++ padded 16 head ++ codes "shown\n"

-- a claim of a node with this vector: the status and the coordinator
abbrev pub claimed_text : Vector → Claim → List ℕ
claimed_text v claim =
    codes "node " ++ decimal claim.node ++ codes " isn't as the row claims\n" ++ heads (codes "claimed")
    ++ words_beside (codes "status") (status_word claim.status) (status_word v.status)
    ++ sides (codes "coordinator") (node_text claim.coordinator) (node_text v.coordinator)

-- a claim of all of the vector: the rest of it, too
abbrev pub whole_text : Vector → Whole → List ℕ
whole_text v whole =
    claimed_text v whole.claim ++ sides (codes "halter") (node_text whole.halter) (node_text v.halter)
    ++ sides (codes "up") (set_text whole.up) (set_text v.up)
    ++ sides (codes "owners") (task_text 32 whole.task) (task_text 32 v.task)

-- the kind of the call that there is, its callee, and what is answered or brought; a dash for none
abbrev pub kind_text : Option DetailedEvent → List ℕ
kind_text None = codes "-"
kind_text (Some e) = call_word e.detail.call.kind

abbrev pub callee_in : Option DetailedEvent → Option ℕ
callee_in shown = option_map (λ e. e.detail.call.callee) shown

abbrev pub answer_in : Option DetailedEvent → Option Answer
answer_in shown = option_and_then (λ e. e.detail.answer) shown

abbrev pub answer_text : Option Answer → List ℕ
answer_text None = codes "-"
answer_text (Some answer) = answer_word answer

-- the line of what is answered or brought, where the row says one
abbrev pub answers_text : Saying → Option Answer → Option Answer → List ℕ
answers_text Saying.Nothing told shown = []
answers_text Saying.Offered told shown = []
answers_text Saying.Held told shown = []
answers_text Saying.Replied told shown = words_beside (codes "answer") (answer_text told) (answer_text shown)
answers_text Saying.Brought told shown = words_beside (codes "outcome") (answer_text told) (answer_text shown)

-- what is said beside an event of a call, where this is what there is to say
abbrev pub detailed_text : Option DetailedEvent → DetailedEvent → List ℕ
detailed_text shown e =
    codes "the call of node " ++ decimal e.node ++ codes " isn't what the row says\n" ++ heads (codes "told")
    ++ words_beside (codes "call") (call_word e.detail.call.kind) (kind_text shown)
    ++ sides (codes "callee") (node_text (Some e.detail.call.callee)) (node_text (callee_in shown))
    ++ answers_text (node_saying e.detail.kind) e.detail.answer (answer_in shown)

-- what the row says and what the group shows before it; nothing of a node that the group doesn't have
abbrev pub differing_text : Setup → World → Row → List ℕ
differing_text setup w (Row.Event e) = []
differing_text setup w (Row.Detailed e) =
    if nat_le e.node setup.nodes then detailed_text (said_of setup w (event_of_detailed e)) e else []
differing_text setup w (Row.Claim claim) =
    if nat_le claim.node setup.nodes then claimed_text (vector w claim.node) claim else []
differing_text setup w (Row.Whole whole) =
    if nat_le whole.claim.node setup.nodes then whole_text (vector w whole.claim.node) whole else []

-- how a row decided by this verdict, in the world before it: the cause that refused it, or what differs
abbrev pub decided_text : Setup → World → Verdict → Row → List ℕ
decided_text setup w (Verdict.Lawful count) row = []
decided_text setup w (Verdict.Refused number why) row = codes "refused, " ++ refusal_word why ++ codes ": "
decided_text setup w (Verdict.Differs number) row = codes "differs: " ++ differing_text setup w row
