-- An annotated trace is one that a text can tell, and has the events of the trace that it is made of.
use Rattle.std.proofs.Common.{◌≡◌, ◌∙◌, ℕ, ◌+◌, ◌++◌, Bool, true, false, List, [], ◌∷◌, length, Option, Some, None, MatchOption, Result, Ok, All, if◌then◌else◌, arith, refl, sym, ap, subst, ◌&&◌, Err, IfOk, IfSome, option_map}
use Rattle.std.specs.Io.KnownBytes.{Appends}
use Rattle.std.specs.Bool.{MatchBool}
use Rattle.std.proofs.lemmas.Bool.{and_parts}
use Rattle.std.proofs.lemmas.List.Elements.{All-cons, All-nil}
use Rattle.bully_base.specs.Setup.{IsNode, IsSetup, Setup, is_node}
use Rattle.bully_base.proofs.NodeSetLemmas.{IsFallingBelow-more}
use Rattle.bully_calls.specs.declared.call.Answer.{Answer}
use Rattle.bully_calls.specs.declared.call.Answer.TheVariants.{Yes, No}
use Rattle.bully_calls.specs.declared.call.CallKind.{CallKind}
use Rattle.bully_calls.specs.declared.call.CallKind.TheVariants.{AreYouUp, AreYouNormal, Halt, NewCoordinator, Ready}
use Rattle.bully_calls.specs.declared.event.Event.{Event}
use Rattle.bully_calls.specs.declared.event.Refused.{Refused}
use Rattle.bully_calls.specs.declared.kind.NodeEventKind.{NodeEventKind}
use Rattle.bully_calls.specs.declared.kind.Saying.{Saying}
use Rattle.bully_calls.specs.Events.{node_of, node_saying}
use Rattle.bully_calls.specs.Pending.{Pending}
use Rattle.bully_handlers.specs.Handler.{reply}
use Rattle.bully_handlers.specs.Vector.{Vector, is_normal}
use Rattle.bully_rows.specs.declared.detail.Detail.{Detail}
use Rattle.bully_rows.specs.declared.detail.DetailedEvent.{DetailedEvent}
use Rattle.bully_rows.specs.declared.header.Version.{Version}
use Rattle.bully_rows.specs.declared.trace.Row.{Row}
use Rattle.bully_rows.specs.EventsTold.{answered, event_of_detailed, unanswered}
use Rattle.bully_rows.specs.ReadBack.{AreOwners, IsAnswerTold, IsDetailTold, IsNamed, IsReply, IsRowTold, IsTold}
use Rattle.bully_rows.specs.Rows.{IsTraceOf, OfTrace, records_of}
use Rattle.bully_rows.specs.Trace.{Trace}
use Rattle.bully_rows.proofs.ReadBackLemmas.{written-means}
use Rattle.bully_rows.proofs.ToldRows.{found, made}
use Rattle.bully_rows.proofs.SetupTold.{event-told, node-named}
use Rattle.bully_rows.proofs.ToldTraces.{reads-told}
use Rattle.bully_trace.specs.declared.verdict.Verdict.{Verdict}
use Rattle.bully_trace.specs.Details.{brought, call_at, is_said, is_so, is_true, is_whole, offered_call, said_by, said_of, same_answers, same_call, says}
use Rattle.bully_trace.specs.Verdict.{IsJudged, IsVerdict, events_of}
use Rattle.bully_trace.proofs.SameLemmas.{answers-is, node-within}
use Rattle.bully_world.specs.Cause.{cause}
use Rattle.bully_world.specs.NodeInvariant.{WorldInvariant}
use Rattle.bully_world.specs.Step.{Step, offer}
use Rattle.bully_world.specs.World.{World, first_world, pending, vector}
use Rattle.bully_world.proofs.ApplyLemmas.{node_in_setup}
use Rattle.bully_world.proofs.NamedLemmas.{AllNameNodes, IsEventOf, OwnedByNodes, lawful-names, step-event}
use Rattle.bully_world.proofs.NodeInvariantLemmas.{lawful_fits}
use Rattle.bully_annotate.specs.declared.annotation.Annotation.{Annotation}
use Rattle.bully_annotate.specs.Annotated.{annotated, event_rows, rows_said, said_row, same_vector, shown_change, shown_row, shown_unless}
use Rattle.bully_world.specs.Place.{place_of}
use Rattle.bully_annotate.specs.Annotation.{IsAnnotationOf, is_written}
use Rattle.bully_annotate.specs.Told.{AnnotatedHasEvents, AnnotatedIsTold}
use Rattle.bully_annotate.proofs.SaidLemmas.{IsReachedBy, IsSaid, claim-node, place-node, reached-more, said-event, said-so, whole-claim}

-- ---- vectors that are shown

-- any setup goes with version 3
named : (setup : Setup) (i : ℕ) → IsSetup setup → IsNode setup i → IsNamed Version.Three i
named setup i within node = node-named Version.Three setup i within (λ one. absurd (cc one)) node

coordinator-named : (setup : Setup) (c : Option ℕ) → IsSetup setup → ((k : ℕ) → c ≡ Some k → IsNode setup k) → IfSome c (IsNamed Version.Three)
coordinator-named setup None within each = tt
coordinator-named setup (Some k) within each = named setup k within (each k refl)

halter-named : (setup : Setup) (h : Option ℕ) → IsSetup setup → IfSome h (IsNode setup) → IfSome h (IsNamed Version.Three)
halter-named setup None within node = tt
halter-named setup (Some k) within node = named setup k within node

task-owned : (setup : Setup) (task : Option (List ℕ)) → ((table : List ℕ) → task ≡ Some table → length table ≡ setup.partitions) → OwnedByNodes setup task
    → IfSome task (AreOwners setup)
task-owned setup None size owned = tt
task-owned setup (Some table) size owned = (size table refl, owned)

shown-told : (setup : Setup) (w : World) (i : ℕ) → IsSetup setup → WorldInvariant setup w → AllNameNodes setup w → IsNode setup i
    → IsRowTold Version.Three setup (shown_row w i)
shown-told setup w i within fits names node =
    let v = vector w i in
    let by_setup = (fits.fits i).by_setup in
    let last = named setup i within node in
    record {
      claim = (last, coordinator-named setup v.coordinator within by_setup.coordinator);
      halter = halter-named setup v.halter within (names i).vector.0;
      up = IsFallingBelow-more i _ v.up (omega (arith, last.1)) by_setup.up;
      task = task-owned setup v.task by_setup.task (names i).vector.1;
    }

-- ---- what is said of an event

reply-is : (kind : CallKind) (v : Vector) → IsReply (reply kind v)
reply-is AreYouUp v = tt
reply-is AreYouNormal v = by_test (is_normal v.status)
  where
    by_test : (b : Bool) → IsReply (if b then Yes else No)
    by_test true = tt
    by_test false = tt
reply-is Halt v = tt
reply-is NewCoordinator v = tt
reply-is Ready v = tt

-- what there is to say has the answer that is told of its kind
answer-there : (setup : Setup) (w : World) (i : ℕ) (saying : Saying) (kind : NodeEventKind) (there : Detail) → said_by saying kind setup w i ≡ Some there
    → IsAnswerTold saying there.answer
answer-there setup w i Saying.Nothing kind there is = absurd (cc is)
answer-there setup w i Saying.Offered kind there is =
    let (call, at, same) = made (unanswered kind) (offered_call (offer setup w i)) there is in
    subst (λ (d : Detail). IsAnswerTold Saying.Offered d.answer) same tt
answer-there setup w i Saying.Held kind there is =
    let (call, at, same) = made (unanswered kind) (call_at w i) there is in
    subst (λ (d : Detail). IsAnswerTold Saying.Held d.answer) same tt
answer-there setup w i Saying.Replied kind there is =
    let (call, at, same) = made (λ call. answered kind call (reply call.kind (vector w call.callee))) (call_at w i) there is in
    subst (λ (d : Detail). IsAnswerTold Saying.Replied d.answer) same (reply-is call.kind (vector w call.callee))
answer-there setup w i Saying.Brought kind there is =
    let (c, at, next) = found (λ (c : Pending). option_map (answered kind c.call) (brought c)) (pending w i) there is in
    let (a, brings, same) = made (answered kind c.call) (brought c) there next in
    subst (λ (d : Detail). IsAnswerTold Saying.Brought d.answer) same tt

detail-told : (setup : Setup) (w : World) (i : ℕ) (d : Detail) → IsNamed Version.Three d.call.callee → says setup w i d ≡ true → IsDetailTold Version.Three d
detail-told setup w i d callee so = (callee, by_said (said_by (node_saying d.kind) d.kind setup w i) refl so)
  where
    by_said : (said : Option Detail) → said_by (node_saying d.kind) d.kind setup w i ≡ said → is_said said d ≡ true → IsAnswerTold (node_saying d.kind) d.answer
    by_said None at is = absurd (cc is)
    by_said (Some there) at is =
        let same = and_parts (same_call there.call d.call) (same_answers there.answer d.answer) is in
        subst (IsAnswerTold (node_saying d.kind)) (answers-is there.answer d.answer same.1) (answer-there setup w i (node_saying d.kind) d.kind there at)

-- a row of nodes that the group has
so-told : (setup : Setup) (w : World) (d : DetailedEvent) → IsSetup setup → is_so setup w d ≡ true → IsRowTold Version.Three setup (Row.Detailed d)
so-told setup w d within so =
    let (nodes, says_so) = and_parts (is_node setup d.node && is_node setup d.detail.call.callee) (says setup w d.node d.detail) so in
    let (node, callee) = and_parts (is_node setup d.node) (is_node setup d.detail.call.callee) nodes in
    let goes = named setup d.detail.call.callee within (node-within setup d.detail.call.callee callee) in
    (named setup d.node within (node-within setup d.node node), detail-told setup w d.node d.detail goes says_so)

plan-owned : (setup : Setup) (e : Event) → IsEventOf setup e → (i : ℕ) (table : List ℕ) → e ≡ Event.Plan i table → AreOwners setup table
plan-owned setup e of i table is = let at : IsEventOf setup (Event.Plan i table) = subst (IsEventOf setup) is of in (at.1, at.2)

said-told : (setup : Setup) (w : World) (e : Event) (said : Option DetailedEvent) → IsSetup setup → IsNode setup (node_of e) → IsEventOf setup e
    → ((d : DetailedEvent) → said ≡ Some d → IsSaid setup w e d) → IsRowTold Version.Three setup (said_row e said)
said-told setup w e None within node of so = event-told Version.Three setup e within (λ one. absurd (cc one)) node (plan-owned setup e of)
said-told setup w e (Some d) within node of so = so-told setup w d within (so d refl).1

said-events : (setup : Setup) (w : World) (e : Event) (said : Option DetailedEvent) (rows : List Row) → ((d : DetailedEvent) → said ≡ Some d → IsSaid setup w e d)
    → events_of (said_row e said ∷ rows) ≡ e ∷ events_of rows
said-events setup w e None rows so = refl
said-events setup w e (Some d) rows so = ap (λ (x : Event). x ∷ events_of rows) (so d refl).0

-- ---- rows

-- rows that a text can tell, and that have these events
record AreToldAs (setup : Setup) (events : List Event) (rows : List Row) : Type 0 where
  told : All (IsRowTold Version.Three setup) rows
  same : events_of rows ≡ events

shown-as : (setup : Setup) (w : World) (i : ℕ) (events : List Event) (rows : List Row) → IsRowTold Version.Three setup (shown_row w i) → AreToldAs setup events rows
    → AreToldAs setup events (shown_row w i ∷ rows)
shown-as setup w i events rows here more = record {
  told = All-cons (IsRowTold Version.Three setup) (shown_row w i) rows here more.told;
  same = more.same;
}

change-as : (setup : Setup) (w mid : World) (i : ℕ) (events : List Event) (rows : List Row) → IsRowTold Version.Three setup (shown_row mid i) → AreToldAs setup events rows
    → AreToldAs setup events (shown_change w mid i ++ rows)
change-as setup w mid i events rows here more = by_test (same_vector (vector w i) (vector mid i))
  where
    by_test : (same : Bool) → AreToldAs setup events (shown_unless same mid i ++ rows)
    by_test true = more
    by_test false = shown-as setup mid i events rows here more

said-as : (setup : Setup) (w : World) (e : Event) (said : Option DetailedEvent) (events : List Event) (rows : List Row) → IsRowTold Version.Three setup (said_row e said)
    → ((d : DetailedEvent) → said ≡ Some d → IsSaid setup w e d) → AreToldAs setup events rows → AreToldAs setup (e ∷ events) (said_row e said ∷ rows)
said-as setup w e said events rows here so more = record {
  told = All-cons (IsRowTold Version.Three setup) (said_row e said) rows here more.told;
  same = said-events setup w e said rows so ∙ ap (λ (es : List Event). e ∷ es) more.same;
}

-- of a world that was reached
shown-reached : (setup : Setup) (w : World) (count i : ℕ) → IsSetup setup → IsReachedBy setup w count → IsNode setup i → IsRowTold Version.Three setup (shown_row w i)
shown-reached setup w count i within (events, answers, lawful, counted) node =
    shown-told setup w i within (lawful_fits setup events answers w lawful) (lawful-names setup events answers w lawful) node

event-as : (setup : Setup) (w mid : World) (count : ℕ) (e : Event) (a : Answer) (events : List Event) (rows : List Row) → IsSetup setup → IsReachedBy setup w count
    → cause setup w count e ≡ None → Step setup w e mid a → AreToldAs setup events rows → AreToldAs setup (e ∷ events) (event_rows setup w e mid ++ rows)
event-as setup w mid count e a events rows within reached none step more =
    let (before, answers, lawful, counted) = reached in
    let fits = lawful_fits setup before answers w lawful in
    let node = node_in_setup setup w count e none in
    let so : (d : DetailedEvent) → said_of setup w e ≡ Some d → IsSaid setup w e d = λ d is. said-so setup w e d fits node is in
    let place = place-node setup w e fits node in
    let shown = shown-reached setup mid (count + 1) (place_of w e) within (reached-more setup w mid count e a none step reached) place in
    said-as setup w e (said_of setup w e) events (shown_change w mid (place_of w e) ++ rows)
    (said-told setup w e (said_of setup w e) within node (step-event setup w e mid a fits step) so) so
    (change-as setup w mid (place_of w e) events rows shown more)

rows-as : (setup : Setup) (w : World) (count number : ℕ) (rows : List Row) (after : ℕ) (w' : World) → IsSetup setup → IsReachedBy setup w count
    → IsJudged setup w count number rows (Verdict.Lawful after) w' → AreToldAs setup (events_of rows) (rows_said setup w rows)
rows-as setup w count number [] after w' within reached j = record { told = All-nil (IsRowTold Version.Three setup); same = refl }
rows-as setup w count number (Row.Event e ∷ rows) after w' within reached j =
    by_cause (cause setup w count e) refl j (λ mid. rows-as setup mid (count + 1) (number + 1) rows after w' within)
  where
    by_cause : (q : Option Refused) → cause setup w count e ≡ q
        → MatchOption q ((mid : World) × (a : Answer) × Step setup w e mid a × IsJudged setup mid (count + 1) (number + 1) rows (Verdict.Lawful after) w') (λ why. (Verdict.Lawful after ≡ Verdict.Refused number why) × (w' ≡ w))
        → ((mid : World) → IsReachedBy setup mid (count + 1) → IsJudged setup mid (count + 1) (number + 1) rows (Verdict.Lawful after) w' → AreToldAs setup (events_of rows) (rows_said setup mid rows))
        → AreToldAs setup (e ∷ events_of rows) (rows_said setup w (Row.Event e ∷ rows))
    by_cause None none (mid, a, step, j) more =
        subst (AreToldAs setup (e ∷ events_of rows)) (sym (said-event setup w mid e a rows step))
        (event-as setup w mid count e a (events_of rows) (rows_said setup mid rows) within reached none step (more mid (reached-more setup w mid count e a none step reached) j))
    by_cause (Some why) is j more = absurd (cc j.0)
rows-as setup w count number (Row.Detailed d ∷ rows) after w' within reached j =
    by_cause (cause setup w count (event_of_detailed d)) (is_so setup w d) refl j (λ mid. rows-as setup mid (count + 1) (number + 1) rows after w' within)
  where
    by_cause : (q : Option Refused) (so : Bool) → cause setup w count (event_of_detailed d) ≡ q
        → MatchOption q (MatchBool so ((mid : World) × (a : Answer) × Step setup w (event_of_detailed d) mid a × IsJudged setup mid (count + 1) (number + 1) rows (Verdict.Lawful after) w')
        ((Verdict.Lawful after ≡ Verdict.Differs number) × (w' ≡ w))) (λ why. (Verdict.Lawful after ≡ Verdict.Refused number why) × (w' ≡ w))
        → ((mid : World) → IsReachedBy setup mid (count + 1) → IsJudged setup mid (count + 1) (number + 1) rows (Verdict.Lawful after) w' → AreToldAs setup (events_of rows) (rows_said setup mid rows))
        → AreToldAs setup (event_of_detailed d ∷ events_of rows) (rows_said setup w (Row.Detailed d ∷ rows))
    by_cause None true none (mid, a, step, j) more =
        subst (AreToldAs setup (event_of_detailed d ∷ events_of rows)) (sym (said-event setup w mid (event_of_detailed d) a rows step))
        (event-as setup w mid count (event_of_detailed d) a (events_of rows) (rows_said setup mid rows) within reached none step (more mid (reached-more setup w mid count (event_of_detailed d) a none step reached) j))
    by_cause None false none j more = absurd (cc j.0)
    by_cause (Some why) so is j more = absurd (cc j.0)
rows-as setup w count number (Row.Claim c ∷ rows) after w' within reached j = by_claim (is_true setup w c) refl j (rows-as setup w count (number + 1) rows after w' within reached)
  where
    by_claim : (b : Bool) → is_true setup w c ≡ b → MatchBool b (IsJudged setup w count (number + 1) rows (Verdict.Lawful after) w') ((Verdict.Lawful after ≡ Verdict.Differs number) × (w' ≡ w))
        → (IsJudged setup w count (number + 1) rows (Verdict.Lawful after) w' → AreToldAs setup (events_of rows) (rows_said setup w rows))
        → AreToldAs setup (events_of rows) (shown_row w c.node ∷ rows_said setup w rows)
    by_claim true holds j more = shown-as setup w c.node (events_of rows) (rows_said setup w rows) (shown-reached setup w count c.node within reached (claim-node setup w c holds)) (more j)
    by_claim false holds j more = absurd (cc j.0)
rows-as setup w count number (Row.Whole whole ∷ rows) after w' within reached j = by_claim (is_whole setup w whole) refl j (rows-as setup w count (number + 1) rows after w' within reached)
  where
    by_claim : (b : Bool) → is_whole setup w whole ≡ b → MatchBool b (IsJudged setup w count (number + 1) rows (Verdict.Lawful after) w') ((Verdict.Lawful after ≡ Verdict.Differs number) × (w' ≡ w))
        → (IsJudged setup w count (number + 1) rows (Verdict.Lawful after) w' → AreToldAs setup (events_of rows) (rows_said setup w rows))
        → AreToldAs setup (events_of rows) (shown_row w whole.claim.node ∷ rows_said setup w rows)
    by_claim true holds j more =
        shown-as setup w whole.claim.node (events_of rows) (rows_said setup w rows)
        (shown-reached setup w count whole.claim.node within reached (claim-node setup w whole.claim (whole-claim setup w whole holds))) (more j)
    by_claim false holds j more = absurd (cc j.0)

-- ---- traces

trace-as : (trace : Trace) (after : ℕ) (w : World) → IsSetup trace.setup → IsVerdict trace (Verdict.Lawful after) w → AreToldAs trace.setup (events_of trace.rows) (annotated trace).rows
trace-as trace after w within v =
    rows-as trace.setup (first_world trace.setup) 0 2 trace.rows after w within ([], [], record { leads = refl; bounded = omega arith }, refl) v

pub annotated-told : AnnotatedIsTold
annotated-told trace after w told v few =
    let all = trace-as trace after w told.setup v in
    record {
      setup = told.setup;
      events = told.events;
      version = λ one. absurd (cc one);
      forms = λ less. absurd (cc less);
      count = few;
      rows = all.told;
    }

pub annotated-events : AnnotatedHasEvents
annotated-events trace after w told v = (trace-as trace after w told.setup v).same

-- ---- what was written

-- of a text that means the trace
of-trace : (known : Option (List ℕ)) (trace : Trace) (P : Trace → Type 0) → IsTraceOf known trace → (IsTold trace → P trace) → OfTrace known P
of-trace None trace P is holds = tt
of-trace (Some bytes) trace P is holds = (trace, is, holds (reads-told (records_of bytes) trace is).0)

-- the annotated trace has the events of the trace that was read
events-of : (known : Option (List ℕ)) (trace : Trace) (told : Annotation) (Writes : List ℕ → Type 0) (silent : Type 0) → IsTraceOf known trace
    → IsAnnotationOf trace told Writes silent → is_written told ≡ true → OfTrace known (λ trace. events_of (annotated trace).rows ≡ events_of trace.rows)
events-of known trace (Annotation.Written count) Writes silent is (w, verdict, lawful, few, writes) written =
    of-trace known trace (λ trace. events_of (annotated trace).rows ≡ events_of trace.rows) is (λ told. annotated-events trace count w told verdict)
events-of known trace (Annotation.Unlawful verdict) Writes silent is holds written = absurd (cc written)
events-of known trace Annotation.TooLong Writes silent is holds written = absurd (cc written)

pub written-events : {E : Type 0} (known : Option (List ℕ)) (trace : Trace) (result : Result Annotation E) (Writes : List ℕ → Type 0) (silent : Type 0) → IsTraceOf known trace
    → IfOk result (λ told. IsAnnotationOf trace told Writes silent)
    → IfOk result (λ told. is_written told ≡ true → OfTrace known (λ trace. events_of (annotated trace).rows ≡ events_of trace.rows))
written-events known trace (Ok told) Writes silent is holds = events-of known trace told Writes silent is holds
written-events known trace (Err why) Writes silent is holds = tt

-- where nothing stood before, what is written means the annotated trace
back-of : (known : Option (List ℕ)) (trace : Trace) (told : Annotation) (old new : Option (List ℕ)) (silent : Type 0) → IsTraceOf known trace
    → IsAnnotationOf trace told (Appends old new) silent → is_written told ≡ true → old ≡ Some [] → OfTrace known (λ trace. IsTraceOf new (annotated trace))
back-of known trace (Annotation.Written count) old new silent is (w, verdict, lawful, few, writes) written none =
    of-trace known trace (λ trace. IsTraceOf new (annotated trace)) is (λ told. written-means {E = ℕ} (Ok tt) (annotated trace) old new writes none (annotated-told trace count w told verdict few))
back-of known trace (Annotation.Unlawful verdict) old new silent is holds written none = absurd (cc written)
back-of known trace Annotation.TooLong old new silent is holds written none = absurd (cc written)

pub written-back : {E : Type 0} (known : Option (List ℕ)) (trace : Trace) (result : Result Annotation E) (old new : Option (List ℕ)) (silent : Type 0) → IsTraceOf known trace
    → IfOk result (λ told. IsAnnotationOf trace told (Appends old new) silent)
    → IfOk result (λ told. is_written told ≡ true → old ≡ Some [] → OfTrace known (λ trace. IsTraceOf new (annotated trace)))
written-back known trace (Ok told) old new silent is holds = back-of known trace told old new silent is holds
written-back known trace (Err why) old new silent is holds = tt
