-- What is written of one row.
use Rattle.std.proofs.Common.{add-one, drop-cons, suc, take, ◌<◌, ◌≤◌, ◌≡◌, ◌∙◌, ℕ, ◌+◌, ◌++◌, Bool, true, false, List, [], ◌∷◌, Option, Some, None, MatchOption, length, drop, refl, sym, ap, subst, arith, IfOk, OnOk, Result, Ok, Err, slice_get}
use Rattle.std.specs.Bool.{MatchBool}
use Rattle.std.specs.Io.KnownBytes.{Appends}
use Rattle.std.proofs.KnownBytes.{Appends-nil, Appends-trans}
use Rattle.std.proofs.lemmas.Option.{slice_get_within, get_or_from_slice_get}
use Rattle.std.proofs.lemmas.List.{append-nil, append_assoc, length-append, length-take-le, drop_all, take_more, take_all}
use Rattle.bully_handlers.specs.Vector.{StoredVector, Vector}
use Rattle.bully_rows.specs.declared.TheConstants.{ROWS_MAX}
use Rattle.bully_rows.specs.declared.header.Version.{Version}
use Rattle.bully_rows.specs.TraceText.{header_fields, line_of, row_fields, rows_text}
use Rattle.bully_world.proofs.WorldIn.{node_state-world_in}
use Rattle.bully_base.specs.Setup.{IsNode, Setup}
use Rattle.bully_calls.specs.declared.call.Answer.{Answer}
use Rattle.bully_calls.specs.declared.event.Event.{Event}
use Rattle.bully_calls.specs.declared.event.Refused.{Refused}
use Rattle.bully_world.specs.Cause.{cause}
use Rattle.bully_world.specs.State.{WorldState, cause_in, state_at, world_of}
use Rattle.bully_world.specs.Step.{Step}
use Rattle.bully_world.specs.World.{NodeState, World, first_world, vector}
use Rattle.bully_world.proofs.StepOfLemmas.{step_is_one}
use Rattle.bully_rows.specs.declared.detail.DetailedEvent.{DetailedEvent}
use Rattle.bully_rows.specs.declared.trace.Claim.{Claim}
use Rattle.bully_rows.specs.declared.trace.Row.{Row}
use Rattle.bully_trace.specs.declared.verdict.Verdict.{Verdict}
use Rattle.bully_rows.specs.EventsTold.{event_of_detailed}
use Rattle.bully_trace.specs.Details.{is_so, is_true, is_whole}
use Rattle.bully_trace.specs.Judging.{HasJudged, JudgeState}
use Rattle.bully_rows.specs.Trace.{Trace}
use Rattle.bully_trace.specs.Verdict.{IsJudged, IsVerdict}
use Rattle.bully_rows.specs.Whole.{Whole, whole_of}
use Rattle.bully_annotate.specs.Annotated.{annotated, event_rows, rows_said, shown_row}
use Rattle.bully_annotate.specs.Says.{Adds, GoesOn, IsLawfulFrom, IsSomewhereLawful, IsTraceWritten, IsWrittenOf, Says, Shows, Steps}
use Rattle.bully_annotate.proofs.SaidLemmas.{claim-node, said-event, whole-claim}

-- the rows behind an event that was taken
behind-event : (before behind : WorldState) (number : ℕ) (row : Row) (e : Event) (more : List Row) (after : ℕ) (w : World) (text text' : List ℕ) (count : ℕ) (mid : World) (a : Answer)
    → ((mid : World) (a : Answer) → Step before.setup (world_of before) e mid a → rows_said before.setup (world_of before) (row ∷ more) ≡ event_rows before.setup (world_of before) e mid ++ rows_said before.setup mid more)
    → Step before.setup (world_of before) e mid a → IsJudged before.setup mid (before.events + 1) (number + 1) more (Verdict.Lawful after) w
    → Steps before behind e text text' count → Says before behind number row more after w (Adds text text') count
behind-event before behind number row e more after w text text' count mid a splits step j steps =
    let one = step_is_one before.setup (world_of before) e (world_of behind) mid steps.answer a steps.step step in
    record {
      rows = event_rows before.setup (world_of before) e (world_of behind);
      all = subst (λ (s : Setup). rows_said before.setup (world_of before) (row ∷ more) ≡ event_rows before.setup (world_of before) e (world_of behind) ++ rows_said s (world_of behind) more) (sym steps.same)
          (splits (world_of behind) steps.answer steps.step);
      counted = steps.counted;
      written = steps.written;
      lawful = subst (λ (s : Setup). IsJudged s (world_of behind) behind.events (number + 1) more (Verdict.Lawful after) w) (sym steps.same)
          (rw steps.events (subst (λ (m : World). IsJudged before.setup m (before.events + 1) (number + 1) more (Verdict.Lawful after) w) one.0 j));
      same = steps.same;
    }

pub event-says : (before behind : WorldState) (number : ℕ) (e : Event) (more : List Row) (after : ℕ) (w : World) (text text' : List ℕ) (count : ℕ)
    → (cause_in before e ≡ None → Steps before behind e text text' count) → IsLawfulFrom before number (Row.Event e ∷ more) after w
    → Says before behind number (Row.Event e) more after w (Adds text text') count
event-says before behind number e more after w text text' count steps j = by_cause (cause before.setup (world_of before) before.events e) refl j
  where
    by_cause : (q : Option Refused) → cause before.setup (world_of before) before.events e ≡ q
        → MatchOption q ((mid : World) × (a : Answer) × Step before.setup (world_of before) e mid a × IsJudged before.setup mid (before.events + 1) (number + 1) more (Verdict.Lawful after) w)
        (λ why. (Verdict.Lawful after ≡ Verdict.Refused number why) × (w ≡ world_of before)) → Says before behind number (Row.Event e) more after w (Adds text text') count
    by_cause None none (mid, a, step, j) =
        behind-event before behind number (Row.Event e) e more after w text text' count mid a (λ mid a step. said-event before.setup (world_of before) mid e a more step) step j (steps none)
    by_cause (Some why) is j = absurd (cc j.0)

pub detailed-says : (before behind : WorldState) (number : ℕ) (d : DetailedEvent) (more : List Row) (after : ℕ) (w : World) (text text' : List ℕ) (count : ℕ)
    → (cause_in before (event_of_detailed d) ≡ None → Steps before behind (event_of_detailed d) text text' count) → IsLawfulFrom before number (Row.Detailed d ∷ more) after w
    → Says before behind number (Row.Detailed d) more after w (Adds text text') count
detailed-says before behind number d more after w text text' count steps j = by_cause (cause before.setup (world_of before) before.events (event_of_detailed d)) (is_so before.setup (world_of before) d) refl j
  where
    by_cause : (q : Option Refused) (so : Bool) → cause before.setup (world_of before) before.events (event_of_detailed d) ≡ q
        → MatchOption q (MatchBool so ((mid : World) × (a : Answer) × Step before.setup (world_of before) (event_of_detailed d) mid a × IsJudged before.setup mid (before.events + 1) (number + 1) more (Verdict.Lawful after) w)
        ((Verdict.Lawful after ≡ Verdict.Differs number) × (w ≡ world_of before)))
        (λ why. (Verdict.Lawful after ≡ Verdict.Refused number why) × (w ≡ world_of before)) → Says before behind number (Row.Detailed d) more after w (Adds text text') count
    by_cause None true none (mid, a, step, j) =
        behind-event before behind number (Row.Detailed d) (event_of_detailed d) more after w text text' count mid a (λ mid a step. said-event before.setup (world_of before) mid (event_of_detailed d) a more step) step j (steps none)
    by_cause None false none j = absurd (cc j.0)
    by_cause (Some why) so is j = absurd (cc j.0)

-- a claim is one row, and leaves the world as it is
behind-claim : (world : WorldState) (number i : ℕ) (row : Row) (more : List Row) (after : ℕ) (w : World) (text text' : List ℕ) (count : ℕ) → IsNode world.setup i
    → rows_said world.setup (world_of world) (row ∷ more) ≡ shown_row (world_of world) i ∷ rows_said world.setup (world_of world) more
    → IsLawfulFrom world (number + 1) more after w → Shows world i text text' count → Says world world number row more after w (Adds text text') count
behind-claim world number i row more after w text text' count node all lawful shows =
    let (one, written) = shows node in
    record {
      rows = shown_row (world_of world) i ∷ [];
      all = all;
      counted = sym one;
      written = written;
      lawful = lawful;
      same = refl;
    }

pub claim-says : (world : WorldState) (number : ℕ) (c : Claim) (more : List Row) (after : ℕ) (w : World) (text text' : List ℕ) (count : ℕ)
    → Shows world c.node text text' count → IsLawfulFrom world number (Row.Claim c ∷ more) after w → Says world world number (Row.Claim c) more after w (Adds text text') count
claim-says world number c more after w text text' count shows j = by_claim (is_true world.setup (world_of world) c) refl j
  where
    by_claim : (b : Bool) → is_true world.setup (world_of world) c ≡ b
        → MatchBool b (IsLawfulFrom world (number + 1) more after w) ((Verdict.Lawful after ≡ Verdict.Differs number) × (w ≡ world_of world)) → Says world world number (Row.Claim c) more after w (Adds text text') count
    by_claim true holds j = behind-claim world number c.node (Row.Claim c) more after w text text' count (claim-node world.setup (world_of world) c holds) refl j shows
    by_claim false holds j = absurd (cc j.0)

pub whole-says : (world : WorldState) (number : ℕ) (whole : Whole) (more : List Row) (after : ℕ) (w : World) (text text' : List ℕ) (count : ℕ)
    → Shows world whole.claim.node text text' count → IsLawfulFrom world number (Row.Whole whole ∷ more) after w → Says world world number (Row.Whole whole) more after w (Adds text text') count
whole-says world number whole more after w text text' count shows j = by_claim (is_whole world.setup (world_of world) whole) refl j
  where
    by_claim : (b : Bool) → is_whole world.setup (world_of world) whole ≡ b
        → MatchBool b (IsLawfulFrom world (number + 1) more after w) ((Verdict.Lawful after ≡ Verdict.Differs number) × (w ≡ world_of world)) → Says world world number (Row.Whole whole) more after w (Adds text text') count
    by_claim true holds j =
        behind-claim world number whole.claim.node (Row.Whole whole) more after w text text' count (claim-node world.setup (world_of world) whole.claim (whole-claim world.setup (world_of world) whole holds)) refl j shows
    by_claim false holds j = absurd (cc j.0)

-- ---- the same of what was told, which is a number of rows or want of memory

pub event-said : {E : Type 0} (before behind : WorldState) (number : ℕ) (e : Event) (row : Row) (more : List Row) (after : ℕ) (w : World) (text text' : List ℕ) (told : Result ℕ E)
    → row ≡ Row.Event e → (cause_in before e ≡ None → IfOk told (Steps before behind e text text')) → IsLawfulFrom before number (row ∷ more) after w
    → IfOk told (Says before behind number row more after w (Adds text text'))
event-said before behind number e row more after w text text' (Ok count) is steps j =
    rw is (event-says before behind number e more after w text text' count steps (rw is at j))
event-said before behind number e row more after w text text' (Err why) is steps j = tt

pub detailed-said : {E : Type 0} (before behind : WorldState) (number : ℕ) (d : DetailedEvent) (row : Row) (more : List Row) (after : ℕ) (w : World) (text text' : List ℕ) (told : Result ℕ E)
    → row ≡ Row.Detailed d → (cause_in before (event_of_detailed d) ≡ None → IfOk told (Steps before behind (event_of_detailed d) text text')) → IsLawfulFrom before number (row ∷ more) after w
    → IfOk told (Says before behind number row more after w (Adds text text'))
detailed-said before behind number d row more after w text text' (Ok count) is steps j =
    rw is (detailed-says before behind number d more after w text text' count steps (rw is at j))
detailed-said before behind number d row more after w text text' (Err why) is steps j = tt

pub claim-said : {E : Type 0} (world : WorldState) (number : ℕ) (c : Claim) (row : Row) (more : List Row) (after : ℕ) (w : World) (text text' : List ℕ) (told : Result ℕ E)
    → row ≡ Row.Claim c → IfOk told (Shows world c.node text text') → IsLawfulFrom world number (row ∷ more) after w
    → IfOk told (Says world world number row more after w (Adds text text'))
claim-said world number c row more after w text text' (Ok count) is shows j =
    rw is (claim-says world number c more after w text text' count shows (rw is at j))
claim-said world number c row more after w text text' (Err why) is shows j = tt

pub whole-said : {E : Type 0} (world : WorldState) (number : ℕ) (whole : Whole) (row : Row) (more : List Row) (after : ℕ) (w : World) (text text' : List ℕ) (told : Result ℕ E)
    → row ≡ Row.Whole whole → IfOk told (Shows world whole.claim.node text text') → IsLawfulFrom world number (row ∷ more) after w
    → IfOk told (Says world world number row more after w (Adds text text'))
whole-said world number whole row more after w text text' (Ok count) is shows j =
    rw is (whole-says world number whole more after w text text' count shows (rw is at j))
whole-said world number whole row more after w text text' (Err why) is shows j = tt

-- ---- texts

-- the text of a vector that is shown
pub shown-text : {E : Type 0} (told : Result (Unit {0}) E) (old new : List ℕ) (i : ℕ) (v w : Vector) → v ≡ w
    → OnOk told (new ≡ old ++ line_of (row_fields (Row.Whole (whole_of i v)))) → OnOk told (new ≡ old ++ rows_text (Row.Whole (whole_of i w) ∷ []))
shown-text (Ok done) old new i v w same is =
    is ∙ ap (λ (t : List ℕ). old ++ t) (ap (λ (v : Vector). line_of (row_fields (Row.Whole (whole_of i v)))) same ∙ sym (append-nil (line_of (row_fields (Row.Whole (whole_of i w))))))
shown-text (Err why) old new i v w same is = tt

-- the node's vector in the world that the kept one stands for
pub vector-there : (world : WorldState) (i : ℕ) (v : StoredVector) → v ≡ (state_at world i).vector → v.vector ≡ vector (world_of world) i
vector-there world i v is = ap (λ (v : StoredVector). v.vector) is ∙ sym (ap (λ (m : NodeState). m.vector) (node_state-world_in world.states i))

-- ---- the loop over rows

-- the lines of a row were written
pub line-written : (before behind : WorldState) (number : ℕ) (row : Row) (more : List Row) (after : ℕ) (w : World) (text text' : List ℕ) (known known' : Option (List ℕ)) (count : ℕ)
    → text ≡ [] → Appends known known' text' → Says before behind number row more after w (Adds text text') count → Says before behind number row more after w (Appends known known') count
line-written before behind number row more after w text text' known known' count empty appends s = record {
  rows = s.rows;
  all = s.all;
  counted = s.counted;
  written = subst (Appends known known') (s.written ∙ ap (λ (t : List ℕ). t ++ rows_text s.rows) empty) appends;
  lawful = s.lawful;
  same = s.same;
}

-- no row is written yet
pub goes-on-first : (world : WorldState) (all : List Row) (known : Option (List ℕ)) → IsSomewhereLawful world all → GoesOn world world all all known known 0
goes-on-first world all known lawful = record {
  rows = [];
  said = refl;
  counted = refl;
  written = Appends-nil known;
  lawful = lawful;
}

rows_text-append : (rows more : List Row) → rows_text (rows ++ more) ≡ rows_text rows ++ rows_text more
rows_text-append [] more = refl
rows_text-append (r ∷ rows) more = ap (λ (t : List ℕ). line_of (row_fields r) ++ t) (rows_text-append rows more) ∙ sym (append_assoc (line_of (row_fields r)) (rows_text rows) (rows_text more))

-- one row more
pub goes-further : (first world next : WorldState) (all : List Row) (k : ℕ) (row : Row) (start known known' : Option (List ℕ)) (count more : ℕ)
    → GoesOn first world all (drop k all) start known count → drop k all ≡ row ∷ drop (k + 1) all
    → ((number : ℕ) (others : List Row) (after : ℕ) (w : World) → IsLawfulFrom world number (row ∷ others) after w → Says world next number row others after w (Appends known known') more)
    → GoesOn first next all (drop (k + 1) all) start known' (count + more)
goes-further first world next all k row start known known' count more goes splits says =
    let others = drop (k + 1) all in
    let (number, after, w, lawful) = goes.lawful in
    let s = says number others after w (rw splits at lawful) in
    record {
      rows = goes.rows ++ s.rows;
      said = goes.said ∙ ap (λ (rs : List Row). goes.rows ++ rs) (ap (λ (rs : List Row). rows_said world.setup (world_of world) rs) splits ∙ s.all)
          ∙ sym (append_assoc goes.rows s.rows (rows_said next.setup (world_of next) others));
      counted = omega (arith, length-append goes.rows s.rows, goes.counted, s.counted);
      written = subst (Appends start known') (sym (rows_text-append goes.rows s.rows)) (Appends-trans start known known' (rows_text goes.rows) (rows_text s.rows) goes.written s.written);
      lawful = (number + 1, after, w, s.lawful);
    }

row-at : (xs : List Row) (k : ℕ) (x : Row) → slice_get xs k ≡ Some x → drop k xs ≡ x ∷ drop (k + 1) xs
row-at xs k x there = rw (add-one k) (drop-cons xs k x (slice_get_within xs k x there) ∙ ap (λ (y : Row). y ∷ drop (suc k) xs) (get_or_from_slice_get xs k x x there))

pub goes-on-at : (first world next : WorldState) (all : List Row) (k : ℕ) (row : Row) (start known known' : Option (List ℕ)) (count more : ℕ)
    → GoesOn first world all (drop k all) start known count → slice_get all k ≡ Some row
    → ((number : ℕ) (others : List Row) (after : ℕ) (w : World) → IsLawfulFrom world number (row ∷ others) after w → Says world next number row others after w (Appends known known') more)
    → GoesOn first next all (drop (k + 1) all) start known' (count + more)
goes-on-at first world next all k row start known known' count more goes there says =
    goes-further first world next all k row start known known' count more goes (row-at all k row there) says

-- all rows are written
pub goes-on-last : (first world : WorldState) (all : List Row) (k : ℕ) (known known' : Option (List ℕ)) (count : ℕ)
    → GoesOn first world all (drop k all) known known' count → length all ≤ k → count ≤ ROWS_MAX → IsWrittenOf first all (Appends known known') true
goes-on-last first world all k known known' count goes past few =
    let whole : rows_said first.setup (world_of first) all ≡ goes.rows =
    goes.said ∙ ap (λ (rs : List Row). goes.rows ++ rows_said world.setup (world_of world) rs) (drop_all k all past) ∙ append-nil goes.rows in
    rw whole (goes.written, omega (arith, goes.counted, few))

-- more rows than a trace may have are written
pub goes-on-too-far : (first world : WorldState) (all others : List Row) (known known' : Option (List ℕ)) (count : ℕ)
    → GoesOn first world all others known known' count → ROWS_MAX < count → IsWrittenOf first all (Appends known known') false
goes-on-too-far first world all others known known' count goes many =
    rw goes.said (omega (arith, length-append goes.rows (rows_said world.setup (world_of world) others), goes.counted, many))

-- ---- the whole trace

-- the header and then the rows
pub trace-written : {E : Type 0} (trace : Trace) (world : WorldState) (known mid known' : Option (List ℕ)) (told : Result Bool E)
    → world.setup ≡ trace.setup → world_of world ≡ first_world trace.setup → Appends known mid (line_of (header_fields Version.Three trace.setup))
    → IfOk told (IsWrittenOf world trace.rows (Appends mid known')) → IfOk told (IsTraceWritten trace (Appends known known'))
trace-written trace world known mid known' (Ok true) setup first header (written, few) =
    let said : rows_said world.setup (world_of world) trace.rows ≡ (annotated trace).rows = rw (setup, first) refl in
    (Appends-trans known mid known' (line_of (header_fields Version.Three trace.setup)) (rows_text (annotated trace).rows) header (rw said at written), rw said at few)
trace-written trace world known mid known' (Ok false) setup first header many =
    let said : rows_said world.setup (world_of world) trace.rows ≡ (annotated trace).rows = rw (setup, first) refl in
    rw said at many
trace-written trace world known mid known' (Err why) setup first header written = tt

-- ---- the loop that judges

pub judged-taken : (setup : Setup) (rows : List Row) (k number : ℕ) (row : Row) (before behind : JudgeState) → slice_get rows k ≡ Some row → number ≡ k + 2
    → ((setup : Setup) (rows : List Row) → length rows + 2 ≡ number → HasJudged setup rows before → HasJudged setup (rows ++ row ∷ []) behind)
    → HasJudged setup (take k rows) before → HasJudged setup (take (k + 1) rows) behind
judged-taken setup rows k number row before behind there at says judged =
    let within = slice_get_within rows k row there in
    let size : length (take k rows) ≡ k = length-take-le k rows (omega (arith, within)) in
    let one : take (k + 1) rows ≡ take k rows ++ row ∷ [] =
    take_more rows k row within ∙ ap (λ (y : Row). take k rows ++ y ∷ []) (get_or_from_slice_get rows k row row there) in
    rw one (says setup (take k rows) (omega (arith, size, at)) judged)

pub judged-whole : (setup : Setup) (rows : List Row) (k : ℕ) (judge : JudgeState) → length rows ≤ k → HasJudged setup (take k rows) judge → HasJudged setup rows judge
judged-whole setup rows k judge past judged = subst (λ rs. HasJudged setup rs judge) (take_all k rows past) judged

-- ---- where it begins

pub begins-lawful : (trace : Trace) (world : WorldState) (after : ℕ) (w : World) → world.setup ≡ trace.setup → world_of world ≡ first_world trace.setup → world.events ≡ 0
    → IsVerdict trace (Verdict.Lawful after) w → IsLawfulFrom world 2 trace.rows after w
begins-lawful trace world after w setup first none v = rw (setup, first, none) v
