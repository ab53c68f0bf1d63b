-- How a sheet begins, and what its account has to do with the trace.
use Rattle.std.proofs.Common.{◌≡◌, ◌∙◌, ◌++◌, ℕ, false, List, [], Option, Some, None, Result, Ok, Err, IfOk, IfErr, IfSome, IsSome, IsSomeAnd, refl, sym, ap, subst, codes, append_assoc, append-nil, arith, MatchOption, inl, inr}
use Rattle.std.specs.Fmt.{decimal}
use Rattle.bully_base.specs.Setup.{Setup}
use Rattle.bully_world.specs.State.{world_of}
use Rattle.bully_world.specs.World.{World, first_world}
use Rattle.bully_rows.specs.Rows.{OfTrace}
use Rattle.bully_rows.specs.Trace.{Trace}
use Rattle.bully_rows.specs.TraceText.{line_of, row_fields, trace_cause_text}
use Rattle.bully_rows.specs.declared.trace.Row.{Row}
use Rattle.bully_rows.specs.declared.trace.TraceFault.{TraceFault}
use Rattle.bully_trace.specs.Judging.{HasJudged, JudgeState}
use Rattle.bully_trace.specs.Verdict.{IsJudged, IsVerdict}
use Rattle.bully_trace.specs.declared.verdict.Verdict.{Verdict}
use Rattle.bully_trace.proofs.JudgeLemmas.{judged-all}
use Rattle.bully_trace.proofs.OneVerdictLemmas.{one-verdict}
use Rattle.bully_account.specs.Accounts.{AccountState, HasTaken, StopsAt, number_in}
use Rattle.bully_account.specs.RowsOf.{IsRowAt}
use Rattle.bully_account.specs.TraceReport.{Explains, IsToldOf}
use Rattle.bully_account.specs.declared.account.Stop.{Stop}
use Rattle.bully_account.specs.declared.showing.NodeSheet.{NodeSheet}
use Rattle.bully_explain.specs.Differing.{decided_text}
use Rattle.bully_draft.specs.Drafted.{Appends, Drafted, blank}
use Rattle.bully_draft.specs.Shown.{row_shown}
use Rattle.bully_explain.specs.SheetText.{AppendsForm, Begins, BeginsSheet, IsDecided, IsFormText, IsSheet, IsSheetOf, IsSheetText, form_head, head_text, place_text}

-- ---- more text behind a head

pub begins_more : (text part rest new : List ℕ) → Begins text part → new ≡ text ++ rest → Begins new part
begins_more text part rest new (behind, is) more = (behind ++ rest, more ∙ ap (λ t. t ++ rest) is ∙ append_assoc part behind rest)

pub sheet_more : (account : AccountState) (text rest new : List ℕ) → BeginsSheet account text → new ≡ text ++ rest → BeginsSheet account new
sheet_more account text rest new head more = record {
  verdict = head.verdict;
  judged = head.judged;
  stops = head.stops;
  begins = begins_more text _ rest new head.begins more;
}

pub form_more : (fault : TraceFault) (text rest new : List ℕ) → IsFormText fault text → new ≡ text ++ rest → IsFormText fault new
form_more fault text rest new (place, shown, begins) more = (place, shown, begins_more text (form_head fault place) rest new begins more)

-- all of a draft that was blank
pub sheet_whole : {A E : Type 0} (bytes : A → List ℕ) (account : AccountState) (verdict : Verdict) (head : List ℕ) (start draft : Drafted) (r : Result A E) → start ≡ blank
    → ((setup : Setup) (rows : List Row) → HasJudged setup rows account.judge → IsJudged setup (first_world setup) 0 2 rows verdict (world_of account.judge.world))
    → StopsAt account.judge.stopped account.stop → Appends start draft head → head ≡ head_text account.judge.world.setup (world_of account.judge.world) verdict account.stop
    → IfOk r (λ a. draft.has_failed ≡ false) → IfOk r (λ a. bytes a ≡ draft.text) → IfOk r (λ a. BeginsSheet account (bytes a))
sheet_whole bytes account verdict head start draft (Ok a) begun judged stops pushed is good same =
    let whole : bytes a ≡ head = same ∙ pushed.text good ∙ ap (λ (d : Drafted). d.text ++ head) begun in
    record { verdict = verdict; judged = judged; stops = stops; begins = ([], whole ∙ is ∙ sym (append-nil _)) }
sheet_whole bytes account verdict head start draft (Err e) begun judged stops pushed is good same = tt

pub form_whole : {A E : Type 0} (bytes : A → List ℕ) (fault : TraceFault) (draft : Drafted) (r : Result A E) → AppendsForm fault blank draft
    → IfOk r (λ a. draft.has_failed ≡ false) → IfOk r (λ a. bytes a ≡ draft.text) → IfOk r (λ a. IsFormText fault (bytes a))
form_whole bytes fault draft (Ok a) pushed good same =
    let (place, shown, is) = pushed.text good in
    (place, shown, ([], same ∙ is ∙ sym (append-nil _)))
form_whole bytes fault draft (Err e) pushed good same = tt

-- ---- a fault of form

grouped-no_row : (a p n t x y z : List ℕ) → (a ++ (p ++ n ++ t)) ++ (x ++ y ++ z) ≡ a ++ (p ++ n ++ t ++ x ++ y ++ z)
grouped-no_row a p n t x y z = simp append_assoc

-- there is no row
pub form_no_row : {a b c : Drafted} (fault : TraceFault) → Appends a b (codes "row " ++ decimal fault.row ++ codes ": there is none")
    → Appends b c (codes "\n" ++ trace_cause_text fault.cause ++ codes ": ") → AppendsForm fault a c
form_no_row {a} {b} {c} fault first second = record {
  memory = λ good. first.memory (second.memory good);
  text = λ good.
      let tail = codes "\n" ++ trace_cause_text fault.cause ++ codes ": " in (
        codes ": there is none",
        inl refl,
        second.text good ∙ ap (λ t. t ++ tail) (first.text (second.memory good))
            ∙ grouped-no_row a.text (codes "row ") (decimal fault.row) (codes ": there is none") (codes "\n") (trace_cause_text fault.cause) (codes ": "),
      );
}

grouped-row : (a p n l d e row x y z : List ℕ) → (a ++ (p ++ n ++ l ++ d ++ e) ++ row) ++ (x ++ y ++ z) ≡ a ++ (p ++ n ++ (l ++ d ++ e ++ row) ++ x ++ y ++ z)
grouped-row a p n l d e row x y z = simp append_assoc

-- the row of these fields at this line
pub form_row : {a b c d : Drafted} (fault : TraceFault) (line : ℕ) (fields : List (List ℕ)) → Appends a b (place_text fault.row line) → Appends b c (row_shown fields)
    → Appends c d (codes "\n" ++ trace_cause_text fault.cause ++ codes ": ") → AppendsForm fault a d
form_row {a} {b} {c} {d} fault line fields first second third = record {
  memory = λ good. first.memory (second.memory (third.memory good));
  text = λ good.
      let three = third.text good in
      let row = row_shown fields in
      let two = second.text (third.memory good) in
      let one = first.text (second.memory (third.memory good)) in
      let so_far = two ∙ ap (λ t. t ++ row) one in (
        codes " (line " ++ decimal line ++ codes "): " ++ row,
        inr (line, fields, refl),
        three ∙ ap (λ t. t ++ (codes "\n" ++ trace_cause_text fault.cause ++ codes ": ")) so_far
            ∙ grouped-row a.text (codes "row ") (decimal fault.row) (codes " (line ") (decimal line) (codes "): ") row (codes "\n") (trace_cause_text fault.cause) (codes ": "),
      );
}

-- ---- the sheet of a trace

-- the verdict and the row that decided, from what the judge came to
head-of : (setup : Setup) (rows : List Row) (w : World) (verdict : Verdict) (number : ℕ) (stop : Option Stop) (text : List ℕ)
    → IsSomeAnd stop (λ s. Some number ≡ Some s.number) → IfSome stop (λ s. IsRowAt rows s.number s.row)
    → ((s : Stop) → head_text setup w verdict (Some s) ≡ place_text s.number s.line ++ line_of (row_fields s.row) ++ decided_text setup w verdict s.row)
    → Begins text (head_text setup w verdict stop) → IsDecided setup rows w verdict number text
head-of setup rows w verdict number (Some s) text is at shows begins =
    let same : s.number ≡ number = grind (arith, is) in (
      s.row,
      s.line,
      subst (λ n. IsRowAt rows n s.row) same at,
      subst (λ n. Begins text (place_text n s.line ++ line_of (row_fields s.row) ++ decided_text setup w verdict s.row)) same (subst (Begins text) (shows s) begins),
    )
head-of setup rows w verdict number None text is at shows begins = absurd is

by-stop : (setup : Setup) (rows : List Row) (w : World) (verdict : Verdict) (stopped : Option Verdict) (stop : Option Stop) (count : ℕ) (text : List ℕ)
    → StopsAt stopped stop → IfSome stop (λ s. IsRowAt rows s.number s.row) → MatchOption stopped (verdict ≡ Verdict.Lawful count) (λ first. verdict ≡ first)
    → Begins text (head_text setup w verdict stop) → IsSheetText setup rows w verdict text
by-stop setup rows w (Verdict.Lawful n) stopped stop count text stops at is begins = begins
by-stop setup rows w (Verdict.Refused number why) None stop count text stops at is begins = absurd (grind (arith, is))
by-stop setup rows w (Verdict.Refused number why) (Some first) stop count text stops at is begins =
    head-of setup rows w (Verdict.Refused number why) number stop text (subst (λ v. IsSomeAnd stop (λ s. number_in v ≡ Some s.number)) (sym is) stops) at (λ s. refl) begins
by-stop setup rows w (Verdict.Differs number) None stop count text stops at is begins = absurd (grind (arith, is))
by-stop setup rows w (Verdict.Differs number) (Some first) stop count text stops at is begins =
    head-of setup rows w (Verdict.Differs number) number stop text (subst (λ v. IsSomeAnd stop (λ s. number_in v ≡ Some s.number)) (sym is) stops) at (λ s. refl) begins

-- the judge's verdict is lawful with its count, or the one that it stopped at
stopped-at : (setup : Setup) (rows : List Row) (judge : JudgeState) (trace : Trace) (stopped : Option Verdict) (verdict : Verdict) (w : World)
    → trace.setup ≡ setup → trace.rows ≡ rows → judge.stopped ≡ stopped → HasJudged setup rows judge → IsVerdict trace verdict w
    → MatchOption stopped (verdict ≡ Verdict.Lawful judge.world.events) (λ first. verdict ≡ first)
stopped-at setup rows judge trace None verdict w same all is judged told =
    let own = judged-all setup rows judge (Verdict.Lawful judge.world.events) (world_of judge.world) (rw is (refl, refl)) judged in
    (one-verdict trace verdict (Verdict.Lawful judge.world.events) w (world_of judge.world) told (rw (same, all) own)).0
stopped-at setup rows judge trace (Some first) verdict w same all is judged told =
    let own = judged-all setup rows judge first (world_of judge.world) (rw is (refl, refl)) judged in
    (one-verdict trace verdict first w (world_of judge.world) told (rw (same, all) own)).0

sheet-begins : (trace : Trace) (account : AccountState) (verdict : Verdict) (w : World) (text : List ℕ) → HasTaken trace.setup trace.rows account → BeginsSheet account text
    → IsVerdict trace verdict w → IsSheetText trace.setup trace.rows w verdict text
sheet-begins trace account verdict w text taken head told =
    let judge = account.judge in
    let one = one-verdict trace verdict head.verdict w (world_of judge.world) told (head.judged trace.setup trace.rows taken.judged) in
    let begins : Begins text (head_text trace.setup w verdict account.stop) =
    subst (λ v. Begins text (head_text trace.setup w v account.stop)) (sym one.0)
    (subst (λ x. Begins text (head_text trace.setup x head.verdict account.stop)) (sym one.1) (subst (λ s. Begins text (head_text s (world_of judge.world) head.verdict account.stop)) taken.judged.same head.begins)) in
    by-stop trace.setup trace.rows w verdict judge.stopped account.stop judge.world.events text head.stops taken.decided
    (stopped-at trace.setup trace.rows judge trace judge.stopped verdict w refl refl refl taken.judged told) begins

sheet-told : (bytes : List ℕ) (account : AccountState) (verdict : Verdict) (sheets : List NodeSheet) (text : List ℕ) → OfTrace (Some bytes) (Explains verdict sheets)
    → OfTrace (Some bytes) (λ trace. HasTaken trace.setup trace.rows account) → BeginsSheet account text → OfTrace (Some bytes) (IsSheet verdict sheets text)
sheet-told bytes account verdict sheets text (trace, is, e) (other, also, taken) head =
    let same : other ≡ trace = grind (arith, is, also) in
    let own : HasTaken trace.setup trace.rows account = subst (λ (t : Trace). HasTaken t.setup t.rows account) same taken in
    (trace, is, record { explains = e; begins = sheet-begins trace account verdict (world_of e.world) text own head e.judged })

pub sheet-of : (known : Option (List ℕ)) (account : Option AccountState) (sheets : List NodeSheet) (text : List ℕ) (told : Result Verdict TraceFault) → IsToldOf known sheets told
    → IfOk told (λ verdict. IsSome account) → IfOk told (λ verdict. IfSome account (λ a. OfTrace known (λ trace. HasTaken trace.setup trace.rows a)))
    → IfOk told (λ verdict. IfSome account (λ a. BeginsSheet a text)) → IfErr told (λ fault. IsFormText fault text) → IsSheetOf known sheets text told
sheet-of known account sheets text (Err fault) is some taken head form = (is, form)
sheet-of known None sheets text (Ok verdict) is some taken head form = absurd (cc some)
sheet-of None (Some account) sheets text (Ok verdict) is some taken head form = tt
sheet-of (Some bytes) (Some account) sheets text (Ok verdict) is some taken head form = sheet-told bytes account verdict sheets text is taken head
