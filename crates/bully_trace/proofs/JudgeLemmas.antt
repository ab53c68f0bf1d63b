-- The verdict on rows that were judged one by one, and what it says of their events.
use Rattle.std.proofs.Common.{◌≡◌, ℕ, ◌+◌, ◌≤◌, ◌++◌, take, drop, Bool, true, false, List, [], ◌∷◌, Option, Some, None, MatchOption, length, ◌∙◌, refl, sym, ap, subst, arith, append_assoc, append-nil, length-append, take-append-drop}
use Rattle.std.specs.Bool.{MatchBool}
use Rattle.bully_base.specs.Setup.{Setup}
use Rattle.bully_calls.specs.declared.call.Answer.{Answer}
use Rattle.bully_calls.specs.declared.event.Event.{Event}
use Rattle.bully_calls.specs.declared.event.Refused.{Refused}
use Rattle.bully_world.specs.Cause.{cause}
use Rattle.bully_world.specs.Lawful.{IsLawful, LeadTo}
use Rattle.bully_world.specs.Step.{Step}
use Rattle.bully_world.specs.State.{world_of}
use Rattle.bully_world.specs.World.{World, first_world}
use Rattle.bully_world.proofs.LawfulLemmas.{lead_split}
use Rattle.bully_world.proofs.ApplyLemmas.{room_of}
use Rattle.bully_agree.proofs.Law.{agreement_lem}
use Rattle.bully_agree.specs.Agreement.{Agreement}
use Rattle.bully_rows.specs.declared.trace.Row.{Row}
use Rattle.bully_trace.specs.declared.verdict.Verdict.{Verdict}
use Rattle.bully_trace.specs.Judging.{HasJudged, IsJudgedOn, JudgeState}
use Rattle.bully_rows.specs.Trace.{Trace}
use Rattle.bully_rows.specs.EventsTold.{event_of_detailed}
use Rattle.bully_trace.specs.Details.{is_so, is_true, is_whole}
use Rattle.bully_trace.specs.Verdict.{AgreesAfterEachRow, IsJudged, IsVerdict, IsLawfulCount, events_of}

-- behind the last row
pub judged-all : (setup : Setup) (rows : List Row) (judge : JudgeState) (verdict : Verdict) (w : World) → IsJudgedOn judge.world judge.stopped (length rows + 2) [] verdict w
    → HasJudged setup rows judge → IsJudged setup (first_world setup) 0 2 rows verdict w
judged-all setup rows judge verdict w is judged =
    subst (λ all. IsJudged setup (first_world setup) 0 2 all verdict w) (append-nil rows) (judged.judged [] verdict w is)

-- behind one more row, where no row before it decided
pub judged-more : (setup : Setup) (rows : List Row) (number : ℕ) (row : Row) (before after : JudgeState)
    → before.stopped ≡ None → after.world.setup ≡ before.world.setup → length rows + 2 ≡ number
    → ((more : List Row) (verdict : Verdict) (w : World) → IsJudgedOn after.world after.stopped (number + 1) more verdict w
    → IsJudged before.world.setup (world_of before.world) before.world.events number (row ∷ more) verdict w)
    → HasJudged setup rows before → HasJudged setup (rows ++ (row ∷ [])) after
judged-more setup rows number row before after going same at takes judged = record {
  same = same ∙ judged.same;
  judged = λ more verdict w on.
      let behind : length (rows ++ (row ∷ [])) + 2 ≡ number + 1 = omega (arith, length-append rows (row ∷ []), at) in
      let here = takes more verdict w (subst (λ n. IsJudgedOn after.world after.stopped n more verdict w) behind on) in
      subst (λ all. IsJudged setup (first_world setup) 0 2 all verdict w) (sym (append_assoc rows (row ∷ []) more))
      (judged.judged (row ∷ more) verdict w (rw (going, at) here));
}

-- rows that are judged lawful mean events that lead from the world to the last one
pub record Leads (setup : Setup) (w : World) (before : ℕ) (rows : List Row) (after : ℕ) (w' : World) : Type 0 where
  pub answers : List Answer
  pub leads : LeadTo setup w (events_of rows) answers w'
  pub counted : before + length (events_of rows) ≡ after
  pub bounded : before ≤ setup.events_max → after ≤ setup.events_max

-- a claim of a lawful trace is true
pub by_claim : {J P : Type 0} (number after : ℕ) (w w' : World) (holds : Bool)
    → MatchBool holds J ((Verdict.Lawful after ≡ Verdict.Differs number) × (w' ≡ w)) → (J → P) → P
by_claim number after w w' true j more = more j
by_claim number after w w' false j more = absurd (cc j.0)

-- behind a row of an event that is possible
behind-event : (setup : Setup) (w mid : World) (before : ℕ) (row : Row) (rows : List Row) (e : Event) (a : Answer) (after : ℕ) (w' : World)
    → events_of (row ∷ rows) ≡ e ∷ events_of rows → cause setup w before e ≡ None → Step setup w e mid a
    → Leads setup mid (before + 1) rows after w' → Leads setup w before (row ∷ rows) after w'
behind-event setup w mid before row rows e a after w' same none step rest = record {
  answers = a ∷ rest.answers;
  leads = rw same (mid, step, rest.leads);
  counted = rw same (omega (arith, rest.counted));
  bounded = λ b. rest.bounded (omega (arith, room_of setup w before e none));
}

-- behind a claim
behind-claim : (setup : Setup) (w : World) (before : ℕ) (row : Row) (rows : List Row) (after : ℕ) (w' : World)
    → events_of (row ∷ rows) ≡ events_of rows → Leads setup w before rows after w' → Leads setup w before (row ∷ rows) after w'
behind-claim setup w before row rows after w' same rest = record {
  answers = rest.answers;
  leads = rw same rest.leads;
  counted = rw same rest.counted;
  bounded = rest.bounded;
}

pub judged_leads : (setup : Setup) (w : World) (before number : ℕ) (rows : List Row) (after : ℕ) (w' : World) → IsJudged setup w before number rows (Verdict.Lawful after) w' → Leads setup w before rows after w'
judged_leads setup w before number [] after w' j = record { answers = []; leads = j.1; counted = grind (arith, j.0); bounded = λ b. grind (arith, j.0, b) }
judged_leads setup w before number (Row.Event e ∷ rows) after w' j = by_cause (λ w before number after w' j. judged_leads setup w before number rows after w' j) (cause setup w before e) refl j
  where
    by_cause : ((w : World) (before number after : ℕ) (w' : World) → IsJudged setup w before number rows (Verdict.Lawful after) w' → Leads setup w before rows after w')
        → (q : Option Refused) → cause setup w before e ≡ q
        → MatchOption q ((mid : World) × (a : Answer) × Step setup w e mid a × IsJudged setup mid (before + 1) (number + 1) rows (Verdict.Lawful after) w') (λ why. (Verdict.Lawful after ≡ Verdict.Refused number why) × (w' ≡ w))
        → Leads setup w before (Row.Event e ∷ rows) after w'
    by_cause more None none (mid, a, step, j) = behind-event setup w mid before (Row.Event e) rows e a after w' refl none step (more mid (before + 1) (number + 1) after w' j)
    by_cause more (Some why) is j = absurd (cc j.0)
judged_leads setup w before number (Row.Detailed e ∷ rows) after w' j =
    by_cause (λ w before number after w' j. judged_leads setup w before number rows after w' j) (cause setup w before (event_of_detailed e)) (is_so setup w e) refl j
  where
    by_cause : ((w : World) (before number after : ℕ) (w' : World) → IsJudged setup w before number rows (Verdict.Lawful after) w' → Leads setup w before rows after w')
        → (q : Option Refused) (so : Bool) → cause setup w before (event_of_detailed e) ≡ q
        → MatchOption q (MatchBool so ((mid : World) × (a : Answer) × Step setup w (event_of_detailed e) mid a × IsJudged setup mid (before + 1) (number + 1) rows (Verdict.Lawful after) w')
        ((Verdict.Lawful after ≡ Verdict.Differs number) × (w' ≡ w))) (λ why. (Verdict.Lawful after ≡ Verdict.Refused number why) × (w' ≡ w))
        → Leads setup w before (Row.Detailed e ∷ rows) after w'
    by_cause more None true none (mid, a, step, j) =
        behind-event setup w mid before (Row.Detailed e) rows (event_of_detailed e) a after w' refl none step (more mid (before + 1) (number + 1) after w' j)
    by_cause more None false none j = absurd (cc j.0)
    by_cause more (Some why) so is j = absurd (cc j.0)
judged_leads setup w before number (Row.Claim claim ∷ rows) after w' j =
    by_claim number after w w' (is_true setup w claim) j (λ j. behind-claim setup w before (Row.Claim claim) rows after w' refl (judged_leads setup w before (number + 1) rows after w' j))
judged_leads setup w before number (Row.Whole whole ∷ rows) after w' j =
    by_claim number after w w' (is_whole setup w whole) j (λ j. behind-claim setup w before (Row.Whole whole) rows after w' refl (judged_leads setup w before (number + 1) rows after w' j))

-- a lawful verdict counts the events of a lawful list
pub lawful_count : (trace : Trace) (verdict : Verdict) (w : World) → IsVerdict trace verdict w → IsLawfulCount trace verdict
lawful_count trace (Verdict.Lawful count) w v =
    let l = judged_leads trace.setup (first_world trace.setup) 0 2 trace.rows count w v in
    (l.answers, w, record { leads = l.leads; bounded = omega (arith, l.counted, l.bounded (omega arith)) }, omega (arith, l.counted))
lawful_count trace (Verdict.Refused number why) w v = tt
lawful_count trace (Verdict.Differs number) w v = tt

pub events-append : (rows more : List Row) → events_of (rows ++ more) ≡ events_of rows ++ events_of more
events-append [] more = refl
events-append (Row.Event e ∷ rows) more = ap (λ events. e ∷ events) (events-append rows more)
events-append (Row.Detailed e ∷ rows) more = ap (λ events. event_of_detailed e ∷ events) (events-append rows more)
events-append (Row.Claim claim ∷ rows) more = events-append rows more
events-append (Row.Whole whole ∷ rows) more = events-append rows more

events-parted : (rows : List Row) (k : ℕ) → events_of rows ≡ events_of (take k rows) ++ events_of (drop k rows)
events-parted rows k = ap events_of (sym (take-append-drop k rows)) ∙ events-append (take k rows) (drop k rows)

-- the first events of a lawful list are lawful, and the nodes agree in the world that they lead to
agreed_between : (setup : Setup) (events more : List Event) (answers : List Answer) (w : World) → IsLawful setup (events ++ more) answers w → (answers : List Answer) × (w : World) × IsLawful setup events answers w × Agreement w
agreed_between setup events more answers w lawful =
    let parts = lead_split setup (first_world setup) events more answers w lawful.leads in
    let size : length (events ++ more) ≡ length events + length more = length-append events more in
    let here : IsLawful setup events parts.0 parts.2 = record { leads = parts.4; bounded = omega (arith, size, lawful.bounded) } in
    (parts.0, parts.2, here, agreement_lem setup events parts.0 parts.2 here)

-- behind each row of a lawful trace the nodes agree
pub agrees_after : (trace : Trace) (verdict : Verdict) (w : World) → IsVerdict trace verdict w → AgreesAfterEachRow trace verdict
agrees_after trace (Verdict.Lawful count) w v = λ k.
    let l = lawful_count trace (Verdict.Lawful count) w v in
    agreed_between trace.setup (events_of (take k trace.rows)) (events_of (drop k trace.rows)) l.0 l.1 (subst (λ events. IsLawful trace.setup events l.0 l.1) (events-parted trace.rows k) l.2)
agrees_after trace (Verdict.Refused number why) w v = tt
agrees_after trace (Verdict.Differs number) w v = tt
