-- A trace has one verdict, and that of a lawful list is lawful.
use Rattle.std.proofs.Common.{◌≡◌, ◌∙◌, ℕ, suc, ◌+◌, ◌≤◌, Bool, true, false, List, [], ◌∷◌, length, map, Option, Some, None, MatchOption, arith, sym, ap, subst}
use Rattle.std.specs.Bool.{MatchBool}
use Rattle.bully_base.specs.Setup.{Setup}
use Rattle.bully_calls.specs.declared.call.Answer.{Answer}
use Rattle.bully_calls.specs.declared.event.Event.{Event}
use Rattle.bully_calls.specs.declared.event.Refused.{Refused}
use Rattle.bully_world.specs.Cause.{cause}
use Rattle.bully_world.specs.Lawful.{LeadTo}
use Rattle.bully_world.specs.NodeInvariant.{WorldInvariant}
use Rattle.bully_world.specs.Step.{Step}
use Rattle.bully_world.specs.World.{World, first_world}
use Rattle.bully_world.proofs.Events.{event_laws}
use Rattle.bully_world.proofs.NodeInvariantLemmas.{first_fits, step_fits}
use Rattle.bully_world.proofs.StepOfLemmas.{step_is_one}
use Rattle.bully_rows.specs.declared.trace.Row.{Row}
use Rattle.bully_rows.specs.EventsTold.{event_of_detailed}
use Rattle.bully_trace.specs.declared.verdict.Verdict.{Verdict}
use Rattle.bully_trace.specs.Details.{is_so, is_true, is_whole}
use Rattle.bully_trace.specs.OneVerdict.{HasOneVerdict, JudgesLawful}
use Rattle.bully_trace.specs.Verdict.{IsJudged}

abbrev Same : Verdict → Verdict → World → World → Type 0
Same verdict other w v = (verdict ≡ other) × (w ≡ v)

module _ (verdict other : Verdict) (w' v' : World) where
  ended : (told : Verdict) (w : World) → (verdict ≡ told) × (w' ≡ w) → (other ≡ told) × (v' ≡ w) → Same verdict other w' v'
  ended told w one two = (one.0 ∙ sym two.0, one.1 ∙ sym two.1)

  -- behind an event that is possible
  stepped : (setup : Setup) (w : World) (e : Event) (Then : Verdict → World → World → Type 0) → ((mid : World) → Then verdict mid w' → Then other mid v' → Same verdict other w' v')
      → (mid : World) × (a : Answer) × Step setup w e mid a × Then verdict mid w' → (mid : World) × (a : Answer) × Step setup w e mid a × Then other mid v' → Same verdict other w' v'
  stepped setup w e Then more (mid, a, step, j) (next, b, other_step, k) =
      let one = step_is_one setup w e mid next a b step other_step in
      more mid j (subst (λ m. Then other m v') one.0 k)

  by_claim : (holds : Bool) (told : Verdict) (w : World) (One Two : Type 0) → (One → Two → Same verdict other w' v')
      → MatchBool holds One ((verdict ≡ told) × (w' ≡ w)) → MatchBool holds Two ((other ≡ told) × (v' ≡ w)) → Same verdict other w' v'
  by_claim true told w One Two more j k = more j k
  by_claim false told w One Two more j k = ended told w j k

  by_event : (q : Option Refused) (told : Refused → Verdict) (w : World) (One Two : Type 0) → (One → Two → Same verdict other w' v')
      → MatchOption q One (λ why. (verdict ≡ told why) × (w' ≡ w)) → MatchOption q Two (λ why. (other ≡ told why) × (v' ≡ w)) → Same verdict other w' v'
  by_event None told w One Two more j k = more j k
  by_event (Some why) told w One Two more j k = ended (told why) w j k

judged-one : (setup : Setup) (w : World) (count number : ℕ) (rows : List Row) (verdict other : Verdict) (w' v' : World) → IsJudged setup w count number rows verdict w'
    → IsJudged setup w count number rows other v' → Same verdict other w' v'
judged-one setup w count number [] verdict other w' v' j k = ended verdict other w' v' (Verdict.Lawful count) w j k
judged-one setup w count number (Row.Event e ∷ rows) verdict other w' v' j k =
    by_event verdict other w' v' (cause setup w count e) (Verdict.Refused number) w _ _
    (stepped verdict other w' v' setup w e (λ told mid after. IsJudged setup mid (count + 1) (number + 1) rows told after)
    (λ mid. judged-one setup mid (count + 1) (number + 1) rows verdict other w' v')) j k
judged-one setup w count number (Row.Detailed d ∷ rows) verdict other w' v' j k =
    by_event verdict other w' v' (cause setup w count (event_of_detailed d)) (Verdict.Refused number) w _ _
    (by_claim verdict other w' v' (is_so setup w d) (Verdict.Differs number) w _ _
    (stepped verdict other w' v' setup w (event_of_detailed d) (λ told mid after. IsJudged setup mid (count + 1) (number + 1) rows told after)
    (λ mid. judged-one setup mid (count + 1) (number + 1) rows verdict other w' v'))) j k
judged-one setup w count number (Row.Claim claim ∷ rows) verdict other w' v' j k =
    by_claim verdict other w' v' (is_true setup w claim) (Verdict.Differs number) w _ _ (judged-one setup w count (number + 1) rows verdict other w' v') j k
judged-one setup w count number (Row.Whole whole ∷ rows) verdict other w' v' j k =
    by_claim verdict other w' v' (is_whole setup w whole) (Verdict.Differs number) w _ _ (judged-one setup w count (number + 1) rows verdict other w' v') j k

pub one-verdict : HasOneVerdict
one-verdict trace verdict other w v j k = judged-one trace.setup (first_world trace.setup) 0 2 trace.rows verdict other w v j k

-- ---- lawful lists

lawful-from : (setup : Setup) (w : World) (count number : ℕ) (events : List Event) (answers : List Answer) (w' : World) → WorldInvariant setup w → count + length events ≤ setup.events_max
    → LeadTo setup w events answers w' → IsJudged setup w count number (map Row.Event events) (Verdict.Lawful (count + length events)) w'
lawful-from setup w count number [] [] w' fits room l = (ap Verdict.Lawful (omega arith), l)
lawful-from setup w count number [] (a ∷ answers) w' fits room l = elim l [ ]
lawful-from setup w count number (e ∷ events) [] w' fits room l = elim l [ ]
lawful-from setup w count number (e ∷ events) (a ∷ answers) w' fits room (mid, step, l) =
    let none : cause setup w count e ≡ None = (event_laws setup e).free w mid count a fits (omega (arith, room)) step in
    let size : (count + 1) + length events ≡ count + suc (length events) = omega arith in
    let more = lawful-from setup mid (count + 1) (number + 1) events answers w' (step_fits setup w e mid a step fits) (omega (arith, room)) l in
    rw none (mid, a, step, subst (λ n. IsJudged setup mid (count + 1) (number + 1) (map Row.Event events) (Verdict.Lawful n) w') size more)

pub judges-lawful : JudgesLawful
judges-lawful version setup events answers w lawful =
    let room = lawful.bounded in
    subst (λ n. IsJudged setup (first_world setup) 0 2 (map Row.Event events) (Verdict.Lawful n) w) (omega arith)
    (lawful-from setup (first_world setup) 0 2 events answers w (first_fits setup) (omega (arith, room)) lawful.leads)
