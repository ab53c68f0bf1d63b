-- What a judge makes of one row more is what the rows come to.
use Rattle.std.proofs.Common.{◌≡◌, ◌+◌, ◌++◌, ℕ, Bool, true, false, List, [], ◌∷◌, Option, Some, None, MatchOption, length, option_map, refl, sym, ap, subst, ◌∙◌, IfSome, option_and_then, append_assoc}
use Rattle.std.specs.Bool.{MatchBool}
use Rattle.bully_base.specs.Setup.{Setup}
use Rattle.bully_calls.specs.declared.call.Answer.{Answer}
use Rattle.bully_calls.specs.declared.event.Event.{Event}
use Rattle.bully_calls.specs.declared.event.Refused.{Refused}
use Rattle.bully_rows.specs.EventsTold.{event_of_detailed}
use Rattle.bully_rows.specs.declared.header.Version.{Version}
use Rattle.bully_rows.specs.declared.trace.Row.{Row}
use Rattle.bully_trace.specs.Details.{is_so, is_true, is_whole}
use Rattle.bully_trace.specs.Judging.{HasJudged, IsJudgedOn, JudgeState}
use Rattle.bully_trace.specs.OneRow.{IsRowTaken, IsTakenBy, differs_unless, refused_or, verdict_at, violation_in, violation_of}
use Rattle.bully_trace.specs.Verdict.{IsJudged}
use Rattle.bully_trace.specs.declared.verdict.Verdict.{Verdict}
use Rattle.bully_trace.specs.declared.verdict.Violation.{Violation}
use Rattle.bully_world.specs.State.{IsApplied, WorldState, cause_in, world_of}
use Rattle.bully_world.specs.Step.{Step}
use Rattle.bully_world.specs.World.{World, first_world}
use Rattle.bully_trace.proofs.JudgeLemmas.{judged-more}

-- an event was applied: the rows behind it are judged from the world that it led to
behind-applied : (before after : WorldState) (e : Event) (number : ℕ) (more : List Row) (verdict : Verdict) (w : World)
    → ((a : Answer) × IsApplied before e after a) → IsJudged after.setup (world_of after) after.events (number + 1) more verdict w
    → (mid : World) × (a : Answer) × Step before.setup (world_of before) e mid a × IsJudged before.setup mid (before.events + 1) (number + 1) more verdict w
behind-applied before after e number more verdict w (a, applied) on = (
  world_of after,
  a,
  applied.step,
  subst (λ s. IsJudged s (world_of after) (before.events + 1) (number + 1) more verdict w) applied.setup (
      subst (λ n. IsJudged after.setup (world_of after) n (number + 1) more verdict w) applied.counted on),
)

-- something is wrong with the row: the verdict says it, and the world is as it was
at-stop : (before after : WorldState) (first verdict : Verdict) (w : World) → after ≡ before → (verdict ≡ first) × (w ≡ world_of after) → (verdict ≡ first) × (w ≡ world_of before)
at-stop before after first verdict w same on = (on.0, on.1 ∙ ap world_of same)

-- a claim that is true leaves the world as it is
behind-claim : (before after : WorldState) (number : ℕ) (so : Bool) (stopped : Option Verdict) (more : List Row) (verdict : Verdict) (w : World)
    → stopped ≡ option_map (verdict_at number) (differs_unless so) → (stopped ≡ None → after ≡ before) → IfSome stopped (λ verdict. after ≡ before)
    → IsJudgedOn after stopped (number + 1) more verdict w
    → MatchBool so (IsJudged before.setup (world_of before) before.events (number + 1) more verdict w) ((verdict ≡ Verdict.Differs number) × (w ≡ world_of before))
behind-claim before after number true stopped more verdict w decides taken stays on =
    let same : after ≡ before = taken decides in
    let going : IsJudged after.setup (world_of after) after.events (number + 1) more verdict w = rw decides at on in
    subst (λ (s : WorldState). IsJudged s.setup (world_of s) s.events (number + 1) more verdict w) same going
behind-claim before after number false stopped more verdict w decides taken stays on =
    let same : after ≡ before = rw decides at stays in
    let told : (verdict ≡ Verdict.Differs number) × (w ≡ world_of after) = rw decides at on in
    at-stop before after (Verdict.Differs number) verdict w same told

row-judged : (before after : WorldState) (number : ℕ) (row : Row) (stopped : Option Verdict) (more : List Row) (verdict : Verdict) (w : World)
    → stopped ≡ option_map (verdict_at number) (violation_of before row) → (stopped ≡ None → IsRowTaken before row after) → IfSome stopped (λ verdict. after ≡ before)
    → IsJudgedOn after stopped (number + 1) more verdict w
    → IsJudged before.setup (world_of before) before.events number (row ∷ more) verdict w
row-judged before after number (Row.Event e) stopped more verdict w decides taken stays on = by_cause (cause_in before e) decides
  where
    by_cause : (q : Option Refused) → stopped ≡ option_map (verdict_at number) (refused_or q None)
        → MatchOption q ((mid : World) × (a : Answer) × Step before.setup (world_of before) e mid a × IsJudged before.setup mid (before.events + 1) (number + 1) more verdict w)
        (λ why. (verdict ≡ Verdict.Refused number why) × (w ≡ world_of before))
    by_cause None is =
        let going : IsJudged after.setup (world_of after) after.events (number + 1) more verdict w = rw is at on in
        behind-applied before after e number more verdict w (taken is) going
    by_cause (Some why) is =
        let same : after ≡ before = rw is at stays in
        let told : (verdict ≡ Verdict.Refused number why) × (w ≡ world_of after) = rw is at on in
        at-stop before after (Verdict.Refused number why) verdict w same told
row-judged before after number (Row.Detailed e) stopped more verdict w decides taken stays on =
    by_cause (cause_in before (event_of_detailed e)) (is_so before.setup (world_of before) e) decides
  where
    by_cause : (q : Option Refused) (so : Bool) → stopped ≡ option_map (verdict_at number) (refused_or q (differs_unless so))
        → MatchOption q (MatchBool so ((mid : World) × (a : Answer) × Step before.setup (world_of before) (event_of_detailed e) mid a × IsJudged before.setup mid (before.events + 1) (number + 1) more verdict w)
        ((verdict ≡ Verdict.Differs number) × (w ≡ world_of before))) (λ why. (verdict ≡ Verdict.Refused number why) × (w ≡ world_of before))
    by_cause None true is =
        let going : IsJudged after.setup (world_of after) after.events (number + 1) more verdict w = rw is at on in
        behind-applied before after (event_of_detailed e) number more verdict w (taken is) going
    by_cause None false is =
        let same : after ≡ before = rw is at stays in
        let told : (verdict ≡ Verdict.Differs number) × (w ≡ world_of after) = rw is at on in
        at-stop before after (Verdict.Differs number) verdict w same told
    by_cause (Some why) so is =
        let same : after ≡ before = rw is at stays in
        let told : (verdict ≡ Verdict.Refused number why) × (w ≡ world_of after) = rw is at on in
        at-stop before after (Verdict.Refused number why) verdict w same told
row-judged before after number (Row.Claim claim) stopped more verdict w decides taken stays on =
    behind-claim before after number (is_true before.setup (world_of before) claim) stopped more verdict w decides taken stays on
row-judged before after number (Row.Whole whole) stopped more verdict w decides taken stays on =
    behind-claim before after number (is_whole before.setup (world_of before) whole) stopped more verdict w decides taken stays on

-- an event that was applied leaves the setup, and a claim the world
setup-kept : (before after : WorldState) (row : Row) (stopped : Option Verdict) → (stopped ≡ None → IsRowTaken before row after) → IfSome stopped (λ verdict. after ≡ before) → after.setup ≡ before.setup
setup-kept before after row (Some first) taken stays = ap (λ (s : WorldState). s.setup) stays
setup-kept before after (Row.Event e) None taken stays = (taken refl).1.setup
setup-kept before after (Row.Detailed e) None taken stays = (taken refl).1.setup
setup-kept before after (Row.Claim claim) None taken stays = ap (λ (s : WorldState). s.setup) (taken refl)
setup-kept before after (Row.Whole whole) None taken stays = ap (λ (s : WorldState). s.setup) (taken refl)

-- behind one more row, whether one before it decided or not
pub taken_judged : (number : ℕ) (row : Row) (before after : JudgeState) → IsTakenBy number row before after
    → (setup : Setup) (rows : List Row) → length rows + 2 ≡ number → HasJudged setup rows before → HasJudged setup (rows ++ row ∷ []) after
taken_judged number row before after taken setup rows at judged = by_stop before.stopped refl
  where
    still : (first : Verdict) → before.stopped ≡ Some first → after ≡ before → HasJudged setup (rows ++ row ∷ []) before
    still first is same = record {
      same = judged.same;
      judged = λ more verdict w on.
          let told : IsJudgedOn before.world before.stopped (length rows + 2) (row ∷ more) verdict w = rw is (rw is at on) in
          subst (λ all. IsJudged setup (first_world setup) 0 2 all verdict w) (sym (append_assoc rows (row ∷ []) more)) (judged.judged (row ∷ more) verdict w told);
    }

    by_stop : (q : Option Verdict) → before.stopped ≡ q → HasJudged setup (rows ++ row ∷ []) after
    by_stop (Some first) is =
        let same : after ≡ before = subst (λ q. IfSome q (λ verdict. after ≡ before)) is taken.decided in
        subst (HasJudged setup (rows ++ row ∷ [])) (sym same) (still first is same)
    by_stop None is =
        judged-more setup rows number row before after is (setup-kept before.world after.world row after.stopped (taken.taken is) taken.stays) at
        (λ more verdict w. row-judged before.world after.world number row after.stopped more verdict w (taken.decides is) (taken.taken is) taken.stays)
        judged

-- behind one more row with which nothing is wrong
pub row_judged_more : (row : Row) (version : Version) (before after : WorldState) → violation_of before row ≡ None → IsRowTaken before row after
    → (setup : Setup) (rows : List Row) → HasJudged setup rows (record { version = version; world = before; stopped = None })
    → HasJudged setup (rows ++ row ∷ []) (record { version = version; world = after; stopped = None })
row_judged_more row version before after right taken setup rows judged =
    taken_judged (length rows + 2) row (record { version = version; world = before; stopped = None }) (record { version = version; world = after; stopped = None })
    (record {
      decided = tt;
      decides = λ is. rw right refl;
      taken = λ is going. taken;
      stays = tt;
    }) setup rows refl judged

-- what a judge is told to pass over is what is wrong with the row
pub told_violation : (number : ℕ) (row : Row) (before mid : JudgeState) → before.stopped ≡ None → IsTakenBy number row before mid → option_and_then violation_in mid.stopped ≡ violation_of before.world row
told_violation number row before mid going taken = by_told (violation_of before.world row) (taken.decides going)
  where
    by_told : (q : Option Violation) → mid.stopped ≡ option_map (verdict_at number) q → option_and_then violation_in mid.stopped ≡ q
    by_told None is = rw is refl
    by_told (Some (Violation.Refused why)) is = rw is refl
    by_told (Some Violation.Differs) is = rw is refl

-- where nothing is, it was taken
pub taken_if_right : (number : ℕ) (row : Row) (before mid : JudgeState) → before.stopped ≡ None → IsTakenBy number row before mid → violation_of before.world row ≡ None → IsRowTaken before.world row mid.world
taken_if_right number row before mid going taken right = taken.taken going (taken.decides going ∙ ap (option_map (verdict_at number)) right)
