-- What an account comes to behind each row.
use Rattle.std.proofs.Common.{◌≡◌, ◌∙◌, ℕ, ◌+◌, ◌-◌, ◌≤◌, ◌++◌, List, [], ◌∷◌, Option, Some, None, MatchOption, length, take, refl, sym, ap, subst, arith, IfSome, IsSomeAnd}
use Rattle.std.proofs.lemmas.List.{take-append-le}
use Rattle.std.proofs.lemmas.Option.{same_Some}
use Rattle.std.proofs.Math.Seq.{take-append_seam}
use Rattle.bully_base.specs.Setup.{Setup}
use Rattle.bully_calls.specs.declared.call.Answer.{Answer}
use Rattle.bully_calls.specs.declared.event.Event.{Event}
use Rattle.bully_calls.specs.Events.{node_of}
use Rattle.bully_rows.specs.declared.trace.Row.{Row}
use Rattle.bully_rows.specs.EventsTold.{event_of_detailed}
use Rattle.bully_trace.specs.declared.verdict.Verdict.{Verdict}
use Rattle.bully_trace.specs.Judging.{AreAllJudged, HasJudged, JudgeState}
use Rattle.bully_trace.specs.OneRow.{IsRowTaken, IsTakenBy}
use Rattle.bully_world.specs.State.{IsApplied, WorldState, world_of}
use Rattle.bully_world.specs.Step.{Step}
use Rattle.bully_account.specs.declared.account.Stop.{Stop}
use Rattle.bully_account.specs.declared.moving.Moves.{Moves}
use Rattle.bully_account.specs.Accounts.{AccountState, AreAllTaken, HasTaken, StopsAt, rows_before}
use Rattle.bully_account.specs.Moving.{moves_in}
use Rattle.bully_account.specs.Remembered.{Remembered, behind_event, each_from}
use Rattle.bully_account.specs.RowsOf.{AreRemembered, IsBehind, IsRowAt, event_in}
use Rattle.bully_account.proofs.MovingLemmas.{step-node}
use Rattle.bully_account.proofs.RowsLemmas.{remembered-all, remembered-claim, remembered-each, remembered-event, row-below, row-last, row-more}
use Rattle.bully_account.proofs.StepLemmas.{behind-fits, judge-behind}

-- ---- behind a row that decides, or behind one that did

-- the row that decided is one of the rows, behind one more
pub decided-kept : (rows : List Row) (row : Row) (number : ℕ) (stop stop' : Option Stop) → length rows + 2 ≡ number → IfSome stop (λ s. IsRowAt rows s.number s.row)
    → (stop ≡ None → IsSomeAnd stop' (λ s. (s.number ≡ number) × (s.row ≡ row))) → IfSome stop (λ s. stop' ≡ stop)
    → IfSome stop' (λ s. IsRowAt (rows ++ row ∷ []) s.number s.row)
decided-kept rows row number (Some s) stop' place is first other = rw other (row-more rows row s.number s.row is)
decided-kept rows row number None stop' place is first other = kept stop' (first refl)
  where
    kept : (new : Option Stop) → IsSomeAnd new (λ s. (s.number ≡ number) × (s.row ≡ row)) → IfSome new (λ s. IsRowAt (rows ++ row ∷ []) s.number s.row)
    kept None is = tt
    kept (Some s) (same, says) = rw (same, says) (row-last rows row number place)

-- and the rows before it are the same
before-kept : (rows : List Row) (row : Row) (number : ℕ) (stop stop' : Option Stop) → length rows + 2 ≡ number → IfSome stop (λ s. IsRowAt rows s.number s.row)
    → (stop ≡ None → IsSomeAnd stop' (λ s. (s.number ≡ number) × (s.row ≡ row))) → IfSome stop (λ s. stop' ≡ stop)
    → rows_before stop' (rows ++ row ∷ []) ≡ rows_before stop rows
before-kept rows row number (Some s) stop' place is first other =
    let below = row-below rows s.number s.row is in
    ap (λ (o : Option Stop). rows_before o (rows ++ row ∷ [])) other ∙ take-append-le (s.number - 2) rows (row ∷ []) (omega (arith, below))
before-kept rows row number None stop' place is first other = kept stop' (first refl)
  where
    kept : (new : Option Stop) → IsSomeAnd new (λ s. (s.number ≡ number) × (s.row ≡ row)) → rows_before new (rows ++ row ∷ []) ≡ rows
    kept None is = absurd is
    kept (Some s) (same, says) =
        let size : s.number - 2 ≡ length rows = omega (arith, same, place) in
        ap (λ (n : ℕ). take n (rows ++ row ∷ [])) size ∙ take-append_seam rows (row ∷ [])

pub stopped-more : (rows : List Row) (row : Row) (setup : Setup) (number : ℕ) (judge after : JudgeState) (stop stop' : Option Stop) (memories : List Remembered) → length rows + 2 ≡ number
    → HasTaken setup rows (record { judge = judge; stop = stop; memories = memories })
    → HasJudged setup (rows ++ row ∷ []) after
    → (stop ≡ None → IsSomeAnd stop' (λ s. (s.number ≡ number) × (s.row ≡ row))) → IfSome stop (λ s. stop' ≡ stop)
    → HasTaken setup (rows ++ row ∷ []) (record { judge = after; stop = stop'; memories = memories })
stopped-more rows row setup number judge after stop stop' memories place taken judged first other = record {
  judged = judged;
  decided = decided-kept rows row number stop stop' place taken.decided first other;
  remembered = subst (λ (l : List Row). AreRemembered setup l 1 memories) (sym (before-kept rows row number stop stop' place taken.decided first other)) taken.remembered;
}

-- ---- behind a row that doesn't decide

-- no row before it decided
none-before : (number : ℕ) (row : Row) (judge after : JudgeState) → IsTakenBy number row judge after → after.stopped ≡ None → judge.stopped ≡ None
none-before number row judge after taken going = by_stop judge.stopped refl taken.decided
  where
    by_stop : (stopped : Option Verdict) → judge.stopped ≡ stopped → IfSome stopped (λ verdict. after ≡ judge) → stopped ≡ None
    by_stop None is stays = refl
    by_stop (Some verdict) is stays = sym is ∙ ap (λ (j : JudgeState). j.stopped) (sym stays) ∙ going

-- its event was applied
event-applied : (row : Row) (e : Event) (before after : WorldState) → event_in row ≡ Some e → IsRowTaken before row after → (a : Answer) × IsApplied before e after a
event-applied (Row.Event f) e before after tells (a, applied) = (a, subst (λ (x : Event). IsApplied before x after a) (same_Some f e tells) applied)
event-applied (Row.Detailed d) e before after tells (a, applied) = (a, subst (λ (x : Event). IsApplied before x after a) (same_Some (event_of_detailed d) e tells) applied)
event-applied (Row.Claim claim) e before after tells taken = absurd (cc tells)
event-applied (Row.Whole whole) e before after tells taken = absurd (cc tells)

-- what is remembered behind it
remembered-more : (rows : List Row) (row : Row) (setup : Setup) (number : ℕ) (judge after : JudgeState) (memories memories' : List Remembered) (moves : Moves) → length rows + 2 ≡ number
    → judge.stopped ≡ None → after.stopped ≡ None → HasJudged setup rows judge → HasJudged setup (rows ++ row ∷ []) after → IsRowTaken judge.world row after.world
    → IfSome (event_in row) (λ e. node_of e ≤ judge.world.setup.nodes → moves ≡ moves_in (world_of judge.world) e)
    → MatchOption (event_in row) (memories' ≡ memories) (λ e. node_of e ≤ after.world.setup.nodes → memories' ≡ each_from 1 (behind_event (world_of after.world) e number moves) memories)
    → AreRemembered setup rows 1 memories → AreRemembered setup (rows ++ row ∷ []) 1 memories'
remembered-more rows row setup number judge after memories memories' moves place first going judged judged' taken told remembered all = by_event (event_in row) refl told remembered
  where
    from : IsBehind setup rows (world_of judge.world)
    from = judge-behind setup rows judge first judged

    to : IsBehind setup (rows ++ row ∷ []) (world_of after.world)
    to = judge-behind setup (rows ++ row ∷ []) after going judged'

    by_event : (o : Option Event) → event_in row ≡ o
        → IfSome o (λ e. node_of e ≤ judge.world.setup.nodes → moves ≡ moves_in (world_of judge.world) e)
        → MatchOption o (memories' ≡ memories) (λ e. node_of e ≤ after.world.setup.nodes → memories' ≡ each_from 1 (behind_event (world_of after.world) e number moves) memories)
        → AreRemembered setup (rows ++ row ∷ []) 1 memories'
    by_event None tells told same =
        subst (AreRemembered setup (rows ++ row ∷ []) 1) (sym same)
        (remembered-all setup rows (rows ++ row ∷ []) 1 memories (λ j m is. remembered-claim setup rows row j m tells is) all)
    by_event (Some e) tells told same =
        let (a, applied) = event-applied row e judge.world after.world tells taken in
        let step : Step setup (world_of judge.world) e (world_of after.world) a =
        subst (λ (s : Setup). Step s (world_of judge.world) e (world_of after.world) a) judged.same applied.step in
        let node = step-node setup (world_of judge.world) (world_of after.world) e a (behind-fits setup rows (world_of judge.world) from) step in
        let before : node_of e ≤ judge.world.setup.nodes = subst (λ (s : Setup). node_of e ≤ s.nodes) (sym judged.same) node.1 in
        let behind : node_of e ≤ after.world.setup.nodes = subst (λ (s : Setup). node_of e ≤ s.nodes) (sym judged'.same) node.1 in
        subst (AreRemembered setup (rows ++ row ∷ []) 1) (sym (same behind))
        (remembered-each setup rows (rows ++ row ∷ []) 1 (behind_event (world_of after.world) e number moves) memories
        (λ j m is. remembered-event setup rows row (world_of judge.world) (world_of after.world) e a number moves j m place tells from to step (told before) is) all)

pub going-more : (rows : List Row) (row : Row) (setup : Setup) (number : ℕ) (judge after : JudgeState) (stop : Option Stop) (memories memories' : List Remembered) (moves : Moves) → length rows + 2 ≡ number
    → HasTaken setup rows (record { judge = judge; stop = stop; memories = memories })
    → StopsAt judge.stopped stop → IsTakenBy number row judge after → after.stopped ≡ None → HasJudged setup (rows ++ row ∷ []) after
    → IfSome (event_in row) (λ e. node_of e ≤ judge.world.setup.nodes → moves ≡ moves_in (world_of judge.world) e)
    → MatchOption (event_in row) (memories' ≡ memories) (λ e. node_of e ≤ after.world.setup.nodes → memories' ≡ each_from 1 (behind_event (world_of after.world) e number moves) memories)
    → HasTaken setup (rows ++ row ∷ []) (record { judge = after; stop = stop; memories = memories' })
going-more rows row setup number judge after stop memories memories' moves place taken stops by going judged told remembered =
    subst (λ (o : Option Stop). HasTaken setup (rows ++ row ∷ []) (record { judge = after; stop = o; memories = memories' })) (sym none) (record {
      judged = judged;
      decided = tt;
      remembered = remembered-more rows row setup number judge after memories memories' moves place first going taken.judged judged (by.taken first going) told remembered all;
    })
  where
    first : judge.stopped ≡ None
    first = none-before number row judge after by going

    none : stop ≡ None
    none = subst (λ (o : Option Verdict). StopsAt o stop) first stops

    all : AreRemembered setup rows 1 memories
    all = subst (λ (o : Option Stop). AreRemembered setup (rows_before o rows) 1 memories) none taken.remembered

-- the judge's part of what was taken
pub all-judged : (known : Option (List ℕ)) (account : AccountState) → AreAllTaken known account → AreAllJudged known account.judge
all-judged known account (header, rows, is, within, (taken, version)) = (header, rows, is, within, (taken.judged, version))
