-- It works only while it may.
use Rattle.std.proofs.Common.{rules, ◌≡◌, ◌&&◌, ◌-◌, ◌+◌, ◌<◌, not, ℕ, zero, suc, Bool, true, false, List, [], ◌∷◌, Option, Some, None, if◌then◌else◌, nat_lt, arith, refl, sym, subst, ap}
use Rattle.std.proofs.lemmas.Bool.Decides.{nat_tests}
use Rattle.bully_member.proofs.KeepLemmas.{keeps, no_table, twice}
use Rattle.bully_member.specs.Activities.{any_working, changed_from, is_working, stop_at, works_at}
use Rattle.bully_member.specs.Due.{Sees, due, goes_on, goes_on_by, is_none_of, last_table, noted, step_unless_awaiting, table_ahead, token_now}
use Rattle.bully_member.specs.Keeping.{Keeps, MayWork, WorksOnlyIfSure}
use Rattle.bully_member.specs.Member.{MemberState, SeesAhead, replica_of}
use Rattle.bully_member.specs.Times.{sure, sure_left}
use Rattle.bully_member.specs.declared.values.Activity.{Activity}
use Rattle.bully_member.specs.declared.values.Ending.{Ending}
use Rattle.bully_member.specs.declared.values.Request.{Request}
use Rattle.bully_member.specs.declared.values.SessionState.{SessionState}
use Rattle.bully_member.specs.declared.values.Sight.{Sight}
use Rattle.bully_member.specs.declared.values.Step.{Step}
use Rattle.bully_rebalance.specs.Leaving.{is_left}

-- What a table leaves it, it may go on with.

going_parts : (a b c d : Bool) → a && b && not c && d ≡ true → (a ≡ true) × (b ≡ true) × (c ≡ false)
going_parts true true false d is = (refl, refl, refl)
going_parts true true true d is = absurd (cc is)
going_parts true false c d is = absurd (cc is)
going_parts false b c d is = absurd (cc is)

none_is : (ending : Option Ending) → is_none_of ending ≡ true → ending ≡ None
none_is None is = refl
none_is (Some ending) is = absurd (cc is)

pub goes_if_left : (m : MemberState) (now k : ℕ) (is_stable : Bool) → is_left (table_ahead m now is_stable) m.terms.node k ≡ true → goes_on m now ≡ true
goes_if_left m now k is_stable left = by_goes (goes_on m now) refl
  where
    by_goes : (b : Bool) → goes_on m now ≡ b → goes_on m now ≡ true
    by_goes true is = is
    by_goes false is = absurd (cc (left, ap (λ (t : Option (List ℕ)). is_left t m.terms.node k) (no_table (goes_on m now) is_stable (goes_on_by m (token_now m)) (last_table m) m.coming is)))

pub may_if_goes : (m : MemberState) (now : ℕ) → goes_on m now ≡ true → MayWork m now
may_if_goes m now goes =
    let parts = going_parts (sure m.session m.ttl now) (is_none_of m.ending) m.is_past (not m.is_lost) goes in
    record { live = parts.0; going = none_is m.ending parts.1; within = parts.2 }

-- What isn't stopped is what the table leaves.

pub stop_from : (works : List Activity) (table : Option (List ℕ)) (node j k : ℕ) → works_at (changed_from (stop_at table node) j works) k ≡ true → is_left table node (j + k) ≡ true
stop_from [] table node j k is = absurd (cc is)
stop_from (Activity.Idle ∷ works) table node j zero is = absurd (cc is)
stop_from (Activity.Working ∷ works) table node j zero is = subst (λ i. is_left table node i ≡ true) (omega arith) (by_left (is_left table node j) refl is)
  where
    by_left : (b : Bool) → is_left table node j ≡ b → is_working (if b then Activity.Working else Activity.Stopping) ≡ true → is_left table node j ≡ true
    by_left true same is = same
    by_left false same is = absurd (cc is)
stop_from (Activity.Stopping ∷ works) table node j zero is = absurd (cc is)
stop_from (a ∷ works) table node j (suc k) is = subst (λ i. is_left table node i ≡ true) (omega arith) (stop_from works table node (suc j) k is)

goes_if_kept : (m : MemberState) (now k : ℕ) (is_stable : Bool) → works_at (changed_from (stop_at (table_ahead m now is_stable) m.terms.node) 0 m.works) k ≡ true → goes_on m now ≡ true
goes_if_kept m now k is_stable is = goes_if_left m now k is_stable (subst (λ i. is_left (table_ahead m now is_stable) m.terms.node i ≡ true) (omega arith) (stop_from m.works (table_ahead m now is_stable) m.terms.node 0 k is))

none_working : (works : List Activity) → ((k : ℕ) → works_at works k ≡ true → ⊥) → any_working works ≡ false
none_working [] none = refl
none_working (Activity.Idle ∷ works) none = none_working works (λ k is. none (suc k) is)
none_working (Activity.Working ∷ works) none = absurd (none 0 refl)
none_working (Activity.Stopping ∷ works) none = none_working works (λ k is. none (suc k) is)

more_left : (a b : ℕ) → nat_lt a b ≡ true → 0 < b - a
more_left a b is = grind (arith, nat_tests, is)

sure_some : (session : SessionState) (ttl now : ℕ) → sure session ttl now ≡ true → 0 < sure_left session ttl now
sure_some SessionState.Absent ttl now is = absurd (cc is)
sure_some (SessionState.Unknown session) ttl now is = absurd (cc is)
sure_some (SessionState.Live session since) ttl now is = more_left _ _ is

module _ (m : MemberState) (now : ℕ) (s : Sight) (tells : Sees m now s) where
  -- it works on something that it wasn't asked to stop, only if it may
  may_if_works : s.may_go_on ≡ true → (k : ℕ) → works_at m.works k ≡ true → MayWork m now
  may_if_works stays k is = may_if_goes m now (goes_if_left m now k s.is_stable (tells.stays.0 (search (rules, stays)) k is))

  pub sure_if_works : s.may_go_on ≡ true → any_working m.works ≡ true → 0 < sure_left m.session m.ttl now
  sure_if_works stays works = by_goes (goes_on m now) refl
    where
      by_goes : (b : Bool) → goes_on m now ≡ b → 0 < sure_left m.session m.ttl now
      by_goes true goes = sure_some m.session m.ttl now (may_if_goes m now goes).live
      by_goes false never = absurd (cc (works, none_working m.works (λ k is. absurd (cc (never, goes_if_left m now k s.is_stable (tells.stays.0 (search (rules, stays)) k is))))))

  after_step : (step : Step) → Keeps m now step → ((k : ℕ) → works_at m.works k ≡ true → MayWork m now) → (k : ℕ) → works_at (noted m now s.is_stable step).works k ≡ true → MayWork m now
  after_step (Step.Ask request) kept before k is = by_request request is
    where
      by_request : (r : Request) → works_at (noted m now s.is_stable (Step.Ask r)).works k ≡ true → MayWork m now
      by_request (Request.Acquire session offset) is = before k is
      by_request (Request.Renew session) is = before k is
      by_request (Request.Release session) is = before k is
      by_request Request.Snapshot is = before k is
      by_request (Request.Promise session offset) is = before k is
      by_request (Request.Append offset) is = before k is
      by_request (Request.RollOver offset) is = before k is
      by_request Request.Follow is = before k is
  after_step (Step.Begin token) kept before k is = kept.may
  after_step Step.Stop kept before k is = may_if_goes m now (goes_if_kept m now k s.is_stable is)
  after_step (Step.Wait at_most until reason) kept before k is = before k is
  after_step (Step.BackOff at_most reason) kept before k is = before k is
  after_step (Step.End ending) kept before k is = before k is

  by_test : (b : Bool) (step : Step) → s.may_go_on ≡ b → Keeps m now (if not b then Step.Stop else step) → WorksOnlyIfSure m now (noted m now s.is_stable (if not b then Step.Stop else step)).works
  by_test true step stays kept = after_step step kept (may_if_works stays)
  by_test false step never kept = λ k is. may_if_goes m now (goes_if_kept m now k s.is_stable is)

  pub sure_work : SeesAhead m.needs_snapshot (replica_of m) m.terms m.leases m.has_request m.group m.coming m.affected → WorksOnlyIfSure m now (noted m now s.is_stable (due m now s)).works
  sure_work ahead = by_test s.may_go_on (step_unless_awaiting m now s m.asked) refl (keeps m now s tells ahead)

-- ... by whatever is due, and whatever it becomes
pub sure_noted : (m after : MemberState) (now : ℕ) (step : Step) (s : Sight) → Sees m now s → SeesAhead m.needs_snapshot (replica_of m) m.terms m.leases m.has_request m.group m.coming m.affected → step ≡ due m now s
    → after ≡ noted m now s.is_stable step → WorksOnlyIfSure m now after.works
sure_noted m after now step s tells ahead is becomes =
    subst (λ (x : MemberState). WorksOnlyIfSure m now x.works) (sym becomes) (subst (λ (y : Step). WorksOnlyIfSure m now (noted m now s.is_stable y).works) (sym is) (sure_work m now s tells ahead))
