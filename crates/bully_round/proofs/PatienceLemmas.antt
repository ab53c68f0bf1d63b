-- A member that was shown a change waits for its turn, from then on.
use Rattle.std.proofs.Common.{◌≡◌, ◌≢◌, ◌⊎◌, inl, inr, ◌<◌, ◌≤◌, ◌-◌, ◌*◌, ◌/◌, ◌&&◌, ◌==◌, if◌then◌else◌, ℕ, zero, suc, Bool, true, false, List, Some, Contains, nat_lt, min, arith, refl, sym, ap, subst, ◌∙◌}
use Rattle.std.proofs.Math.Nat.{le-mul_of_pos_right}
use Rattle.std.proofs.lemmas.Bool.Decides.{nat_tests}
use Rattle.bully_member.specs.Due.{Sees, admission_wait, due, is_newcomer}
use Rattle.bully_member.specs.Member.{MemberState, above, admitted_among, lease_of, offset_of}
use Rattle.bully_member.specs.Times.{renewal_left, turn_left}
use Rattle.bully_member.specs.Told.{found, last_change_then, own_by, same_bool, same_leases, with_arrivals}
use Rattle.bully_member.specs.declared.values.LastChange.{LastChange}
use Rattle.bully_member.specs.declared.values.Lease.{Lease}
use Rattle.bully_member.specs.declared.values.Reason.{Reason}
use Rattle.bully_member.specs.declared.values.Request.{Request}
use Rattle.bully_member.specs.declared.values.Sight.{Sight}
use Rattle.bully_member.specs.declared.values.Step.{Step}
use Rattle.bully_member.specs.declared.values.Until.{Until}
use Rattle.bully_round.proofs.DueLemmas.{acts_lem, rests_lem}
use Rattle.bully_round.proofs.GroupLemmas.{some_above}
use Rattle.bully_round.proofs.TurnLemmas.{look_is}
use Rattle.bully_round.specs.Group.{IsAlert}
use Rattle.bully_round.specs.Progress.{HasLooked, IsCalm, ShowsChange, TakesTurn, changes_log, is_task, step_at_rest, to_do}
use Rattle.bully_run.proofs.AnswerLemmas.{IsReported, own_reported}

-- The change counts from when it was shown.

change_then : (m : MemberState) (at : ℕ) (leases : List Lease) (has_request : Bool) → ShowsChange m leases has_request → last_change_then m at leases has_request ≡ record { at = at; offset = offset_of m }
change_then m at leases has_request shows = by_tests (offset_of m == m.last_change.offset) (same_leases m.terms.is_cooperative m.leases leases) (same_bool m.has_request has_request) refl shows
  where
    by_tests : (a b c : Bool) → (offset_of m == m.last_change.offset) ≡ a → (offset_of m ≢ m.last_change.offset) ⊎ (b ≡ false) ⊎ (c ≡ false)
        → (if a && b && c then m.last_change else record { at = at; offset = offset_of m }) ≡ record { at = at; offset = offset_of m }
    by_tests false b c is news = refl
    by_tests true false c is news = refl
    by_tests true true false is news = refl
    by_tests true true true is (inl more) = let same : offset_of m ≡ m.last_change.offset = grind (arith, nat_tests, is) in absurd (more same)
    by_tests true true true is (inr (inl other)) = absurd (cc other)
    by_tests true true true is (inr (inr other)) = absurd (cc other)

module _ (mid after : MemberState) (now at : ℕ) (asked : mid.asked ≡ Some (record { request = Request.Snapshot; at = now })) (looked : HasLooked mid at after) where
  abbrev b : MemberState
  b = with_arrivals looked.behind at looked.leases

  abbrev f : MemberState
  f = found b at looked.leases looked.has_unknown looked.has_request (admitted_among b at looked.leases) after.coming after.affected

  found_is : after ≡ own_by f f.session (lease_of f.terms.node f.leases)
  found_is = look_is mid looked.behind after now at looked.leases looked.has_unknown looked.has_request
      (ap (λ (x : MemberState). x.asked) looked.learns.rest ∙ asked) (ap (λ (x : MemberState). x.terms.epoch) looked.learns.rest) looked.reads

  own : IsReported f (own_by f f.session (lease_of f.terms.node f.leases))
  own = own_reported f f.session (lease_of f.terms.node f.leases)

  pub changed_at : ShowsChange looked.behind looked.leases looked.has_request → after.last_change.at ≡ at
  changed_at shows = ap (λ (x : MemberState). x.last_change.at) found_is ∙ ap (λ (x : MemberState). x.last_change.at) own ∙ ap (λ (c : LastChange). c.at) (change_then looked.behind at looked.leases looked.has_request shows)

  pub leases_then : after.leases ≡ looked.leases
  leases_then = ap (λ (x : MemberState). x.leases) found_is ∙ ap (λ (x : MemberState). x.leases) own

-- So it doesn't change the log before its turn.

turn_to_come : (length later at : ℕ) → later - at < length → nat_lt 0 (length - (later - at)) ≡ true
turn_to_come length later at early = grind (arith, nat_tests, early)

rests_first : (m : MemberState) (later : ℕ) (is_stable : Bool) → nat_lt 0 (turn_left (above m) m.ttl later m.last_change.at) ≡ true → changes_log (step_at_rest m later is_stable) ≡ false
rests_first m later true early = refl
rests_first m later false early = by_tests (is_newcomer m) (nat_lt 0 (turn_left (above m) m.ttl later m.last_change.at)) _ early
  where
    by_tests : (new waits : Bool) (other : Step) → waits ≡ true
        → changes_log (if new then Step.Wait (admission_wait m later) Until.News Reason.Admission else if waits then Step.Wait (min (renewal_left m.session m.ttl later) (turn_left (above m) m.ttl later m.last_change.at)) Until.News Reason.Turn else other) ≡ false
    by_tests true waits other is = refl
    by_tests false true other is = refl
    by_tests false false other is = absurd (cc is)

task_first : (step : Step) → is_task step ≡ true → changes_log step ≡ false
task_first (Step.Ask (Request.Acquire session offset)) is = refl
task_first (Step.Ask (Request.Renew session)) is = refl
task_first (Step.Ask (Request.Release session)) is = refl
task_first (Step.Ask Request.Snapshot) is = refl
task_first (Step.Ask (Request.Promise session offset)) is = refl
task_first (Step.Ask (Request.Append offset)) is = absurd (cc is)
task_first (Step.Ask (Request.RollOver offset)) is = absurd (cc is)
task_first (Step.Ask Request.Follow) is = refl
task_first (Step.Begin token) is = refl
task_first Step.Stop is = refl
task_first (Step.Wait at_most until reason) is = refl
task_first (Step.BackOff at_most reason) is = refl
task_first (Step.End ending) is = refl

pub patient_lem : (m after : MemberState) (now at later : ℕ) (s : Sight) → (turn : TakesTurn m now at (Step.Ask Request.Snapshot) after) → ShowsChange turn.reported.behind turn.reported.leases turn.reported.has_request
    → IsCalm after later → Sees after later s → later - at < after.ttl / 5 * above after → changes_log (due after later s) ≡ false
patient_lem m after now at later s turn shows calm sees early = by_left (to_do after s) refl
  where
    since : after.last_change.at ≡ at
    since = changed_at turn.mid after now at (ap (λ (x : MemberState). x.asked) turn.goes.noted) turn.reported shows

    waits : nat_lt 0 (turn_left (above after) after.ttl later after.last_change.at) ≡ true
    waits = ap (λ a. nat_lt 0 (turn_left (above after) after.ttl later a)) since ∙ turn_to_come (after.ttl / 5 * above after) later at early

    by_left : (n : ℕ) → to_do after s ≡ n → changes_log (due after later s) ≡ false
    by_left zero none = ap changes_log (rests_lem after later s calm sees none) ∙ rests_first after later s.is_stable waits
    by_left (suc n) some = task_first (due after later s) (acts_lem after later s calm sees (omega (arith, some)))

-- Only the highest one changes the log at first.

pub first_lem : (leases : List Lease) (m : MemberState) (now : ℕ) (s : Sight) (p : Lease) → IsAlert leases m now s → changes_log (due m now s) ≡ true → Contains leases p → p.node ≤ m.terms.node
first_lem leases m now s p alert changes has = by_test (nat_lt m.terms.node p.node) refl
  where
    asked : alert.turn.mid.asked ≡ Some (record { request = Request.Snapshot; at = alert.asked })
    asked = ap (λ (x : MemberState). x.asked) alert.turn.goes.noted

    known : m.leases ≡ leases
    known = leases_then alert.turn.mid m alert.asked alert.at asked alert.turn.reported ∙ alert.seen

    shows : ShowsChange alert.turn.reported.behind alert.turn.reported.leases alert.turn.reported.has_request
    shows = subst (λ (l : List Lease). ShowsChange alert.turn.reported.behind l alert.turn.reported.has_request) (sym alert.seen) alert.change

    at_last : (n k l : ℕ) → n < k → k ≤ l → n < l
    at_last n k l low more = omega (arith, low, more)

    by_test : (b : Bool) → nat_lt m.terms.node p.node ≡ b → p.node ≤ m.terms.node
    by_test false low = grind (arith, nat_tests, low)
    by_test true higher =
        let some = some_above m p (subst (λ (l : List Lease). Contains l p) (sym known) has) (grind (arith, nat_tests, higher)) in
        let more = le-mul_of_pos_right (m.ttl / 5) some in
        let soon = alert.soon in
        absurd (cc (changes, patient_lem alert.before m alert.asked alert.at now s alert.turn shows alert.calm alert.sees (at_last (now - alert.at) (m.ttl / 5) (m.ttl / 5 * above m) soon more)))

pub alone_lem : (leases : List Lease) (m n : MemberState) (now later : ℕ) (s t : Sight) → IsAlert leases m now s → IsAlert leases n later t
    → changes_log (due m now s) ≡ true → changes_log (due n later t) ≡ true → m.terms.node ≡ n.terms.node
alone_lem leases m n now later s t one other changes also =
    let low = first_lem leases m now s other.own one changes other.there in
    let high = first_lem leases n later t one.own other also one.there in
    let own = one.its in
    let its = other.its in
    omega (arith, low, high, own, its)
