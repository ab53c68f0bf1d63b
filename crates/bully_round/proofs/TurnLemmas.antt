-- A turn of a calm member.
use Rattle.std.proofs.Common.{rules, ◌≡◌, ◌↔◌, ◌<◌, ◌≤◌, ◌+◌, ◌&&◌, ◌||◌, ◌==◌, ◌⊎◌, inl, inr, not, if◌then◌else◌, ℕ, zero, suc, Bool, true, false, List, [], ◌∷◌, Option, Some, None, nat_lt, length, arith, refl, sym, ap, subst, ◌∙◌}
use Rattle.std.proofs.lemmas.Bool.Decides.{nat_tests}
use Rattle.std.specs.Prelude.{IsTrue}
use Rattle.std.specs.Option.{option_map, option_map_or}
use Rattle.bully_agree.proofs.PlanLemmas.{token_within}
use Rattle.bully_agree.specs.Fencing.{IsLast, Planned}
use Rattle.bully_calls.specs.declared.event.Event.{Event}
use Rattle.bully_member.proofs.KeepLemmas.{sights_same, sure_before, twice}
use Rattle.bully_member.proofs.SureLemmas.{stop_from}
use Rattle.bully_member.specs.Activities.{begin_at, changed_from, end_at, ended_at, is_working, works_at}
use Rattle.bully_member.specs.Due.{HasAllOf, Sees, admission_wait, begun, change_step, due, goes_on, goes_on_by, is_newcomer, is_none_of, last_table, noted, stable_step, table_ahead, table_by, token_now, turn_step, unstable_step}
use Rattle.bully_member.specs.Member.{MemberState, SeesStable, above, admitted_among, all_ready, has_promised, is_affected, is_closing, is_ready_itself, lease_of, offset_of, replica_of}
use Rattle.bully_member.specs.Times.{renewal_left, sure, turn_left}
use Rattle.bully_member.specs.Told.{answered, awaits_snapshot, found, found_here, own_by, own_by_promise, own_promise, snapshot_read, with_arrivals}
use Rattle.bully_member.specs.declared.values.Activity.{Activity}
use Rattle.bully_member.specs.declared.values.Ahead.{Ahead}
use Rattle.bully_member.specs.declared.values.Lease.{Lease}
use Rattle.bully_member.specs.declared.values.Promise.{Promise}
use Rattle.bully_member.specs.declared.values.Reason.{Reason}
use Rattle.bully_member.specs.declared.values.Request.{Request}
use Rattle.bully_member.specs.declared.values.SessionId.{SessionId}
use Rattle.bully_member.specs.declared.values.SessionState.{SessionState}
use Rattle.bully_member.specs.declared.values.Sight.{Sight}
use Rattle.bully_member.specs.declared.values.Step.{Step}
use Rattle.bully_member.specs.declared.values.StoreAnswer.{StoreAnswer}
use Rattle.bully_member.specs.declared.values.Until.{Until}
use Rattle.bully_rebalance.specs.Leaving.{is_left}
use Rattle.bully_replica.specs.LastPlan.{table_in}
use Rattle.bully_replica.specs.Replica.{IsReplica, ReplicaState, token_of}
use Rattle.bully_round.proofs.DueLemmas.{calm_step, due_is, rests_lem}
use Rattle.bully_round.specs.Progress.{AreEnds, DoesTasks, HasLooked, IsCalm, IsEnd, IsReported, TakesTurn, Turn, is_task, step_at_rest, to_begin, to_do, to_do_seen, to_do_then, to_promise, unless}
use Rattle.bully_run.specs.Calls.{Answered, Call, Followed, Learn, Leave, Lost, Next, NotThere, Passed, Woke, Broken, SnapshotLost, SnapshotRead, Stopped, StoppedOn, Takes}
use Rattle.bully_work.specs.Working.{GivesTo}

-- Small facts.

pub true_is : (b : Bool) → IsTrue b → b ≡ true
true_is true is = refl
true_is false is = absurd (search (rules, is))

pub is_true : (b : Bool) → b ≡ true → IsTrue b
is_true true is = search rules
is_true false is = absurd (cc is)

pub same_num : (n : ℕ) → (n == n) ≡ true
same_num n = grind (arith, nat_tests)

bools_same : (P : Type 0) (a b : Bool) → (IsTrue a ↔ P) → (IsTrue b ↔ P) → a ≡ b
bools_same P true true one other = refl
bools_same P true false one other = absurd (search (rules, other.1 (one.0 (search (rules)))))
bools_same P false true one other = absurd (search (rules, one.1 (other.0 (search (rules)))))
bools_same P false false one other = refl

unless_most : (b : Bool) → unless b ≤ 1
unless_most true = omega arith
unless_most false = omega arith

-- It goes on as long as its work didn't end by itself.

pub calm_sure : (m : MemberState) (now : ℕ) → IsCalm m now → sure m.session m.ttl now ≡ true
calm_sure m now calm =
    let same : renewal_left m.session m.ttl now ≡ renewal_left (SessionState.Live calm.session calm.since) m.ttl now = ap (λ l. renewal_left l m.ttl now) calm.live in
    ap (λ l. sure l m.ttl now) calm.live ∙ sure_before m.ttl now calm.since (subst (λ left. left == 0 ≡ false) same calm.early)

goes_by_parts : (a b c d : Bool) → a ≡ true → b ≡ true → c ≡ false → a && b && not c && not d ≡ not d
goes_by_parts true true false d a_is b_is c_is = refl
goes_by_parts true true true d a_is b_is c_is = absurd (cc c_is)
goes_by_parts true false c d a_is b_is c_is = absurd (cc b_is)
goes_by_parts false b c d a_is b_is c_is = absurd (cc a_is)

pub goes_is : (m : MemberState) (now : ℕ) → IsCalm m now → goes_on m now ≡ not m.is_lost
goes_is m now calm = goes_by_parts (sure m.session m.ttl now) (is_none_of m.ending) m.is_past m.is_lost (calm_sure m now calm) (ap is_none_of calm.going) calm.within

-- which table says on what it goes on
abbrev pub table_if : (goes st by : Bool) → (last coming : Option (List ℕ)) → Option (List ℕ)
table_if goes st by last coming = table_by (if not goes then Ahead.Nothing else if not st then Ahead.Coming else if by then Ahead.Last else Ahead.Nothing) last coming

left_more : (goes more st by : Bool) (last coming : Option (List ℕ)) (node k : ℕ) → more ≡ true → is_left (table_if goes st by last coming) node k ≡ true → is_left (table_if more st by last coming) node k ≡ true
left_more true more st by last coming node k is left = subst (λ b. is_left (table_if b st by last coming) node k ≡ true) (sym is) left
left_more false more st by last coming node k is left = absurd (cc left)

pub left_last : (goes by : Bool) (last coming : Option (List ℕ)) (node k : ℕ) → is_left (table_if goes true by last coming) node k ≡ true → (is_left last node k ≡ true) × (by ≡ true)
left_last true true last coming node k left = (left, refl)
left_last true false last coming node k left = absurd (cc left)
left_last false by last coming node k left = absurd (cc left)

-- Work that ends.

pub record Ended (m after : MemberState) : Type 0 where
  pub same : after ≡ record m { works = after.works; is_exact = after.is_exact; is_lost = after.is_lost; is_asked_exact = after.is_asked_exact }
  pub fewer : (k : ℕ) → works_at after.works k ≡ true → works_at m.works k ≡ true
  pub lost : m.is_lost ≡ false → after.is_lost ≡ false

ended_none : (works : List Activity) (j k : ℕ) → works_at (changed_from end_at j works) k ≡ true → ⊥
ended_none [] j k is = absurd (cc is)
ended_none (a ∷ works) j zero is = absurd (cc is)
ended_none (a ∷ works) j (suc k) is = ended_none works (suc j) k is

ended_fewer : (works : List Activity) (e j k : ℕ) → works_at (changed_from (ended_at e) j works) k ≡ true → works_at works k ≡ true
ended_fewer [] e j k is = absurd (cc is)
ended_fewer (a ∷ works) e j zero is = by_test (j == e) is
  where
    by_test : (b : Bool) → is_working (if b then Activity.Idle else a) ≡ true → is_working a ≡ true
    by_test true is = absurd (cc is)
    by_test false is = is
ended_fewer (a ∷ works) e j (suc k) is = ended_fewer works e (suc j) k is

one_ended : (m mid : MemberState) (call : Call) → IsEnd call → Takes m call mid → Ended m mid
one_ended m mid Stopped is takes = subst (Ended m) (sym takes) (record { same = refl; fewer = λ k works. absurd (ended_none m.works 0 k works); lost = λ none. refl })
one_ended m mid (StoppedOn e) is takes = subst (Ended m) (sym takes) (record { same = refl; fewer = λ k works. ended_fewer m.works e 0 k works; lost = λ none. none })
one_ended m mid (Next now next) is takes = absurd is
one_ended m mid (Answered now answer) is takes = absurd is
one_ended m mid (Learn records taken) is takes = absurd is
one_ended m mid (SnapshotRead now epoch leases has_unknown has_request) is takes = absurd is
one_ended m mid (SnapshotLost now leases) is takes = absurd is
one_ended m mid (Followed now header terms) is takes = absurd is
one_ended m mid NotThere is takes = absurd is
one_ended m mid Passed is takes = absurd is
one_ended m mid Woke is takes = absurd is
one_ended m mid Leave is takes = absurd is
one_ended m mid Broken is takes = absurd is
one_ended m mid (Lost token) is takes = absurd is

ended_both : (m mid after : MemberState) → Ended m mid → Ended mid after → Ended m after
ended_both m mid after one more = record {
  same = more.same ∙ ap (λ (x : MemberState). record x { works = after.works; is_exact = after.is_exact; is_lost = after.is_lost; is_asked_exact = after.is_asked_exact }) one.same;
  fewer = λ k works. one.fewer k (more.fewer k works);
  lost = λ none. more.lost (one.lost none);
}

pub all_ended : (calls : List Call) (m after : MemberState) → AreEnds m calls after → Ended m after
all_ended [] m after is = subst (Ended m) (sym is) (record { same = refl; fewer = λ k works. works; lost = λ none. none })
all_ended (call ∷ calls) m after (mid, is, takes, more) = ended_both m mid after (one_ended m mid call is takes) (all_ended calls mid after more)

-- A member whose work changed sees the same group.

abbrev with_work : MemberState → List Activity → (e l a : Bool) → MemberState
with_work m works e l a = record m { works = works; is_exact = e; is_lost = l; is_asked_exact = a }

stable_with : (m : MemberState) (works : List Activity) (e l a : Bool) → SeesStable m → SeesStable (with_work m works e l a)
stable_with m works e l a is = record { stable = is.stable; behind = is.behind; goes_on = is.goes_on }

stable_back : (m : MemberState) (works : List Activity) (e l a : Bool) → SeesStable (with_work m works e l a) → SeesStable m
stable_back m works e l a is = record { stable = is.stable; behind = is.behind; goes_on = is.goes_on }

-- To stop.

begin_less : (m n : MemberState) (s t : Sight) (token : Option ℕ) → s.may_go_on ≡ false → to_begin n t token ≤ to_begin m s token
begin_less m n s t None never = omega arith
begin_less m n s t (Some token) never =
    let one : to_begin m s (Some token) ≡ 1 = ap (λ b. unless (b && (s.has_all && (token == m.token)))) never in
    let most = unless_most (t.may_go_on && (t.has_all && (token == n.token))) in
    omega (arith, one, most)

promise_less : (new affected may has other had : Bool) → may ≡ false → unless (new || (not affected || (other && had))) ≤ unless (new || (not affected || (may && has)))
promise_less true affected may has other had never = omega arith
promise_less false false may has other had never = omega arith
promise_less false true true has other had never = absurd (cc never)
promise_less false true false has other had never = unless_most (other && had)

module _ (m : MemberState) (now later : ℕ) (s t : Sight) (works : List Activity) (e l a : Bool) where
  abbrev n : MemberState
  n = with_work m works e l a

  module _ (calm : IsCalm m now) (sees : Sees m now s) (then_calm : IsCalm n later) (then_sees : Sees n later t) (not_lost : l ≡ false) where
    one_stable : s.is_stable ≡ t.is_stable
    one_stable = bools_same (SeesStable m) s.is_stable t.is_stable sees.stable ((λ is. stable_back m works e l a (then_sees.stable.0 is)), (λ is. then_sees.stable.1 (stable_with m works e l a is)))

    goes_then : goes_on n later ≡ true
    goes_then = goes_is n later then_calm ∙ ap not not_lost

    may_then : ((k : ℕ) → works_at works k ≡ true → is_left (table_ahead m now s.is_stable) m.terms.node k ≡ true) → t.may_go_on ≡ true
    may_then left = true_is t.may_go_on (then_sees.stays.1 (λ k is. subst (λ st. is_left (table_if (goes_on n later) st (goes_on_by m (token_now m)) (last_table m) m.coming) m.terms.node k ≡ true) one_stable
        (left_more (goes_on m now) (goes_on n later) s.is_stable (goes_on_by m (token_now m)) (last_table m) m.coming m.terms.node k goes_then (left k is))))

    seen_less : s.may_go_on ≡ false → (st : Bool) → (if st then to_begin n t (token_now n) else to_promise n t) ≤ (if st then to_begin m s (token_now m) else to_promise m s)
    seen_less never true = begin_less m n s t (token_now m) never
    seen_less never false = promise_less (is_newcomer m) (is_affected m m.terms.node) s.may_go_on (has_promised m) t.may_go_on (has_promised n) never

    then_less : s.may_go_on ≡ false → (needs : Bool) → (if needs then 3 else to_do_seen n t) ≤ (if needs then 3 else to_do_seen m s)
    then_less never true = omega arith
    then_less never false = subst (λ st. (if st then to_begin n t (token_now n) else to_promise n t) ≤ to_do_seen m s) one_stable (seen_less never s.is_stable)

    stop_less : s.may_go_on ≡ false → ((k : ℕ) → works_at works k ≡ true → is_left (table_ahead m now s.is_stable) m.terms.node k ≡ true) → to_do n t < to_do m s
    stop_less never left =
        let one : unless s.may_go_on ≡ 1 = ap unless never in
        let none : unless t.may_go_on ≡ 0 = ap unless (may_then left) in
        let less = then_less never m.needs_snapshot in
        omega (arith, one, none, less)

stop_falls : (m mid after : MemberState) (now later : ℕ) (s t : Sight) (calls : List Call) → IsCalm m now → Sees m now s → IsCalm after later → Sees after later t → s.may_go_on ≡ false
    → mid ≡ noted m now s.is_stable Step.Stop → AreEnds mid calls after → to_do after t < to_do m s
stop_falls m mid after now later s t calls calm sees then_calm then_sees never is ends =
    let done : Ended (noted m now s.is_stable Step.Stop) after = subst (λ (x : MemberState). Ended x after) is (all_ended calls mid after ends) in
    subst (λ (x : MemberState). to_do x t < to_do m s) (sym done.same)
    (stop_less m now later s t after.works after.is_exact after.is_lost after.is_asked_exact calm sees (subst (λ (x : MemberState). IsCalm x later) done.same then_calm) (subst (λ (x : MemberState). Sees x later t) done.same then_sees)
    (done.lost refl) never
    (λ k works. subst (λ i. is_left (table_ahead m now s.is_stable) m.terms.node i ≡ true) (omega arith) (stop_from m.works (table_ahead m now s.is_stable) m.terms.node 0 k (done.fewer k works))))

-- To read a snapshot.

member_else : (b : Bool) (x y : MemberState) → b ≡ false → (if b then x else y) ≡ y
member_else true x y is = absurd (cc is)
member_else false x y is = refl

own_fresh : (f : MemberState) (session : SessionId) (own : Option (Promise × Bool)) (by : SessionId) (since : ℕ) → f.needs_snapshot ≡ false → (own_by_promise f own).session ≡ SessionState.Live by since → (own_by_promise f own).needs_snapshot ≡ false
own_fresh f session None by since fresh live = absurd (cc live)
own_fresh f session (Some own) by since fresh live = fresh

pub by_fresh : (f : MemberState) (state : SessionState) (here : Option Lease) (by : SessionId) (since : ℕ) → f.needs_snapshot ≡ false → (own_by f state here).session ≡ SessionState.Live by since → (own_by f state here).needs_snapshot ≡ false
by_fresh f SessionState.Absent here by since fresh live = fresh
by_fresh f (SessionState.Unknown session) here by since fresh live = fresh
by_fresh f (SessionState.Live session at) here by since fresh live = own_fresh f session (own_promise f session here) by since fresh live

seen_most : (m : MemberState) (s : Sight) (st : Bool) (token : Option ℕ) → (if st then to_begin m s token else to_promise m s) ≤ 1
seen_most m s true None = omega arith
seen_most m s true (Some token) = unless_most (s.may_go_on && (s.has_all && (token == m.token)))
seen_most m s false token = unless_most (is_newcomer m || (not (is_affected m m.terms.node) || (s.may_go_on && has_promised m)))

-- what the member is then
pub look_is : (m behind after : MemberState) (now at : ℕ) (leases : List Lease) (has_unknown has_request : Bool) → behind.asked ≡ Some (record { request = Request.Snapshot; at = now }) → behind.terms.epoch ≡ m.terms.epoch
    → after ≡ snapshot_read behind at m.terms.epoch leases has_unknown has_request after.coming after.affected
    → after ≡ found_here (with_arrivals behind at leases) at leases has_unknown has_request after.coming after.affected
look_is m behind after now at leases has_unknown has_request asked same is =
    is ∙ member_else (not (awaits_snapshot behind.asked)) behind inside (ap (λ a. not (awaits_snapshot a)) asked) ∙ member_else (not (m.terms.epoch == behind.terms.epoch)) (record behind { is_past = true; asked = None }) here epoch
  where
    here : MemberState
    here = found_here (with_arrivals behind at leases) at leases has_unknown has_request after.coming after.affected

    inside : MemberState
    inside = if not (m.terms.epoch == behind.terms.epoch) then record behind { is_past = true; asked = None } else here

    epoch : not (m.terms.epoch == behind.terms.epoch) ≡ false
    epoch = ap (λ e. not (m.terms.epoch == e)) same ∙ ap not (same_num m.terms.epoch)

look_fresh : (m behind after : MemberState) (now at later : ℕ) (leases : List Lease) (has_unknown has_request : Bool) → IsCalm after later → behind.asked ≡ Some (record { request = Request.Snapshot; at = now }) → behind.terms.epoch ≡ m.terms.epoch
    → after ≡ snapshot_read behind at m.terms.epoch leases has_unknown has_request after.coming after.affected → after.needs_snapshot ≡ false
look_fresh m behind after now at later leases has_unknown has_request then_calm asked same is =
    let found_is = look_is m behind after now at leases has_unknown has_request asked same is in
    ap (λ (x : MemberState). x.needs_snapshot) found_is ∙ by_fresh f f.session (lease_of f.terms.node f.leases) then_calm.session then_calm.since refl (sym (ap (λ (x : MemberState). x.session) found_is) ∙ then_calm.live)
  where
    b : MemberState
    b = with_arrivals behind at leases

    f : MemberState
    f = found b at leases has_unknown has_request (admitted_among b at leases) after.coming after.affected

look_falls : (m mid after : MemberState) (now at later : ℕ) (s t : Sight) → IsCalm after later → s.may_go_on ≡ true → m.needs_snapshot ≡ true
    → mid ≡ noted m now s.is_stable (Step.Ask Request.Snapshot) → HasLooked mid at after → to_do after t < to_do m s
look_falls m mid after now at later s t then_calm may needs is looked =
    let asked : looked.behind.asked ≡ Some (record { request = Request.Snapshot; at = now }) = ap (λ (x : MemberState). x.asked) looked.learns.rest ∙ ap (λ (x : MemberState). x.asked) is in
    let same : looked.behind.terms.epoch ≡ mid.terms.epoch = ap (λ (x : MemberState). x.terms.epoch) looked.learns.rest in
    let fresh : after.needs_snapshot ≡ false = look_fresh mid looked.behind after now at later looked.leases looked.has_unknown looked.has_request then_calm asked same looked.reads in
    let three : to_do_then m s ≡ 3 = ap (λ b. if b then 3 else to_do_seen m s) needs in
    let seen : to_do_then after t ≡ to_do_seen after t = ap (λ b. if b then 3 else to_do_seen after t) fresh in
    let one = unless_most t.may_go_on in
    let most = seen_most after t t.is_stable (token_now after) in
    omega (arith, three, seen, one, most)

-- To promise.

log_tokens : (r : ReplicaState) (log : List Event) (last : Option Planned) → IsLast log last → token_of last ≤ length log
log_tokens r log None is = omega arith
log_tokens r log (Some p) is = token_within log p is

tokens_within : (r : ReplicaState) → IsReplica r → token_of r.last ≤ r.world.events
tokens_within r is =
    let low = log_tokens r is.events r.last is.log.last in
    omega (arith, low, is.log.counted)

never_is : (b : Bool) → (b ≡ true → ⊥) → b ≡ false
never_is true never = absurd (never refl)
never_is false never = refl

left_same : (lost goes more st by other : Bool) (last coming : Option (List ℕ)) (node k : ℕ) → goes ≡ not lost → more ≡ not lost → st ≡ false → is_left (table_if goes st by last coming) node k ≡ true → is_left (table_if more st other last coming) node k ≡ true
left_same true goes more st by other last coming node k one two un left = absurd (cc (left, ap (λ b. is_left (table_if b st by last coming) node k) one))
left_same false goes more true by other last coming node k one two un left = absurd (cc un)
left_same false goes more false by other last coming node k one two un left =
    ap (λ b. is_left (table_if b false other last coming) node k) two ∙ sym (ap (λ b. is_left (table_if b false by last coming) node k) one) ∙ left

abbrev promised_at : MemberState → MemberState
promised_at m = record m { promised = offset_of m; own = record { epoch = m.terms.epoch; offset = offset_of m }; is_exact = true; is_asked_exact = true; asked = None }

promised_none : (new affected may has : Bool) → may ≡ true → has ≡ true → unless (new || (not affected || (may && has))) ≡ 0
promised_none true affected may has may_is has_is = refl
promised_none false false may has may_is has_is = refl
promised_none false true true true may_is has_is = refl
promised_none false true true false may_is has_is = absurd (cc has_is)
promised_none false true false has may_is has_is = absurd (cc may_is)

both_true : (a b : Bool) → a ≡ true → b ≡ true → (a && b) && true ≡ true
both_true true true one other = refl
both_true true false one other = absurd (cc other)
both_true false b one other = absurd (cc one)

promise_none : (m : MemberState) (now later : ℕ) (s t : Sight) → IsCalm m now → Sees m now s → IsCalm (promised_at m) later → Sees (promised_at m) later t → s.may_go_on ≡ true → m.needs_snapshot ≡ false → s.is_stable ≡ false → to_do (promised_at m) t ≡ 0
promise_none m now later s t calm sees then_calm then_sees may fresh unstable =
    let first : unless t.may_go_on ≡ 0 = ap unless goes in
    let second : to_do_then n t ≡ to_do_seen n t = ap (λ b. if b then 3 else to_do_seen n t) fresh in
    let third : to_do_seen n t ≡ to_promise n t = ap (λ b. if b then to_begin n t (token_now n) else to_promise n t) still in
    let none : to_promise n t ≡ 0 = promised_none (is_newcomer n) (is_affected n n.terms.node) t.may_go_on (has_promised n) goes (both_true (m.terms.epoch == m.terms.epoch) (offset_of m == offset_of m) (same_num m.terms.epoch) (same_num (offset_of m))) in
    omega (arith, first, second, third, none)
  where
    n : MemberState
    n = promised_at m

    still : t.is_stable ≡ false
    still = never_is t.is_stable (λ is. let behind = (then_sees.stable.0 (is_true t.is_stable is)).behind in let within = tokens_within (replica_of m) calm.learned in omega (arith, behind, within))

    goes : t.may_go_on ≡ true
    goes = true_is t.may_go_on (then_sees.stays.1 (λ k works. subst (λ st. is_left (table_if (goes_on n later) st (goes_on_by n (token_now n)) (last_table m) m.coming) m.terms.node k ≡ true) (unstable ∙ sym still)
        (left_same m.is_lost (goes_on m now) (goes_on n later) s.is_stable (goes_on_by m (token_now m)) (goes_on_by n (token_now n)) (last_table m) m.coming m.terms.node k (goes_is m now calm) (goes_is n later then_calm) unstable
        (sees.stays.0 (is_true s.may_go_on may) k works))))

promise_falls : (m mid after : MemberState) (now at later : ℕ) (s t : Sight) (session : SessionId) → IsCalm m now → Sees m now s → IsCalm after later → Sees after later t → s.may_go_on ≡ true → m.needs_snapshot ≡ false → s.is_stable ≡ false
    → 0 < to_do m s → mid ≡ noted m now s.is_stable (Step.Ask (Request.Promise session (offset_of m))) → after ≡ answered mid at StoreAnswer.Done → to_do after t < to_do m s
promise_falls m mid after now at later s t session calm sees then_calm then_sees may fresh unstable some is answer =
    let done : after ≡ promised_at m = answer ∙ ap (λ (x : MemberState). answered x at StoreAnswer.Done) is in
    let none = promise_none m now later s t calm sees (subst (λ (x : MemberState). IsCalm x later) done then_calm) (subst (λ (x : MemberState). Sees x later t) done then_sees) may fresh unstable in
    let same : to_do after t ≡ to_do (promised_at m) t = ap (λ (x : MemberState). to_do x t) done in
    omega (arith, some, none, same)

-- To begin.

begun_at : (table : Option (List ℕ)) (node from k : ℕ) (works : List Activity) → is_left table node (from + k) ≡ true → k < length works → works_at (changed_from (begin_at table node) from works) k ≡ true
begun_at table node from k [] left low = absurd (omega (arith, low))
begun_at table node from zero (a ∷ works) left low = by_test (is_left table node from) (subst (λ i. is_left table node i ≡ true) (omega arith) left)
  where
    by_test : (b : Bool) → b ≡ true → works_at ((if b then Activity.Working else a) ∷ changed_from (begin_at table node) (suc from) works) 0 ≡ true
    by_test true is = refl
    by_test false is = absurd (cc is)
begun_at table node from (suc k) (a ∷ works) left low = begun_at table node (suc from) k works (subst (λ i. is_left table node i ≡ true) (omega arith) left) (omega (arith, low))

begun_left : (table : Option (List ℕ)) (node from k : ℕ) (works : List Activity) → works_at (changed_from (begin_at table node) from works) k ≡ true → (is_left table node (from + k) ≡ true) ⊎ (works_at works k ≡ true)
begun_left table node from k [] is = absurd (cc is)
begun_left table node from zero (a ∷ works) is = by_test (is_left table node from) refl is
  where
    by_test : (b : Bool) → is_left table node from ≡ b → is_working (if b then Activity.Working else a) ≡ true → (is_left table node (from + 0) ≡ true) ⊎ (works_at (a ∷ works) 0 ≡ true)
    by_test true left is = inl (subst (λ i. is_left table node i ≡ true) (omega arith) left)
    by_test false left is = inr is
begun_left table node from (suc k) (a ∷ works) is = by_case (begun_left table node (suc from) k works is)
  where
    by_case : (is_left table node (suc from + k) ≡ true) ⊎ (works_at works k ≡ true) → (is_left table node (from + suc k) ≡ true) ⊎ (works_at (a ∷ works) (suc k) ≡ true)
    by_case (inl left) = inl (subst (λ i. is_left table node i ≡ true) (omega arith) left)
    by_case (inr works) = inr works

pub given_left : (table : List ℕ) (node k : ℕ) → GivesTo table k node → is_left (Some table) node k ≡ true
given_left table node k gives = ap (λ (o : Option ℕ). option_map_or (λ owner. owner == node) o false) gives ∙ same_num node

pub short : (table : List ℕ) (k node : ℕ) → GivesTo table k node → k < length table
short [] k node gives = absurd (cc gives)
short (o ∷ table) zero node gives = omega arith
short (o ∷ table) (suc k) node gives = let low = short table k node gives in omega (arith, low)

has_all_then : (m : MemberState) (token : ℕ) (last : Option Planned) → ((p : Planned) → last ≡ Some p → length p.table ≤ length m.works)
    → HasAllOf (record (begun m token) { works = changed_from (begin_at (option_map table_in last) m.terms.node) 0 m.works }) (option_map table_in last)
has_all_then m token None sized = tt
has_all_then m token (Some p) sized = λ k gives.
    let low = short p.table k m.terms.node gives in
    let size = sized p refl in
    begun_at (Some p.table) m.terms.node 0 k m.works (subst (λ i. is_left (Some p.table) m.terms.node i ≡ true) (omega arith) (given_left p.table m.terms.node k gives)) (omega (arith, low, size))

begun_none : (may has same : Bool) → may ≡ true → has ≡ true → same ≡ true → unless (may && (has && same)) ≡ 0
begun_none true true true a b c = refl
begun_none true true false a b c = absurd (cc c)
begun_none true false same a b c = absurd (cc b)
begun_none false has same a b c = absurd (cc a)

or_then : (a b : Bool) → b ≡ true → a || b ≡ true
or_then true b is = refl
or_then false b is = is

begin_none : (m : MemberState) (now later token : ℕ) (s t : Sight) → IsCalm m now → Sees m now s → IsCalm (begun m token) later → Sees (begun m token) later t → s.may_go_on ≡ true → m.needs_snapshot ≡ false → s.is_stable ≡ true → token_now m ≡ Some token
    → to_do (begun m token) t ≡ 0
begin_none m now later token s t calm sees then_calm then_sees may fresh stable owner =
    let first : unless t.may_go_on ≡ 0 = ap unless goes in
    let second : to_do_then n t ≡ to_do_seen n t = ap (λ b. if b then 3 else to_do_seen n t) fresh in
    let third : to_do_seen n t ≡ to_begin n t (token_now m) = ap (λ b. if b then to_begin n t (token_now m) else to_promise n t) still in
    let fourth : to_begin n t (token_now m) ≡ to_begin n t (Some token) = ap (to_begin n t) owner in
    let none : to_begin n t (Some token) ≡ 0 = begun_none t.may_go_on t.has_all (token == token) goes all (same_num token) in
    omega (arith, first, second, third, fourth, none)
  where
    n : MemberState
    n = begun m token

    seen : SeesStable m → SeesStable n
    seen is = record { stable = is.stable; behind = is.behind; goes_on = is.goes_on }

    still : t.is_stable ≡ true
    still = true_is t.is_stable (then_sees.stable.1 (seen (sees.stable.0 (is_true s.is_stable stable))))

    by : goes_on_by n (token_now n) ≡ true
    by = ap (goes_on_by n) owner ∙ or_then m.terms.is_cooperative (token == token) (same_num token)

    more : goes_on n later ≡ true
    more = goes_is n later then_calm

    was : (k : ℕ) → works_at m.works k ≡ true → is_left (last_table m) m.terms.node k ≡ true
    was k works = (left_last (goes_on m now) (goes_on_by m (token_now m)) (last_table m) m.coming m.terms.node k
        (subst (λ st. is_left (table_if (goes_on m now) st (goes_on_by m (token_now m)) (last_table m) m.coming) m.terms.node k ≡ true) stable (sees.stays.0 (is_true s.may_go_on may) k works))).0

    left : (k : ℕ) → works_at n.works k ≡ true → is_left (last_table m) m.terms.node k ≡ true
    left k works = by_case (begun_left (last_table m) m.terms.node 0 k m.works works)
      where
        by_case : (is_left (last_table m) m.terms.node (0 + k) ≡ true) ⊎ (works_at m.works k ≡ true) → is_left (last_table m) m.terms.node k ≡ true
        by_case (inl given) = subst (λ i. is_left (last_table m) m.terms.node i ≡ true) (omega arith) given
        by_case (inr had) = was k had

    table : table_ahead n later t.is_stable ≡ last_table m
    table = ap (λ st. table_if (goes_on n later) st (goes_on_by n (token_now n)) (last_table m) m.coming) still
        ∙ ap (λ b. table_if b true (goes_on_by n (token_now n)) (last_table m) m.coming) more ∙ ap (λ b. table_if true true b (last_table m) m.coming) by

    goes : t.may_go_on ≡ true
    goes = true_is t.may_go_on (then_sees.stays.1 (λ k works. ap (λ (x : Option (List ℕ)). is_left x m.terms.node k) table ∙ left k works))

    all : t.has_all ≡ true
    all = true_is t.has_all (then_sees.all.1 (has_all_then m token (replica_of m).last calm.sized))

begin_falls : (m mid after : MemberState) (now later token : ℕ) (s t : Sight) → IsCalm m now → Sees m now s → IsCalm after later → Sees after later t → s.may_go_on ≡ true → m.needs_snapshot ≡ false → s.is_stable ≡ true → token_now m ≡ Some token
    → 0 < to_do m s → mid ≡ noted m now s.is_stable (Step.Begin token) → after ≡ mid → to_do after t < to_do m s
begin_falls m mid after now later token s t calm sees then_calm then_sees may fresh stable owner some is same =
    let done : after ≡ begun m token = same ∙ is in
    let none = begin_none m now later token s t calm sees (subst (λ (x : MemberState). IsCalm x later) done then_calm) (subst (λ (x : MemberState). Sees x later t) done then_sees) may fresh stable owner in
    let equal : to_do after t ≡ to_do (begun m token) t = ap (λ (x : MemberState). to_do x t) done in
    omega (arith, some, none, equal)

-- Whichever it is.

no_task_if : (b : Bool) (x y : Step) → is_task x ≡ false → is_task y ≡ false → is_task (if b then x else y) ≡ false
no_task_if true x y one other = one
no_task_if false x y one other = other

turn_no_task : (m : MemberState) (now : ℕ) → is_task (turn_step m now) ≡ false
turn_no_task m now = no_task_if (nat_lt 0 (turn_left (above m) m.ttl now m.last_change.at)) _ (change_step m now) refl (no_task_if (not (all_ready m)) _ _ refl (no_task_if (is_closing m) _ _ refl refl))

rest_no_task : (m : MemberState) (now : ℕ) (st : Bool) → is_task (step_at_rest m now st) ≡ false
rest_no_task m now true = refl
rest_no_task m now false = no_task_if (is_newcomer m) _ (turn_step m now) refl (turn_no_task m now)

pub some_to_do : (m : MemberState) (now : ℕ) (s : Sight) (step : Step) → IsCalm m now → Sees m now s → step ≡ due m now s → is_task step ≡ true → 0 < to_do m s
some_to_do m now s taken calm sees is task = by_num (to_do m s) refl
  where
    by_num : (n : ℕ) → to_do m s ≡ n → 0 < to_do m s
    by_num zero none = absurd (cc (task, ap is_task (is ∙ rests_lem m now s calm sees none), rest_no_task m now s.is_stable))
    by_num (suc n) more = omega (arith, more)

module _ (m after : MemberState) (now at later : ℕ) (s t : Sight) (calm : IsCalm m now) (sees : Sees m now s) (then_calm : IsCalm after later) (then_sees : Sees after later t) (some : 0 < to_do m s) where
  abbrev Falls : Step → Type 0
  Falls step = (mid : MemberState) → mid ≡ noted m now s.is_stable step → IsReported mid at step after → is_task step ≡ true → to_do after t < to_do m s

  falls_if : (b : Bool) (x y : Step) → (b ≡ true → Falls x) → (b ≡ false → Falls y) → Falls (if b then x else y)
  falls_if true x y one other = one refl
  falls_if false x y one other = other refl

  no_falls : (step : Step) → is_task step ≡ false → Falls step
  no_falls taken never mid is reported task = absurd (cc (never, task))

  begin_case : (token : Option ℕ) → token_now m ≡ token → s.may_go_on ≡ true → m.needs_snapshot ≡ false → s.is_stable ≡ true → Falls (stable_step m now s.has_all token)
  begin_case None owner may fresh stable = no_falls (Step.Wait (admission_wait m now) Until.AnyIdle Reason.Stable) refl
  begin_case (Some token) owner may fresh stable = falls_if (s.has_all && (token == m.token)) _ _ (λ has. no_falls (Step.Wait (admission_wait m now) Until.AnyIdle Reason.Stable) refl)
      (λ more mid is reported task. begin_falls m mid after now later token s t calm sees then_calm then_sees may fresh stable owner some is reported)

  unstable_case : s.may_go_on ≡ true → m.needs_snapshot ≡ false → s.is_stable ≡ false → Falls (unstable_step m now calm.session)
  unstable_case may fresh unstable = falls_if (is_newcomer m) _ _ (λ new. no_falls (Step.Wait (admission_wait m now) Until.News Reason.Admission) refl)
      (λ old. falls_if (not (is_ready_itself m)) _ _
      (λ promises mid is reported task. promise_falls m mid after now at later s t calm.session calm sees then_calm then_sees may fresh unstable some is reported)
      (λ ready. no_falls (turn_step m now) (turn_no_task m now)))

  any_case : Falls (calm_step m now s calm.session)
  any_case = falls_if (not s.may_go_on) _ _
      (λ never mid is reported task. stop_falls m mid after now later s t reported.0 calm sees then_calm then_sees (not_not s.may_go_on never) is reported.1)
      (λ goes. falls_if m.needs_snapshot _ _ (λ needs mid is reported task. look_falls m mid after now at later s t then_calm (twice s.may_go_on goes) needs is reported)
      (λ fresh. falls_if s.is_stable _ _ (λ stable. begin_case (token_now m) refl (twice s.may_go_on goes) fresh stable) (λ unstable. unstable_case (twice s.may_go_on goes) fresh unstable)))
    where
      not_not : (b : Bool) → not b ≡ true → b ≡ false
      not_not true is = absurd (cc is)
      not_not false is = refl

pub falls_lem : (m after : MemberState) (now at later : ℕ) (step : Step) (s t : Sight) → IsCalm m now → Sees m now s → TakesTurn m now at step after → is_task step ≡ true → IsCalm after later → Sees after later t → to_do after t < to_do m s
falls_lem m after now at later taken s t calm sees turn task then_calm then_sees =
    subst (λ x. Falls m after now at later s t calm sees then_calm then_sees some x) (sym is_calm) (any_case m after now at later s t calm sees then_calm then_sees some) turn.mid noted_so turn.reported task
  where
    same : turn.goes.sight ≡ s
    same = sights_same m now turn.goes.sight s turn.goes.sees sees

    is_due : taken ≡ due m now s
    is_due = turn.goes.due ∙ ap (due m now) same

    is_calm : taken ≡ calm_step m now s calm.session
    is_calm = is_due ∙ due_is m now s calm

    noted_so : turn.mid ≡ noted m now s.is_stable taken
    noted_so = turn.goes.noted ∙ ap (λ (x : Sight). noted m now x.is_stable taken) same

    some : 0 < to_do m s
    some = some_to_do m now s taken calm sees is_due task

-- A list of turns.

to_do_most : (m : MemberState) (s : Sight) (needs : Bool) → (if needs then 3 else to_do_seen m s) ≤ 3
to_do_most m s true = omega arith
to_do_most m s false = let most = seen_most m s s.is_stable (token_now m) in omega (arith, most)

pub most_to_do : (m : MemberState) (s : Sight) → to_do m s ≤ 4
most_to_do m s = let one = unless_most s.may_go_on in let most = to_do_most m s m.needs_snapshot in omega (arith, one, most)

turns_bound : (turns : List Turn) (t : Turn) (m after : MemberState) (s : Sight) → DoesTasks m (t ∷ turns) after → Sees m t.now s → length (t ∷ turns) ≤ to_do m s
turns_bound [] t m after s (mid, calm, turn, task, end) sees =
    let same = sights_same m t.now turn.goes.sight s turn.goes.sees sees in
    let some = some_to_do m t.now s t.step calm sees (turn.goes.due ∙ ap (due m t.now) same) task in
    omega (arith, some)
turns_bound (u ∷ turns) t m after s (mid, calm, turn, task, (next, then_calm, then_turn, then_task, more)) sees =
    let rest = turns_bound turns u mid after then_turn.goes.sight (next, then_calm, then_turn, then_task, more) then_turn.goes.sees in
    let less = falls_lem m mid t.now t.at u.now t.step s then_turn.goes.sight calm sees turn task then_calm then_turn.goes.sees in
    omega (arith, rest, less)

pub bounded_lem : (m after : MemberState) (turns : List Turn) → DoesTasks m turns after → length turns ≤ 4
bounded_lem m after [] does = omega arith
bounded_lem m after (t ∷ turns) (mid, calm, turn, task, more) =
    let few = turns_bound turns t m after turn.goes.sight (mid, calm, turn, task, more) turn.goes.sees in
    let most = most_to_do m turn.goes.sight in
    omega (arith, few, most)
