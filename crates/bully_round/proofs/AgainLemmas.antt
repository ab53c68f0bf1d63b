-- A member that has promised, and looks again, has nothing left to do.
use Rattle.std.proofs.Common.{◌≡◌, ◌&&◌, ◌||◌, ◌==◌, ◌+◌, not, if◌then◌else◌, ℕ, Bool, true, false, List, Option, Some, None, Contains, map, bytes_eq, arith, refl, sym, ap, subst, ◌∙◌}
use Rattle.std.proofs.lemmas.Slice.Eq.{bytes_eq-Decides}
use Rattle.bully_member.specs.Activities.{busy, works_at}
use Rattle.bully_member.specs.Due.{Sees, asked_for, goes_on, goes_on_by, is_newcomer, last_table, token_now}
use Rattle.bully_member.specs.Learned.{after_learning}
use Rattle.bully_member.specs.Member.{MemberState, admitted_among, has_promised, here, is_affected, lease_of, replica_of, same_promise}
use Rattle.bully_member.specs.Told.{found, own_by, own_by_promise, own_of, same_session, to_snapshot, with_arrivals}
use Rattle.bully_member.specs.declared.opening.Terms.{Terms}
use Rattle.bully_member.specs.declared.values.Activity.{Activity}
use Rattle.bully_member.specs.declared.values.Lease.{Lease}
use Rattle.bully_member.specs.declared.values.Promise.{Promise}
use Rattle.bully_member.specs.declared.values.Request.{Request}
use Rattle.bully_member.specs.declared.values.SessionId.{SessionId}
use Rattle.bully_member.specs.declared.values.SessionState.{SessionState}
use Rattle.bully_member.specs.declared.values.Sight.{Sight}
use Rattle.bully_rebalance.specs.Leaving.{is_left}
use Rattle.bully_rebalance.specs.Rebalancing.{is_member}
use Rattle.bully_replica.specs.Replica.{ReplicaState}
use Rattle.bully_round.proofs.MapLemmas.{has_mapped, mapped_has}
use Rattle.bully_round.proofs.TurnLemmas.{goes_is, is_true, look_is, same_num, table_if, true_is}
use Rattle.bully_round.specs.Group.{HasSameView, HaveLooked, HaveOneView, IsAtRest, IsLeaseOf, Look, LooksAgain, after_in}
use Rattle.bully_round.specs.Progress.{HasLooked, IsCalm, to_begin, to_do, to_do_seen, to_do_then, to_promise, unless}

-- What it finds of its own lease.

same_bytes : (xs : List ℕ) → bytes_eq xs xs ≡ true
same_bytes xs = (bytes_eq-Decides xs xs).1 refl

same_id : (a b : SessionId) → a ≡ b → same_session a b ≡ true
same_id a b is = subst (λ (x : SessionId). same_session a x ≡ true) is (both_true (a.process == a.process) (a.number == a.number) (same_num a.process) (same_num a.number))
  where
    both_true : (a b : Bool) → a ≡ true → b ≡ true → a && b ≡ true
    both_true true true one other = refl
    both_true true false one other = absurd (cc other)
    both_true false b one other = absurd (cc one)

some_if : (b : Bool) (own : Promise × Bool) → b ≡ true → (if b then Some own else None) ≡ Some own
some_if true own is = refl
some_if false own is = absurd (cc is)

own_is : (f : MemberState) (state : SessionState) (held : Option Lease) (session : SessionId) (since : ℕ) (p : Lease) → state ≡ SessionState.Live session since → held ≡ Some p → p.session ≡ session
    → own_by f state held ≡ record f { own = p.promise; is_exact = bytes_eq (busy f.works) p.kept }
own_is f state held session since p live there same =
    let own : Promise × Bool = (p.promise, bytes_eq (busy f.works) p.kept) in
    ap (λ (x : SessionState). own_by f x held) live ∙ ap (own_of f session) there ∙ ap (own_by_promise f) (some_if (same_session p.session session) own (same_id p.session session same))

-- Nothing is left.

may_of : (b : Bool) (n : ℕ) → unless b + n ≡ 0 → (b ≡ true) × (n ≡ 0)
may_of true n is = (refl, omega (arith, is))
may_of false n is = absurd (omega (arith, is))

seen_of : (b : Bool) (n : ℕ) → (if b then 3 else n) ≡ 0 → n ≡ 0
seen_of true n is = absurd (omega (arith, is))
seen_of false n is = is

promise_of : (st : Bool) (n k : ℕ) → st ≡ false → (if st then n else k) ≡ 0 → k ≡ 0
promise_of true n k stable is = absurd (cc stable)
promise_of false n k stable is = is

left_again : (lost goes more by other : Bool) (last later coming next : Option (List ℕ)) (node k : ℕ) → goes ≡ not lost → more ≡ not lost → next ≡ coming → is_left (table_if goes false by last coming) node k ≡ true → is_left (table_if more false other later next) node k ≡ true
left_again true goes more by other last later coming next node k one two same left = absurd (cc (left, ap (λ b. is_left (table_if b false by last coming) node k) one))
left_again false goes more by other last later coming next node k one two same left =
    ap (λ b. is_left (table_if b false other later next) node k) two ∙ ap (λ (t : Option (List ℕ)). is_left t node k) same ∙ sym (ap (λ b. is_left (table_if b false by last coming) node k) one) ∙ left

-- what holds of its promise before holds after it
again_of : (new affected may has then_may then_has : Bool) → then_may ≡ true → (has ≡ true → then_has ≡ true) → unless (new || (not affected || (may && has))) ≡ 0 → unless (new || (not affected || (then_may && then_has))) ≡ 0
again_of true affected may has then_may then_has goes keeps none = refl
again_of false false may has then_may then_has goes keeps none = refl
again_of false true true true true true goes keeps none = refl
again_of false true true true true false goes keeps none = absurd (cc (keeps refl))
again_of false true may has false then_has goes keeps none = absurd (cc goes)
again_of false true true false then_may then_has goes keeps none = absurd (omega (arith, none))
again_of false true false has then_may then_has goes keeps none = absurd (omega (arith, none))

two_of : (a b : Bool) → a && b ≡ true → (a ≡ true) × (b ≡ true)
two_of true true is = (refl, refl)
two_of true false is = absurd (cc is)
two_of false b is = absurd (cc is)

and_both : (a b : Bool) → a ≡ true → b ≡ true → a && b ≡ true
and_both true true one other = refl
and_both true false one other = absurd (cc other)
and_both false b one other = absurd (cc one)

module _ (leases : List Lease) (m after : MemberState) (later : ℕ) (t : Sight) (looks : LooksAgain leases m after) (then_calm : IsCalm after later) (then_sees : Sees after later t) (still : t.is_stable ≡ false) where
  abbrev looked : HasLooked looks.turn.mid looks.at after
  looked = looks.turn.reported

  abbrev asks : MemberState
  asks = asked_for (to_snapshot m) looks.now Request.Snapshot

  behind_is : looked.behind ≡ after_learning asks looked.behind.learned looked.taken
  behind_is = looked.learns.rest ∙ ap (λ (x : MemberState). after_learning x looked.behind.learned looked.taken) looks.turn.goes.noted

  abbrev f : MemberState
  f = found (with_arrivals looked.behind looks.at looked.leases) looks.at looked.leases looked.has_unknown looked.has_request (admitted_among (with_arrivals looked.behind looks.at looked.leases) looks.at looked.leases) after.coming after.affected

  found_is : after ≡ own_by f f.session (lease_of f.terms.node f.leases)
  found_is = look_is looks.turn.mid looked.behind after looks.now looks.at looked.leases looked.has_unknown looked.has_request
      (ap (λ (x : MemberState). x.asked) behind_is) (ap (λ (x : MemberState). x.terms.epoch) looked.learns.rest) looked.reads

  terms : f.terms ≡ m.terms
  terms = ap (λ (x : MemberState). x.terms) behind_is

  works : f.works ≡ m.works
  works = ap (λ (x : MemberState). x.works) behind_is

  session : f.session ≡ SessionState.Live looks.rest.calm.session looks.rest.calm.since
  session = ap (λ (x : MemberState). x.session) behind_is ∙ looks.rest.calm.live

  there : lease_of f.terms.node f.leases ≡ Some looks.own
  there = ap (λ (x : Terms). lease_of x.node f.leases) terms ∙ ap (lease_of m.terms.node) looks.seen ∙ looks.there

  is : after ≡ record f { own = looks.own.promise; is_exact = bytes_eq (busy f.works) looks.own.kept }
  is = found_is ∙ own_is f f.session (lease_of f.terms.node f.leases) looks.rest.calm.session looks.rest.calm.since looks.own session there looks.session

  then_terms : after.terms ≡ m.terms
  then_terms = ap (λ (x : MemberState). x.terms) is ∙ terms

  then_works : after.works ≡ m.works
  then_works = ap (λ (x : MemberState). x.works) is ∙ works

  then_lost : after.is_lost ≡ m.is_lost
  then_lost = ap (λ (x : MemberState). x.is_lost) is ∙ ap (λ (x : MemberState). x.is_lost) behind_is

  fresh : after.needs_snapshot ≡ false
  fresh = ap (λ (x : MemberState). x.needs_snapshot) is

  before : (looks.rest.sight.may_go_on ≡ true) × (to_do_then m looks.rest.sight ≡ 0)
  before = may_of looks.rest.sight.may_go_on (to_do_then m looks.rest.sight) looks.rest.none

  promised : to_promise m looks.rest.sight ≡ 0
  promised = promise_of looks.rest.sight.is_stable (to_begin m looks.rest.sight (token_now m)) (to_promise m looks.rest.sight) looks.rest.stable (seen_of m.needs_snapshot (to_do_seen m looks.rest.sight) before.1)

  goes : t.may_go_on ≡ true
  goes = true_is t.may_go_on (then_sees.stays.1 (λ k works_k. subst (λ st. is_left (table_if (goes_on after later) st (goes_on_by after (token_now after)) (last_table after) after.coming) after.terms.node k ≡ true) (sym still)
      (subst (λ (x : Terms). is_left (table_if (goes_on after later) false (goes_on_by after (token_now after)) (last_table after) after.coming) x.node k ≡ true) (sym then_terms)
      (left_again m.is_lost (goes_on m looks.before) (goes_on after later) (goes_on_by m (token_now m)) (goes_on_by after (token_now after)) (last_table m) (last_table after) m.coming after.coming m.terms.node k
      (goes_is m looks.before looks.rest.calm) (goes_is after later then_calm ∙ ap not then_lost) looks.coming
      (subst (λ st. is_left (table_if (goes_on m looks.before) st (goes_on_by m (token_now m)) (last_table m) m.coming) m.terms.node k ≡ true) looks.rest.stable
      (looks.rest.sees.stays.0 (is_true looks.rest.sight.may_go_on before.0) k (subst (λ (ws : List Activity). works_at ws k ≡ true) then_works works_k)))))))

  keeps : has_promised m ≡ true → has_promised after ≡ true
  keeps has =
      let (same, exact) = two_of (same_promise m.own (here m)) m.is_exact has in
      let own : after.own ≡ m.own = ap (λ (x : MemberState). x.own) is ∙ looks.its.promise in
      let kept : after.is_exact ≡ true = ap (λ (x : MemberState). x.is_exact) is ∙ ap (λ (ws : List Activity). bytes_eq (busy ws) looks.own.kept) works ∙ ap (bytes_eq (busy m.works)) (looks.its.kept exact) ∙ same_bytes (busy m.works) in
      let at : same_promise after.own (here after) ≡ same_promise m.own (here m) =
      ap (λ (x : Promise). same_promise x (here after)) own ∙ ap (λ (x : Terms). same_promise m.own (record { epoch = x.epoch; offset = (replica_of after).world.events })) then_terms
      ∙ ap (λ (r : ReplicaState). same_promise m.own (record { epoch = m.terms.epoch; offset = r.world.events })) looks.replica in
      and_both (same_promise after.own (here after)) after.is_exact (at ∙ same) kept

  newcomer : is_newcomer after ≡ is_newcomer m
  newcomer = ap (λ (x : Terms). x.is_cooperative && not (is_member after.group x.node)) then_terms ∙ ap (λ (g : List ℕ). m.terms.is_cooperative && not (is_member g m.terms.node)) looks.group

  concerned : is_affected after after.terms.node ≡ is_affected m m.terms.node
  concerned = ap (λ (x : Terms). is_member after.affected x.node) then_terms ∙ ap (λ (g : List ℕ). is_member g m.terms.node) looks.affected

  none : to_promise after t ≡ 0
  none = ap (λ b. unless (b || (not (is_affected after after.terms.node) || (t.may_go_on && has_promised after)))) newcomer
      ∙ ap (λ b. unless (is_newcomer m || (not b || (t.may_go_on && has_promised after)))) concerned
      ∙ again_of (is_newcomer m) (is_affected m m.terms.node) looks.rest.sight.may_go_on (has_promised m) t.may_go_on (has_promised after) goes keeps promised

  pub nothing_left : to_do after t ≡ 0
  nothing_left =
      let first : unless t.may_go_on ≡ 0 = ap unless goes in
      let second : to_do_then after t ≡ to_do_seen after t = ap (λ b. if b then 3 else to_do_seen after t) fresh in
      let third : to_do_seen after t ≡ to_promise after t = ap (λ b. if b then to_begin after t (token_now after) else to_promise after t) still in
      let last = none in
      omega (arith, first, second, third, last)

  pub rest_then : IsAtRest after later false
  rest_then = record { sight = t; calm = then_calm; sees = then_sees; stable = still; none = nothing_left }

  pub lease_then : IsLeaseOf after looks.own
  lease_then = record {
    node = looks.its.node ∙ sym (ap (λ (x : Terms). x.node) then_terms);
    promise = sym (ap (λ (x : MemberState). x.own) is);
    kept = λ exact. sym ((bytes_eq-Decides (busy f.works) looks.own.kept).0 (sym (ap (λ (x : MemberState). x.is_exact) is) ∙ exact)) ∙ sym (ap (λ (x : MemberState). busy x.works) is);
  }

  pub leases_then : after.leases ≡ leases
  leases_then = ap (λ (x : MemberState). x.leases) is ∙ looks.seen

  pub epoch_then : after.terms.epoch ≡ m.terms.epoch
  epoch_then = ap (λ (x : Terms). x.epoch) then_terms

  pub newcomer_then : is_newcomer after ≡ is_newcomer m
  newcomer_then = newcomer

pub again_lem : (leases : List Lease) (m after : MemberState) (later : ℕ) (t : Sight) → LooksAgain leases m after → IsCalm after later → Sees after later t → t.is_stable ≡ false → to_do after t ≡ 0
again_lem leases m after later t looks then_calm then_sees still = nothing_left leases m after later t looks then_calm then_sees still

-- All of them.

one_lease : (o : Option Lease) (a b : Lease) → o ≡ Some a → o ≡ Some b → a ≡ b
one_lease o a b one other = cc (one, other)

module _ (leases : List Lease) (xs : List Look) (looked : HaveLooked leases xs) where
  each : (P : MemberState → Type 0) → ((x : Look) → Contains xs x → P x.after) → (m : MemberState) → Contains (map after_in xs) m → P m
  each P holds m has = let (x, there, same) = has_mapped after_in xs m has in subst P (sym same) (holds x there)

  same_view : (x y : Look) (one : Contains xs x) (other : Contains xs y) → HasSameView x.after y.after
  same_view x y one other =
      let was = looked.alike x y one other in
      let a = looked.looks x one in
      let b = looked.looks y other in
      record {
        offset = ap (λ (r : ReplicaState). r.world.events) a.replica ∙ was.offset ∙ sym (ap (λ (r : ReplicaState). r.world.events) b.replica);
        epoch = epoch_then leases x.before x.after x.later x.sight a (looked.calm x one) (looked.sees x one) (looked.unstable x one) ∙ was.epoch
            ∙ sym (epoch_then leases y.before y.after y.later y.sight b (looked.calm y other) (looked.sees y other) (looked.unstable y other));
        coming = a.coming ∙ was.coming ∙ sym b.coming;
        affected = λ i. ap (λ (nodes : List ℕ). is_member nodes i) a.affected ∙ was.affected i ∙ sym (ap (λ (nodes : List ℕ). is_member nodes i) b.affected);
      }

  owner_of : (p : Lease) → Contains leases p → (n : MemberState) × Contains (map after_in xs) n × IsLeaseOf n p
  owner_of p has =
      let (x, there, same) = looked.owners p has in
      let own : (looked.looks x there).own ≡ p = one_lease (lease_of x.before.terms.node leases) (looked.looks x there).own p (looked.looks x there).there same in
      (x.after, mapped_has after_in xs x there, subst (IsLeaseOf x.after) own (lease_then leases x.before x.after x.later x.sight (looked.looks x there) (looked.calm x there) (looked.sees x there) (looked.unstable x there)))

  leases_of : (x : Look) (there : Contains xs x) (p : Lease) → Contains x.after.leases p → (n : MemberState) × Contains (map after_in xs) n × IsLeaseOf n p
  leases_of x there p has = owner_of p (subst (λ (ls : List Lease). Contains ls p) (leases_then leases x.before x.after x.later x.sight (looked.looks x there) (looked.calm x there) (looked.sees x there) (looked.unstable x there)) has)

  pub one_view : HaveOneView (map after_in xs)
  one_view = record {
    rest = each (λ m. (now : ℕ) × IsAtRest m now false) (λ x there. (x.later, rest_then leases x.before x.after x.later x.sight (looked.looks x there) (looked.calm x there) (looked.sees x there) (looked.unstable x there)));
    old = each (λ m. is_newcomer m ≡ false) (λ x there. newcomer_then leases x.before x.after x.later x.sight (looked.looks x there) (looked.calm x there) (looked.sees x there) (looked.unstable x there) ∙ looked.old x there);
    alike = λ m n first second. each (λ a. HasSameView a n) (λ x one. each (HasSameView x.after) (λ y other. same_view x y one other) n second) m first;
    leases = λ m p one has. each (λ a. Contains a.leases p → (n : MemberState) × Contains (map after_in xs) n × IsLeaseOf n p) (λ x there held. leases_of x there p held) m one has;
    known = each (λ m. m.has_unknown ≡ false) looked.known;
  }

pub view_lem : (leases : List Lease) (xs : List Look) → HaveLooked leases xs → HaveOneView (map after_in xs)
view_lem leases xs looked = one_view leases xs looked
