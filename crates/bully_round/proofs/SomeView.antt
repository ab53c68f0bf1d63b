-- There are members of one view: two of an eager group, who have promised the end of an empty log. To each a snapshot
-- shows the other's promise.
use Rattle.std.proofs.Common.{◌≡◌, ◌↔◌, ◌<◌, inl, inr, ◌∷◌, [], ℕ, zero, suc, true, false, List, Some, None, Ok, Contains, length, arith, refl, ap, subst}
use Rattle.std.specs.List.{list_any}
use Rattle.bully_member.specs.Due.{Sees, due, is_admitted_since, is_newcomer, noted}
use Rattle.bully_member.specs.Learned.{after_learning}
use Rattle.bully_member.specs.Member.{MemberState, lease_of, live_of, new_member, replica_of}
use Rattle.bully_member.specs.Told.{snapshot_read, to_snapshot}
use Rattle.bully_member.specs.declared.values.Arrival.{Arrival}
use Rattle.bully_member.specs.declared.values.Lease.{Lease}
use Rattle.bully_member.specs.declared.values.Request.{Request}
use Rattle.bully_member.specs.declared.values.Sight.{Sight}
use Rattle.bully_member.specs.declared.values.Step.{Step}
use Rattle.bully_member.specs.declared.values.SessionState.{SessionState}
use Rattle.bully_replica.proofs.RowReplicaLemmas.{follows_none}
use Rattle.bully_round.proofs.SomeTurns.{all_down, free_sight, header, idle, learned, lease, not_stable, session, terms}
use Rattle.bully_round.specs.Group.{HasSameView, HaveLooked, HaveOneView, IsAlert, IsAtRest, IsLeaseOf, Look, LooksAgain}
use Rattle.bully_round.specs.Progress.{IsCalm, TakesTurn, changes_log}

-- its session was seen now
abbrev pub seen_at : ℕ → Arrival
seen_at node = record { session = Some (session node); at = 1; stay = 10 }

-- their leases, before either has promised, and after both have
abbrev first_leases : List Lease
first_leases = lease 1 0 ∷ lease 2 0 ∷ []

abbrev pub all_leases : List Lease
all_leases = lease 1 1 ∷ lease 2 1 ∷ []

abbrev knowing : List Lease → ℕ → MemberState
knowing leases node = record (new_member header (terms node) node 1000) {
  session = SessionState.Live (session node) 0;
  tries = 1;
  own = record { epoch = 1; offset = 0 };
  is_exact = true;
  leases = leases;
  arrivals = seen_at 1 ∷ seen_at 2 ∷ [];
  affected = 2 ∷ 1 ∷ [];
  needs_snapshot = false;
  last_change = record { at = 1; offset = 0 };
  is_asked_exact = true;
}

abbrev pub one : ℕ → MemberState
one node = knowing all_leases node

abbrev pub both : List MemberState
both = one 1 ∷ one 2 ∷ []

each : (P : MemberState → Type 0) → P (one 1) → P (one 2) → (m : MemberState) → Contains both m → P m
each P first second m (zero, low, is) = let same : one 1 ≡ m = cc is in subst P same first
each P first second m (suc zero, low, is) = let same : one 2 ≡ m = cc is in subst P same second
each P first second m (suc (suc i), low, is) = absurd (omega (arith, low))

sees : (leases : List Lease) (node : ℕ) → Sees (knowing leases node) 1 free_sight
sees leases node = record {
  stable = ((λ is. absurd (cc is)), (λ stable. absurd (not_stable (knowing leases node) refl stable)));
  down = ((λ is. all_down (replica_of (knowing leases node)) refl), (λ is. refl));
  stays = ((λ is k busy. absurd (idle k busy)), (λ is. refl));
  all = ((λ is. tt), (λ is. refl));
}

calm : (leases : List Lease) (node : ℕ) → list_any (is_admitted_since (knowing leases node) 1) leases ≡ false → IsCalm (knowing leases node) 1
calm leases node quiet = record { session = session node; since = 0; live = refl; early = refl; going = refl; within = refl; answered = refl; rested = refl; free = refl; quiet = quiet; learned = learned; sized = λ p is. absurd (cc is) }

rests_one : IsAtRest (one 1) 1 false
rests_one = record { sight = free_sight; calm = calm all_leases 1 refl; sees = sees all_leases 1; stable = refl; none = refl }

rests_two : IsAtRest (one 2) 1 false
rests_two = record { sight = free_sight; calm = calm all_leases 2 refl; sees = sees all_leases 2; stable = refl; none = refl }

alike : (leases : List Lease) (a b : ℕ) → HasSameView (knowing leases a) (knowing leases b)
alike leases a b = record { offset = refl; epoch = refl; coming = refl; affected = λ i. refl }

owner : (m : MemberState) (p : Lease) → m.leases ≡ all_leases → Contains m.leases p → (n : MemberState) × Contains both n × IsLeaseOf n p
owner m p known has = by_place p (subst (λ (xs : List Lease). Contains xs p) known has)
  where
    by_place : (p : Lease) → Contains all_leases p → (n : MemberState) × Contains both n × IsLeaseOf n p
    by_place p (zero, low, is) = let same : lease 1 1 ≡ p = cc is in (one 1, (0, omega arith, refl), subst (IsLeaseOf (one 1)) same (record { node = refl; promise = refl; kept = λ exact. refl }))
    by_place p (suc zero, low, is) = let same : lease 2 1 ≡ p = cc is in (one 2, (1, omega arith, refl), subst (IsLeaseOf (one 2)) same (record { node = refl; promise = refl; kept = λ exact. refl }))
    by_place p (suc (suc i), low, is) = absurd (omega (arith, low))

pub view : HaveOneView both
view = record {
  rest = each (λ m. (now : ℕ) × IsAtRest m now false) (1, rests_one) (1, rests_two);
  old = each (λ m. is_newcomer m ≡ false) refl refl;
  alike = λ m n first second. each (λ m. HasSameView m n) (each (HasSameView (one 1)) (alike all_leases 1 1) (alike all_leases 1 2) n second) (each (HasSameView (one 2)) (alike all_leases 2 1) (alike all_leases 2 2) n second) m first;
  leases = λ m p one_of there. owner m p (each (λ (x : MemberState). x.leases ≡ all_leases) refl refl m one_of) there;
  known = each (λ m. m.has_unknown ≡ false) refl refl;
}

pub some_view_lem : (ms : List MemberState) × HaveOneView ms × (length ms ≡ 2)
some_view_lem = (both, view, refl)

-- Each of them looks again, and sees the same. That shows it the other's promise.

pub both_live : (i : ℕ) → Contains (2 ∷ 1 ∷ []) i ↔ Contains (live_of all_leases) i
both_live i = ((λ has. has), (λ has. has))

abbrev woken_one : MemberState
woken_one = to_snapshot (knowing first_leases 1)

abbrev mid_one : MemberState
mid_one = noted woken_one 1 false (Step.Ask Request.Snapshot)

abbrev behind_one : MemberState
behind_one = after_learning mid_one mid_one.learned (Ok tt)

abbrev again_one : MemberState
again_one = snapshot_read behind_one 1 1 all_leases false false None (2 ∷ 1 ∷ [])

sees_one : Sees woken_one 1 free_sight
sees_one = record {
  stable = ((λ is. absurd (cc is)), (λ stable. absurd (not_stable woken_one refl stable)));
  down = ((λ is. all_down (replica_of woken_one) refl), (λ is. refl));
  stays = ((λ is k busy. absurd (idle k busy)), (λ is. refl));
  all = ((λ is. tt), (λ is. refl));
}

then_sees_one : Sees again_one 1 free_sight
then_sees_one = record {
  stable = ((λ is. absurd (cc is)), (λ stable. absurd (not_stable again_one refl stable)));
  down = ((λ is. all_down (replica_of again_one) refl), (λ is. refl));
  stays = ((λ is k busy. absurd (idle k busy)), (λ is. refl));
  all = ((λ is. tt), (λ is. refl));
}

then_calm_one : IsCalm again_one 1
then_calm_one = record { session = session 1; since = 0; live = refl; early = refl; going = refl; within = refl; answered = refl; rested = refl; free = refl; quiet = refl; learned = learned; sized = λ p is. absurd (cc is) }

rests_first_one : IsAtRest (knowing first_leases 1) 1 false
rests_first_one = record { sight = free_sight; calm = calm first_leases 1 refl; sees = sees first_leases 1; stable = refl; none = refl }

turn_one : TakesTurn woken_one 1 1 (Step.Ask Request.Snapshot) again_one
turn_one = record {
  mid = mid_one;
  goes = record { sight = free_sight; sees = sees_one; due = refl; noted = refl; keeps = tt; awaits = refl; stops = λ k busy. absurd (idle k busy) };
  reported = record {
    records = [];
    taken = Ok tt;
    behind = behind_one;
    learns = record { left = []; follows = follows_none [] mid_one.learned; rest = refl };
    leases = all_leases;
    has_unknown = false;
    has_request = false;
    reads = refl;
    foresees = record { falling = tt; live = (omega arith, omega arith, (omega arith, omega arith, tt)); comes = refl; affects = both_live };
  };
}

looks_one : LooksAgain all_leases (knowing first_leases 1) again_one
unfolding rests_first_one calm turn_one
looks_one = record {
  before = 1;
  rest = rests_first_one;
  now = 1;
  at = 1;
  turn = turn_one;
  seen = refl;
  replica = refl;
  group = refl;
  coming = refl;
  affected = refl;
  own = lease 1 1;
  there = refl;
  session = refl;
  its = record { node = refl; promise = refl; kept = λ exact. refl };
}

alert_one : IsAlert all_leases again_one 1 free_sight
unfolding turn_one
alert_one = record {
  before = woken_one;
  asked = 1;
  at = 1;
  turn = turn_one;
  seen = refl;
  change = inr (inl refl);
  own = lease 1 1;
  there = (0, omega arith, refl);
  its = refl;
  calm = then_calm_one;
  sees = then_sees_one;
  soon = omega arith;
}

abbrev look_one : Look
look_one = record { before = knowing first_leases 1; after = again_one; later = 1; sight = free_sight }

abbrev woken_two : MemberState
woken_two = to_snapshot (knowing first_leases 2)

abbrev mid_two : MemberState
mid_two = noted woken_two 1 false (Step.Ask Request.Snapshot)

abbrev behind_two : MemberState
behind_two = after_learning mid_two mid_two.learned (Ok tt)

abbrev again_two : MemberState
again_two = snapshot_read behind_two 1 1 all_leases false false None (2 ∷ 1 ∷ [])

sees_two : Sees woken_two 1 free_sight
sees_two = record {
  stable = ((λ is. absurd (cc is)), (λ stable. absurd (not_stable woken_two refl stable)));
  down = ((λ is. all_down (replica_of woken_two) refl), (λ is. refl));
  stays = ((λ is k busy. absurd (idle k busy)), (λ is. refl));
  all = ((λ is. tt), (λ is. refl));
}

then_sees_two : Sees again_two 1 free_sight
then_sees_two = record {
  stable = ((λ is. absurd (cc is)), (λ stable. absurd (not_stable again_two refl stable)));
  down = ((λ is. all_down (replica_of again_two) refl), (λ is. refl));
  stays = ((λ is k busy. absurd (idle k busy)), (λ is. refl));
  all = ((λ is. tt), (λ is. refl));
}

then_calm_two : IsCalm again_two 1
then_calm_two = record { session = session 2; since = 0; live = refl; early = refl; going = refl; within = refl; answered = refl; rested = refl; free = refl; quiet = refl; learned = learned; sized = λ p is. absurd (cc is) }

rests_first_two : IsAtRest (knowing first_leases 2) 1 false
rests_first_two = record { sight = free_sight; calm = calm first_leases 2 refl; sees = sees first_leases 2; stable = refl; none = refl }

turn_two : TakesTurn woken_two 1 1 (Step.Ask Request.Snapshot) again_two
turn_two = record {
  mid = mid_two;
  goes = record { sight = free_sight; sees = sees_two; due = refl; noted = refl; keeps = tt; awaits = refl; stops = λ k busy. absurd (idle k busy) };
  reported = record {
    records = [];
    taken = Ok tt;
    behind = behind_two;
    learns = record { left = []; follows = follows_none [] mid_two.learned; rest = refl };
    leases = all_leases;
    has_unknown = false;
    has_request = false;
    reads = refl;
    foresees = record { falling = tt; live = (omega arith, omega arith, (omega arith, omega arith, tt)); comes = refl; affects = both_live };
  };
}

looks_two : LooksAgain all_leases (knowing first_leases 2) again_two
unfolding rests_first_two calm turn_two
looks_two = record {
  before = 1;
  rest = rests_first_two;
  now = 1;
  at = 1;
  turn = turn_two;
  seen = refl;
  replica = refl;
  group = refl;
  coming = refl;
  affected = refl;
  own = lease 2 1;
  there = refl;
  session = refl;
  its = record { node = refl; promise = refl; kept = λ exact. refl };
}

alert_two : IsAlert all_leases again_two 1 free_sight
unfolding turn_two
alert_two = record {
  before = woken_two;
  asked = 1;
  at = 1;
  turn = turn_two;
  seen = refl;
  change = inr (inl refl);
  own = lease 2 1;
  there = (1, omega arith, refl);
  its = refl;
  calm = then_calm_two;
  sees = then_sees_two;
  soon = omega arith;
}

abbrev look_two : Look
look_two = record { before = knowing first_leases 2; after = again_two; later = 1; sight = free_sight }

abbrev both_look : List Look
both_look = look_one ∷ look_two ∷ []

each_look : (P : Look → Type 0) → P look_one → P look_two → (x : Look) → Contains both_look x → P x
each_look P first second x (zero, low, is) = let same : look_one ≡ x = cc is in subst P same first
each_look P first second x (suc zero, low, is) = let same : look_two ≡ x = cc is in subst P same second
each_look P first second x (suc (suc i), low, is) = absurd (omega (arith, low))

looked : HaveLooked all_leases both_look
looked = record {
  looks = each_look (λ x. LooksAgain all_leases x.before x.after) looks_one looks_two;
  calm = each_look (λ x. IsCalm x.after x.later) then_calm_one then_calm_two;
  sees = each_look (λ x. Sees x.after x.later x.sight) then_sees_one then_sees_two;
  unstable = each_look (λ x. x.sight.is_stable ≡ false) refl refl;
  alike = λ x y first second. each_look (λ a. HasSameView a.before y.before)
      (each_look (λ b. HasSameView (knowing first_leases 1) b.before) (alike first_leases 1 1) (alike first_leases 1 2) y second)
      (each_look (λ b. HasSameView (knowing first_leases 2) b.before) (alike first_leases 2 1) (alike first_leases 2 2) y second) x first;
  old = each_look (λ x. is_newcomer x.before ≡ false) refl refl;
  owners = owners;
  known = each_look (λ x. x.after.has_unknown ≡ false) refl refl;
}
  where
    owners : (p : Lease) → Contains all_leases p → (x : Look) × Contains both_look x × (lease_of x.before.terms.node all_leases ≡ Some p)
    owners p (zero, low, is) = let same : lease 1 1 ≡ p = cc is in (look_one, (0, omega arith, refl), ap Some same)
    owners p (suc zero, low, is) = let same : lease 2 1 ≡ p = cc is in (look_two, (1, omega arith, refl), ap Some same)
    owners p (suc (suc i), low, is) = absurd (omega (arith, low))

pub some_look_lem : (leases : List Lease) × (xs : List Look) × HaveLooked leases xs × (length xs ≡ 2)
some_look_lem = (all_leases, both_look, looked, refl)

pub some_alert_lem : (leases : List Lease) × (m n : MemberState) × (now : ℕ) × (s : Sight) × IsAlert leases m now s × IsAlert leases n now s × (m.terms.node < n.terms.node) × (changes_log (due n now s) ≡ true)
some_alert_lem = (all_leases, again_one, again_two, 1, free_sight, alert_one, alert_two, omega arith, refl)
