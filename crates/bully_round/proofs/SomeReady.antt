-- There are members that are ready in a run: the process of bully_run's example, once it has read another snapshot.
use Rattle.std.proofs.Common.{◌≡◌, ◌==◌, ◌++◌, ◌∷◌, [], ℕ, zero, suc, Bool, true, false, List, Some, None, Contains, cond, length, arith, refl, sym, ap, subst}
use Rattle.std.proofs.lemmas.Bool.Decides.{nat_tests}
use Rattle.bully_member.specs.Asking.{IsOwn}
use Rattle.bully_member.specs.Due.{Sees, is_newcomer, noted}
use Rattle.bully_member.specs.Member.{MemberState, replica_of}
use Rattle.bully_member.specs.Told.{SeesIfFound, snapshot_read}
use Rattle.bully_member.specs.declared.values.Lease.{Lease}
use Rattle.bully_member.specs.declared.values.Request.{Request}
use Rattle.bully_member.specs.declared.values.Step.{Step}
use Rattle.bully_round.proofs.FromLemmas.{run_on}
use Rattle.bully_round.specs.From.{AreReady, HasFoundSame, HasLease, HasMember, InRun, IsTold, IsUpTo}
use Rattle.bully_round.specs.Group.{IsAtRest}
use Rattle.bully_run.proofs.RunLemmas.{process_is}
use Rattle.bully_run.proofs.SomeRun.{all_down, deed, happenings, idle, m4, not_stable, r6, s4, sight, some_run}
use Rattle.bully_run.specs.Calls.{SnapshotRead}
use Rattle.bully_run.specs.Run.{Goes, Happening, Happens, HasRun, Process, Run, Told, id_of, session_by, store_told, with_member}
use Rattle.bully_work.proofs.StoreLemmas.{no_lease}
use Rattle.bully_work.specs.Store.{Lease as Held, Store, nothing_in}

abbrev lease : Lease
lease = record { node = 1; session = session_by 0 1; promise = record { epoch = 0; offset = 0 }; kept = []; is_leaving = false }

abbrev m5 : MemberState
m5 = noted m4 3 false (Step.Ask Request.Snapshot)

abbrev m6 : MemberState
m6 = snapshot_read m5 3 0 (lease ∷ []) false false None (1 ∷ [])

abbrev s5 : Store
s5 = store_told s4 0 m5 (SnapshotRead 3 0 (lease ∷ []) false false)

abbrev r7 : Run
r7 = with_member r6 0 0 m5 s4 []

abbrev r8 : Run
r8 = with_member r7 0 0 m6 s5 []

sees4 : Sees m4 3 sight
sees4 = record {
  stable = ((λ is. absurd (cc is)), (λ stable. absurd (not_stable m4 refl stable)));
  down = ((λ is. all_down (replica_of m4) refl), (λ is. refl));
  stays = ((λ is k busy. absurd (idle k busy)), (λ is. refl));
  all = ((λ is. tt), (λ is. refl));
}

sees6 : Sees m6 4 sight
sees6 = record {
  stable = ((λ is. absurd (cc is)), (λ stable. absurd (not_stable m6 refl stable)));
  down = ((λ is. all_down (replica_of m6) refl), (λ is. refl));
  stays = ((λ is k busy. absurd (idle k busy)), (λ is. refl));
  all = ((λ is. tt), (λ is. refl));
}

asks : Happens r6 (Goes 0 3 (Step.Ask Request.Snapshot) deed) r7
asks = (record { name = 0; member = m4 }, m5, refl, record { sight = sight; sees = sees4; due = refl; noted = refl; keeps = tt; awaits = refl; stops = λ k busy. absurd (idle k busy) }, tt, refl)

reads : Happens r7 (Told 0 (SnapshotRead 3 0 (lease ∷ []) false false)) r8
reads = (record { name = 0; member = m5 }, m6, refl, refl, (λ awaits same. (0, omega arith, refl)), refl)

abbrev more : List Happening
more = Goes 0 3 (Step.Ask Request.Snapshot) deed ∷ Told 0 (SnapshotRead 3 0 (lease ∷ []) false false) ∷ []

ready_run : HasRun (happenings ++ more) r8
ready_run = run_on happenings more r6 r8 some_run (r7, asks, (r8, reads, refl))

-- It is ready.

only : (P : MemberState → Type 0) → P m6 → (m : MemberState) → Contains (m6 ∷ []) m → P m
only P holds m (zero, low, at) = let same : m6 ≡ m = cc at in subst P same holds
only P holds m (suc i, low, at) = absurd (omega (arith, low))

rests : InRun m6 (IsAtRest m6 4 false)
rests learned sized = record {
  sight = sight;
  calm = record {
    session = session_by 0 1;
    since = 1;
    live = refl;
    early = refl;
    going = refl;
    within = refl;
    answered = refl;
    rested = refl;
    free = refl;
    quiet = refl;
    learned = learned;
    sized = sized;
  };
  sees = sees6;
  stable = refl;
  none = refl;
}

abbrev there : HasMember r8 0 m6
there = record { name = 0; there = refl }

name_is : (a b : Process) → Some a ≡ Some b → a.name ≡ b.name
name_is a b is = let same : a ≡ b = cc is in ap (λ (x : Process). x.name) same

named : (p : ℕ) (at : HasMember r8 p m6) → at.name ≡ 0
named p at = sym (name_is (record { name = 0; member = m6 }) (record { name = at.name; member = m6 }) (subst (λ x. r8.processes x ≡ Some (record { name = at.name; member = m6 })) (sym first) at.there))
  where
    first : 0 ≡ p
    first = process_is (happenings ++ more) r8 p (record { name = at.name; member = m6 }) ready_run at.there

knows : (held : Held) → s5.live 0 ≡ Some held → IsOwn m6 1 held
knows held is =
    let same : record { session = id_of (session_by 0 1); promised = nothing_in 0 0 } ≡ held = cc is in
    subst (IsOwn m6 1) same (record { same = refl; epoch = refl; offset = refl; kept = λ exact. refl })

has_lease : HasLease r8 0 m6
has_lease = record { live = (nothing_in 0 0, refl); knows = knows }

told : (p : Lease) → Contains (lease ∷ []) p → IsTold r8 p
told p (zero, low, at) =
    let same : lease ≡ p = cc at in
    subst (IsTold r8) same (record { name = 0; held = record { session = id_of (session_by 0 1); promised = nothing_in 0 0 }; live = refl; node = refl; epoch = refl; offset = refl; kept = refl })
told p (suc i, low, at) = absurd (omega (arith, low))

lease_at : (p : ℕ) (at : HasMember r8 p m6) → HasLease r8 at.name m6
lease_at p at = subst (λ name. HasLease r8 name m6) (sym (named p at)) has_lease

holders : (name : ℕ) (here : Held) → r8.store.live name ≡ Some here → (m : MemberState) × (p : ℕ) × (at : HasMember r8 p m) × Contains (m6 ∷ []) m × (at.name ≡ name)
holders name here live = by_test (name == 0) refl live
  where
    by_test : (b : Bool) → (name == 0) ≡ b → cond b (Some (record { session = id_of (session_by 0 1); promised = nothing_in 0 0 })) None ≡ Some here
        → (m : MemberState) × (p : ℕ) × (at : HasMember r8 p m) × Contains (m6 ∷ []) m × (at.name ≡ name)
    by_test true is found = let same : 0 ≡ name = grind (arith, nat_tests, is) in (m6, 0, there, (0, omega arith, refl), same)
    by_test false is found = absurd (no_lease None here refl found)

ahead : SeesIfFound m6
ahead = record { falling = tt; live = (omega arith, omega arith, tt); comes = refl; affects = λ i. ((λ has. has), (λ has. has)) }

are_ready : AreReady r8 (m6 ∷ [])
are_ready = record {
  together = record {
    members = only (λ m. (p : ℕ) × HasMember r8 p m) (0, there);
    up_to = only (IsUpTo r8) (record { epoch = refl; whole = refl });
    told = λ m p has. only (λ m. Contains m.leases p → IsTold r8 p) (told p) m has;
    has = λ m p at one. only (λ x. (there : HasMember r8 p x) → HasLease r8 there.name x) (lease_at p) m one at;
    holders = holders;
  };
  rest = only (λ m. (now : ℕ) × InRun m (IsAtRest m now false)) (4, rests);
  old = only (λ m. is_newcomer m ≡ false) refl;
  alike = λ m n one other. only (λ x. HasFoundSame x n) (only (HasFoundSame m6) (record { terms = refl; leases = refl; request = refl; group = refl }) n other) m one;
  ahead = only SeesIfFound ahead;
  known = only (λ m. m.has_unknown ≡ false) refl;
}

pub some_ready_lem : (calls : List Happening) × (R : Run) × (ms : List MemberState) × HasRun calls R × AreReady R ms × (length ms ≡ 1)
some_ready_lem = (happenings ++ more, r8, m6 ∷ [], ready_run, are_ready, refl)
