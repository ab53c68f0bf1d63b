-- What a member asks for and begins, and what it takes in, are acts of the model.
use Rattle.std.proofs.Common.{◌||◌, ◌≡◌, ◌≤◌, ◌<◌, ◌+◌, ◌-◌, ◌^◌, ◌==◌, ◌&&◌, ◌++◌, ◌∷◌, [], ℕ, zero, suc, Bool, true, false, not, List, Option, Some, None, if◌then◌else◌, nat_le, min, Contains, take, arith, refl, sym, ap, subst, ◌∙◌, ◌⊎◌, inl, inr}
use Rattle.std.proofs.lemmas.Bool.Decides.{nat_tests}
use Rattle.std.proofs.lemmas.List.Elements.{Contains-append_left, Contains-push_cases}
use Rattle.std.specs.List.{AllByRecursion}
use Rattle.std.specs.Option.{option_map}
use Rattle.bully_agree.specs.Fencing.{Planned}
use Rattle.bully_member.specs.Activities.{all_idle}
use Rattle.bully_member.specs.Asking.{promise_of}
use Rattle.bully_member.specs.Due.{begun, last_table, noted, stopping, table_ahead, token_now}
use Rattle.bully_member.specs.Keeping.{AcquiresAt, HasSession, IsNextSession, Keeps, PromisesAt}
use Rattle.bully_member.specs.Learned.{followed, in_epoch, is_following}
use Rattle.bully_member.specs.Member.{MemberState, admitted_among, new_member, offset_of, replica_of}
use Rattle.bully_member.specs.Told.{awaits_snapshot, found, found_here, to_pause, snapshot_read, with_arrivals}
use Rattle.bully_member.specs.declared.opening.Terms.{Terms}
use Rattle.bully_member.specs.declared.values.Lease.{Lease}
use Rattle.bully_member.specs.declared.values.Request.{Request}
use Rattle.bully_member.specs.declared.values.SessionId.{SessionId}
use Rattle.bully_member.specs.declared.values.SessionState.{SessionState}
use Rattle.bully_member.specs.declared.values.Step.{Step}
use Rattle.bully_rebalance.proofs.OwnLemmas.{owned_owns, same_last}
use Rattle.bully_rebalance.specs.Acting.{IsReachedBy}
use Rattle.bully_rebalance.specs.Owning.{OwnsBy, owned_by, token_in}
use Rattle.bully_rebalance.specs.declared.holding.Owned.{Owned}
use Rattle.bully_replica.specs.Replica.{first_replica}
use Rattle.bully_rows.specs.declared.header.Header.{Header}
use Rattle.bully_run.proofs.AnswerLemmas.{own_reported}
use Rattle.bully_run.proofs.BusyLemmas.{begun_busy, busy_at, busy_contains, idle_works, stopping_busy, working_busy}
use Rattle.bully_run.proofs.CallLemmas.{IsOwnRequest, IsOwnSession, nothing_learned, own_session}
use Rattle.bully_run.proofs.FrameLemmas.{HadNone, IsPlaced, Leads, id_by, leads_grows, leads_more, leads_none, leads_one, no_session, placed, written}
use Rattle.bully_run.proofs.LinkLemmas.{Linked, Links, OfSession, links_written, own_linked, passed_linked, relink, rework}
use Rattle.bully_run.proofs.SeenLemmas.{SeenFor, due_seen}
use Rattle.bully_run.specs.Calls.{GoesNext, NumbersLast}
use Rattle.bully_run.specs.Run.{Deed, IsEpochOf, IsWhole, MayDo, MayStart, begins_all, moves, piece_of, session_by, store_by, takes_in}
use Rattle.bully_work.proofs.StoreLemmas.{none_in}
use Rattle.bully_work.specs.Store.{Act, Begin, Epoch, HasWork, IsBefore, IsLive, IsOwner, Learn, MayBegin, MayLearn, Piece, Promise as Promises, Promised, Session, Store, begins, learns, nothing_in, promises}

-- acts of one session of process p lead from s to s', and its member knows its session there
pub record IsRan (s s' : Store) (i p : ℕ) (after : MemberState) : Type 0 where
  pub same : after.process ≡ p
  pub number : ℕ
  pub low : number < 2 ^ 64
  pub acts : List Act
  pub leads : Leads s s' (id_by p number) acts
  pub linked : Linked s' i after

-- no act
pub ran_none : (s : Store) (i p : ℕ) (after : MemberState) → after.process ≡ p → Linked s i after → IsRan s s i p after
ran_none s i p after same linked = record { same = same; number = 0; low = omega arith; acts = []; leads = leads_none s (id_by p 0); linked = linked }

low_tries : (s : Store) (i : ℕ) (m : MemberState) → Linked s i m → m.tries < 2 ^ 64
low_tries s i m linked = let top = linked.holds.tops in omega (arith, top)

-- a session that has learned nothing may learn
zero_or : (e offset : ℕ) → (0 < e) ⊎ ((0 ≡ e) × (0 ≤ offset))
zero_or zero offset = inr (refl, omega arith)
zero_or (suc e) offset = inl (omega arith)

first_learns : (s : Store) (i n e offset : ℕ) → s.sessions i n ≡ no_session → MayLearn s i n e offset
first_learns s i n e offset fresh = subst (λ (x : Session). (x.epoch < e) ⊎ ((x.epoch ≡ e) × (x.learned ≤ offset))) (sym fresh) (zero_or e offset)

-- A process starts.

pub start_ran : (s : Store) (i p : ℕ) (header : Header) (terms : Terms) (ttl : ℕ) → HadNone s → IsEpochOf s i header terms → ((k : ℕ) → k < 2 ^ 64 → s.sessions i (id_by p k) ≡ no_session)
    → IsRan s (learns s i (id_by p 0) terms.epoch 0) i p (new_member header terms p ttl)
start_ran s i p header terms ttl none is fresh = record {
  same = refl;
  number = 0;
  low = omega arith;
  acts = Learn i (id_by p 0) terms.epoch 0 ∷ [];
  leads = leads;
  linked = links_written s (learns s i (id_by p 0) terms.epoch 0) i p (first_replica header) terms.epoch terms.node 0 0 SessionState.Absent None true (new_member header terms p ttl).works (Learn i (id_by p 0) terms.epoch 0 ∷ [])
      new leads session
      (record { started = is.started; setup = is.setup; number = is.number; rows = (nothing_learned header).log; low = omega arith })
      (record { epoch = refl; past = omega arith; seen = λ n. absurd (cc n); reached = λ q has. absurd (none_in q has); known = λ y has. absurd (none_in y has) })
      (record { learned = ([], nothing_learned header); within = omega arith; own = tt; asks = tt; tops = omega arith }) refl (λ k less. absurd (omega (arith, less)))
      (λ k more high. fresh k high);
}
  where
    new : Session
    new = record no_session { epoch = terms.epoch; learned = 0 }

    first : s.sessions i (id_by p 0) ≡ no_session
    first = fresh 0 (omega arith)

    leads : Leads s (learns s i (id_by p 0) terms.epoch 0) (id_by p 0) (Learn i (id_by p 0) terms.epoch 0 ∷ [])
    leads = leads_one s s i (id_by p 0) (record (s.sessions i (id_by p 0)) { epoch = terms.epoch; learned = 0 }) (Learn i (id_by p 0) terms.epoch 0) tt refl refl refl
        ((is.started, none terms.epoch is.started), first_learns s i (id_by p 0) terms.epoch 0 first, refl) (λ q has. has)

    session : (learns s i (id_by p 0) terms.epoch 0).sessions i (id_by p 0) ≡ new
    session = written s i (id_by p 0) (record (s.sessions i (id_by p 0)) { epoch = terms.epoch; learned = 0 }) ∙ ap (λ (x : Session). record x { epoch = terms.epoch; learned = 0 }) first

module _ (s : Store) (i : ℕ) (m : MemberState) (linked : Linked s i m) where
  abbrev here : Session
  here = s.sessions i (id_by m.process m.tries)

  -- A snapshot.

  snapshot_by : (now epoch : ℕ) (leases : List Lease) (has_unknown has_request : Bool) (coming : Option (List ℕ)) (affected : List ℕ) (a b : Bool) → awaits_snapshot m.asked ≡ a → (epoch == m.terms.epoch) ≡ b
      → (awaits_snapshot m.asked ≡ true → epoch ≡ m.terms.epoch → IsWhole s m)
      → IsRan s (if a && b then learns s i (id_by m.process m.tries) m.terms.epoch (offset_of m) else s) i m.process
      (if not a then m else if not b then record m { is_past = true; asked = None } else found_here (with_arrivals m now leases) now leases has_unknown has_request coming affected)
  snapshot_by now epoch leases has_unknown has_request coming affected false b awaits same whole = ran_none s i m.process m refl linked
  snapshot_by now epoch leases has_unknown has_request coming affected true false awaits same whole =
      ran_none s i m.process (record m { is_past = true; asked = None }) refl (passed_linked s i m linked)
  snapshot_by now epoch leases has_unknown has_request coming affected true true awaits same whole = record {
    same = ap (λ (x : MemberState). x.process) (own_reported (found (with_arrivals m now leases) now leases has_unknown has_request (admitted_among (with_arrivals m now leases) now leases) coming affected) m.session _);
    number = m.tries;
    low = low_tries s i m linked;
    acts = Learn i (id_by m.process m.tries) m.terms.epoch (offset_of m) ∷ [];
    leads = leads;
    linked = own_linked (learns s i (id_by m.process m.tries) m.terms.epoch (offset_of m)) i
        (found (with_arrivals m now leases) now leases has_unknown has_request (admitted_among (with_arrivals m now leases) now leases) coming affected) m.session _
        (links_written s (learns s i (id_by m.process m.tries) m.terms.epoch (offset_of m)) i m.process (replica_of m) m.terms.epoch m.terms.node m.promised m.tries m.session None false m.works (Learn i (id_by m.process m.tries) m.terms.epoch (offset_of m) ∷ [])
        (record here { epoch = m.terms.epoch; learned = offset_of m }) leads (written s i (id_by m.process m.tries) (record here { epoch = m.terms.epoch; learned = offset_of m })) linked.place
        (record { epoch = refl; past = omega arith; seen = λ none. (refl, is_whole); reached = linked.knows.reached; known = linked.knows.known })
        (record { learned = linked.holds.learned; within = linked.holds.within; own = linked.holds.own; asks = tt; tops = linked.holds.tops })
        linked.told linked.older linked.fresh);
  }
    where
      is_whole : IsWhole s m
      is_whole = whole awaits (grind (arith, nat_tests, same))

      leads : Leads s (learns s i (id_by m.process m.tries) m.terms.epoch (offset_of m)) (id_by m.process m.tries) (Learn i (id_by m.process m.tries) m.terms.epoch (offset_of m) ∷ [])
      leads = leads_one s s i (id_by m.process m.tries) (record here { epoch = m.terms.epoch; learned = offset_of m }) (Learn i (id_by m.process m.tries) m.terms.epoch (offset_of m)) tt refl refl refl
          ((linked.place.started, is_whole), inr (linked.knows.epoch, linked.knows.past), refl) (λ q has. has)

  pub snapshot_ran : (now epoch : ℕ) (leases : List Lease) (has_unknown has_request : Bool) (coming : Option (List ℕ)) (affected : List ℕ) → (awaits_snapshot m.asked ≡ true → epoch ≡ m.terms.epoch → IsWhole s m)
      → IsRan s (if takes_in m epoch then learns s i (id_by m.process m.tries) m.terms.epoch (offset_of m) else s) i m.process (snapshot_read m now epoch leases has_unknown has_request coming affected)
  snapshot_ran now epoch leases has_unknown has_request coming affected whole =
      snapshot_by now epoch leases has_unknown has_request coming affected (awaits_snapshot m.asked) (epoch == m.terms.epoch) refl refl whole

  -- A new epoch.

  goes_idle : (a b : Bool) → a || not b ≡ false → (a ≡ false) × (b ≡ true)
  goes_idle true b is = absurd (cc is)
  goes_idle false true is = (refl, refl)
  goes_idle false false is = absurd (cc is)

  followed_by : (now : ℕ) (header : Header) (t : Terms) (a b : Bool) → (nat_le t.epoch m.terms.epoch || not (all_idle m.works)) ≡ b → HadNone s → IsEpochOf s i header t
      → IsRan s (if a && not b then learns s i (id_by m.process m.tries) t.epoch 0 else s) i m.process
      (if not a then m else if b then to_pause (record m { asked = None; is_past = false; needs_snapshot = true }) now else in_epoch m now (record { replica = first_replica header; rows = 0 }) t)
  followed_by now header t false b stays none is = ran_none s i m.process m refl linked
  followed_by now header t true true stays none is = ran_none s i m.process (to_pause (record m { asked = None; is_past = false; needs_snapshot = true }) now) refl
      (relink s i m.process (replica_of m) m.terms.epoch m.terms.node m.promised m.tries m.session m.session m.asked None m.needs_snapshot true m.works linked linked.holds.own tt (λ n. absurd (cc n)))
  followed_by now header t true false stays none is = record {
    same = refl;
    number = m.tries;
    low = low_tries s i m linked;
    acts = Learn i (id_by m.process m.tries) t.epoch 0 ∷ [];
    leads = leads;
    linked = links_written s (learns s i (id_by m.process m.tries) t.epoch 0) i m.process (first_replica header) t.epoch t.node 0 m.tries m.session None true
        (in_epoch m now (record { replica = first_replica header; rows = 0 }) t).works (Learn i (id_by m.process m.tries) t.epoch 0 ∷ [])
        (record here { epoch = t.epoch; learned = 0 }) leads (written s i (id_by m.process m.tries) (record here { epoch = t.epoch; learned = 0 }))
        (record { started = is.started; setup = is.setup; number = is.number; rows = (nothing_learned header).log; low = omega arith })
        (record { epoch = refl; past = omega arith; seen = λ n. absurd (cc n); reached = λ q has. inl (older q (linked.knows.reached q has)); known = λ y has. absurd (idle_works m.works y.partition idle (linked.knows.known y has)) })
        (record { learned = ([], nothing_learned header); within = omega arith; own = linked.holds.own; asks = tt; tops = linked.holds.tops })
        refl linked.older linked.fresh;
  }
    where
      later : m.terms.epoch < t.epoch
      later = let is_later = (goes_idle (nat_le t.epoch m.terms.epoch) (all_idle m.works) stays).0 in grind (arith, nat_tests, is_later)

      idle : all_idle m.works ≡ true
      idle = (goes_idle (nat_le t.epoch m.terms.epoch) (all_idle m.works) stays).1

      older : (q : Promised) → IsReachedBy q m.terms.epoch m.promised → q.epoch < t.epoch
      older q (inl less) = omega (arith, less, later)
      older q (inr (same, low)) = omega (arith, same, later)

      leads : Leads s (learns s i (id_by m.process m.tries) t.epoch 0) (id_by m.process m.tries) (Learn i (id_by m.process m.tries) t.epoch 0 ∷ [])
      leads = leads_one s s i (id_by m.process m.tries) (record here { epoch = t.epoch; learned = 0 }) (Learn i (id_by m.process m.tries) t.epoch 0) tt refl refl refl
          ((is.started, none t.epoch is.started), inl (let at = linked.knows.epoch in omega (arith, at, later)), refl) (λ q has. has)

  pub followed_ran : (now : ℕ) (header : Header) (t : Terms) → HadNone s → IsEpochOf s i header t
      → IsRan s (if moves m t then learns s i (id_by m.process m.tries) t.epoch 0 else s) i m.process (followed m now header t)
  followed_ran now header t none is = followed_by now header t (is_following m.asked) (nat_le t.epoch m.terms.epoch || not (all_idle m.works)) refl none is

  -- What it asks for.

  own_is : (session : SessionId) → HasSession m session → session ≡ session_by m.process m.tries
  own_is session (at, is) = own_session (session_by m.process m.tries) session m.session at linked.holds.own is

  asks_more : (now : ℕ) (request : Request) → IsOwnRequest (session_by m.process m.tries) request
      → Links s i m.process (replica_of m) m.terms.epoch m.terms.node m.promised m.tries m.session (Some (record { request = request; at = now })) m.needs_snapshot m.works
  asks_more now request own = relink s i m.process (replica_of m) m.terms.epoch m.terms.node m.promised m.tries m.session m.session m.asked (Some (record { request = request; at = now })) m.needs_snapshot m.needs_snapshot m.works linked linked.holds.own own (λ none. none)

  promise_ran : (now offset : ℕ) (is_stable : Bool) → offset ≡ offset_of m
      → IsRan s (promises s i (id_by m.process m.tries) (promise_of m offset)) i m.process (noted m now is_stable (Step.Ask (Request.Promise (session_by m.process m.tries) offset)))
  promise_ran now offset is_stable end = record {
    same = refl;
    number = m.tries;
    low = low_tries s i m linked;
    acts = Promises i (id_by m.process m.tries) (promise_of m offset) ∷ [];
    leads = leads;
    linked = links_written s (promises s i (id_by m.process m.tries) (promise_of m offset)) i m.process (replica_of m) m.terms.epoch m.terms.node offset m.tries m.session
        (Some (record { request = Request.Promise (session_by m.process m.tries) offset; at = now })) m.needs_snapshot m.works (Promises i (id_by m.process m.tries) (promise_of m offset) ∷ [])
        new leads (written s i (id_by m.process m.tries) new) linked.place
        (record { epoch = linked.knows.epoch; past = linked.knows.past; seen = linked.knows.seen; reached = λ q has. reached q (Contains-push_cases here.promises (promise_of m offset) q has); known = linked.knows.known })
        (record { learned = linked.holds.learned; within = omega (arith, end); own = linked.holds.own; asks = refl; tops = linked.holds.tops })
        linked.told linked.older linked.fresh;
  }
    where
      new : Session
      new = record here { promises = here.promises ++ promise_of m offset ∷ [] }

      leads : Leads s (promises s i (id_by m.process m.tries) (promise_of m offset)) (id_by m.process m.tries) (Promises i (id_by m.process m.tries) (promise_of m offset) ∷ [])
      leads = leads_one s s i (id_by m.process m.tries) new (Promises i (id_by m.process m.tries) (promise_of m offset)) tt refl refl refl
          ((λ y has. busy_contains m.works y.partition (linked.knows.known y has)), refl) (λ q has. Contains-append_left here.promises (promise_of m offset ∷ []) q has)

      reached : (q : Promised) → Contains here.promises q ⊎ (promise_of m offset ≡ q) → IsReachedBy q m.terms.epoch offset
      reached q (inl old) = further (linked.knows.reached q old)
        where
          further : IsReachedBy q m.terms.epoch m.promised → IsReachedBy q m.terms.epoch offset
          further (inl less) = inl less
          further (inr (same, low)) = inr (same, (let within = linked.holds.within in omega (arith, low, within, end)))
      reached q (inr is) = subst (λ (x : Promised). IsReachedBy x m.terms.epoch offset) is (inr (refl, omega arith))

  acquire_ran : (now offset k : ℕ) (is_stable : Bool) → offset ≡ offset_of m → m.session ≡ SessionState.Absent → k ≡ m.tries + 1 → k < 2 ^ 64 → m.needs_snapshot ≡ false → all_idle m.works ≡ true
      → IsRan s (promises (learns s i (id_by m.process k) m.terms.epoch offset) i (id_by m.process k) (nothing_in m.terms.epoch offset)) i m.process (noted m now is_stable (Step.Ask (Request.Acquire (session_by m.process k) offset)))
  acquire_ran now offset k is_stable end absent next high seen idle = record {
    same = refl;
    number = k;
    low = high;
    acts = Learn i (id_by m.process k) m.terms.epoch offset ∷ Promises i (id_by m.process k) (nothing_in m.terms.epoch offset) ∷ [];
    leads = leads;
    linked = links_written s s' i m.process (replica_of m) m.terms.epoch m.terms.node offset k m.session
        (Some (record { request = Request.Acquire (session_by m.process k) offset; at = now })) m.needs_snapshot m.works (Learn i (id_by m.process k) m.terms.epoch offset ∷ Promises i (id_by m.process k) (nothing_in m.terms.epoch offset) ∷ [])
        new leads session linked.place
        (record {
          epoch = refl;
          past = omega (arith, end);
          seen = λ none. (end, (linked.knows.seen none).1);
          reached = λ q has. reached q (Contains-push_cases [] (nothing_in m.terms.epoch offset) q has);
          known = λ y has. absurd (none_in y has);
        })
        (record { learned = linked.holds.learned; within = omega (arith, end); own = subst (IsOwnSession (session_by m.process k)) (sym absent) tt; asks = refl; tops = omega (arith, high) }) linked.told (λ l less y has. before l less y has)
        (λ l more top. linked.fresh l (omega (arith, more, next)) top);
  }
    where
      mid : Store
      mid = learns s i (id_by m.process k) m.terms.epoch offset

      s' : Store
      s' = promises (learns s i (id_by m.process k) m.terms.epoch offset) i (id_by m.process k) (nothing_in m.terms.epoch offset)

      new : Session
      new = record { epoch = m.terms.epoch; learned = offset; promises = nothing_in m.terms.epoch offset ∷ []; work = [] }

      first : s.sessions i (id_by m.process k) ≡ no_session
      first = linked.fresh k (omega (arith, next)) high

      learned : (learns s i (id_by m.process k) m.terms.epoch offset).sessions i (id_by m.process k) ≡ record no_session { epoch = m.terms.epoch; learned = offset }
      learned = written s i (id_by m.process k) (record (s.sessions i (id_by m.process k)) { epoch = m.terms.epoch; learned = offset }) ∙ ap (λ (x : Session). record x { epoch = m.terms.epoch; learned = offset }) first

      session : (promises (learns s i (id_by m.process k) m.terms.epoch offset) i (id_by m.process k) (nothing_in m.terms.epoch offset)).sessions i (id_by m.process k) ≡ new
      session = written (learns s i (id_by m.process k) m.terms.epoch offset) i (id_by m.process k)
          (record ((learns s i (id_by m.process k) m.terms.epoch offset).sessions i (id_by m.process k)) { promises = ((learns s i (id_by m.process k) m.terms.epoch offset).sessions i (id_by m.process k)).promises ++ nothing_in m.terms.epoch offset ∷ [] })
          ∙ ap (λ (x : Session). record x { promises = x.promises ++ nothing_in m.terms.epoch offset ∷ [] }) learned

      before : (l : ℕ) → l < k → (y : Piece) → HasWork s i (id_by m.process l) y → ⊥
      before l less y has = by_test (l == m.tries) refl
        where
          by_test : (b : Bool) → (l == m.tries) ≡ b → ⊥
          by_test true is =
              let same : l ≡ m.tries = grind (arith, nat_tests, is) in
              idle_works m.works y.partition idle (linked.knows.known y (subst (λ (x : ℕ). HasWork s i (id_by m.process x) y) same has))
          by_test false is = linked.older l (grind (arith, nat_tests, is, less, next)) y has

      had : Contains (s.epochs m.terms.epoch).lengths offset
      had = subst (Contains (s.epochs m.terms.epoch).lengths) (sym end) (linked.knows.seen seen).1

      one : Leads s (learns s i (id_by m.process k) m.terms.epoch offset) (id_by m.process k) (Learn i (id_by m.process k) m.terms.epoch offset ∷ [])
      one = leads_one s s i (id_by m.process k) (record (s.sessions i (id_by m.process k)) { epoch = m.terms.epoch; learned = offset }) (Learn i (id_by m.process k) m.terms.epoch offset) tt refl refl refl
          ((linked.place.started, had), first_learns s i (id_by m.process k) m.terms.epoch offset first, refl) (λ q has. has)

      other : Leads (learns s i (id_by m.process k) m.terms.epoch offset) (promises (learns s i (id_by m.process k) m.terms.epoch offset) i (id_by m.process k) (nothing_in m.terms.epoch offset)) (id_by m.process k) (Promises i (id_by m.process k) (nothing_in m.terms.epoch offset) ∷ [])
      other = leads_one (learns s i (id_by m.process k) m.terms.epoch offset) (learns s i (id_by m.process k) m.terms.epoch offset) i (id_by m.process k)
          (record ((learns s i (id_by m.process k) m.terms.epoch offset).sessions i (id_by m.process k)) { promises = ((learns s i (id_by m.process k) m.terms.epoch offset).sessions i (id_by m.process k)).promises ++ nothing_in m.terms.epoch offset ∷ [] })
          (Promises i (id_by m.process k) (nothing_in m.terms.epoch offset)) tt refl refl refl
          ((λ y has. absurd (none_in y (subst (λ (x : Session). Contains x.work y) learned has))), refl)
          (λ q has. Contains-append_left ((learns s i (id_by m.process k) m.terms.epoch offset).sessions i (id_by m.process k)).promises (nothing_in m.terms.epoch offset ∷ []) q has)

      leads : Leads s (promises (learns s i (id_by m.process k) m.terms.epoch offset) i (id_by m.process k) (nothing_in m.terms.epoch offset)) (id_by m.process k)
          (Learn i (id_by m.process k) m.terms.epoch offset ∷ Promises i (id_by m.process k) (nothing_in m.terms.epoch offset) ∷ [])
      leads = leads_more s (learns s i (id_by m.process k) m.terms.epoch offset) s' (id_by m.process k) (Learn i (id_by m.process k) m.terms.epoch offset ∷ []) (Promises i (id_by m.process k) (nothing_in m.terms.epoch offset) ∷ []) one other

      reached : (q : Promised) → Contains [] q ⊎ (nothing_in m.terms.epoch offset ≡ q) → IsReachedBy q m.terms.epoch offset
      reached q (inl old) = absurd (none_in q old)
      reached q (inr is) = subst (λ (x : Promised). IsReachedBy x m.terms.epoch offset) is (inr (refl, omega arith))

-- What it begins.

owned_some : (owned : Option Owned) (token : ℕ) → option_map token_in owned ≡ Some token → (o : Owned) × (owned ≡ Some o)
owned_some None token is = absurd (cc is)
owned_some (Some o) token is = (o, refl)

module _ (i : ℕ) (m after : MemberState) (plan : Planned) (o : Owned) (owned : owned_by (replica_of m) m.terms.node m.promised ≡ Some o) (seen : m.needs_snapshot ≡ false) where
  abbrev Knows : Store → Type 0
  Knows s = OfSession (s.epochs m.terms.epoch).lengths (replica_of m) m.terms.epoch m.promised m.needs_snapshot after.works (s.sessions i (id_by m.process m.tries))

  may_begin : (s : Store) (k : ℕ) → IsPlaced s i (replica_of m) m.terms.epoch m.terms.node → Knows s → IsLive s i (id_by m.process m.tries) → MayStart m after plan k → MayBegin s i (id_by m.process m.tries) (piece_of m plan k)
  may_begin s k place knows live start = record {
    live = live;
    epoch = sym knows.epoch;
    number = place.number;
    owner = subst (λ setup. IsOwner setup (take (s.sessions i (id_by m.process m.tries)).learned (s.epochs m.terms.epoch).log) m.terms.node plan) place.setup
        (subst (λ l. IsOwner (replica_of m).world.setup (take l (s.epochs m.terms.epoch).log) m.terms.node plan) (sym (knows.seen seen).0)
        (subst (IsOwner (replica_of m).world.setup (take (replica_of m).world.events (s.epochs m.terms.epoch).log) m.terms.node) same owns.owner));
    gives = start.gives;
    behind = λ q made. before q (knows.reached q made);
  }
    where
      owns : OwnsBy (replica_of m).world.setup (take (replica_of m).world.events (s.epochs m.terms.epoch).log) m.terms.node m.promised o.token
      owns = owned_owns (replica_of m) m.terms.node m.promised o owned (take (replica_of m).world.events (s.epochs m.terms.epoch).log) place.rows

      same : owns.plan ≡ plan
      same = let is = same_last (replica_of m) (take (replica_of m).world.events (s.epochs m.terms.epoch).log) owns.plan place.rows owns.owner.last in let last = start.last in cc (is, last)

      behind : m.promised < plan.token
      behind = let is = ap (λ (p : Planned). p.token) same in let token = owns.token in let low = owns.behind in omega (arith, is, token, low)

      before : (q : Promised) → IsReachedBy q m.terms.epoch m.promised → IsBefore q (piece_of m plan k)
      before q (inl older) = inl older
      before q (inr (here, low)) = inr (here, omega (arith, low, behind))

  abbrev acts_of : List ℕ → List Act
  acts_of [] = []
  acts_of (k ∷ ks) = Begin i (id_by m.process m.tries) (piece_of m plan k) ∷ acts_of ks

  -- what acts lead to, and what is known there of the session
  record HasBegun (s s' : Store) (acts : List Act) : Type 0 where
    leads : Leads s s' (id_by m.process m.tries) acts
    knows : OfSession (s.epochs m.terms.epoch).lengths (replica_of m) m.terms.epoch m.promised m.needs_snapshot after.works (s'.sessions i (id_by m.process m.tries))

  join : (s mid s' : Store) (acts more : List Act) → HasBegun s mid acts → HasBegun mid s' more → HasBegun s s' (acts ++ more)
  join s mid s' acts more one other = record {
    leads = leads_more s mid s' (id_by m.process m.tries) acts more one.leads other.leads;
    knows = subst (λ (f : ℕ → Epoch). OfSession (f m.terms.epoch).lengths (replica_of m) m.terms.epoch m.promised m.needs_snapshot after.works (s'.sessions i (id_by m.process m.tries))) one.leads.epochs other.knows;
  }

  begin_one : (s : Store) (k : ℕ) → IsPlaced s i (replica_of m) m.terms.epoch m.terms.node → Knows s → IsLive s i (id_by m.process m.tries) → MayStart m after plan k
      → HasBegun s (begins s i (id_by m.process m.tries) (piece_of m plan k)) (Begin i (id_by m.process m.tries) (piece_of m plan k) ∷ [])
  begin_one s k place knows live start = record {
    leads = leads_one s t i (id_by m.process m.tries) new (Begin i (id_by m.process m.tries) (piece_of m plan k)) tt refl refl refl (may_begin s k place knows live start, refl) (λ q has. has);
    knows = subst (OfSession (s.epochs m.terms.epoch).lengths (replica_of m) m.terms.epoch m.promised m.needs_snapshot after.works) (sym (written t i (id_by m.process m.tries) new)) more;
  }
    where
      new : Session
      new = record (s.sessions i (id_by m.process m.tries)) { work = (s.sessions i (id_by m.process m.tries)).work ++ piece_of m plan k ∷ [] }

      t : Store
      t = record s { begun = record { name = i; session = id_by m.process m.tries; piece = piece_of m plan k } ∷ s.begun }

      known : (y : Piece) → Contains (s.sessions i (id_by m.process m.tries)).work y ⊎ (piece_of m plan k ≡ y) → busy_at after.works y.partition ≡ true
      known y (inl old) = knows.known y old
      known y (inr is) = subst (λ (x : Piece). busy_at after.works x.partition ≡ true) is (working_busy after.works k start.works)

      more : OfSession (s.epochs m.terms.epoch).lengths (replica_of m) m.terms.epoch m.promised m.needs_snapshot after.works new
      more = record { epoch = knows.epoch; past = knows.past; seen = knows.seen; reached = knows.reached; known = λ y has. known y (Contains-push_cases (s.sessions i (id_by m.process m.tries)).work (piece_of m plan k) y has) }

  begun_all : (ks : List ℕ) (s : Store) → IsPlaced s i (replica_of m) m.terms.epoch m.terms.node → Knows s → IsLive s i (id_by m.process m.tries) → AllByRecursion (MayStart m after plan) ks
      → HasBegun s (begins_all s i (id_by m.process m.tries) m plan ks) (acts_of ks)
  begun_all [] s place knows live starts = record { leads = leads_none s (id_by m.process m.tries); knows = knows }
  begun_all (k ∷ ks) s place knows live (start, starts) =
      let one : HasBegun s (begins s i (id_by m.process m.tries) (piece_of m plan k)) (Begin i (id_by m.process m.tries) (piece_of m plan k) ∷ []) = begin_one s k place knows live start in
      join s (begins s i (id_by m.process m.tries) (piece_of m plan k)) (begins_all (begins s i (id_by m.process m.tries) (piece_of m plan k)) i (id_by m.process m.tries) m plan ks)
      (Begin i (id_by m.process m.tries) (piece_of m plan k) ∷ []) (acts_of ks) one
      (begun_all ks (begins s i (id_by m.process m.tries) (piece_of m plan k))
      (placed s (begins s i (id_by m.process m.tries) (piece_of m plan k)) i (replica_of m) m.terms.epoch m.terms.node
      (leads_grows s (begins s i (id_by m.process m.tries) (piece_of m plan k)) (id_by m.process m.tries) (Begin i (id_by m.process m.tries) (piece_of m plan k) ∷ []) one.leads) place)
      one.knows live starts)

-- What it does next.

pub begin_ran : (s : Store) (i : ℕ) (m : MemberState) (token : ℕ) (plan : Planned) (ks : List ℕ) → Linked s i m → m.needs_snapshot ≡ false → token_now m ≡ Some token → IsLive s i (id_by m.process m.tries) → AllByRecursion (MayStart m (begun m token) plan) ks
    → IsRan s (begins_all s i (id_by m.process m.tries) m plan ks) i m.process (begun m token)
begin_ran s i m token plan ks linked seen owner live starts = record {
  same = refl;
  number = m.tries;
  low = low_tries s i m linked;
  acts = acts_of i m (begun m token) plan (owned.0) owned.1 seen ks;
  leads = did.leads;
  linked = links_written s (begins_all s i (id_by m.process m.tries) m plan ks) i m.process (replica_of m) m.terms.epoch m.terms.node m.promised m.tries m.session m.asked m.needs_snapshot (begun m token).works
      (acts_of i m (begun m token) plan (owned.0) owned.1 seen ks) ((begins_all s i (id_by m.process m.tries) m plan ks).sessions i (id_by m.process m.tries)) did.leads refl linked.place did.knows linked.holds linked.told linked.older linked.fresh;
}
  where
    owned : (o : Owned) × (owned_by (replica_of m) m.terms.node m.promised ≡ Some o)
    owned = owned_some (owned_by (replica_of m) m.terms.node m.promised) token owner

    did : HasBegun i m (begun m token) plan owned.0 owned.1 seen s (begins_all s i (id_by m.process m.tries) m plan ks) (acts_of i m (begun m token) plan (owned.0) owned.1 seen ks)
    did = begun_all i m (begun m token) plan owned.0 owned.1 seen ks s linked.place
        (record {
          epoch = linked.knows.epoch;
          past = linked.knows.past;
          seen = linked.knows.seen;
          reached = linked.knows.reached;
          known = λ y has. begun_busy (last_table m) m.terms.node y.partition m.works (linked.knows.known y has);
        }) live starts

stop_linked : (s : Store) (i : ℕ) (m : MemberState) (table : Option (List ℕ)) → Linked s i m → Linked s i (stopping m table)
stop_linked s i m table linked = rework s i m.process (replica_of m) m.terms.epoch m.terms.node m.promised m.tries m.session m.asked m.needs_snapshot m.works (stopping m table).works linked
    (λ y has. stopping_busy table m.terms.node y.partition m.works (linked.knows.known y has))

module _ (s : Store) (i : ℕ) (m : MemberState) (now : ℕ) (deed : Deed) (linked : Linked s i m) where
  abbrev Ran : Step → Bool → Type 0
  Ran step is_stable = IsRan s (store_by s i m step deed) i m.process (noted m now is_stable step)

  acquires : (is_stable : Bool) (session : SessionId) (offset : ℕ) → AcquiresAt m offset → IsNextSession m session → NumbersLast m → m.needs_snapshot ≡ false → Ran (Step.Ask (Request.Acquire session offset)) is_stable
  acquires is_stable session offset at (absent, next) last seen = subst (λ (x : SessionId). Ran (Step.Ask (Request.Acquire x offset)) is_stable) (sym next)
      (acquire_ran s i m linked now offset (min (m.tries + 1) (2 ^ 64 - 1)) is_stable at.end absent (omega (arith, last)) (omega (arith, last)) seen at.idle)

  promises_it : (is_stable : Bool) (session : SessionId) (offset : ℕ) → PromisesAt m offset → HasSession m session → Ran (Step.Ask (Request.Promise session offset)) is_stable
  promises_it is_stable session offset at has = subst (λ (x : SessionId). Ran (Step.Ask (Request.Promise x offset)) is_stable) (sym (own_is s i m linked session has)) (promise_ran s i m linked now offset is_stable at.end)

  by_step : (is_stable : Bool) (step : Step) → Keeps m now step → SeenFor m step → MayDo s i m (noted m now is_stable step) now step deed → Ran step is_stable
  by_step is_stable (Step.Ask (Request.Acquire session offset)) keeps seen may = acquires is_stable session offset keeps.0 keeps.1 may seen
  by_step is_stable (Step.Ask (Request.Renew session)) keeps seen may = ran_none s i m.process (noted m now is_stable (Step.Ask (Request.Renew session))) refl (asks_more s i m linked now (Request.Renew session) (own_is s i m linked session keeps))
  by_step is_stable (Step.Ask (Request.Release session)) keeps seen may = ran_none s i m.process (noted m now is_stable (Step.Ask (Request.Release session))) refl (asks_more s i m linked now (Request.Release session) tt)
  by_step is_stable (Step.Ask Request.Snapshot) keeps seen may = ran_none s i m.process (noted m now is_stable (Step.Ask Request.Snapshot)) refl (asks_more s i m linked now Request.Snapshot tt)
  by_step is_stable (Step.Ask (Request.Promise session offset)) keeps seen may = promises_it is_stable session offset keeps.0 keeps.1
  by_step is_stable (Step.Ask (Request.Append offset)) keeps seen may = ran_none s i m.process (noted m now is_stable (Step.Ask (Request.Append offset))) refl (asks_more s i m linked now (Request.Append offset) tt)
  by_step is_stable (Step.Ask (Request.RollOver offset)) keeps seen may = ran_none s i m.process (noted m now is_stable (Step.Ask (Request.RollOver offset))) refl (asks_more s i m linked now (Request.RollOver offset) tt)
  by_step is_stable (Step.Ask Request.Follow) keeps seen may = ran_none s i m.process (noted m now is_stable (Step.Ask Request.Follow)) refl (asks_more s i m linked now Request.Follow tt)
  by_step is_stable (Step.Begin token) keeps seen may = begin_ran s i m token deed.plan deed.begun linked seen keeps.owner (may.0 keeps.may.live) may.1
  by_step is_stable Step.Stop keeps seen may = ran_none s i m.process (stopping m (table_ahead m now is_stable)) refl (stop_linked s i m (table_ahead m now is_stable) linked)
  by_step is_stable (Step.Wait at_most until reason) keeps seen may = ran_none s i m.process m refl linked
  by_step is_stable (Step.BackOff at_most reason) keeps seen may = ran_none s i m.process m refl linked
  by_step is_stable (Step.End ending) keeps seen may = ran_none s i m.process m refl linked

  pub next_ran : (step : Step) (after : MemberState) → GoesNext m now step after → MayDo s i m after now step deed → IsRan s (store_by s i m step deed) i m.process after
  next_ran step after goes may = subst (IsRan s (store_by s i m step deed) i m.process) (sym goes.noted)
      (by_step goes.sight.is_stable step goes.keeps (subst (SeenFor m) (sym goes.due) (due_seen m now goes.sight)) (subst (λ x. MayDo s i m x now step deed) goes.noted may))
