-- A run is a list of acts of the model, and members know their sessions in it.
use Rattle.std.proofs.Common.{◌&&◌, ◌||◌, not, nat_le, ◌≡◌, ◌≤◌, ◌<◌, ◌^◌, ◌==◌, ◌++◌, ◌∷◌, [], ℕ, Bool, true, false, List, Option, Some, None, if◌then◌else◌, Contains, cond, take, arith, refl, sym, ap, subst, ◌∙◌, ◌⊎◌, inl, inr}
use Rattle.std.proofs.lemmas.Bool.Decides.{nat_tests}
use Rattle.std.proofs.lemmas.List.Elements.{Contains-append_cases, Contains-push_cases}
use Rattle.bully_agree.specs.Fencing.{GoesBy, Planned}
use Rattle.bully_base.specs.Setup.{Setup}
use Rattle.bully_calls.specs.declared.event.Event.{Event}
use Rattle.bully_member.proofs.AskLemmas.{append_lem, asks_lem, eager_lem, rolls_lem}
use Rattle.bully_member.specs.Activities.{all_idle, any_working, busy}
use Rattle.bully_member.specs.Asking.{ActsBy, IsAsked, Knows, MayBeSilent, Names, promise_of}
use Rattle.bully_member.specs.Due.{noted}
use Rattle.bully_member.specs.Keeping.{AppendsAt, Keeps, RollsOverAt}
use Rattle.bully_member.specs.Learned.{in_epoch, is_following, not_there}
use Rattle.bully_member.specs.Member.{MemberState, admitted_among, lease_of, new_member, offset_of, replica_of}
use Rattle.bully_member.specs.Rebalance.{rebalanced_nodes}
use Rattle.bully_member.specs.Told.{answered, awaits_snapshot, end_for, found, found_here, lost, own_by, snapshot_lost, stopped, stopped_on, to_pause, to_snapshot, with_arrivals}
use Rattle.bully_member.specs.declared.opening.Terms.{Terms}
use Rattle.bully_member.specs.declared.values.Ending.{Ending}
use Rattle.bully_member.specs.declared.values.Lease.{Lease}
use Rattle.bully_member.specs.declared.values.Request.{Request}
use Rattle.bully_member.specs.declared.values.SessionState.{SessionState}
use Rattle.bully_member.specs.declared.values.Step.{Step}
use Rattle.bully_member.specs.declared.values.StoreAnswer.{StoreAnswer}
use Rattle.bully_rebalance.proofs.ActLemmas.{promised_here}
use Rattle.bully_rebalance.specs.Rebalancing.{Rebalances, table_before}
use Rattle.bully_replica.specs.Replica.{IsLogOf, first_replica}
use Rattle.bully_rows.specs.declared.header.Header.{Header}
use Rattle.bully_run.proofs.ActLemmas.{IsRan, followed_ran, next_ran, ran_none, snapshot_ran, start_ran}
use Rattle.bully_run.proofs.AnswerLemmas.{answered_reported, if_is, own_reported}
use Rattle.bully_run.proofs.BusyLemmas.{busy_at, busy_contains}
use Rattle.bully_run.proofs.FrameLemmas.{Grows, HadNone, IsPlaced, Leads, asked_more, become_more, grows_none, had_none, id_by, ids_apart, leads_grows, leads_one, longer_grows, no_session, placed, rolled_grows, rolled_none, written}
use Rattle.bully_run.proofs.LinkLemmas.{Linked, answered_linked, due_again, end_linked, learned_linked, links_stay, links_written, lost_linked, not_there_linked, passed_linked, snapshot_lost_linked, stopped_linked, stopped_on_linked}
use Rattle.bully_run.specs.Calls.{Answered, Broken, Call, Followed, GoesNext, Learn, Leave, Lost, Next, NotThere, Passed, SnapshotLost, SnapshotRead, Stopped, StoppedOn, Takes, Woke, session_now}
use Rattle.bully_run.specs.Run.{AllEager, Deed, Done, Ends, Expires, Goes, Happening, Happens, HasRun, IsDone, IsEager, IsEagerCall, MayDo, MayTell, Process, Run, RunsBy, Sent, SentAcquire, SentAppend, SentPromise, SentRelease, SentRollOver, Starts, Told, WorksNow, begins_all, first_run, id_of, moves, piece_of, sent_by, session_by, store_by, store_told, takes_in, with_member}
use Rattle.bully_work.proofs.StoreLemmas.{none_in, now_lem as apart_now, owner_lem}
use Rattle.bully_work.specs.Store.{AcceptsAppend, AcceptsRollOver, Acquire, Act, AllAsked, Append, AsksAll, Become, Does, End, HasPromised, HasWork, IsOneToOne, KeepsNothing, IsReached, Lease as Held, MayAppend, MayRollOver, MayStop, OwnsNow, Piece, Promised, RollOver, Session, Stop, Store, Yield, begins, current, learns, longer, nothing_in, promises, stops, with_lease, with_session}

-- The process and the terms of a member stay the same.

abbrev pub who : MemberState → ℕ × Terms
who m = (m.process, m.terms)

answered_same : (m : MemberState) (now : ℕ) (answer : StoreAnswer) → who (answered m now answer) ≡ who m
answered_same m now answer = ap who (answered_reported m now answer)

end_same : (m : MemberState) (why : Ending) (ending : Option Ending) → who (end_for m why ending) ≡ who m
end_same m why None = refl
end_same m why (Some ending) = refl

-- What a member is told.

pub told_ran : (s : Store) (i : ℕ) (m : MemberState) (call : Call) (after : MemberState) → HadNone s → Linked s i m → Takes m call after → MayTell s i m call after → IsRan s (store_told s i m call) i m.process after
told_ran s i m (Next now next) after none linked takes may = absurd may
told_ran s i m (Answered now answer) after none linked takes may = subst (IsRan s s i m.process) (sym takes) (ran_none s i m.process (answered m now answer) (ap (λ (w : ℕ × Terms). w.0) (answered_same m now answer)) (answered_linked s i m now answer linked))
told_ran s i m (Learn records taken) after none linked takes may = ran_none s i m.process after (ap (λ (x : MemberState). x.process) takes.rest) (learned_linked s i m records taken after linked takes may)
told_ran s i m (SnapshotRead now epoch leases has_unknown has_request) after none linked takes may =
    subst (IsRan s (store_told s i m (SnapshotRead now epoch leases has_unknown has_request)) i m.process) (sym takes) (snapshot_ran s i m linked now epoch leases has_unknown has_request after.coming after.affected may)
told_ran s i m (SnapshotLost now leases) after none linked takes may = subst (IsRan s s i m.process) (sym takes) (ran_none s i m.process (snapshot_lost m now leases) refl (snapshot_lost_linked s i m now leases linked))
told_ran s i m (Followed now header terms) after none linked takes may =
    subst (IsRan s (store_told s i m (Followed now header terms)) i m.process) (sym takes.1) (followed_ran s i m linked now header terms none may)
told_ran s i m NotThere after none linked takes may = subst (IsRan s s i m.process) (sym takes)
    (ran_none s i m.process (not_there m) (ap (λ (w : ℕ × Terms). w.0) (if_is (λ x. who x ≡ who m) (is_following m.asked) _ _ (end_same (record m { asked = None }) Ending.NotThere m.ending) refl)) (not_there_linked s i m linked))
told_ran s i m Passed after none linked takes may = subst (IsRan s s i m.process) (sym takes) (ran_none s i m.process (record m { is_past = true; asked = None }) refl (passed_linked s i m linked))
told_ran s i m Woke after none linked takes may = subst (IsRan s s i m.process) (sym takes) (ran_none s i m.process (to_snapshot m) refl (due_again s i m linked))
told_ran s i m Leave after none linked takes may = subst (IsRan s s i m.process) (sym takes) (ran_none s i m.process (end_for m Ending.Left m.ending) (ap (λ (w : ℕ × Terms). w.0) (end_same m Ending.Left m.ending)) (end_linked s i m Ending.Left m.ending linked))
told_ran s i m Broken after none linked takes may = subst (IsRan s s i m.process) (sym takes) (ran_none s i m.process (end_for m Ending.Broken m.ending) (ap (λ (w : ℕ × Terms). w.0) (end_same m Ending.Broken m.ending)) (end_linked s i m Ending.Broken m.ending linked))
told_ran s i m (Lost token) after none linked takes may = subst (IsRan s s i m.process) (sym takes) (ran_none s i m.process (lost m token) (ap (λ (w : ℕ × Terms). w.0) (if_is (λ x. who x ≡ who m) _ _ _ refl refl)) (lost_linked s i m token linked))
told_ran s i m Stopped after none linked takes may = subst (IsRan s s i m.process) (sym takes) (ran_none s i m.process (stopped m) refl (stopped_linked s i m linked may))
told_ran s i m (StoppedOn k) after none linked takes may = subst (IsRan s s i m.process) (sym takes) (ran_none s i m.process (stopped_on m k) refl (stopped_on_linked s i m k linked may))

-- What was sent.

-- a writer has learned a prefix of its epoch's log, by which it may append, or roll the epoch over
pub record Writes (s : Store) (m : MemberState) (offset : ℕ) (silent : ℕ → Bool) (seen : ℕ → Option Held) (events : List Event) : Type 0 where
  pub name : ℕ
  pub place : IsPlaced s name (replica_of m) m.terms.epoch m.terms.node
  pub asks : AppendsAt m offset
  pub names : Names m (record s { epoch = m.terms.epoch }) silent seen
  pub rebalances : (log : List Event) → IsLogOf (replica_of m) log → Rebalances (replica_of m).world.setup log (table_before (replica_of m).last m.terms.old) (rebalanced_nodes m) events

record Closes (s : Store) (m : MemberState) (offset : ℕ) (silent : ℕ → Bool) (number : ℕ → ℕ) : Type 0 where
  name : ℕ
  place : IsPlaced s name (replica_of m) m.terms.epoch m.terms.node
  asks : RollsOverAt m offset
  spared : (j : ℕ) → silent j ≡ true → MayBeSilent m m.terms.is_cooperative m.ending ((s.epochs m.terms.epoch).number j)
  one : IsOneToOne number

abbrev IsRight : Store → Sent → Type 0
IsRight s (SentAcquire i n e offset) = HasPromised s i n (nothing_in e offset)
IsRight s (SentRelease i n) = Unit {0}
IsRight s (SentPromise i n promised) = HasPromised s i n promised
IsRight s (SentAppend m offset silent seen events) = Writes s m offset silent seen events
IsRight s (SentRollOver m offset silent setup number) = Closes s m offset silent number

-- names of an epoch, whichever store has it
names_by : (s s' : Store) (m : MemberState) (silent : ℕ → Bool) (seen : ℕ → Option Held) → (current s').number ≡ (current s).number → Names m s silent seen → Names m s' silent seen
names_by s s' m silent seen same names = record {
  spared = λ j is. subst (λ (f : ℕ → ℕ). MayBeSilent m m.terms.is_cooperative m.ending (f j)) (sym same) (names.spared j is);
  asked = λ j held is there. subst (λ (f : ℕ → ℕ). IsAsked m m.ending (f j)) (sym same) (names.asked j held is there);
  known = λ j held is there. subst (λ (f : ℕ → ℕ). Knows m (f j) held) (sym same) (names.known j held is there);
}

right_stays : (s s' : Store) (x : Sent) → Grows s s' → ((i n : ℕ) (q : Promised) → HasPromised s i n q → HasPromised s' i n q) → IsRight s x → IsRight s' x
right_stays s s' (SentAcquire i n e offset) grows more right = more i n (nothing_in e offset) right
right_stays s s' (SentRelease i n) grows more right = tt
right_stays s s' (SentPromise i n promised) grows more right = more i n promised right
right_stays s s' (SentAppend m offset silent seen events) grows more right = record {
  name = right.name;
  place = placed s s' right.name (replica_of m) m.terms.epoch m.terms.node grows right.place;
  asks = right.asks;
  names = names_by (record s { epoch = m.terms.epoch }) (record s' { epoch = m.terms.epoch }) m silent seen (grows.extends m.terms.epoch right.place.started).number right.names;
  rebalances = right.rebalances;
}
right_stays s s' (SentRollOver m offset silent setup number) grows more right = record {
  name = right.name;
  place = placed s s' right.name (replica_of m) m.terms.epoch m.terms.node grows right.place;
  asks = right.asks;
  spared = λ j is. subst (λ (f : ℕ → ℕ). MayBeSilent m m.terms.is_cooperative m.ending (f j)) (sym (grows.extends m.terms.epoch right.place.started).number) (right.spared j is);
  one = right.one;
}

one_has : (x y : Sent) → Contains (x ∷ []) y → x ≡ y
one_has x y has = by_cases (Contains-push_cases [] x y has)
  where
    by_cases : Contains [] y ⊎ (x ≡ y) → x ≡ y
    by_cases (inl old) = absurd (none_in y old)
    by_cases (inr is) = is

sent_right : (s : Store) (i : ℕ) (m after : MemberState) (now : ℕ) (step : Step) (deed : Deed) → Linked s i m → GoesNext m now step after → MayDo s i m after now step deed → (x : Sent) → Contains (sent_by i m step deed) x → IsRight (store_by s i m step deed) x
sent_right s i m after now (Step.Ask (Request.Acquire session offset)) deed linked goes may x has =
    subst (IsRight (store_by s i m (Step.Ask (Request.Acquire session offset)) deed)) (one_has _ x has) (promised_here (learns s i (id_of session) m.terms.epoch offset) i (id_of session) (nothing_in m.terms.epoch offset))
sent_right s i m after now (Step.Ask (Request.Renew session)) deed linked goes may x has = absurd (none_in x has)
sent_right s i m after now (Step.Ask (Request.Release session)) deed linked goes may x has = subst (IsRight s) (one_has (SentRelease i (id_of session)) x has) tt
sent_right s i m after now (Step.Ask Request.Snapshot) deed linked goes may x has = absurd (none_in x has)
sent_right s i m after now (Step.Ask (Request.Promise session offset)) deed linked goes may x has =
    subst (IsRight (store_by s i m (Step.Ask (Request.Promise session offset)) deed)) (one_has _ x has) (promised_here s i (id_of session) (promise_of m offset))
sent_right s i m after now (Step.Ask (Request.Append offset)) deed linked goes may x has = subst (IsRight s) (one_has _ x has)
    (record { name = i; place = linked.place; asks = goes.keeps; names = may.names; rebalances = may.rebalances })
sent_right s i m after now (Step.Ask (Request.RollOver offset)) deed linked goes may x has = subst (IsRight s) (one_has _ x has)
    (record { name = i; place = linked.place; asks = goes.keeps; spared = may.spared; one = may.one })
sent_right s i m after now (Step.Ask Request.Follow) deed linked goes may x has = absurd (none_in x has)
sent_right s i m after now (Step.Begin token) deed linked goes may x has = absurd (none_in x has)
sent_right s i m after now Step.Stop deed linked goes may x has = absurd (none_in x has)
sent_right s i m after now (Step.Wait at_most until reason) deed linked goes may x has = absurd (none_in x has)
sent_right s i m after now (Step.BackOff at_most reason) deed linked goes may x has = absurd (none_in x has)
sent_right s i m after now (Step.End ending) deed linked goes may x has = absurd (none_in x has)

-- What the store does.

-- a store in which a session has learned what a writer has, and does nothing
abbrev seen_by : Store → ℕ → MemberState → Store
seen_by s i m = with_session s i 0 (record { epoch = m.terms.epoch; learned = (replica_of m).world.events; promises = []; work = [] })

acts_there : (s : Store) (i : ℕ) (m : MemberState) → IsPlaced s i (replica_of m) m.terms.epoch m.terms.node → ActsBy m (seen_by s i m) i 0
acts_there s i m place = record {
  epoch = ap (λ (x : Session). x.epoch) is;
  setup = place.setup;
  number = place.number;
  learned = subst (λ (x : Session). IsLogOf (replica_of m) (take x.learned (s.epochs m.terms.epoch).log)) (sym is) place.rows;
  reached = λ q has. absurd (none_in q (subst (λ (x : Session). Contains x.promises q) is has));
  known = λ y has. absurd (none_in y (subst (λ (x : Session). Contains x.work y) is has));
}
  where
    is : (seen_by s i m).sessions i 0 ≡ record { epoch = m.terms.epoch; learned = (replica_of m).world.events; promises = []; work = [] }
    is = written s i 0 (record { epoch = m.terms.epoch; learned = (replica_of m).world.events; promises = []; work = [] })

may_append : (s : Store) (m : MemberState) (offset : ℕ) (silent : ℕ → Bool) (seen : ℕ → Option Held) (events : List Event) → Writes s m offset silent seen events → AcceptsAppend s m.terms.epoch offset silent seen → MayAppend s m.terms.epoch offset silent seen events
may_append s m offset silent seen events writes accepts = record { lawful = may.lawful; whole = may.whole; idle = may.idle; kept = may.kept }
  where
    may : MayAppend (seen_by s writes.name m) m.terms.epoch offset silent seen events
    may = append_lem m (seen_by s writes.name m) writes.name 0 offset silent seen events (acts_there s writes.name m writes.place) accepts writes.asks
        (names_by (record s { epoch = m.terms.epoch }) (seen_by s writes.name m) m silent seen (ap (λ e. (s.epochs e).number) (sym accepts.0)) writes.names) writes.rebalances

may_roll : (s : Store) (m : MemberState) (offset : ℕ) (silent : ℕ → Bool) (number : ℕ → ℕ) → Closes s m offset silent number → AcceptsRollOver s m.terms.epoch offset silent → MayRollOver s silent number
may_roll s m offset silent number closes accepts = rolls_lem m (seen_by s closes.name m) closes.name 0 offset silent number (acts_there s closes.name m closes.place) accepts closes.asks
    (λ j is. subst (λ e. MayBeSilent m m.terms.is_cooperative m.ending ((s.epochs e).number j)) accepts.0 (closes.spared j is)) closes.one

-- an act of the store itself
record IsSettled (s s' : Store) (plain : Type 0) : Type 0 where
  act : Act
  does : Does s act s'
  asks : plain → AsksAll act
  grows : Grows s s'
  sessions : s'.sessions ≡ s.sessions
  none : HadNone s → HadNone s'

leased : (s : Store) (i : ℕ) (here : Option Held) (act : Act) (plain : Type 0) → Does s act (with_lease s i here) → AsksAll act → IsSettled s (with_lease s i here) plain
leased s i here act plain does asks = record { act = act; does = does; asks = λ _. asks; grows = grows_none s (with_lease s i here) refl refl; sessions = refl; none = λ none. none }

-- a writer of an eager group
abbrev IsPlainSent : Sent → Type 0
IsPlainSent (SentAppend m offset silent seen events) = m.terms.is_cooperative ≡ false
IsPlainSent other = Unit {0}

does_it : (s : Store) (x : Sent) (s' : Store) → IsRight s x → IsDone s x s' → IsSettled s s' (IsPlainSent x)
does_it s (SentAcquire i n e offset) s' right (accepts, is) = subst (λ t. IsSettled s t (Unit {0})) (sym is) (leased s i _ (Acquire i n e offset) (Unit {0}) (accepts, right, refl) tt)
does_it s (SentRelease i n) s' right (live, is) = subst (λ t. IsSettled s t (Unit {0})) (sym is) (leased s i None (End i) (Unit {0}) refl tt)
does_it s (SentPromise i n promised) s' right (accepts, is) = subst (λ t. IsSettled s t (Unit {0})) (sym is) (leased s i _ (Yield i n promised) (Unit {0}) (accepts, right, refl) tt)
does_it s (SentAppend m offset silent seen events) s' right (accepts, is) = subst (λ t. IsSettled s t (m.terms.is_cooperative ≡ false)) (sym is) (record {
  act = Append m.terms.epoch offset silent seen events;
  does = (accepts, may_append s m offset silent seen events right accepts, refl);
  asks = λ eager. asks_lem m (record s { epoch = m.terms.epoch }) silent seen eager right.names;
  grows = longer_grows s events;
  sessions = refl;
  none = had_none s (longer s events) (longer_grows s events) refl;
})
does_it s (SentRollOver m offset silent setup number) s' right (accepts, is) = subst (λ t. IsSettled s t (Unit {0})) (sym is) (record {
  act = RollOver m.terms.epoch offset silent setup number;
  does = (accepts, may_roll s m offset silent number right accepts, refl);
  asks = λ _. tt;
  grows = rolled_grows s setup number;
  sessions = refl;
  none = rolled_none s setup number;
})

-- What holds of a run at each moment.

record IsProcess (s : Store) (p : ℕ) (q : Process) : Type 0 where
  same : q.member.process ≡ p
  linked : Linked s q.name q.member

record IsLinked (R : Run) : Type 0 where
  none : HadNone R.store
  members : (p : ℕ) (q : Process) → R.processes p ≡ Some q → IsProcess R.store p q
  unborn : (p : ℕ) → R.processes p ≡ None → (i k : ℕ) → k < 2 ^ 64 → R.store.sessions i (id_by p k) ≡ no_session
  sent : (x : Sent) → Contains R.sent x → IsRight R.store x

differs : (r p : ℕ) → (r == p) ≡ false → r ≡ p → ⊥
differs r p apart same = grind (arith, nat_tests, apart, same)

-- another process stays linked
stays_process : (s s' : Store) (r : ℕ) (q : Process) → Grows s s' → ((i k : ℕ) → k < 2 ^ 64 → s'.sessions i (id_by r k) ≡ s.sessions i (id_by r k)) → IsProcess s r q → IsProcess s' r q
stays_process s s' r q grows same is = record {
  same = is.same;
  linked = links_stay s s' q.name q.member.process (replica_of q.member) q.member.terms.epoch q.member.terms.node q.member.promised q.member.tries q.member.session q.member.asked q.member.needs_snapshot q.member.works grows
      (λ k more high. subst (λ p. s'.sessions q.name (id_by p k) ≡ s.sessions q.name (id_by p k)) (sym is.same) (same q.name k high))
      (λ k less y has. let top = is.linked.holds.tops in
      subst (λ (x : Session). Contains x.work y) (subst (λ p. s'.sessions q.name (id_by p k) ≡ s.sessions q.name (id_by p k)) (sym is.same) (same q.name k (omega (arith, less, top)))) has) is.linked;
}

moved : (R : Run) (p i : ℕ) (s' : Store) (after : MemberState) (more : List Sent) → IsLinked R → IsRan R.store s' i p after → ((x : Sent) → Contains more x → IsRight s' x) → IsLinked (with_member R p i after s' more)
moved R p i s' after more linked ran right = record {
  none = had_none R.store s' grows ran.leads.epoch linked.none;
  members = λ r q is. member r q (r == p) refl is;
  unborn = λ r is. unborn r (r == p) refl is;
  sent = λ x has. by_cases x (Contains-append_cases R.sent more x has);
}
  where
    grows : Grows R.store s'
    grows = leads_grows R.store s' (id_by p ran.number) ran.acts ran.leads

    others : (r : ℕ) → (r ≡ p → ⊥) → (j k : ℕ) → k < 2 ^ 64 → s'.sessions j (id_by r k) ≡ R.store.sessions j (id_by r k)
    others r apart j k high = ran.leads.others j (id_by r k) (λ same. apart (ids_apart r p k ran.number high ran.low same).0)

    member : (r : ℕ) (q : Process) (b : Bool) → (r == p) ≡ b → cond b (Some (record { name = i; member = after })) (R.processes r) ≡ Some q → IsProcess s' r q
    member r q true here is =
        let same : r ≡ p = grind (arith, nat_tests, here) in
        let this : record { name = i; member = after } ≡ q = cc is in
        subst (IsProcess s' r) this (record { same = ran.same ∙ sym same; linked = ran.linked })
    member r q false apart is = stays_process R.store s' r q grows (others r (differs r p apart)) (linked.members r q is)

    unborn : (r : ℕ) (b : Bool) → (r == p) ≡ b → cond b (Some (record { name = i; member = after })) (R.processes r) ≡ None → (j k : ℕ) → k < 2 ^ 64 → s'.sessions j (id_by r k) ≡ no_session
    unborn r true here is j k high = absurd (cc is)
    unborn r false apart is j k high = others r (differs r p apart) j k high ∙ linked.unborn r is j k high

    by_cases : (x : Sent) → Contains R.sent x ⊎ Contains more x → IsRight s' x
    by_cases x (inl old) = right_stays R.store s' x grows ran.leads.promises (linked.sent x old)
    by_cases x (inr new) = right x new

settled : (R : Run) (s' : Store) (plain : Type 0) → IsLinked R → IsSettled R.store s' plain → IsLinked (record R { store = s' })
settled R s' plain linked is = record {
  none = is.none linked.none;
  members = λ r q there. stays_process R.store s' r q is.grows (λ i k high. same i (id_by r k)) (linked.members r q there);
  unborn = λ r there i k high. same i (id_by r k) ∙ linked.unborn r there i k high;
  sent = λ x has. right_stays R.store s' x is.grows (λ i n q had. subst (λ (x : Session). Contains x.promises q) (sym (same i n)) had) (linked.sent x has);
}
  where
    same : (i n : ℕ) → s'.sessions i n ≡ R.store.sessions i n
    same i n = ap (λ (f : ℕ → ℕ → Session). f i n) is.sessions

-- some acts lead to the run's next store
-- ... and all of them ask everybody, if what was sent is of eager groups
abbrev AllPlain : Run → Type 0
AllPlain R = (x : Sent) → Contains R.sent x → IsPlainSent x

record IsBecome (R R' : Run) : Type 0 where
  acts : List Act
  become : Become R.store acts R'.store
  asks : AllPlain R → AllAsked acts
  linked : IsLinked R'

ended_ran : (s : Store) (i number : ℕ) (m : MemberState) (left : List Piece) → Linked s i m → number ≤ m.tries → MayStop s i (id_by m.process number) left → IsRan s (stops s i (id_by m.process number) left) i m.process m
ended_ran s i number m left linked low may = record {
  same = refl;
  number = number;
  low = let top = linked.holds.tops in omega (arith, low, top);
  acts = Stop i (id_by m.process number) left ∷ [];
  leads = leads;
  linked = by_test (number == m.tries) refl;
}
  where
    s' : Store
    s' = stops s i (id_by m.process number) left

    leads : Leads s (stops s i (id_by m.process number) left) (id_by m.process number) (Stop i (id_by m.process number) left ∷ [])
    leads = leads_one s s i (id_by m.process number) (record (s.sessions i (id_by m.process number)) { work = left }) (Stop i (id_by m.process number) left) tt refl refl refl (may, refl) (λ q has. has)

    had : (k : ℕ) (y : Piece) (b : Bool) → (k == number) ≡ b → HasWork (stops s i (id_by m.process number) left) i (id_by m.process k) y → HasWork s i (id_by m.process k) y
    had k y true is has =
        let same : number ≡ k = grind (arith, nat_tests, is) in
        subst (λ x. HasWork s i (id_by m.process x) y) same (may y (subst (λ (x : Session). Contains x.work y)
        (written s i (id_by m.process number) (record (s.sessions i (id_by m.process number)) { work = left }))
        (subst (λ x. HasWork (stops s i (id_by m.process number) left) i (id_by m.process x) y) (sym same) has)))
    had k y false is has = subst (λ (x : Session). Contains x.work y) (leads.others i (id_by m.process k) (λ same. differs k number is (omega (arith, same)))) has

    by_test : (b : Bool) → (number == m.tries) ≡ b → Linked (stops s i (id_by m.process number) left) i m
    by_test true is =
        let same : number ≡ m.tries = grind (arith, nat_tests, is) in
        links_written s (stops s i (id_by m.process number) left) i m.process (replica_of m) m.terms.epoch m.terms.node m.promised m.tries m.session m.asked m.needs_snapshot m.works (Stop i (id_by m.process number) left ∷ [])
        (record (s.sessions i (id_by m.process m.tries)) { work = left })
        (subst (λ k. Leads s (stops s i (id_by m.process number) left) (id_by m.process k) (Stop i (id_by m.process number) left ∷ [])) same leads)
        (subst (λ k. (stops s i (id_by m.process number) left).sessions i (id_by m.process k) ≡ record (s.sessions i (id_by m.process k)) { work = left }) same (written s i (id_by m.process number) (record (s.sessions i (id_by m.process number)) { work = left })))
        linked.place
        (record {
          epoch = linked.knows.epoch;
          past = linked.knows.past;
          seen = linked.knows.seen;
          reached = linked.knows.reached;
          known = λ y has. linked.knows.known y (subst (λ k. HasWork s i (id_by m.process k) y) same (may y has));
        })
        linked.holds linked.told linked.older linked.fresh
    by_test false is = links_stay s (stops s i (id_by m.process number) left) i m.process (replica_of m) m.terms.epoch m.terms.node m.promised m.tries m.session m.asked m.needs_snapshot m.works
        (leads_grows s (stops s i (id_by m.process number) left) (id_by m.process number) (Stop i (id_by m.process number) left ∷ []) leads)
        (λ k more high. leads.others i (id_by m.process k) (λ same. differs number m.tries is (omega (arith, same, more, low))))
        (λ k less y has. had k y (k == number) refl has) linked

-- by the number of the process
by_process : (s s' : Store) (p : ℕ) (q : Process) (after : MemberState) → IsProcess s p q → IsRan s s' q.name q.member.process after → IsRan s s' q.name p after
by_process s s' p q after is ran = subst (λ x. IsRan s s' q.name x after) is.same ran

ended_by : (s : Store) (p number : ℕ) (q : Process) (left : List Piece) → IsProcess s p q → number ≤ q.member.tries → MayStop s q.name (id_by p number) left → IsRan s (stops s q.name (id_by p number) left) q.name p q.member
ended_by s p number q left is low may = subst (λ x. MayStop s q.name (id_by x number) left → IsRan s (stops s q.name (id_by x number) left) q.name x q.member) is.same (ended_ran s q.name number q.member left is.linked low) may

become_one : (R : Run) (s' : Store) (plain : Type 0) → (AllPlain R → plain) → IsLinked R → IsSettled R.store s' plain → IsBecome R (record R { store = s' })
become_one R s' plain is_plain linked is = record { acts = is.act ∷ []; become = (s', is.does, refl); asks = λ all. (is.asks (is_plain all), tt); linked = settled R s' plain linked is }

become_ran : (R : Run) (p i : ℕ) (s' : Store) (after : MemberState) (more : List Sent) → IsLinked R → IsRan R.store s' i p after → ((x : Sent) → Contains more x → IsRight s' x) → IsBecome R (with_member R p i after s' more)
become_ran R p i s' after more linked ran right = record { acts = ran.acts; become = ran.leads.become; asks = λ _. ran.leads.asks; linked = moved R p i s' after more linked ran right }

next_run : (R : Run) (h : Happening) (R' : Run) → IsLinked R → Happens R h R' → IsBecome R R'
next_run R (Starts p i header terms ttl) R' linked (unborn, is, same) = subst (IsBecome R) (sym same)
    (become_ran R p i (learns R.store i (id_by p 0) terms.epoch 0) (new_member header terms p ttl) [] linked (start_ran R.store i p header terms ttl linked.none is (linked.unborn p unborn i)) (λ x has. absurd (none_in x has)))
next_run R (Goes p now next deed) R' linked (q, after, there, goes, may, same) = subst (IsBecome R) (sym same)
    (become_ran R p q.name (store_by R.store q.name q.member next deed) after (sent_by q.name q.member next deed) linked
    (by_process R.store (store_by R.store q.name q.member next deed) p q after (linked.members p q there) (next_ran R.store q.name q.member now deed (linked.members p q there).linked next after goes may))
    (sent_right R.store q.name q.member after now next deed (linked.members p q there).linked goes may))
next_run R (Told p call) R' linked (q, after, there, takes, may, same) = subst (IsBecome R) (sym same)
    (become_ran R p q.name (store_told R.store q.name q.member call) after [] linked
    (by_process R.store (store_told R.store q.name q.member call) p q after (linked.members p q there) (told_ran R.store q.name q.member call after linked.none (linked.members p q there).linked takes may))
    (λ x has. absurd (none_in x has)))
next_run R (Ends p number left) R' linked (q, there, low, may, same) = subst (IsBecome R) (sym same)
    (become_ran R p q.name (stops R.store q.name (id_by p number) left) q.member [] linked (ended_by R.store p number q left (linked.members p q there) low may) (λ x has. absurd (none_in x has)))
next_run R (Done x) R' linked (has, s', is, same) = subst (IsBecome R) (sym same) (become_one R s' (IsPlainSent x) (λ all. all x has) linked (does_it R.store x s' (linked.sent x has) is))
next_run R (Expires i) R' linked same = subst (IsBecome R) (sym same) (become_one R (with_lease R.store i None) (Unit {0}) (λ _. tt) linked (leased R.store i None (End i) (Unit {0}) refl tt))

-- What holds of a run of eager groups.

record IsPlain (R : Run) : Type 0 where
  members : (p : ℕ) (q : Process) → R.processes p ≡ Some q → q.member.terms.is_cooperative ≡ false
  sent : AllPlain R
  nothing : KeepsNothing R.store

kept_with : (s : Store) (i n : ℕ) (new : Session) → KeepsNothing s → ((q : Promised) → Contains new.promises q → q.kept ≡ []) → KeepsNothing (with_session s i n new)
kept_with s i n new nothing plain j m q has = by_test (j == i && m == n) has
  where
    by_test : (b : Bool) → Contains (cond b new (s.sessions j m)).promises q → q.kept ≡ []
    by_test true made = plain q made
    by_test false made = nothing j m q made

kept_more : (s : Store) (i n : ℕ) (p : Promised) → KeepsNothing s → p.kept ≡ [] → KeepsNothing (promises s i n p)
kept_more s i n p nothing none = kept_with s i n (record (s.sessions i n) { promises = (s.sessions i n).promises ++ p ∷ [] }) nothing (λ q has. by_cases q (Contains-push_cases (s.sessions i n).promises p q has))
  where
    by_cases : (q : Promised) → Contains (s.sessions i n).promises q ⊎ (p ≡ q) → q.kept ≡ []
    by_cases q (inl old) = nothing i n q old
    by_cases q (inr is) = subst (λ (x : Promised). x.kept ≡ []) is none

kept_begun : (ks : List ℕ) (s : Store) (i n : ℕ) (m : MemberState) (plan : Planned) → KeepsNothing s → KeepsNothing (begins_all s i n m plan ks)
kept_begun [] s i n m plan nothing = nothing
kept_begun (k ∷ ks) s i n m plan nothing = kept_begun ks (begins s i n (piece_of m plan k)) i n m plan
    (kept_with (record s { begun = record { name = i; session = n; piece = piece_of m plan k } ∷ s.begun }) i n (record (s.sessions i n) { work = (s.sessions i n).work ++ piece_of m plan k ∷ [] }) nothing (λ q has. nothing i n q has))

kept_learned : (s : Store) (i n e offset : ℕ) → KeepsNothing s → KeepsNothing (learns s i n e offset)
kept_learned s i n e offset nothing = kept_with s i n (record (s.sessions i n) { epoch = e; learned = offset }) nothing (λ q has. nothing i n q has)

kept_by : (s : Store) (i : ℕ) (m : MemberState) (now : ℕ) (step : Step) (deed : Deed) → m.terms.is_cooperative ≡ false → Keeps m now step → KeepsNothing s → KeepsNothing (store_by s i m step deed)
kept_by s i m now (Step.Ask (Request.Acquire session offset)) deed eager keeps nothing =
    kept_more (learns s i (id_of session) m.terms.epoch offset) i (id_of session) (nothing_in m.terms.epoch offset) (kept_learned s i (id_of session) m.terms.epoch offset nothing) refl
kept_by s i m now (Step.Ask (Request.Renew session)) deed eager keeps nothing = nothing
kept_by s i m now (Step.Ask (Request.Release session)) deed eager keeps nothing = nothing
kept_by s i m now (Step.Ask Request.Snapshot) deed eager keeps nothing = nothing
kept_by s i m now (Step.Ask (Request.Promise session offset)) deed eager keeps nothing =
    kept_more s i (id_of session) (promise_of m offset) nothing (ap (λ (p : Promised). p.kept) (eager_lem m offset eager keeps.0))
kept_by s i m now (Step.Ask (Request.Append offset)) deed eager keeps nothing = nothing
kept_by s i m now (Step.Ask (Request.RollOver offset)) deed eager keeps nothing = nothing
kept_by s i m now (Step.Ask Request.Follow) deed eager keeps nothing = nothing
kept_by s i m now (Step.Begin token) deed eager keeps nothing = kept_begun deed.begun s i (id_of (session_now m)) m deed.plan nothing
kept_by s i m now Step.Stop deed eager keeps nothing = nothing
kept_by s i m now (Step.Wait at_most until reason) deed eager keeps nothing = nothing
kept_by s i m now (Step.BackOff at_most reason) deed eager keeps nothing = nothing
kept_by s i m now (Step.End ending) deed eager keeps nothing = nothing

kept_if : (b : Bool) (s t : Store) → KeepsNothing s → KeepsNothing t → KeepsNothing (if b then s else t)
kept_if true s t one other = one
kept_if false s t one other = other

kept_told : (s : Store) (i : ℕ) (m : MemberState) (call : Call) → KeepsNothing s → KeepsNothing (store_told s i m call)
kept_told s i m (Next now next) nothing = nothing
kept_told s i m (Answered now answer) nothing = nothing
kept_told s i m (Learn records taken) nothing = nothing
kept_told s i m (SnapshotRead now epoch leases has_unknown has_request) nothing =
    kept_if (takes_in m epoch) (learns s i (id_of (session_now m)) m.terms.epoch (offset_of m)) s (kept_learned s i (id_of (session_now m)) m.terms.epoch (offset_of m) nothing) nothing
kept_told s i m (SnapshotLost now leases) nothing = nothing
kept_told s i m (Followed now header terms) nothing = kept_if (moves m terms) (learns s i (id_of (session_now m)) terms.epoch 0) s (kept_learned s i (id_of (session_now m)) terms.epoch 0 nothing) nothing
kept_told s i m NotThere nothing = nothing
kept_told s i m Passed nothing = nothing
kept_told s i m Woke nothing = nothing
kept_told s i m Leave nothing = nothing
kept_told s i m Broken nothing = nothing
kept_told s i m (Lost token) nothing = nothing
kept_told s i m Stopped nothing = nothing
kept_told s i m (StoppedOn k) nothing = nothing

-- Its group stays eager.

noted_who : (m : MemberState) (now : ℕ) (is_stable : Bool) (step : Step) → who (noted m now is_stable step) ≡ who m
noted_who m now is_stable (Step.Ask request) = by_request request
  where
    by_request : (r : Request) → who (noted m now is_stable (Step.Ask r)) ≡ who m
    by_request (Request.Acquire session offset) = refl
    by_request (Request.Renew session) = refl
    by_request (Request.Release session) = refl
    by_request Request.Snapshot = refl
    by_request (Request.Promise session offset) = refl
    by_request (Request.Append offset) = refl
    by_request (Request.RollOver offset) = refl
    by_request Request.Follow = refl
noted_who m now is_stable (Step.Begin token) = refl
noted_who m now is_stable Step.Stop = refl
noted_who m now is_stable (Step.Wait at_most until reason) = refl
noted_who m now is_stable (Step.BackOff at_most reason) = refl
noted_who m now is_stable (Step.End ending) = refl

abbrev IsEagerMember : MemberState → Type 0
IsEagerMember m = m.terms.is_cooperative ≡ false

by_who : (m after : MemberState) → who after ≡ who m → IsEagerMember m → IsEagerMember after
by_who m after same eager = ap (λ (w : ℕ × Terms). w.1.is_cooperative) same ∙ eager

own_eager : (m : MemberState) (state : SessionState) (here : Option Lease) → IsEagerMember m → IsEagerMember (own_by m state here)
own_eager m state here = by_who m (own_by m state here) (ap who (own_reported m state here))

snapshot_eager : (m : MemberState) (now : ℕ) (leases : List Lease) (has_unknown has_request : Bool) (coming : Option (List ℕ)) (affected : List ℕ) (a b : Bool) → IsEagerMember m
    → IsEagerMember (if not a then m else if not b then record m { is_past = true; asked = None } else found_here (with_arrivals m now leases) now leases has_unknown has_request coming affected)
snapshot_eager m now leases has_unknown has_request coming affected false b eager = eager
snapshot_eager m now leases has_unknown has_request coming affected true false eager = eager
snapshot_eager m now leases has_unknown has_request coming affected true true eager =
    own_eager (found (with_arrivals m now leases) now leases has_unknown has_request (admitted_among (with_arrivals m now leases) now leases) coming affected) m.session (lease_of m.terms.node leases) eager

followed_eager : (m : MemberState) (now : ℕ) (header : Header) (t : Terms) (a b : Bool) → IsEagerMember m → t.is_cooperative ≡ false
    → IsEagerMember (if not a then m else if b then to_pause (record m { asked = None; is_past = false; needs_snapshot = true }) now else in_epoch m now (record { replica = first_replica header; rows = 0 }) t)
followed_eager m now header t false b eager next = eager
followed_eager m now header t true true eager next = eager
followed_eager m now header t true false eager next = next

not_there_eager : (m : MemberState) (a : Bool) → IsEagerMember m → IsEagerMember (if a then end_for (record m { asked = None }) Ending.NotThere m.ending else m)
not_there_eager m true eager = by_who m (end_for (record m { asked = None }) Ending.NotThere m.ending) (end_same (record m { asked = None }) Ending.NotThere m.ending) eager
not_there_eager m false eager = eager

lost_eager : (m : MemberState) (a : Bool) → IsEagerMember m → IsEagerMember (if a then record m { is_lost = true } else m)
lost_eager m true eager = eager
lost_eager m false eager = eager

told_eager : (m : MemberState) (call : Call) (after : MemberState) → IsEagerCall call → IsEagerMember m → Takes m call after → IsEagerMember after
told_eager m (Next now next) after call eager takes = by_who m after (ap who takes.noted ∙ noted_who m now takes.sight.is_stable next) eager
told_eager m (Answered now answer) after call eager takes = by_who m after (ap who takes ∙ answered_same m now answer) eager
told_eager m (Learn records taken) after call eager takes = subst IsEagerMember (sym takes.rest) eager
told_eager m (SnapshotRead now epoch leases has_unknown has_request) after call eager takes = subst IsEagerMember (sym takes)
    (snapshot_eager m now leases has_unknown has_request after.coming after.affected (awaits_snapshot m.asked) (epoch == m.terms.epoch) eager)
told_eager m (SnapshotLost now leases) after call eager takes = subst IsEagerMember (sym takes) eager
told_eager m (Followed now header terms) after call eager takes = subst IsEagerMember (sym takes.1) (followed_eager m now header terms (is_following m.asked) (nat_le terms.epoch m.terms.epoch || not (all_idle m.works)) eager call)
told_eager m NotThere after call eager takes = subst IsEagerMember (sym takes) (not_there_eager m (is_following m.asked) eager)
told_eager m Passed after call eager takes = subst IsEagerMember (sym takes) eager
told_eager m Woke after call eager takes = subst IsEagerMember (sym takes) eager
told_eager m Leave after call eager takes = by_who m after (ap who takes ∙ end_same m Ending.Left m.ending) eager
told_eager m Broken after call eager takes = by_who m after (ap who takes ∙ end_same m Ending.Broken m.ending) eager
told_eager m (Lost token) after call eager takes = subst IsEagerMember (sym takes) (lost_eager m ((token == m.token) && any_working m.works) eager)
told_eager m Stopped after call eager takes = subst IsEagerMember (sym takes) eager
told_eager m (StoppedOn k) after call eager takes = subst IsEagerMember (sym takes) eager

plain_moved : (R : Run) (p i : ℕ) (s' : Store) (after : MemberState) (more : List Sent) → IsPlain R → IsEagerMember after → KeepsNothing s' → ((x : Sent) → Contains more x → IsPlainSent x) → IsPlain (with_member R p i after s' more)
plain_moved R p i s' after more plain eager nothing right = record {
  members = λ r q is. member r q (r == p) is;
  sent = λ x has. by_cases x (Contains-append_cases R.sent more x has);
  nothing = nothing;
}
  where
    member : (r : ℕ) (q : Process) (b : Bool) → cond b (Some (record { name = i; member = after })) (R.processes r) ≡ Some q → IsEagerMember q.member
    member r q true is = let this : record { name = i; member = after } ≡ q = cc is in subst (λ (x : Process). IsEagerMember x.member) this eager
    member r q false is = plain.members r q is

    by_cases : (x : Sent) → Contains R.sent x ⊎ Contains more x → IsPlainSent x
    by_cases x (inl old) = plain.sent x old
    by_cases x (inr new) = right x new

sent_plain : (i : ℕ) (m : MemberState) (step : Step) (deed : Deed) → IsEagerMember m → (x : Sent) → Contains (sent_by i m step deed) x → IsPlainSent x
sent_plain i m (Step.Ask (Request.Acquire session offset)) deed eager x has = subst IsPlainSent (one_has (SentAcquire i (id_of session) m.terms.epoch offset) x has) tt
sent_plain i m (Step.Ask (Request.Renew session)) deed eager x has = absurd (none_in x has)
sent_plain i m (Step.Ask (Request.Release session)) deed eager x has = subst IsPlainSent (one_has (SentRelease i (id_of session)) x has) tt
sent_plain i m (Step.Ask Request.Snapshot) deed eager x has = absurd (none_in x has)
sent_plain i m (Step.Ask (Request.Promise session offset)) deed eager x has = subst IsPlainSent (one_has (SentPromise i (id_of session) (promise_of m offset)) x has) tt
sent_plain i m (Step.Ask (Request.Append offset)) deed eager x has = subst IsPlainSent (one_has (SentAppend m offset deed.silent deed.seen deed.events) x has) eager
sent_plain i m (Step.Ask (Request.RollOver offset)) deed eager x has = subst IsPlainSent (one_has (SentRollOver m offset deed.silent deed.setup deed.number) x has) tt
sent_plain i m (Step.Ask Request.Follow) deed eager x has = absurd (none_in x has)
sent_plain i m (Step.Begin token) deed eager x has = absurd (none_in x has)
sent_plain i m Step.Stop deed eager x has = absurd (none_in x has)
sent_plain i m (Step.Wait at_most until reason) deed eager x has = absurd (none_in x has)
sent_plain i m (Step.BackOff at_most reason) deed eager x has = absurd (none_in x has)
sent_plain i m (Step.End ending) deed eager x has = absurd (none_in x has)

plain_done : (s : Store) (x : Sent) (s' : Store) → IsDone s x s' → KeepsNothing s → KeepsNothing s'
plain_done s (SentAcquire i n e offset) s' (accepts, is) nothing = subst KeepsNothing (sym is) nothing
plain_done s (SentRelease i n) s' (live, is) nothing = subst KeepsNothing (sym is) nothing
plain_done s (SentPromise i n promised) s' (accepts, is) nothing = subst KeepsNothing (sym is) nothing
plain_done s (SentAppend m offset silent seen events) s' (accepts, is) nothing = subst KeepsNothing (sym is) nothing
plain_done s (SentRollOver m offset silent setup number) s' (accepts, is) nothing = subst KeepsNothing (sym is) nothing

plain_next : (R : Run) (h : Happening) (R' : Run) → IsPlain R → IsEager h → Happens R h R' → IsPlain R'
plain_next R (Starts p i header terms ttl) R' plain eager (unborn, is, same) = subst IsPlain (sym same)
    (plain_moved R p i (learns R.store i (id_by p 0) terms.epoch 0) (new_member header terms p ttl) [] plain eager (kept_learned R.store i (id_by p 0) terms.epoch 0 plain.nothing) (λ x has. absurd (none_in x has)))
plain_next R (Goes p now next deed) R' plain eager (q, after, there, goes, may, same) = subst IsPlain (sym same)
    (plain_moved R p q.name (store_by R.store q.name q.member next deed) after (sent_by q.name q.member next deed) plain
    (told_eager q.member (Next now next) after tt (plain.members p q there) goes)
    (kept_by R.store q.name q.member now next deed (plain.members p q there) goes.keeps plain.nothing) (sent_plain q.name q.member next deed (plain.members p q there)))
plain_next R (Told p call) R' plain eager (q, after, there, takes, may, same) = subst IsPlain (sym same)
    (plain_moved R p q.name (store_told R.store q.name q.member call) after [] plain (told_eager q.member call after eager (plain.members p q there) takes) (kept_told R.store q.name q.member call plain.nothing) (λ x has. absurd (none_in x has)))
plain_next R (Ends p number left) R' plain eager (q, there, low, may, same) = subst IsPlain (sym same)
    (plain_moved R p q.name (stops R.store q.name (id_by p number) left) q.member [] plain (plain.members p q there)
    (kept_with R.store q.name (id_by p number) (record (R.store.sessions q.name (id_by p number)) { work = left }) plain.nothing (λ x has. plain.nothing q.name (id_by p number) x has)) (λ x has. absurd (none_in x has)))
plain_next R (Done x) R' plain eager (has, s', is, same) = subst IsPlain (sym same) (record { members = plain.members; sent = plain.sent; nothing = plain_done R.store x s' is plain.nothing })
plain_next R (Expires i) R' plain eager same = subst IsPlain (sym same) (record { members = plain.members; sent = plain.sent; nothing = plain.nothing })

-- Whole runs.

record IsRunOf (happenings : List Happening) (R R' : Run) : Type 0 where
  acts : List Act
  become : Become R.store acts R'.store
  linked : IsLinked R'
  eager : AllEager happenings → IsPlain R → AllAsked acts × IsPlain R'

runs_on : (happenings : List Happening) (R R' : Run) → IsLinked R → RunsBy R happenings R' → IsRunOf happenings R R'
runs_on [] R R' linked is = subst (IsRunOf [] R) (sym is) (record { acts = []; become = refl; linked = linked; eager = λ all plain. (tt, plain) })
runs_on (h ∷ happenings) R R' linked (mid, happens, runs) =
    let one : IsBecome R mid = next_run R h mid linked happens in
    let rest : IsRunOf happenings mid R' = runs_on happenings mid R' one.linked runs in
    record {
      acts = one.acts ++ rest.acts;
      become = become_more one.acts rest.acts R.store mid.store R'.store one.become rest.become;
      linked = rest.linked;
      eager = λ all plain.
          let (asked, then_plain) = rest.eager all.1 (plain_next R h mid plain all.0 happens) in
          (asked_more one.acts rest.acts (one.asks plain.sent) asked, then_plain);
    }

first_linked : (setup : Setup) (number : ℕ → ℕ) → IsLinked (first_run setup number)
first_linked setup number = record {
  none = λ e low. (0, omega arith, refl);
  members = λ p q is. absurd (cc is);
  unborn = λ p is i k high. refl;
  sent = λ x has. absurd (none_in x has);
}

has_run : (happenings : List Happening) (R : Run) (run : HasRun happenings R) → IsRunOf happenings (first_run run.setup run.number) R
has_run happenings R run = runs_on happenings (first_run run.setup run.number) R (first_linked run.setup run.number) run.runs

pub linked_of : (happenings : List Happening) (R : Run) (p : ℕ) (q : Process) → HasRun happenings R → R.processes p ≡ Some q → Linked R.store q.name q.member
linked_of happenings R p q run there = ((has_run happenings R run).linked.members p q there).linked

-- what was sent to append, was sent by a writer that may
pub writes_of : (happenings : List Happening) (R : Run) (m : MemberState) (offset : ℕ) (silent : ℕ → Bool) (seen : ℕ → Option Held) (events : List Event) → HasRun happenings R → Contains R.sent (SentAppend m offset silent seen events) → Writes R.store m offset silent seen events
writes_of happenings R m offset silent seen events run has = (has_run happenings R run).linked.sent (SentAppend m offset silent seen events) has

pub process_is : (happenings : List Happening) (R : Run) (p : ℕ) (q : Process) → HasRun happenings R → R.processes p ≡ Some q → q.member.process ≡ p
process_is happenings R p q run there = ((has_run happenings R run).linked.members p q there).same

pub reached_lem : (happenings : List Happening) (R : Run) → HasRun happenings R → (acts : List Act) × IsReached acts R.store
reached_lem happenings R run = let is = has_run happenings R run in (is.acts, record { setup = run.setup; number = run.number; one = run.one; become = is.become })

pub knows_lem : (happenings : List Happening) (R : Run) (p : ℕ) (q : Process) → HasRun happenings R → R.processes p ≡ Some q → q.member.needs_snapshot ≡ false → ActsBy q.member R.store q.name (id_of (session_now q.member))
knows_lem happenings R p q run there seen = record {
  epoch = linked.knows.epoch;
  setup = linked.place.setup;
  number = linked.place.number;
  learned = subst (λ n. IsLogOf (replica_of q.member) (take n (R.store.epochs q.member.terms.epoch).log)) (sym (linked.knows.seen seen).0) linked.place.rows;
  reached = linked.knows.reached;
  known = λ y has. busy_contains q.member.works y.partition (linked.knows.known y has);
}
  where
    linked : Linked R.store q.name q.member
    linked = ((has_run happenings R run).linked.members p q there).linked

pub works_lem : (happenings : List Happening) (R : Run) (p number : ℕ) (q : Process) (x : Piece) → HasRun happenings R → R.processes p ≡ Some q → number ≤ q.member.tries → HasWork R.store q.name (id_of (session_by p number)) x → Contains (busy q.member.works) x.partition
works_lem happenings R p number q x run there low has = busy_contains q.member.works x.partition (by_test (number == q.member.tries) refl)
  where
    is : IsProcess R.store p q
    is = (has_run happenings R run).linked.members p q there

    by_test : (b : Bool) → (number == q.member.tries) ≡ b → busy_at q.member.works x.partition ≡ true
    by_test true here =
        let same : number ≡ q.member.tries = grind (arith, nat_tests, here) in
        is.linked.knows.known x (subst (λ k. HasWork R.store q.name (id_by q.member.process k) x) same (subst (λ r. HasWork R.store q.name (id_by r number) x) (sym is.same) has))
    by_test false apart = absurd (is.linked.older number (grind (arith, nat_tests, apart, low)) x (subst (λ r. HasWork R.store q.name (id_by r number) x) (sym is.same) has))

pub owner_of_lem : (happenings : List Happening) (R : Run) (p : ℕ) (x : Piece) → HasRun happenings R → (w : WorksNow R p x) → (x.epoch ≡ R.store.epoch) × OwnsNow R.store w.process.name x.partition
owner_of_lem happenings R p x run w = (owned.0, owned.1)
  where
    reached : (acts : List Act) × IsReached acts R.store
    reached = reached_lem happenings R run

    owned : (x.epoch ≡ R.store.epoch) × (is : OwnsNow R.store w.process.name x.partition) × GoesBy is.owner.world ((current R.store).number w.process.name) is.plan
    owned = owner_lem reached.0 R.store w.process.name (id_by p w.number) x reached.1 w.works

pub now_lem : (happenings : List Happening) (R : Run) (p q : ℕ) (x y : Piece) → HasRun happenings R → WorksNow R p x → WorksNow R q y → x.partition ≡ y.partition → p ≡ q
now_lem happenings R p q x y run one other same = (ids_apart p q one.number other.number (small p one.process one.number one.started one.asked) (small q other.process other.number other.started other.asked) apart.1).0
  where
    small : (r : ℕ) (here : Process) (number : ℕ) → R.processes r ≡ Some here → number ≤ here.member.tries → number < 2 ^ 64
    small r here number there low = let top = ((has_run happenings R run).linked.members r here there).linked.holds.tops in omega (arith, low, top)

    reached : (acts : List Act) × IsReached acts R.store
    reached = reached_lem happenings R run

    apart : (one.process.name ≡ other.process.name) × (id_by p one.number ≡ id_by q other.number)
    apart = apart_now reached.0 R.store one.process.name other.process.name (id_by p one.number) (id_by q other.number) x y reached.1 one.works other.works same

first_plain : (setup : Setup) (number : ℕ → ℕ) → IsPlain (first_run setup number)
first_plain setup number = record { members = λ p q is. absurd (cc is); sent = λ x has. absurd (none_in x has); nothing = λ i n q has. absurd (none_in q has) }

pub eager_run_lem : (happenings : List Happening) (R : Run) → HasRun happenings R → AllEager happenings → (acts : List Act) × IsReached acts R.store × AllAsked acts × KeepsNothing R.store
eager_run_lem happenings R run eager =
    let is : IsRunOf happenings (first_run run.setup run.number) R = has_run happenings R run in
    let (asked, plain) = is.eager eager (first_plain run.setup run.number) in
    (is.acts, record { setup = run.setup; number = run.number; one = run.one; become = is.become }, asked, plain.nothing)
