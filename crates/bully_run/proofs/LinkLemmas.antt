-- A member knows its session, whatever call comes: each is acts of the model.
use Rattle.std.proofs.Common.{◌≡◌, ◌≤◌, ◌<◌, ◌+◌, ◌-◌, ◌^◌, ◌++◌, ℕ, Bool, true, false, List, Option, Some, None, Contains, length, take, arith, sym, ap, subst, ◌∙◌, Result, drop, length-append, length-drop}
use Rattle.std.proofs.Math.Seq.{take-add}
use Rattle.std.proofs.lemmas.List.{length-take}
use Rattle.bully_calls.specs.declared.event.Event.{Event}
use Rattle.bully_member.specs.Learned.{is_following, not_there}
use Rattle.bully_member.specs.Member.{MemberState, offset_of, replica_of}
use Rattle.bully_member.specs.Told.{answered, end_for, lost, own_by, snapshot_lost, stopped, stopped_on}
use Rattle.bully_member.specs.declared.values.Activity.{Activity}
use Rattle.bully_member.specs.declared.values.Asked.{Asked}
use Rattle.bully_member.specs.declared.values.Ending.{Ending}
use Rattle.bully_member.specs.declared.values.Lease.{Lease}
use Rattle.bully_member.specs.declared.values.SessionId.{SessionId}
use Rattle.bully_member.specs.declared.values.SessionState.{SessionState}
use Rattle.bully_member.specs.declared.values.StoreAnswer.{StoreAnswer}
use Rattle.bully_rebalance.specs.Acting.{IsReachedBy}
use Rattle.bully_replica.specs.Replica.{HasLearned, IsLogOf, ReplicaState}
use Rattle.bully_replica.specs.declared.row_replica.LearnFault.{LearnFault}
use Rattle.bully_rows.specs.Headers.{Record}
use Rattle.bully_rows.specs.declared.trace.Row.{Row}
use Rattle.bully_trace.proofs.JudgeLemmas.{events-append}
use Rattle.bully_trace.specs.Verdict.{events_of}
use Rattle.bully_run.proofs.AnswerLemmas.{if_is}
use Rattle.bully_run.proofs.BusyLemmas.{busy_at, ended_busy}
use Rattle.bully_run.proofs.CallLemmas.{AsksOwn, IsOwnSession, IsOwnTold, answered_own, shown_own}
use Rattle.bully_run.proofs.FrameLemmas.{Grows, IsPlaced, Leads, id_by, leads_grows, no_session, placed}
use Rattle.bully_run.specs.Calls.{GoesOnLearning}
use Rattle.bully_run.specs.Run.{HasEnded, HasEndedOn, AreRowsOf, session_by}
use Rattle.bully_work.specs.Store.{Act, Epoch, HasWork, Piece, Promised, Session, Store}

-- What links a member to its session.

-- what it knows of a session, in an epoch whose log has had these lengths
pub record OfSession (lengths : List ℕ) (r : ReplicaState) (e promised : ℕ) (needs : Bool) (works : List Activity) (x : Session) : Type 0 where
  pub epoch : x.epoch ≡ e
  pub past : x.learned ≤ r.world.events
  pub seen : needs ≡ false → (x.learned ≡ r.world.events) × Contains lengths r.world.events
  pub reached : (q : Promised) → Contains x.promises q → IsReachedBy q e promised
  pub known : (y : Piece) → Contains x.work y → busy_at works y.partition ≡ true

-- what it is itself
pub record Holds (r : ReplicaState) (promised p tries : ℕ) (session : SessionState) (asked : Option Asked) : Type 0 where
  pub learned : (rows : List Row) × HasLearned r rows
  pub within : promised ≤ r.world.events
  pub own : IsOwnSession (session_by p tries) session
  pub asks : AsksOwn (session_by p tries) asked
  pub tops : tries ≤ 2 ^ 64 - 1

pub record Links (s : Store) (i p : ℕ) (r : ReplicaState) (e node promised tries : ℕ) (session : SessionState) (asked : Option Asked) (needs : Bool) (works : List Activity) : Type 0 where
  pub place : IsPlaced s i r e node
  pub knows : OfSession (s.epochs e).lengths r e promised needs works (s.sessions i (id_by p tries))
  pub holds : Holds r promised p tries session asked
  pub told : events_of holds.learned.0 ≡ take r.world.events (s.epochs e).log
  pub fresh : (k : ℕ) → tries < k → k < 2 ^ 64 → s.sessions i (id_by p k) ≡ no_session
  pub older : (k : ℕ) → k < tries → (y : Piece) → HasWork s i (id_by p k) y → ⊥

abbrev pub Linked : Store → ℕ → MemberState → Type 0
Linked s i m = Links s i m.process (replica_of m) m.terms.epoch m.terms.node m.promised m.tries m.session m.asked m.needs_snapshot m.works

-- its session and its request change, and another snapshot may be due
pub relink : (s : Store) (i p : ℕ) (r : ReplicaState) (e node promised tries : ℕ) (session next : SessionState) (asked more : Option Asked) (needs now : Bool) (works : List Activity) → Links s i p r e node promised tries session asked needs works
    → IsOwnSession (session_by p tries) next → AsksOwn (session_by p tries) more → (now ≡ false → needs ≡ false) → Links s i p r e node promised tries next more now works
relink s i p r e node promised tries session next asked more needs now works links own asks seen = record {
  place = links.place;
  knows = record { epoch = links.knows.epoch; past = links.knows.past; seen = λ none. links.knows.seen (seen none); reached = links.knows.reached; known = links.knows.known };
  holds = record { learned = links.holds.learned; within = links.holds.within; own = own; asks = asks; tops = links.holds.tops };
  told = links.told;
  fresh = links.fresh;
  older = links.older;
}

-- its work changes, and all that it works on stays among that
pub rework : (s : Store) (i p : ℕ) (r : ReplicaState) (e node promised tries : ℕ) (session : SessionState) (asked : Option Asked) (needs : Bool) (works other : List Activity) → Links s i p r e node promised tries session asked needs works
    → ((y : Piece) → HasWork s i (id_by p tries) y → busy_at other y.partition ≡ true) → Links s i p r e node promised tries session asked needs other
rework s i p r e node promised tries session asked needs works other links known = record {
  place = links.place;
  knows = record { epoch = links.knows.epoch; past = links.knows.past; seen = links.knows.seen; reached = links.knows.reached; known = known };
  holds = links.holds;
  told = links.told;
  fresh = links.fresh;
  older = links.older;
}

-- other acts leave the link
pub links_stay : (s s' : Store) (i p : ℕ) (r : ReplicaState) (e node promised tries : ℕ) (session : SessionState) (asked : Option Asked) (needs : Bool) (works : List Activity) → Grows s s'
    → ((k : ℕ) → tries ≤ k → k < 2 ^ 64 → s'.sessions i (id_by p k) ≡ s.sessions i (id_by p k)) → ((k : ℕ) → k < tries → (y : Piece) → HasWork s' i (id_by p k) y → HasWork s i (id_by p k) y)
    → Links s i p r e node promised tries session asked needs works → Links s' i p r e node promised tries session asked needs works
links_stay s s' i p r e node promised tries session asked needs works grows same had links = record {
  place = placed s s' i r e node grows links.place;
  knows = subst (OfSession (s'.epochs e).lengths r e promised needs works) (sym (same tries (omega arith) low)) (record {
    epoch = links.knows.epoch;
    past = links.knows.past;
    seen = λ none. let (learned, had) = links.knows.seen none in (learned, (grows.extends e links.place.started).lengths r.world.events had);
    reached = links.knows.reached;
    known = links.knows.known;
  });
  holds = links.holds;
  told = links.told ∙ sym ((grows.extends e links.place.started).log r.world.events links.place.low).0;
  older = λ k less y has. links.older k less y (had k less y has);
  fresh = λ k more high. same k (omega (arith, more)) high ∙ links.fresh k more high;
}
  where
    low : tries < 2 ^ 64
    low = let top = links.holds.tops in omega (arith, top)

-- an act writes the session that the member has asked for last, or for the first time
pub links_written : (s s' : Store) (i p : ℕ) (r : ReplicaState) (e node promised tries : ℕ) (session : SessionState) (asked : Option Asked) (needs : Bool) (works : List Activity) (acts : List Act) (new : Session) → Leads s s' (id_by p tries) acts
    → s'.sessions i (id_by p tries) ≡ new → IsPlaced s i r e node → OfSession (s.epochs e).lengths r e promised needs works new → (holds : Holds r promised p tries session asked) → events_of holds.learned.0 ≡ take r.world.events (s.epochs e).log
    → ((k : ℕ) → k < tries → (y : Piece) → HasWork s i (id_by p k) y → ⊥) → ((k : ℕ) → tries < k → k < 2 ^ 64 → s.sessions i (id_by p k) ≡ no_session) → Links s' i p r e node promised tries session asked needs works
links_written s s' i p r e node promised tries session asked needs works acts new leads is place knows holds told older fresh = record {
  place = placed s s' i r e node (leads_grows s s' (id_by p tries) acts leads) place;
  knows = subst (λ (f : ℕ → Epoch). OfSession (f e).lengths r e promised needs works (s'.sessions i (id_by p tries))) (sym leads.epochs) (subst (OfSession (s.epochs e).lengths r e promised needs works) (sym is) knows);
  holds = holds;
  told = subst (λ (f : ℕ → Epoch). events_of holds.learned.0 ≡ take r.world.events (f e).log) (sym leads.epochs) told;
  older = λ k less y has. older k less y (subst (λ (x : Session). Contains x.work y) (leads.others i (id_by p k) (λ same. omega (arith, same, less))) has);
  fresh = λ k more high. leads.others i (id_by p k) (λ same. omega (arith, same, more)) ∙ fresh k more high;
}

-- Calls that are no acts.

module _ (s : Store) (i : ℕ) where
  abbrev Is : MemberState → Type 0
  Is m = Linked s i m

  abbrev own_of : MemberState → SessionId
  own_of m = session_by m.process m.tries

  with_parts : (m : MemberState) → Is m → (next : SessionState) (more : Option Asked) (needs : Bool) → IsOwnSession (own_of m) next → AsksOwn (own_of m) more → (needs ≡ false → m.needs_snapshot ≡ false)
      → Links s i m.process (replica_of m) m.terms.epoch m.terms.node m.promised m.tries next more needs m.works
  with_parts m linked next more needs own asks seen = relink s i m.process (replica_of m) m.terms.epoch m.terms.node m.promised m.tries m.session next m.asked more m.needs_snapshot needs m.works linked own asks seen

  -- another snapshot is due
  never : (b : Bool) → true ≡ false → b ≡ false
  never b is = absurd (cc is)

  pub due_again : (m : MemberState) → Is m → Links s i m.process (replica_of m) m.terms.epoch m.terms.node m.promised m.tries m.session m.asked true m.works
  due_again m linked = with_parts m linked m.session m.asked true linked.holds.own linked.holds.asks (never m.needs_snapshot)

  asks_nothing : (m : MemberState) → Is m → Links s i m.process (replica_of m) m.terms.epoch m.terms.node m.promised m.tries m.session None m.needs_snapshot m.works
  asks_nothing m linked = with_parts m linked m.session None m.needs_snapshot linked.holds.own tt (λ none. none)

  told_linked : (m after : MemberState) → Is m → IsOwnTold (own_of m) m after → Is after
  told_linked m after linked told = subst Is (sym told.0) (with_parts m linked after.session after.asked after.needs_snapshot told.2 told.3 told.1)

  pub answered_linked : (m : MemberState) (now : ℕ) (answer : StoreAnswer) → Is m → Is (answered m now answer)
  answered_linked m now answer linked = told_linked m (answered m now answer) linked (answered_own (own_of m) m now answer linked.holds.own linked.holds.asks)

  pub own_linked : (m : MemberState) (state : SessionState) (here : Option Lease) → Is m → Is (own_by m state here)
  own_linked m state here linked = told_linked m (own_by m state here) linked (shown_own (own_of m) m state here linked.holds.own linked.holds.asks)

  pub snapshot_lost_linked : (m : MemberState) (now : ℕ) (leases : List Lease) → Is m → Is (snapshot_lost m now leases)
  snapshot_lost_linked m now leases linked = with_parts m linked m.session None true linked.holds.own tt (never m.needs_snapshot)

  pub lost_linked : (m : MemberState) (token : ℕ) → Is m → Is (lost m token)
  lost_linked m token linked = if_is Is _ _ _ linked linked

  pub end_linked : (m : MemberState) (why : Ending) (ending : Option Ending) → Is m → Is (end_for m why ending)
  end_linked m why None linked = linked
  end_linked m why (Some ending) linked = linked

  pub not_there_linked : (m : MemberState) → Is m → Is (not_there m)
  not_there_linked m linked = if_is Is (is_following m.asked) _ _ (end_linked _ Ending.NotThere m.ending (asks_nothing m linked)) linked

  pub passed_linked : (m : MemberState) → Is m → Is (record m { is_past = true; asked = None })
  passed_linked m linked = asks_nothing m linked

  pub stopped_linked : (m : MemberState) → Is m → HasEnded s i m → Is (stopped m)
  stopped_linked m linked none = rework s i m.process (replica_of m) m.terms.epoch m.terms.node m.promised m.tries m.session m.asked m.needs_snapshot m.works (stopped m).works linked (λ y has. absurd (none y has))

  pub stopped_on_linked : (m : MemberState) (k : ℕ) → Is m → HasEndedOn s i m k → Is (stopped_on m k)
  stopped_on_linked m k linked none = rework s i m.process (replica_of m) m.terms.epoch m.terms.node m.promised m.tries m.session m.asked m.needs_snapshot m.works (stopped_on m k).works linked
      (λ y has. ended_busy k y.partition m.works (none y has) (linked.knows.known y has))

  pub learned_linked : (m : MemberState) (records : List Record) (taken : Result (Unit {0}) LearnFault) (after : MemberState) → Is m → GoesOnLearning m records taken after → AreRowsOf s m records → Is after
  learned_linked m records taken after linked goes are = subst Is (sym goes.rest) (record {
    place = record {
      started = linked.place.started;
      setup = goes.follows.setup ∙ linked.place.setup;
      number = linked.place.number;
      rows = subst (IsLogOf (replica_of after)) told learned.log;
      low = low;
    };
    knows = record {
      epoch = linked.knows.epoch;
      past = let old = linked.knows.past in omega (arith, old, counted);
      seen = λ none. absurd (cc none);
      reached = linked.knows.reached;
      known = linked.knows.known;
    };
    holds = record { learned = (linked.holds.learned.0 ++ goes.follows.rows, learned); within = (let old = linked.holds.within in omega (arith, old, counted)); own = linked.holds.own; asks = linked.holds.asks; tops = linked.holds.tops };
    told = told;
    fresh = linked.fresh;
    older = linked.older;
  })
    where
      learned : HasLearned (replica_of after) (linked.holds.learned.0 ++ goes.follows.rows)
      learned = goes.follows.learned linked.holds.learned.0 linked.holds.learned.1

      next : events_of goes.follows.rows ≡ take (length (events_of goes.follows.rows)) (drop (offset_of m) (s.epochs m.terms.epoch).log)
      next = are goes.follows.read goes.left goes.follows.rows goes.follows.parts goes.follows.mean

      more : events_of (linked.holds.learned.0 ++ goes.follows.rows) ≡ events_of linked.holds.learned.0 ++ events_of goes.follows.rows
      more = events-append linked.holds.learned.0 goes.follows.rows

      counted : (replica_of after).world.events ≡ (replica_of m).world.events + length (events_of goes.follows.rows)
      counted =
          let before = linked.holds.learned.1.log.counted in
          let now = learned.log.counted in
          let size = ap length more ∙ length-append (events_of linked.holds.learned.0) (events_of goes.follows.rows) in
          omega (arith, before, now, size)

      told : events_of (linked.holds.learned.0 ++ goes.follows.rows) ≡ take (replica_of after).world.events (s.epochs m.terms.epoch).log
      told = more ∙ ap (λ (xs : List Event). xs ++ events_of goes.follows.rows) linked.told
          ∙ ap (λ (xs : List Event). take (replica_of m).world.events (s.epochs m.terms.epoch).log ++ xs) next
          ∙ sym (take-add (replica_of m).world.events (length (events_of goes.follows.rows)) (s.epochs m.terms.epoch).log)
          ∙ ap (λ n. take n (s.epochs m.terms.epoch).log) (sym counted)

      low : (replica_of after).world.events ≤ length (s.epochs m.terms.epoch).log
      low =
          let within = linked.place.low in
          let size = ap length next in
          let cut = length-take (length (events_of goes.follows.rows)) (drop (offset_of m) (s.epochs m.terms.epoch).log) in
          let rest = length-drop (offset_of m) (s.epochs m.terms.epoch).log in
          omega (arith, within, size, cut, rest, counted)
