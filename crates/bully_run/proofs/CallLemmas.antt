-- What a member knows of its promises stays so, whatever call comes.
use Rattle.std.proofs.Common.{◌||◌, ◌≡◌, ◌≤◌, ◌<◌, ◌+◌, ◌-◌, ◌^◌, ◌==◌, ◌&&◌, ◌++◌, ◌∷◌, [], ℕ, Bool, true, false, not, List, Option, Some, None, if◌then◌else◌, nat_lt, nat_le, min, Contains, length, arith, refl, sym, ap, subst, ◌∙◌, ◌⊎◌, inl, inr, length-append, Result}
use Rattle.std.proofs.lemmas.Bool.Decides.{nat_tests}
use Rattle.std.proofs.lemmas.List.Elements.{Contains-push, Contains-push_cases}
use Rattle.std.specs.Option.{option_map}
use Rattle.bully_agree.specs.Fencing.{Planned}
use Rattle.bully_member.specs.Asking.{promise_of}
use Rattle.bully_member.specs.Due.{noted}
use Rattle.bully_member.specs.Keeping.{AcquiresAt, HasSession, IsNextSession, Keeps, PromisesAt}
use Rattle.bully_member.specs.Learned.{after_learning, followed, in_epoch, is_following, not_there}
use Rattle.bully_member.specs.Activities.{all_idle}
use Rattle.bully_member.specs.Member.{MemberState, new_member, replica_of}
use Rattle.bully_member.specs.Times.{sure}
use Rattle.bully_member.specs.Told.{answered, awaits_snapshot, end_for, lost, own_by, snapshot_read}
use Rattle.bully_member.specs.declared.opening.Terms.{Terms}
use Rattle.bully_member.specs.declared.values.Asked.{Asked}
use Rattle.bully_member.specs.declared.values.Ending.{Ending}
use Rattle.bully_member.specs.declared.values.Lease.{Lease}
use Rattle.bully_member.specs.declared.values.Request.{Request}
use Rattle.bully_member.specs.declared.values.SessionId.{SessionId}
use Rattle.bully_member.specs.declared.values.SessionState.{SessionState}
use Rattle.bully_member.specs.declared.values.Step.{Step}
use Rattle.bully_member.specs.declared.values.StoreAnswer.{StoreAnswer}
use Rattle.bully_rebalance.specs.Acting.{IsReachedBy}
use Rattle.bully_rebalance.specs.Owning.{owned_in, owned_with, partitions_of, token_in}
use Rattle.bully_replica.specs.RowReplica.{FollowsUpTo, RowReplicaState}
use Rattle.bully_replica.specs.Replica.{HasLearned, IsLogOf, ReplicaState, first_replica, token_of}
use Rattle.bully_replica.specs.declared.row_replica.LearnFault.{LearnFault}
use Rattle.bully_rows.specs.Headers.{Record}
use Rattle.bully_rows.specs.declared.header.Header.{Header}
use Rattle.bully_rows.specs.declared.trace.Row.{Row}
use Rattle.bully_run.proofs.AnswerLemmas.{Awaited, Counts, Grants, IsReported, answered_told, if_is, own_told}
use Rattle.bully_run.specs.Calls.{AsksFor, Call, Next, Answered, Learn, SnapshotRead, SnapshotLost, Followed, NotThere, Passed, Woke, Leave, Broken, Lost, Stopped, StoppedOn, GoesNext, GoesOnLearning, HasLived, IsBehind, IsMadeFor, IsSameTime, Lives, Made, NumbersLast, Takes, made_by, made_in, session_now, with_made}
use Rattle.bully_trace.specs.Verdict.{IsJudged, events_of}
use Rattle.bully_trace.proofs.JudgeLemmas.{events-append}
use Rattle.bully_work.specs.Store.{Promised, nothing_in}
use Rattle.bully_world.proofs.WorldLemmas.{first_is}
use Rattle.bully_world.specs.World.{World}

-- What holds of a member at each moment.

-- if it has its lease, then by this session
abbrev pub IsOwnSession : SessionId → SessionState → Type 0
IsOwnSession own state = Counts (λ session since. session ≡ own) state

-- if it asks for a lease, a renewal or a promise, then for this session
abbrev pub IsOwnRequest : SessionId → Request → Type 0
IsOwnRequest own (Request.Acquire session offset) = session ≡ own
IsOwnRequest own (Request.Renew session) = session ≡ own
IsOwnRequest own (Request.Promise session offset) = session ≡ own
IsOwnRequest own request = Unit {0}

abbrev pub AsksOwn : SessionId → Option Asked → Type 0
AsksOwn own asked = Awaited (λ request at. IsOwnRequest own request) asked

-- by an answer, and by what a snapshot shows of its lease
abbrev pub IsOwnTold : SessionId → (m after : MemberState) → Type 0
IsOwnTold own m after = IsReported m after × (after.needs_snapshot ≡ false → m.needs_snapshot ≡ false) × IsOwnSession own after.session × AsksOwn own after.asked

own_asked : (own session : SessionId) (request : Request) → IsOwnRequest own request → AsksFor session (Step.Ask request) → session ≡ own
own_asked own session (Request.Acquire other offset) is asks = sym asks ∙ is
own_asked own session (Request.Renew other) is asks = sym asks ∙ is
own_asked own session (Request.Release other) is asks = absurd asks
own_asked own session Request.Snapshot is asks = absurd asks
own_asked own session (Request.Promise other offset) is asks = absurd asks
own_asked own session (Request.Append offset) is asks = absurd asks
own_asked own session (Request.RollOver offset) is asks = absurd asks
own_asked own session Request.Follow is asks = absurd asks

own_granted : (own : SessionId) (answer : StoreAnswer) (asked : Option Asked) → AsksOwn own asked → Awaited (Grants (λ session since. session ≡ own) answer) asked
own_granted own answer None is = tt
own_granted own answer (Some asked) is = λ session done asks. own_asked own session asked.request is asks

pub answered_own : (own : SessionId) (m : MemberState) (now : ℕ) (answer : StoreAnswer) → IsOwnSession own m.session → AsksOwn own m.asked → IsOwnTold own m (answered m now answer)
answered_own own m now answer is asks = let told = answered_told (λ session since. session ≡ own) m now answer is (own_granted own answer m.asked asks) in (told.0, told.1, told.2, subst (AsksOwn own) (sym told.3) tt)

pub shown_own : (own : SessionId) (m : MemberState) (state : SessionState) (here : Option Lease) → IsOwnSession own m.session → AsksOwn own m.asked → IsOwnTold own m (own_by m state here)
shown_own own m state here is asks = let told = own_told (λ session since. session ≡ own) m state here is in (told.0, told.1, told.2, subst (AsksOwn own) (sym told.3) asks)

abbrev pub session_by : (process tries : ℕ) → SessionId
session_by process tries = record { process = process; number = tries }

-- what holds of the parts of a member; and since it was in epoch `since` and had promised `least` there, that didn't fall
pub record Sounds (since least : ℕ) (r : ReplicaState) (epoch promised process tries : ℕ) (session : SessionState)
    (asked : Option Asked) (made : List Made) : Type 0 where
  pub rows : List Row
  pub learned : HasLearned r rows
  pub within : promised ≤ r.world.events
  pub own : IsOwnSession (session_by process tries) session
  pub asks : AsksOwn (session_by process tries) asked
  pub numbered : (p : Made) → Contains made p → p.session.number ≤ tries
  pub tops : tries ≤ 2 ^ 64 - 1
  pub reached : tries < 2 ^ 64 - 1 → (p : Made) → Contains made p → p.session ≡ session_by process tries
      → IsReachedBy p.promised epoch promised
  pub only : (promised ≡ 0) ⊎ ((p : Made) × Contains made p × IsMadeFor (session_by process tries) epoch promised p)
  pub rises : epoch ≡ since → least ≤ promised
  pub later : since ≤ epoch

abbrev pub IsSound : (since least : ℕ) → MemberState → List Made → Type 0
IsSound since least m made =
    Sounds since least (replica_of m) m.terms.epoch m.promised m.process m.tries m.session m.asked made

-- a member whose session and request change
pub changes : (since least : ℕ) (r : ReplicaState) (epoch promised process tries : ℕ) (session next : SessionState) (asked more : Option Asked) (made : List Made)
    → Sounds since least r epoch promised process tries session asked made → IsOwnSession (session_by process tries) next → AsksOwn (session_by process tries) more
    → Sounds since least r epoch promised process tries next more made
changes since least r epoch promised process tries session next asked more made sound own asks = record {
  rows = sound.rows;
  learned = sound.learned;
  within = sound.within;
  own = own;
  asks = asks;
  numbered = sound.numbered;
  tops = sound.tops;
  reached = sound.reached;
  only = sound.only;
  rises = sound.rises;
  later = sound.later;
}

-- The log of a new epoch.

no_rows : (header : Header) → IsLogOf (first_replica header) []
no_rows header = record {
  answers = [];
  lawful = record { leads = first_is header.setup; bounded = omega arith };
  counted = refl;
  last = refl;
}

pub nothing_learned : (header : Header) → HasLearned (first_replica header) []
nothing_learned header = record {
  judged = record { same = refl; judged = λ more verdict w is. subst (λ (v : World). IsJudged header.setup v 0 2 more verdict w) (first_is header.setup) is };
  log = no_rows header;
}

-- a new member
pub starts_sound : (header : Header) (terms : Terms) (process ttl : ℕ) → IsSound terms.epoch 0 (new_member header terms process ttl) []
starts_sound header terms process ttl = record {
  rows = [];
  learned = nothing_learned header;
  within = omega arith;
  own = tt;
  asks = tt;
  numbered = λ p has. absurd (none_in p has);
  tops = omega arith;
  reached = λ last p has same. absurd (none_in p has);
  only = inl refl;
  rises = λ same. omega arith;
  later = omega arith;
}
  where
    none_in : (p : Made) → Contains [] p → ⊥
    none_in p (i, low, is) = omega (arith, low)

-- from now on
pub from_now : (since least : ℕ) (m : MemberState) (made : List Made) → IsSound since least m made → IsSound m.terms.epoch m.promised m made
from_now since least m made sound = record {
  rows = sound.rows;
  learned = sound.learned;
  within = sound.within;
  own = sound.own;
  asks = sound.asks;
  numbered = sound.numbered;
  tops = sound.tops;
  reached = sound.reached;
  only = sound.only;
  rises = λ same. omega arith;
  later = omega arith;
}

-- What was learned stays, and the log doesn't get shorter.
pub never_shorter : (records left : List Record) (before after : RowReplicaState) (rows : List Row) → FollowsUpTo records before after left → HasLearned before.replica rows → before.replica.world.events ≤ after.replica.world.events
never_shorter records left before after rows follows learned =
    let old = learned.log.counted in
    let now = (follows.learned rows learned).log.counted in
    omega (arith, size, old, now)
  where
    size : length (events_of (rows ++ follows.rows)) ≡ length (events_of rows) + length (events_of follows.rows)
    size = ap length (events-append rows follows.rows) ∙ length-append (events_of rows) (events_of follows.rows)

-- Each call.

module _ (since least : ℕ) (made : List Made) where
  abbrev Is : MemberState → Type 0
  Is m = IsSound since least m made

  abbrev own_of : MemberState → SessionId
  own_of m = session_by m.process m.tries

  -- only its session and its request change, as far as this is concerned
  with_parts : (m : MemberState) → Is m → (next : SessionState) (more : Option Asked) → IsOwnSession (own_of m) next → AsksOwn (own_of m) more
      → Sounds since least (replica_of m) m.terms.epoch m.promised m.process m.tries next more made
  with_parts m sound next more own asks = changes since least (replica_of m) m.terms.epoch m.promised m.process m.tries m.session next m.asked more made sound own asks

  -- Answers and snapshots.

  told_sound : (m after : MemberState) → Is m → IsOwnTold (own_of m) m after → Is after
  told_sound m after sound told = subst Is (sym told.0) (with_parts m sound after.session after.asked told.2 told.3)

  pub answered_sound : (m : MemberState) (now : ℕ) (answer : StoreAnswer) → Is m → Is (answered m now answer)
  answered_sound m now answer sound = told_sound m (answered m now answer) sound (answered_own (own_of m) m now answer sound.own sound.asks)

  own_sound : (m : MemberState) (state : SessionState) (here : Option Lease) → Is m → Is (own_by m state here)
  own_sound m state here sound = told_sound m (own_by m state here) sound (shown_own (own_of m) m state here sound.own sound.asks)

  pub snapshot_sound : (m : MemberState) (now epoch : ℕ) (leases : List Lease) (has_unknown has_request : Bool) (coming : Option (List ℕ)) (affected : List ℕ) → Is m
      → Is (snapshot_read m now epoch leases has_unknown has_request coming affected)
  snapshot_sound m now epoch leases has_unknown has_request coming affected sound =
      if_is Is (not (awaits_snapshot m.asked)) _ _ sound (if_is Is (not (epoch == m.terms.epoch)) _ _ asks_nothing (own_sound _ m.session _ asks_nothing))
    where
      asks_nothing : Sounds since least (replica_of m) m.terms.epoch m.promised m.process m.tries m.session None made
      asks_nothing = with_parts m sound m.session None sound.own tt

  pub lost_sound : (m : MemberState) (token : ℕ) → Is m → Is (lost m token)
  lost_sound m token sound = if_is Is _ _ _ sound sound

  end_sound : (m : MemberState) (why : Ending) (ending : Option Ending) → Is m → Is (end_for m why ending)
  end_sound m why None sound = sound
  end_sound m why (Some ending) sound = sound

  pub not_there_sound : (m : MemberState) → Is m → Is (not_there m)
  not_there_sound m sound = if_is Is (is_following m.asked) _ _ (end_sound _ Ending.NotThere m.ending (with_parts m sound m.session None sound.own tt)) sound

  -- A new epoch.

  if_epoch : (b : Bool) (x y : MemberState) → (b ≡ true → Is x) → (b ≡ false → Is y) → Is (if b then x else y)
  if_epoch true x y x_is y_is = x_is refl
  if_epoch false x y x_is y_is = y_is refl

  neither : (a b : Bool) → (if a then true else b) ≡ false → a ≡ false
  neither true b is = absurd (cc is)
  neither false b is = refl

  pub followed_sound : (m : MemberState) (now : ℕ) (header : Header) (terms : Terms) → Is m → Is (followed m now header terms)
  followed_sound m now header terms sound = if_is Is (not (is_following m.asked)) _ _ sound (if_epoch _ _ _ (λ stays. with_parts m sound m.session None sound.own tt) (λ goes. goes_on (later goes)))
    where
      later : nat_le terms.epoch m.terms.epoch || not (all_idle m.works) ≡ false → m.terms.epoch < terms.epoch
      later goes = by_test (nat_le terms.epoch m.terms.epoch) (not (all_idle m.works)) refl goes
        where
          by_test : (a b : Bool) → nat_le terms.epoch m.terms.epoch ≡ a → a || b ≡ false → m.terms.epoch < terms.epoch
          by_test true b is none = absurd (cc none)
          by_test false b is none = grind (arith, nat_tests, is)

      goes_on : m.terms.epoch < terms.epoch → Is (in_epoch m now (record { replica = first_replica header; rows = 0 }) terms)
      goes_on low = record {
        rows = [];
        learned = nothing_learned header;
        within = omega arith;
        own = sound.own;
        asks = tt;
        numbered = sound.numbered;
        tops = sound.tops;
        reached = λ last p has same. inl (below (p.promised) (sound.reached last p has same));
        only = inl refl;
        rises = λ same. let old = sound.later in absurd (omega (arith, same, old, low));
        later = let old = sound.later in omega (arith, old, low);
      }
        where
          below : (p : Promised) → IsReachedBy p m.terms.epoch m.promised → p.epoch < terms.epoch
          below p (inl older) = omega (arith, older, low)
          below p (inr (here, within)) = omega (arith, here, low)

  -- More rows.

  pub learned_sound : (m : MemberState) (records : List Record) (taken : Result (Unit {0}) LearnFault) (after : MemberState) → Is m → GoesOnLearning m records taken after → Is after
  learned_sound m records taken after sound goes = subst Is (sym goes.rest) more
    where
      rows : List Row
      rows = sound.rows ++ goes.follows.rows

      learned : HasLearned after.learned.replica rows
      learned = goes.follows.learned sound.rows sound.learned

      grown : (replica_of m).world.events ≤ after.learned.replica.world.events
      grown = never_shorter records goes.left m.learned after.learned sound.rows goes.follows sound.learned

      more : Is (after_learning m after.learned taken)
      more = record {
        rows = rows;
        learned = learned;
        within = let old = sound.within in omega (arith, old, grown);
        own = sound.own;
        asks = sound.asks;
        numbered = sound.numbered;
        tops = sound.tops;
        reached = sound.reached;
        only = sound.only;
        rises = sound.rises;
        later = sound.later;
      }

-- What it does next.

pub own_session : (own session : SessionId) (state : SessionState) (since : ℕ) → IsOwnSession own state → state ≡ SessionState.Live session since → session ≡ own
own_session own session SessionState.Absent since is same = absurd (cc same)
own_session own session (SessionState.Unknown other) since is same = absurd (cc same)
own_session own session (SessionState.Live other at) since is same = let equal : session ≡ other = cc same in equal ∙ is

module _ (since least : ℕ) (made : List Made) (m : MemberState) (now : ℕ) (sound : IsSound since least m made) where
  abbrev After : Step → MemberState → Type 0
  After step after = IsSound since least after (with_made made (made_by m step))

  own : SessionId
  own = session_by m.process m.tries

  asks_more : (request : Request) → IsOwnRequest (session_by m.process m.tries) request
      → Sounds since least (replica_of m) m.terms.epoch m.promised m.process m.tries m.session (Some (record { request = request; at = now })) made
  asks_more request own = changes since least (replica_of m) m.terms.epoch m.promised m.process m.tries m.session m.session m.asked (Some (record { request = request; at = now })) made sound sound.own own

  pub own_is : (session : SessionId) → HasSession m session → session ≡ session_by m.process m.tries
  own_is session (at, is) = own_session (session_by m.process m.tries) session m.session at sound.own is

  promise_sound : (is_stable : Bool) (session : SessionId) (offset : ℕ) → PromisesAt m offset → HasSession m session
      → After (Step.Ask (Request.Promise session offset)) (noted m now is_stable (Step.Ask (Request.Promise session offset)))
  promise_sound is_stable session offset promises has = record {
    rows = sound.rows;
    learned = sound.learned;
    within = let end = promises.end in omega (arith, end);
    own = sound.own;
    asks = own_is session has;
    numbered = λ p is. numbered p (Contains-push_cases made new p is);
    tops = sound.tops;
    reached = λ last p is same. reached last p same (Contains-push_cases made new p is);
    only = inr (new, Contains-push made new, record { own = own_is session has; within = refl; end = refl });
    rises = λ same. let end = promises.end in let low = sound.within in let old = sound.rises same in omega (arith, end, low, old);
    later = sound.later;
  }
    where
      new : Made
      new = record { session = session; promised = promise_of m offset }

      numbered : (p : Made) → Contains made p ⊎ (new ≡ p) → p.session.number ≤ m.tries
      numbered p (inl old) = sound.numbered p old
      numbered p (inr is) = let same : p.session.number ≡ m.tries = ap (λ (q : Made). q.session.number) (sym is) ∙ ap (λ (q : SessionId). q.number) (own_is session has) in omega (arith, same)

      further : (p : Promised) → IsReachedBy p m.terms.epoch m.promised → IsReachedBy p m.terms.epoch offset
      further p (inl older) = inl older
      further p (inr (here, low)) = inr (here, (let end = promises.end in let within = sound.within in omega (arith, low, end, within)))

      reached : m.tries < 2 ^ 64 - 1 → (p : Made) → p.session ≡ session_by m.process m.tries → Contains made p ⊎ (new ≡ p) → IsReachedBy p.promised m.terms.epoch offset
      reached last p same (inl old) = further p.promised (sound.reached last p old same)
      reached last p same (inr is) = subst (λ (q : Made). IsReachedBy q.promised m.terms.epoch offset) is (inr (refl, omega arith))

  acquire_sound : (is_stable : Bool) (session : SessionId) (offset : ℕ) → AcquiresAt m offset → IsNextSession m session
      → After (Step.Ask (Request.Acquire session offset)) (noted m now is_stable (Step.Ask (Request.Acquire session offset)))
  acquire_sound is_stable session offset acquires (absent, next) = record {
    rows = sound.rows;
    learned = sound.learned;
    within = let end = acquires.end in omega (arith, end);
    own = subst (IsOwnSession (session_by m.process session.number)) (sym absent) tt;
    asks = next ∙ ap (session_by m.process) (sym number);
    numbered = λ p is. numbered p (Contains-push_cases made new p is);
    tops = let top = sound.tops in omega (arith, number, top);
    reached = λ last p is same. reached last p same (Contains-push_cases made new p is);
    only = inr (new, Contains-push made new, record { own = next ∙ ap (session_by m.process) (sym number); within = refl; end = refl });
    rises = λ same. let end = acquires.end in let low = sound.within in let old = sound.rises same in omega (arith, end, low, old);
    later = sound.later;
  }
    where
      new : Made
      new = record { session = session; promised = nothing_in m.terms.epoch offset }

      number : session.number ≡ min (m.tries + 1) (2 ^ 64 - 1)
      number = ap (λ (q : SessionId). q.number) next

      numbered : (p : Made) → Contains made p ⊎ (new ≡ p) → p.session.number ≤ session.number
      numbered p (inl old) = let low = sound.numbered p old in let top = sound.tops in omega (arith, number, low, top)
      numbered p (inr is) = let same : p.session.number ≡ session.number = ap (λ (q : Made). q.session.number) (sym is) in omega (arith, same)

      reached : session.number < 2 ^ 64 - 1 → (p : Made) → p.session ≡ session_by m.process session.number → Contains made p ⊎ (new ≡ p) → IsReachedBy p.promised m.terms.epoch offset
      reached last p same (inl old) =
          let low = sound.numbered p old in
          let equal : p.session.number ≡ session.number = ap (λ (q : SessionId). q.number) same in
          absurd (omega (arith, number, last, low, equal))
      reached last p same (inr is) = subst (λ (q : Made). IsReachedBy q.promised m.terms.epoch offset) is (inr (refl, omega arith))

  noted_sound : (is_stable : Bool) (step : Step) → Keeps m now step → After step (noted m now is_stable step)
  noted_sound is_stable (Step.Ask (Request.Acquire session offset)) keeps = acquire_sound is_stable session offset keeps.0 keeps.1
  noted_sound is_stable (Step.Ask (Request.Renew session)) keeps = asks_more (Request.Renew session) (own_is session keeps)
  noted_sound is_stable (Step.Ask (Request.Release session)) keeps = asks_more (Request.Release session) tt
  noted_sound is_stable (Step.Ask Request.Snapshot) keeps = asks_more Request.Snapshot tt
  noted_sound is_stable (Step.Ask (Request.Promise session offset)) keeps = promise_sound is_stable session offset keeps.0 keeps.1
  noted_sound is_stable (Step.Ask (Request.Append offset)) keeps = asks_more (Request.Append offset) tt
  noted_sound is_stable (Step.Ask (Request.RollOver offset)) keeps = asks_more (Request.RollOver offset) tt
  noted_sound is_stable (Step.Ask Request.Follow) keeps = asks_more Request.Follow tt
  noted_sound is_stable (Step.Begin token) keeps = sound
  noted_sound is_stable Step.Stop keeps = sound
  noted_sound is_stable (Step.Wait at_most until reason) keeps = sound
  noted_sound is_stable (Step.BackOff at_most reason) keeps = sound
  noted_sound is_stable (Step.End ending) keeps = sound

  pub next_sound : (step : Step) (after : MemberState) → GoesNext m now step after → After step after
  next_sound step after goes = subst (After step) (sym goes.noted) (noted_sound goes.sight.is_stable step goes.keeps)

-- Whatever call comes.

pub call_sound : (since least : ℕ) (made : List Made) (m : MemberState) (call : Call) (after : MemberState) → IsSound since least m made → Takes m call after → IsSound since least after (with_made made (made_in m call))
call_sound since least made m (Next now step) after sound takes = next_sound since least made m now sound step after takes
call_sound since least made m (Answered now answer) after sound takes = subst (λ x. IsSound since least x made) (sym takes) (answered_sound since least made m now answer sound)
call_sound since least made m (Learn records taken) after sound takes = learned_sound since least made m records taken after sound takes
call_sound since least made m (SnapshotRead now epoch leases has_unknown has_request) after sound takes =
    subst (λ x. IsSound since least x made) (sym takes) (snapshot_sound since least made m now epoch leases has_unknown has_request after.coming after.affected sound)
call_sound since least made m (SnapshotLost now leases) after sound takes =
    subst (λ x. IsSound since least x made) (sym takes) (changes since least (replica_of m) m.terms.epoch m.promised m.process m.tries m.session m.session m.asked None made sound sound.own tt)
call_sound since least made m (Followed now header terms) after sound takes = subst (λ x. IsSound since least x made) (sym takes.1) (followed_sound since least made m now header terms sound)
call_sound since least made m NotThere after sound takes = subst (λ x. IsSound since least x made) (sym takes) (not_there_sound since least made m sound)
call_sound since least made m Passed after sound takes =
    subst (λ x. IsSound since least x made) (sym takes) (changes since least (replica_of m) m.terms.epoch m.promised m.process m.tries m.session m.session m.asked None made sound sound.own tt)
call_sound since least made m Woke after sound takes = subst (λ x. IsSound since least x made) (sym takes) sound
call_sound since least made m Leave after sound takes = subst (λ x. IsSound since least x made) (sym takes) (end_sound since least made m Ending.Left m.ending sound)
call_sound since least made m Broken after sound takes = subst (λ x. IsSound since least x made) (sym takes) (end_sound since least made m Ending.Broken m.ending sound)
call_sound since least made m (Lost token) after sound takes = subst (λ x. IsSound since least x made) (sym takes) (lost_sound since least made m token sound)
call_sound since least made m Stopped after sound takes = subst (λ x. IsSound since least x made) (sym takes) sound
call_sound since least made m (StoppedOn partition) after sound takes = subst (λ x. IsSound since least x made) (sym takes) sound

lives_sound : (calls : List Call) (m after : MemberState) (made all : List Made) → IsSound m.terms.epoch m.promised m made → Lives m made calls after all → IsSound after.terms.epoch after.promised after all
lives_sound [] m after made all sound (is, same) = subst (λ x. IsSound x.terms.epoch x.promised x all) (sym is) (subst (IsSound m.terms.epoch m.promised m) (sym same) sound)
lives_sound (call ∷ calls) m after made all sound (mid, takes, lives) =
    lives_sound calls mid after (with_made made (made_in m call)) all
    (from_now m.terms.epoch m.promised mid (with_made made (made_in m call)) (call_sound m.terms.epoch m.promised made m call mid sound takes)) lives

pub lived_sound : (calls : List Call) (m : MemberState) (made : List Made) → HasLived calls m made → IsSound m.terms.epoch m.promised m made
lived_sound calls m made lived =
    lives_sound calls (new_member lived.header lived.terms lived.process lived.ttl) m [] made
    (from_now lived.terms.epoch 0 (new_member lived.header lived.terms lived.process lived.ttl) [] (starts_sound lived.header lived.terms lived.process lived.ttl)) lived.lives

-- The law.

owned_token : (last : Option Planned) (i token : ℕ) → option_map token_in (owned_in last i) ≡ Some token → token_of last ≡ token
owned_token None i token is = absurd (cc is)
owned_token (Some p) i token is = by_parts (partitions_of p.table i) is
  where
    by_parts : (ks : List ℕ) → option_map token_in (owned_with p.token ks) ≡ Some token → p.token ≡ token
    by_parts [] is = absurd (cc is)
    by_parts (k ∷ ks) is = cc is

behind_token : (a : Bool) (last : Option Planned) (i promised token : ℕ) → option_map token_in (if a && nat_lt promised (token_of last) then owned_in last i else None) ≡ Some token → promised < token
behind_token false last i promised token is = absurd (cc is)
behind_token true last i promised token is = by_test (nat_lt promised (token_of last)) refl is
  where
    by_test : (b : Bool) → nat_lt promised (token_of last) ≡ b → option_map token_in (if true && b then owned_in last i else None) ≡ Some token → promised < token
    by_test true low is = let same = owned_token last i token is in grind (arith, nat_tests, low, same)
    by_test false low is = absurd (cc is)

pub kept_lem : (calls : List Call) (m : MemberState) (made : List Made) (p : Made) → HasLived calls m made → NumbersLast m → Contains made p → p.session ≡ session_now m → IsReachedBy p.promised m.terms.epoch m.promised
kept_lem calls m made p lived last has same = (lived_sound calls m made lived).reached last p has same

pub only_lem : (calls : List Call) (m : MemberState) (made : List Made) → HasLived calls m made → (m.promised ≡ 0) ⊎ ((p : Made) × Contains made p × IsMadeFor (session_now m) m.terms.epoch m.promised p)
only_lem calls m made lived = (lived_sound calls m made lived).only

pub begins_lem : (calls : List Call) (m after : MemberState) (made : List Made) (p : Made) (now token : ℕ) → HasLived calls m made → NumbersLast m → GoesNext m now (Step.Begin token) after → Contains made p → p.session ≡ session_now m
    → IsBehind p.promised m.terms.epoch token
begins_lem calls m after made p now token lived last goes has same = before p.promised (kept_lem calls m made p lived last has same)
  where
    low : m.promised < token
    low = behind_token _ (replica_of m).last m.terms.node m.promised token goes.keeps.owner

    before : (q : Promised) → IsReachedBy q m.terms.epoch m.promised → IsBehind q m.terms.epoch token
    before q (inl older) = inl older
    before q (inr (here, within)) = inr (here, omega (arith, within, low))

pub live_if_sure : (own : SessionId) (state : SessionState) (ttl now : ℕ) → IsOwnSession own state → sure state ttl now ≡ true → (at : ℕ) × (state ≡ SessionState.Live own at)
live_if_sure own SessionState.Absent ttl now is live = absurd (cc live)
live_if_sure own (SessionState.Unknown session) ttl now is live = absurd (cc live)
live_if_sure own (SessionState.Live session at) ttl now is live = (at, ap (λ s. SessionState.Live s at) is)

pub session_lem : (calls : List Call) (m after : MemberState) (made : List Made) (now token : ℕ) → HasLived calls m made → GoesNext m now (Step.Begin token) after → HasSession m (session_now m)
session_lem calls m after made now token lived goes = live_if_sure (session_now m) m.session m.ttl now (lived_sound calls m made lived).own goes.keeps.may.live

pub rises_lem : (calls : List Call) (call : Call) (m after : MemberState) (made : List Made) → HasLived calls m made → Takes m call after → IsSameTime m after → m.promised ≤ after.promised
rises_lem calls call m after made lived takes same = (call_sound m.terms.epoch m.promised made m call after (lived_sound calls m made lived) takes).rises same.epoch

pub asks_lem : (calls : List Call) (m after : MemberState) (made : List Made) (session : SessionId) (now offset : ℕ) → HasLived calls m made → GoesNext m now (Step.Ask (Request.Promise session offset)) after
    → (session ≡ session_now m) × (m.promised ≤ offset) × (after.promised ≡ offset)
asks_lem calls m after made session now offset lived goes = (
  own_is m.terms.epoch m.promised made m now sound session goes.keeps.1,
  (let end = goes.keeps.0.end in let low = sound.within in omega (arith, end, low)),
  ap (λ (x : MemberState). x.promised) goes.noted,
)
  where
    sound : IsSound m.terms.epoch m.promised m made
    sound = lived_sound calls m made lived

pub starts_lem : (calls : List Call) (m after : MemberState) (made : List Made) (session : SessionId) (now offset : ℕ) → HasLived calls m made → GoesNext m now (Step.Ask (Request.Acquire session offset)) after → NumbersLast after
    → (session ≡ session_now after) × (after.promised ≡ offset) × ((p : Made) → Contains made p → p.session ≡ session → ⊥)
starts_lem calls m after made session now offset lived goes last = (
  next ∙ cc (number, process, tries),
  ap (λ (x : MemberState). x.promised) goes.noted,
  λ p has same.
      let low = sound.numbered p has in
      let equal : p.session.number ≡ session.number = ap (λ (q : SessionId). q.number) same in
      omega (arith, low, equal, number, tries, last),
)
  where
    sound : IsSound m.terms.epoch m.promised m made
    sound = lived_sound calls m made lived

    next : session ≡ record { process = m.process; number = min (m.tries + 1) (2 ^ 64 - 1) }
    next = goes.keeps.1.1

    number : session.number ≡ min (m.tries + 1) (2 ^ 64 - 1)
    number = ap (λ (q : SessionId). q.number) next

    process : after.process ≡ m.process
    process = ap (λ (x : MemberState). x.process) goes.noted

    tries : after.tries ≡ session.number
    tries = ap (λ (x : MemberState). x.tries) goes.noted
