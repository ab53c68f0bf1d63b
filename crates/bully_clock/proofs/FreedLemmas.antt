-- What a call leaves of a member: its ttl, since when its lease counts, which sessions it knows of, and that it is done
-- with its own.
use Rattle.std.proofs.Common.{◌≡◌, ◌∙◌, ◌==◌, ◌||◌, ◌∷◌, [], not, ℕ, zero, suc, Bool, true, false, List, Option, Some, None, ◌≤◌, if◌then◌else◌, nat_le, replicate, arith, ap, refl, sym, subst}
use Rattle.bully_clock.proofs.ReleaseLemmas.{EndsIfLive, IsAsked, IsEnding, IsUnknownLast, KnowsAsked, MayRelease, due_free}
use Rattle.bully_clock.specs.Timed.{ShowsAsked}
use Rattle.bully_member.specs.Activities.{all_idle, changed_from, end_at, ended_at, stop_at}
use Rattle.bully_member.specs.Due.{asked_for, noted, table_ahead}
use Rattle.bully_member.specs.Keeping.{Keeps}
use Rattle.bully_member.specs.Learned.{after_learning, ending_behind, followed, in_epoch, is_broken, is_following, not_there}
use Rattle.bully_member.specs.Member.{MemberState, admitted_among, lease_of, new_member}
use Rattle.bully_member.specs.Times.{sure}
use Rattle.bully_member.specs.Told.{acquired_by, answered, answered_by, awaits_snapshot, end_for, found, own_by, own_by_promise, own_promise, renewed_by, snapshot_read, stopped, stopped_on, to_pause, when_acquired, when_answered, when_renewed, with_arrivals}
use Rattle.bully_member.specs.declared.opening.Terms.{Terms}
use Rattle.bully_member.specs.declared.values.Activity.{Activity}
use Rattle.bully_member.specs.declared.values.Asked.{Asked}
use Rattle.bully_member.specs.declared.values.Ending.{Ending}
use Rattle.bully_member.specs.declared.values.Lease.{Lease}
use Rattle.bully_member.specs.declared.values.Promise.{Promise}
use Rattle.bully_member.specs.declared.values.Request.{Request}
use Rattle.bully_member.specs.declared.values.SessionId.{SessionId}
use Rattle.bully_member.specs.declared.values.SessionState.{SessionState}
use Rattle.bully_member.specs.declared.values.Step.{Step}
use Rattle.bully_member.specs.declared.values.StoreAnswer.{StoreAnswer}
use Rattle.bully_replica.specs.Replica.{first_replica}
use Rattle.bully_rows.specs.declared.header.Header.{Header}
use Rattle.bully_run.proofs.AnswerLemmas.{Awaited, Counts, Grants, IsReported, IsTold, answered_told, if_is, own_told}
use Rattle.bully_run.proofs.CallLemmas.{AsksOwn, IsOwnRequest, IsOwnSession}
use Rattle.bully_run.specs.Calls.{Answered, Broken, Call, Followed, GoesNext, Learn, Leave, Lost, Next, NotThere, Passed, SnapshotLost, SnapshotRead, Stopped, StoppedOn, Takes, Woke}

-- What it works on.

idle_changed : (change : ℕ → Activity → Activity) (from : ℕ) (works : List Activity) → ((k : ℕ) → change k Activity.Idle ≡ Activity.Idle) → all_idle works ≡ true → all_idle (changed_from change from works) ≡ true
idle_changed change from [] keeps is = refl
idle_changed change from (Activity.Idle ∷ works) keeps is = subst (λ (a : Activity). all_idle (a ∷ changed_from change (suc from) works) ≡ true) (sym (keeps from)) (idle_changed change (suc from) works keeps is)
idle_changed change from (Activity.Working ∷ works) keeps is = absurd (cc is)
idle_changed change from (Activity.Stopping ∷ works) keeps is = absurd (cc is)

ended_idle : (ended k : ℕ) → ended_at ended k Activity.Idle ≡ Activity.Idle
ended_idle ended k = by_test (k == ended)
  where
    by_test : (b : Bool) → (if b then Activity.Idle else Activity.Idle) ≡ Activity.Idle
    by_test true = refl
    by_test false = refl

replicate_idle : (n : ℕ) → all_idle (replicate n Activity.Idle) ≡ true
replicate_idle zero = refl
replicate_idle (suc n) = replicate_idle n

-- It is done with its session: it works on nothing, awaits no acquire, and if it has its lease, or awaits its renewal, it
-- ends.

abbrev pub IsHarmless : Option Ending → Request → Type 0
IsHarmless ending (Request.Acquire session offset) = ⊥
IsHarmless ending (Request.Renew session) = IsEnding ending
IsHarmless ending request = Unit {0}

abbrev pub AsksHarmless : Option Ending → Option Asked → Type 0
AsksHarmless ending asked = Awaited (λ request at. IsHarmless ending request) asked

pub record Freed (m : MemberState) : Type 0 where
  pub asks : AsksHarmless m.ending m.asked
  pub ends : EndsIfLive m.session m.ending
  pub idle : all_idle m.works ≡ true

-- Another reason to end.

harmless_more : (ending more : Option Ending) → (IsEnding ending → IsEnding more) → (request : Request) → IsHarmless ending request → IsHarmless more request
harmless_more ending more leads (Request.Acquire session offset) is = is
harmless_more ending more leads (Request.Renew session) is = leads is
harmless_more ending more leads (Request.Release session) is = tt
harmless_more ending more leads Request.Snapshot is = tt
harmless_more ending more leads (Request.Promise session offset) is = tt
harmless_more ending more leads (Request.Append offset) is = tt
harmless_more ending more leads (Request.RollOver offset) is = tt
harmless_more ending more leads Request.Follow is = tt

asks_more : (ending more : Option Ending) → (IsEnding ending → IsEnding more) → (asked : Option Asked) → AsksHarmless ending asked → AsksHarmless more asked
asks_more ending more leads None is = tt
asks_more ending more leads (Some asked) is = harmless_more ending more leads asked.request is

ends_more : (ending more : Option Ending) → (IsEnding ending → IsEnding more) → (state : SessionState) → EndsIfLive state ending → EndsIfLive state more
ends_more ending more leads SessionState.Absent is = tt
ends_more ending more leads (SessionState.Unknown session) is = tt
ends_more ending more leads (SessionState.Live session since) is = leads is

behind_ends : (ending : Option Ending) (b : Bool) → IsEnding ending → IsEnding (ending_behind ending b)
behind_ends None b is = absurd is
behind_ends (Some ending) true is = tt
behind_ends (Some ending) false is = tt

-- EndsIfLive as what is said of a lease
to_counts : (state : SessionState) (ending : Option Ending) → EndsIfLive state ending → Counts (λ session since. IsEnding ending) state
to_counts SessionState.Absent ending is = tt
to_counts (SessionState.Unknown session) ending is = tt
to_counts (SessionState.Live session since) ending is = is

of_counts : (state : SessionState) (ending : Option Ending) → Counts (λ session since. IsEnding ending) state → EndsIfLive state ending
of_counts SessionState.Absent ending is = tt
of_counts (SessionState.Unknown session) ending is = tt
of_counts (SessionState.Live session since) ending is = is

harmless_grants : (ending : Option Ending) (answer : StoreAnswer) (request : Request) (at : ℕ) → IsHarmless ending request → Grants (λ session since. IsEnding ending) answer request at
harmless_grants ending answer (Request.Acquire session offset) at is = absurd is
harmless_grants ending answer (Request.Renew session) at is = λ other done asks. is
harmless_grants ending answer (Request.Release session) at is = λ other done asks. absurd asks
harmless_grants ending answer Request.Snapshot at is = λ other done asks. absurd asks
harmless_grants ending answer (Request.Promise session offset) at is = λ other done asks. absurd asks
harmless_grants ending answer (Request.Append offset) at is = λ other done asks. absurd asks
harmless_grants ending answer (Request.RollOver offset) at is = λ other done asks. absurd asks
harmless_grants ending answer Request.Follow at is = λ other done asks. absurd asks

asked_grants : (ending : Option Ending) (answer : StoreAnswer) (asked : Option Asked) → AsksHarmless ending asked → Awaited (Grants (λ session since. IsEnding ending) answer) asked
asked_grants ending answer None is = tt
asked_grants ending answer (Some asked) is = harmless_grants ending answer asked.request asked.at is

-- Whether it knows that it has its lease: an acquire may not be answered.

module _ (last : SessionId) where
  abbrev Unknown : MemberState → Type 0
  Unknown m = IsUnknownLast last m.session

  unknown_acquired : (state : SessionState) (m after : MemberState) → Unknown m → Unknown after → Unknown (acquired_by state m after)
  unknown_acquired SessionState.Absent m after is becomes = becomes
  unknown_acquired (SessionState.Unknown session) m after is becomes = is
  unknown_acquired (SessionState.Live session since) m after is becomes = is

  unknown_renewed : (state : SessionState) (m after : MemberState) → Unknown m → Unknown after → Unknown (renewed_by state m after)
  unknown_renewed SessionState.Absent m after is becomes = is
  unknown_renewed (SessionState.Unknown session) m after is becomes = is
  unknown_renewed (SessionState.Live session since) m after is becomes = becomes

  acquired : (m : MemberState) (now : ℕ) (answer : StoreAnswer) (session : SessionId) (offset at : ℕ) → Unknown m → session ≡ last → Unknown (when_acquired m now answer session offset at)
  acquired m now StoreAnswer.Done session offset at is own = tt
  acquired m now StoreAnswer.Refused session offset at is own = is
  acquired m now StoreAnswer.Unanswered session offset at is own = own

  renewed : (m : MemberState) (now : ℕ) (answer : StoreAnswer) (session : SessionId) (at : ℕ) → Unknown m → Unknown (when_renewed m now answer session at)
  renewed m now StoreAnswer.Done session at is = tt
  renewed m now StoreAnswer.Refused session at is = tt
  renewed m now StoreAnswer.Unanswered session at is = is

  unknown_when : (m : MemberState) (now : ℕ) (answer : StoreAnswer) (request : Request) (at : ℕ) → Unknown m → IsOwnRequest last request → Unknown (when_answered m now answer request at)
  unknown_when m now answer (Request.Acquire session offset) at is own = unknown_acquired m.session m _ is (acquired m now answer session offset at is own)
  unknown_when m now answer (Request.Renew session) at is own = unknown_renewed m.session m _ is (renewed m now answer session at is)
  unknown_when m now StoreAnswer.Done (Request.Release session) at is own = tt
  unknown_when m now StoreAnswer.Refused (Request.Release session) at is own = tt
  unknown_when m now StoreAnswer.Unanswered (Request.Release session) at is own = tt
  unknown_when m now answer Request.Snapshot at is own = is
  unknown_when m now StoreAnswer.Done (Request.Promise session offset) at is own = is
  unknown_when m now StoreAnswer.Refused (Request.Promise session offset) at is own = is
  unknown_when m now StoreAnswer.Unanswered (Request.Promise session offset) at is own = is
  unknown_when m now StoreAnswer.Done (Request.Append offset) at is own = is
  unknown_when m now StoreAnswer.Refused (Request.Append offset) at is own = is
  unknown_when m now StoreAnswer.Unanswered (Request.Append offset) at is own = is
  unknown_when m now StoreAnswer.Done (Request.RollOver offset) at is own = is
  unknown_when m now StoreAnswer.Refused (Request.RollOver offset) at is own = is
  unknown_when m now StoreAnswer.Unanswered (Request.RollOver offset) at is own = is
  unknown_when m now answer Request.Follow at is own = is

  unknown_answered : (m : MemberState) (now : ℕ) (answer : StoreAnswer) (asked : Option Asked) → Unknown m → AsksOwn last asked → Unknown (answered_by m now answer asked)
  unknown_answered m now answer None is own = is
  unknown_answered m now answer (Some asked) is own = unknown_when (record m { asked = None }) now answer asked.request asked.at is own

  unknown_shown : (m : MemberState) (state : SessionState) (here : Option Lease) → Unknown m → Unknown (own_by m state here)
  unknown_shown m SessionState.Absent here is = is
  unknown_shown m (SessionState.Unknown session) here is = is
  unknown_shown m (SessionState.Live session since) here is = by_own (own_promise m session here)
    where
      by_own : (own : Option (Promise × Bool)) → Unknown (own_by_promise m own)
      by_own None = tt
      by_own (Some own) = is

-- another session is its last one
shown_more : (last next : SessionId) → next.process ≡ last.process → last.number ≤ next.number → (leases : List Lease) → ShowsAsked last leases → ShowsAsked next leases
shown_more last next same more [] all = tt
shown_more last next same more (lease ∷ leases) (one, rest) = ((λ own. let low = one (own ∙ same) in omega (arith, low, more)), shown_more last next same more leases rest)

-- What a call leaves: of its ttl and its tries; of since when its lease counts, and when what it awaits was asked for; of
-- which sessions it knows; and, if it is done with its session, that.
pub record Stays (life : ℕ) (last : SessionId) (counts_so : SessionId → ℕ → Type 0) (asks_so : Request → ℕ → Type 0) (done : Type 0) (m : MemberState) : Type 0 where
  pub ttl : m.ttl ≡ life
  pub tries : m.tries ≡ last.number
  pub counts : Counts counts_so m.session
  pub asks : Awaited asks_so m.asked
  pub knows : KnowsAsked last m
  pub freed : done → Freed m

-- a call that isn't Next
abbrev pub IsReport : Call → Type 0
IsReport (Next now what) = ⊥
IsReport call = Unit {0}

-- a step that doesn't acquire a lease
abbrev pub IsNoAcquire : Step → Type 0
IsNoAcquire (Step.Ask (Request.Acquire session offset)) = ⊥
IsNoAcquire other = Unit {0}

pub counts_more : (counts more : SessionId → ℕ → Type 0) → ((session : SessionId) (since : ℕ) → counts session since → more session since) → (state : SessionState) → Counts counts state → Counts more state
counts_more counts more leads SessionState.Absent is = tt
counts_more counts more leads (SessionState.Unknown session) is = tt
counts_more counts more leads (SessionState.Live session since) is = leads session since is

module _ (ttl : ℕ) (last : SessionId) (counts : SessionId → ℕ → Type 0) (asks : Request → ℕ → Type 0) (done : Type 0) where
  abbrev Is : MemberState → Type 0
  Is m = Stays ttl last counts asks done m

  -- by an answer, and by what a snapshot shows of its lease
  answered_stays : (m : MemberState) (now : ℕ) (answer : StoreAnswer) → Is m → AsksOwn last m.asked → Awaited (Grants counts answer) m.asked → Is (answered m now answer)
  answered_stays m now answer is own grants = record {
    ttl = ap (λ (x : MemberState). x.ttl) reported ∙ is.ttl;
    tries = ap (λ (x : MemberState). x.tries) reported ∙ is.tries;
    counts = told.2;
    asks = subst (Awaited asks) (sym told.3) tt;
    knows = record {
      unknown = unknown_answered last m now answer m.asked is.knows.unknown own;
      shown = subst (ShowsAsked last) (sym (ap (λ (x : MemberState). x.leases) reported)) is.knows.shown;
    };
    freed = λ over. freed (is.freed over);
  }
    where
      told : IsTold counts None m (answered m now answer)
      told = answered_told counts m now answer is.counts grants

      reported : IsReported m (answered m now answer)
      reported = told.0

      freed : Freed m → Freed (answered m now answer)
      freed was =
          let more : IsTold (λ session since. IsEnding m.ending) None m (answered m now answer) = answered_told (λ session since. IsEnding m.ending) m now answer (to_counts m.session m.ending was.ends) (asked_grants m.ending answer m.asked was.asks) in
          let ending : (answered m now answer).ending ≡ m.ending = ap (λ (x : MemberState). x.ending) reported in
          record {
            asks = subst (AsksHarmless (answered m now answer).ending) (sym told.3) tt;
            ends = subst (EndsIfLive (answered m now answer).session) (sym ending) (of_counts (answered m now answer).session m.ending more.2);
            idle = subst (λ (works : List Activity). all_idle works ≡ true) (sym (ap (λ (x : MemberState). x.works) reported)) was.idle;
          }

  own_stays : (m : MemberState) (state : SessionState) (here : Option Lease) → Is m → Is (own_by m state here)
  own_stays m state here is = record {
    ttl = ap (λ (x : MemberState). x.ttl) reported ∙ is.ttl;
    tries = ap (λ (x : MemberState). x.tries) reported ∙ is.tries;
    counts = told.2;
    asks = subst (Awaited asks) (sym told.3) is.asks;
    knows = record {
      unknown = unknown_shown last m state here is.knows.unknown;
      shown = subst (ShowsAsked last) (sym (ap (λ (x : MemberState). x.leases) reported)) is.knows.shown;
    };
    freed = λ over. freed (is.freed over);
  }
    where
      told : IsTold counts m.asked m (own_by m state here)
      told = own_told counts m state here is.counts

      reported : IsReported m (own_by m state here)
      reported = told.0

      freed : Freed m → Freed (own_by m state here)
      freed was =
          let more : IsTold (λ session since. IsEnding m.ending) m.asked m (own_by m state here) = own_told (λ session since. IsEnding m.ending) m state here (to_counts m.session m.ending was.ends) in
          let ending : (own_by m state here).ending ≡ m.ending = ap (λ (x : MemberState). x.ending) reported in
          record {
            asks = subst (AsksHarmless (own_by m state here).ending) (sym told.3) (subst (λ (e : Option Ending). AsksHarmless e m.asked) (sym ending) was.asks);
            ends = subst (EndsIfLive (own_by m state here).session) (sym ending) (of_counts (own_by m state here).session m.ending more.2);
            idle = subst (λ (works : List Activity). all_idle works ≡ true) (sym (ap (λ (x : MemberState). x.works) reported)) was.idle;
          }

  -- it awaits nothing more, and ends for another reason, if at all
  quiet : (m after : MemberState) → Is m → after.ttl ≡ m.ttl → after.tries ≡ m.tries → after.session ≡ m.session → (ShowsAsked last m.leases → ShowsAsked last after.leases) → after.asked ≡ None → (IsEnding m.ending → IsEnding after.ending) → (all_idle m.works ≡ true → all_idle after.works ≡ true) → Is after
  quiet m after is ttl_same tries_same session_same shows none ends idle = record {
    ttl = ttl_same ∙ is.ttl;
    tries = tries_same ∙ is.tries;
    counts = subst (Counts counts) (sym session_same) is.counts;
    asks = subst (Awaited asks) (sym none) tt;
    knows = record { unknown = subst (IsUnknownLast last) (sym session_same) is.knows.unknown; shown = shows is.knows.shown };
    freed = λ over. let was = is.freed over in record {
      asks = subst (AsksHarmless after.ending) (sym none) tt;
      ends = subst (λ (x : SessionState). EndsIfLive x after.ending) (sym session_same) (ends_more m.ending after.ending ends m.session was.ends);
      idle = idle was.idle;
    };
  }

  -- ... or still awaits the same
  still : (m after : MemberState) → Is m → after.ttl ≡ m.ttl → after.tries ≡ m.tries → after.session ≡ m.session → (ShowsAsked last m.leases → ShowsAsked last after.leases) → after.asked ≡ m.asked → (IsEnding m.ending → IsEnding after.ending) → (all_idle m.works ≡ true → all_idle after.works ≡ true) → Is after
  still m after is ttl_same tries_same session_same shows same ends idle = record {
    ttl = ttl_same ∙ is.ttl;
    tries = tries_same ∙ is.tries;
    counts = subst (Counts counts) (sym session_same) is.counts;
    asks = subst (Awaited asks) (sym same) is.asks;
    knows = record { unknown = subst (IsUnknownLast last) (sym session_same) is.knows.unknown; shown = shows is.knows.shown };
    freed = λ over. let was = is.freed over in record {
      asks = subst (AsksHarmless after.ending) (sym same) (asks_more m.ending after.ending ends m.asked was.asks);
      ends = subst (λ (x : SessionState). EndsIfLive x after.ending) (sym session_same) (ends_more m.ending after.ending ends m.session was.ends);
      idle = idle was.idle;
    };
  }

  snapshot_stays : (m : MemberState) (now epoch : ℕ) (leases : List Lease) (has_unknown has_request : Bool) (coming : Option (List ℕ)) (affected : List ℕ) → Is m → ShowsAsked last leases → Is (snapshot_read m now epoch leases has_unknown has_request coming affected)
  snapshot_stays m now epoch leases has_unknown has_request coming affected is shows =
      if_is Is (not (awaits_snapshot m.asked)) _ _ is
      (if_is Is (not (epoch == m.terms.epoch)) _ _ (quiet m (record m { is_past = true; asked = None }) is refl refl refl (λ shown. shown) refl (λ ends. ends) (λ idle. idle))
      (own_stays (found (with_arrivals m now leases) now leases has_unknown has_request (admitted_among (with_arrivals m now leases) now leases) coming affected) m.session (lease_of m.terms.node leases)
      (quiet m (found (with_arrivals m now leases) now leases has_unknown has_request (admitted_among (with_arrivals m now leases) now leases) coming affected) is refl refl refl (λ shown. shows) refl (λ ends. ends) (λ idle. idle))))

  end_stays : (m : MemberState) (why : Ending) (ending : Option Ending) → m.ending ≡ ending → Is m → Is (end_for m why ending)
  end_stays m why None none is = still m (record m { ending = Some why }) is refl refl refl (λ shown. shown) refl (λ ends. tt) (λ idle. idle)
  end_stays m why (Some ending) some is = is

  not_there_stays : (m : MemberState) → Is m → Is (not_there m)
  not_there_stays m is = if_is Is (is_following m.asked) _ _
      (end_stays (record m { asked = None }) Ending.NotThere m.ending refl (quiet m (record m { asked = None }) is refl refl refl (λ shown. shown) refl (λ ends. ends) (λ idle. idle))) is

  followed_stays : (m : MemberState) (now : ℕ) (header : Header) (terms : Terms) → Is m → Is (followed m now header terms)
  followed_stays m now header terms is =
      if_is Is (not (is_following m.asked)) _ _ is (if_is Is (nat_le terms.epoch m.terms.epoch || not (all_idle m.works)) _ _
      (quiet m (to_pause (record m { asked = None; is_past = false; needs_snapshot = true }) now) is refl refl refl (λ shown. shown) refl (λ ends. ends) (λ idle. idle))
      (quiet m (in_epoch m now (record { replica = first_replica header; rows = 0 }) terms) is refl refl refl (λ shown. tt) refl (λ ends. ends) (λ idle. replicate_idle header.setup.partitions)))

  pub told_stays : (m : MemberState) (call : Call) (after : MemberState) → Is m → AsksOwn last m.asked → IsReport call → ((now : ℕ) (answer : StoreAnswer) → call ≡ Answered now answer → Awaited (Grants counts answer) m.asked)
      → ((now epoch : ℕ) (leases : List Lease) (has_unknown has_request : Bool) → call ≡ SnapshotRead now epoch leases has_unknown has_request → ShowsAsked last leases) → Takes m call after → Is after
  told_stays m (Next now next) after is own report grants shows takes = absurd report
  told_stays m (Answered now answer) after is own report grants shows takes = subst Is (sym takes) (answered_stays m now answer is own (grants now answer refl))
  told_stays m (Learn records taken) after is own report grants shows takes = subst Is (sym takes.rest)
      (still m (after_learning m after.learned taken) is refl refl refl (λ shown. shown) refl (behind_ends m.ending (is_broken after.learned taken)) (λ idle. idle))
  told_stays m (SnapshotRead now epoch leases has_unknown has_request) after is own report grants shows takes = subst Is (sym takes) (snapshot_stays m now epoch leases has_unknown has_request after.coming after.affected is (shows now epoch leases has_unknown has_request refl))
  told_stays m (SnapshotLost now leases) after is own report grants shows takes = subst Is (sym takes) (quiet m _ is refl refl refl (λ shown. shown) refl (λ ends. ends) (λ idle. idle))
  told_stays m (Followed now header terms) after is own report grants shows takes = subst Is (sym takes.1) (followed_stays m now header terms is)
  told_stays m NotThere after is own report grants shows takes = subst Is (sym takes) (not_there_stays m is)
  told_stays m Passed after is own report grants shows takes = subst Is (sym takes) (quiet m (record m { is_past = true; asked = None }) is refl refl refl (λ shown. shown) refl (λ ends. ends) (λ idle. idle))
  told_stays m Woke after is own report grants shows takes = subst Is (sym takes) (still m (record m { needs_snapshot = true }) is refl refl refl (λ shown. shown) refl (λ ends. ends) (λ idle. idle))
  told_stays m Leave after is own report grants shows takes = subst Is (sym takes) (end_stays m Ending.Left m.ending refl is)
  told_stays m Broken after is own report grants shows takes = subst Is (sym takes) (end_stays m Ending.Broken m.ending refl is)
  told_stays m (Lost token) after is own report grants shows takes = subst Is (sym takes) (if_is Is _ _ _ (still m (record m { is_lost = true }) is refl refl refl (λ shown. shown) refl (λ ends. ends) (λ idle. idle)) is)
  told_stays m Stopped after is own report grants shows takes = subst Is (sym takes) (still m (stopped m) is refl refl refl (λ shown. shown) refl (λ ends. ends) (idle_changed end_at 0 m.works (λ k. refl)))
  told_stays m (StoppedOn k) after is own report grants shows takes = subst Is (sym takes) (still m (stopped_on m k) is refl refl refl (λ shown. shown) refl (λ ends. ends) (idle_changed (ended_at k) 0 m.works (ended_idle k)))

  -- What it does next.

  no_begin_by : (state : SessionState) (ending : Option Ending) (ttl now : ℕ) → sure state ttl now ≡ true → ending ≡ None → EndsIfLive state ending → ⊥
  no_begin_by SessionState.Absent ending ttl now is none ends = absurd (cc is)
  no_begin_by (SessionState.Unknown session) ending ttl now is none ends = absurd (cc is)
  no_begin_by (SessionState.Live session since) ending ttl now is none ends = subst IsEnding none ends

  asked_stays : (m : MemberState) (now : ℕ) (request : Request) → Is m → IsNoAcquire (Step.Ask request) → asks request now → Keeps m now (Step.Ask request) → Is (asked_for m now request)
  asked_stays m now (Request.Acquire session offset) is other asks_it keeps = absurd other
  asked_stays m now (Request.Renew session) is other asks_it keeps = record { ttl = is.ttl; tries = is.tries; counts = is.counts; asks = asks_it; knows = record { unknown = is.knows.unknown; shown = is.knows.shown }; freed = λ over. record { asks = subst (λ (x : SessionState). EndsIfLive x m.ending) keeps.1 (is.freed over).ends; ends = (is.freed over).ends; idle = (is.freed over).idle } }
  asked_stays m now (Request.Release session) is other asks_it keeps = record { ttl = is.ttl; tries = is.tries; counts = is.counts; asks = asks_it; knows = record { unknown = is.knows.unknown; shown = is.knows.shown }; freed = λ over. record { asks = tt; ends = (is.freed over).ends; idle = (is.freed over).idle } }
  asked_stays m now Request.Snapshot is other asks_it keeps = record { ttl = is.ttl; tries = is.tries; counts = is.counts; asks = asks_it; knows = record { unknown = is.knows.unknown; shown = is.knows.shown }; freed = λ over. record { asks = tt; ends = (is.freed over).ends; idle = (is.freed over).idle } }
  asked_stays m now (Request.Promise session offset) is other asks_it keeps = record { ttl = is.ttl; tries = is.tries; counts = is.counts; asks = asks_it; knows = record { unknown = is.knows.unknown; shown = is.knows.shown }; freed = λ over. record { asks = tt; ends = (is.freed over).ends; idle = (is.freed over).idle } }
  asked_stays m now (Request.Append offset) is other asks_it keeps = record { ttl = is.ttl; tries = is.tries; counts = is.counts; asks = asks_it; knows = record { unknown = is.knows.unknown; shown = is.knows.shown }; freed = λ over. record { asks = tt; ends = (is.freed over).ends; idle = (is.freed over).idle } }
  asked_stays m now (Request.RollOver offset) is other asks_it keeps = record { ttl = is.ttl; tries = is.tries; counts = is.counts; asks = asks_it; knows = record { unknown = is.knows.unknown; shown = is.knows.shown }; freed = λ over. record { asks = tt; ends = (is.freed over).ends; idle = (is.freed over).idle } }
  asked_stays m now Request.Follow is other asks_it keeps = record { ttl = is.ttl; tries = is.tries; counts = is.counts; asks = asks_it; knows = record { unknown = is.knows.unknown; shown = is.knows.shown }; freed = λ over. record { asks = tt; ends = (is.freed over).ends; idle = (is.freed over).idle } }

  pub next_stays : (m : MemberState) (now : ℕ) (what : Step) (after : MemberState) → Is m → IsNoAcquire what → ((request : Request) → what ≡ Step.Ask request → asks request now) → GoesNext m now what after → Is after
  next_stays m now (Step.Ask request) after is other asks_it goes = subst Is (sym goes.noted) (asked_stays m now request is other (asks_it request refl) goes.keeps)
  next_stays m now (Step.Begin token) after is other asks_it goes = subst Is (sym goes.noted) (record {
    ttl = is.ttl;
    tries = is.tries;
    counts = is.counts;
    asks = is.asks;
    knows = record { unknown = is.knows.unknown; shown = is.knows.shown };
    freed = λ over. absurd (no_begin_by m.session m.ending m.ttl now goes.keeps.may.live goes.keeps.may.going (is.freed over).ends);
  })
  next_stays m now Step.Stop after is other asks_it goes = subst Is (sym goes.noted)
      (still m (noted m now goes.sight.is_stable Step.Stop) is refl refl refl (λ shown. shown) refl (λ ends. ends) (idle_changed (stop_at (table_ahead m now goes.sight.is_stable) m.terms.node) 0 m.works (λ k. refl)))
  next_stays m now (Step.Wait at_most until reason) after is other asks_it goes = subst Is (sym goes.noted) is
  next_stays m now (Step.BackOff at_most reason) after is other asks_it goes = subst Is (sym goes.noted) is
  next_stays m now (Step.End ending) after is other asks_it goes = subst Is (sym goes.noted) is

-- It acquires its lease for its next session: it has done nothing with that yet.
pub acquire_stays : (ttl : ℕ) (last : SessionId) (counts : SessionId → ℕ → Type 0) (asks : Request → ℕ → Type 0) (done over : Type 0) (m : MemberState) (now : ℕ) (session : SessionId) (offset : ℕ) (after : MemberState)
    → Stays ttl last counts asks done m → session.process ≡ last.process → last.number ≤ session.number → asks (Request.Acquire session offset) now → (over → ⊥) → GoesNext m now (Step.Ask (Request.Acquire session offset)) after
    → Stays ttl session counts asks over after
acquire_stays ttl last counts asks done over m now session offset after is same more asks_it never goes = subst (Stays ttl session counts asks over) (sym goes.noted) (record {
  ttl = is.ttl;
  tries = refl;
  counts = is.counts;
  asks = asks_it;
  knows = record { unknown = subst (IsUnknownLast session) (sym goes.keeps.1.0) tt; shown = shown_more last session same more m.leases is.knows.shown };
  freed = λ so. absurd (never so);
})

-- It asks to release a session, which is one that it has asked for: it is done with its last one.
pub release_freed : (last : SessionId) (m : MemberState) (now : ℕ) (session : SessionId) (after : MemberState) → m.process ≡ last.process → KnowsAsked last m → IsOwnSession last m.session → GoesNext m now (Step.Ask (Request.Release session)) after
    → Freed after × IsAsked last session
release_freed last m now session after own knows live goes = (subst Freed (sym goes.noted) (record { asks = tt; ends = may.0; idle = goes.keeps }), may.1)
  where
    may : EndsIfLive m.session m.ending × IsAsked last session
    may = subst (MayRelease last m.session m.ending) (sym goes.due) (due_free last m now goes.sight own knows live)

-- A new member.
pub new_stays : (header : Header) (terms : Terms) (p ttl : ℕ) (last : SessionId) (counts : SessionId → ℕ → Type 0) (asks : Request → ℕ → Type 0) (done : Type 0) → (done → ⊥) → last.number ≡ 0 → Stays ttl last counts asks done (new_member header terms p ttl)
new_stays header terms p ttl last counts asks done never first = record { ttl = refl; tries = sym first; counts = tt; asks = tt; knows = record { unknown = tt; shown = tt }; freed = λ so. absurd (never so) }
