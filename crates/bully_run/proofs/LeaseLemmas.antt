-- A member's lease counts from when it asked for that, or to renew it, and the store did so.
use Rattle.std.proofs.Common.{◌≡◌, ◌∙◌, ◌==◌, ◌||◌, ◌++◌, ◌∷◌, [], not, ℕ, Bool, List, Option, Some, None, nat_le, append-nil, append_assoc, ap, refl, sym, subst}
use Rattle.std.specs.List.{AllByRecursion}
use Rattle.bully_member.specs.Activities.{all_idle}
use Rattle.bully_member.specs.Due.{asked_for, noted}
use Rattle.bully_member.specs.Learned.{followed, is_following}
use Rattle.bully_member.specs.Member.{MemberState, new_member}
use Rattle.bully_member.specs.Told.{answered, awaits_snapshot, end_for, own_by, snapshot_read}
use Rattle.bully_member.specs.declared.opening.Terms.{Terms}
use Rattle.bully_member.specs.declared.values.Asked.{Asked}
use Rattle.bully_member.specs.declared.values.Ending.{Ending}
use Rattle.bully_member.specs.declared.values.Lease.{Lease}
use Rattle.bully_member.specs.declared.values.Request.{Request}
use Rattle.bully_member.specs.declared.values.SessionId.{SessionId}
use Rattle.bully_member.specs.declared.values.SessionState.{SessionState}
use Rattle.bully_member.specs.declared.values.Step.{Step}
use Rattle.bully_member.specs.declared.values.StoreAnswer.{StoreAnswer}
use Rattle.bully_rows.specs.declared.header.Header.{Header}
use Rattle.bully_run.proofs.AnswerLemmas.{Awaited, Counts, Grants, answered_told, if_is, own_told}
use Rattle.bully_run.specs.Calls.{Answered, Broken, Call, Followed, HasLived, IsBetween, IsGranted, Learn, Leave, Lives, Lost, Made, Next, NotThere, Passed, SnapshotLost, SnapshotRead, Stopped, StoppedOn, Takes, Woke, made_in, with_made}

-- by these calls this was asked for at that time, and isn't answered
record IsOpen (calls : List Call) (request : Request) (at : ℕ) : Type 0 where
  first : List Call
  waits : List Call
  order : calls ≡ first ++ (Next at (Step.Ask request) ∷ waits)
  between : AllByRecursion IsBetween waits

-- what a member knows by these calls
abbrev Is : List Call → MemberState → Type 0
Is calls m = Counts (IsGranted calls) m.session × Awaited (IsOpen calls) m.asked

-- What changes neither its lease nor what it awaits, or ends these.
module _ (calls : List Call) where
  shown_counts : (m : MemberState) (state : SessionState) (here : Option Lease) → Is calls m → Is calls (own_by m state here)
  shown_counts m state here is = let told = own_told (IsGranted calls) m state here is.0 in (told.2, subst (Awaited (IsOpen calls)) (sym told.3) is.1)

  snapshot_counts : (m : MemberState) (now epoch : ℕ) (leases : List Lease) (has_unknown has_request : Bool) (coming : Option (List ℕ)) (affected : List ℕ) → Is calls m → Is calls (snapshot_read m now epoch leases has_unknown has_request coming affected)
  snapshot_counts m now epoch leases has_unknown has_request coming affected is =
      if_is (Is calls) (not (awaits_snapshot m.asked)) _ _ is (if_is (Is calls) (not (epoch == m.terms.epoch)) _ _ (is.0, tt) (shown_counts _ m.session _ (is.0, tt)))

  end_counts : (m : MemberState) (why : Ending) (ending : Option Ending) → Is calls m → Is calls (end_for m why ending)
  end_counts m why None is = is
  end_counts m why (Some ending) is = is

  followed_counts : (m : MemberState) (now : ℕ) (header : Header) (terms : Terms) → Is calls m → Is calls (followed m now header terms)
  followed_counts m now header terms is = if_is (Is calls) (not (is_following m.asked)) _ _ is (if_is (Is calls) (nat_le terms.epoch m.terms.epoch || not (all_idle m.works)) _ _ (is.0, tt) (is.0, tt))

all_between : (calls : List Call) (call : Call) → AllByRecursion IsBetween calls → IsBetween call → AllByRecursion IsBetween (calls ++ call ∷ [])
all_between [] call are is = (is, tt)
all_between (other ∷ calls) call are is = (are.0, all_between calls call are.1 is)

-- One call more.
module _ (past : List Call) (call : Call) where
  abbrev All : List Call
  All = past ++ call ∷ []

  still_granted : (session : SessionId) (since : ℕ) → IsGranted past session since → IsGranted All session since
  still_granted session since is = record {
    first = is.first;
    step = is.step;
    waits = is.waits;
    now = is.now;
    rest = is.rest ++ call ∷ [];
    order = ap (λ (calls : List Call). calls ++ call ∷ []) is.order ∙ append_assoc (is.first ++ (Next since is.step ∷ is.waits)) (Answered is.now StoreAnswer.Done ∷ is.rest) (call ∷ []);
    asks = is.asks;
    between = is.between;
  }

  still_counts : (state : SessionState) → Counts (IsGranted past) state → Counts (IsGranted All) state
  still_counts SessionState.Absent is = tt
  still_counts (SessionState.Unknown session) is = tt
  still_counts (SessionState.Live session since) is = still_granted session since is

  still_open : IsBetween call → (asked : Option Asked) → Awaited (IsOpen past) asked → Awaited (IsOpen All) asked
  still_open quiet None is = tt
  still_open quiet (Some asked) is = record {
    first = is.first;
    waits = is.waits ++ call ∷ [];
    order = ap (λ (calls : List Call). calls ++ call ∷ []) is.order ∙ append_assoc is.first (Next asked.at (Step.Ask asked.request) ∷ is.waits) (call ∷ []);
    between = all_between is.waits call is.between quiet;
  }

  still : IsBetween call → (m : MemberState) → Is past m → Is All m
  still quiet m is = (still_counts m.session is.0, still_open quiet m.asked is.1)

-- ... by which it asks for something
opens : (past : List Call) (request : Request) (now : ℕ) → IsOpen (past ++ Next now (Step.Ask request) ∷ []) request now
opens past request now = record { first = past; waits = []; order = refl; between = tt }

asked_counts : (past : List Call) (m : MemberState) (now : ℕ) (request : Request) → Is past m → Is (past ++ Next now (Step.Ask request) ∷ []) (asked_for m now request)
asked_counts past m now (Request.Acquire session offset) is = (still_counts past _ m.session is.0, opens past (Request.Acquire session offset) now)
asked_counts past m now (Request.Renew session) is = (still_counts past _ m.session is.0, opens past (Request.Renew session) now)
asked_counts past m now (Request.Release session) is = (still_counts past _ m.session is.0, opens past (Request.Release session) now)
asked_counts past m now Request.Snapshot is = (still_counts past _ m.session is.0, opens past Request.Snapshot now)
asked_counts past m now (Request.Promise session offset) is = (still_counts past _ m.session is.0, opens past (Request.Promise session offset) now)
asked_counts past m now (Request.Append offset) is = (still_counts past _ m.session is.0, opens past (Request.Append offset) now)
asked_counts past m now (Request.RollOver offset) is = (still_counts past _ m.session is.0, opens past (Request.RollOver offset) now)
asked_counts past m now Request.Follow is = (still_counts past _ m.session is.0, opens past Request.Follow now)

noted_counts : (past : List Call) (m : MemberState) (now : ℕ) (is_stable : Bool) (step : Step) → Is past m → Is (past ++ Next now step ∷ []) (noted m now is_stable step)
noted_counts past m now is_stable (Step.Ask request) is = asked_counts past m now request is
noted_counts past m now is_stable (Step.Begin token) is = still past _ tt m is
noted_counts past m now is_stable Step.Stop is = still past _ tt m is
noted_counts past m now is_stable (Step.Wait at_most until reason) is = still past _ tt m is
noted_counts past m now is_stable (Step.BackOff at_most reason) is = still past _ tt m is
noted_counts past m now is_stable (Step.End ending) is = still past _ tt m is

-- ... or an answer
grants : (past : List Call) (now : ℕ) (answer : StoreAnswer) (asked : Option Asked) → Awaited (IsOpen past) asked → Awaited (Grants (IsGranted (past ++ Answered now answer ∷ [])) answer) asked
grants past now answer None is = tt
grants past now answer (Some asked) is = λ session done asks. record {
  first = is.first;
  step = Step.Ask asked.request;
  waits = is.waits;
  now = now;
  rest = [];
  order = ap (λ (calls : List Call). calls ++ Answered now answer ∷ []) is.order ∙ ap (λ (same : StoreAnswer). is.first ++ (Next asked.at (Step.Ask asked.request) ∷ is.waits) ++ (Answered now same ∷ [])) done;
  asks = asks;
  between = is.between;
}

answered_counts : (past : List Call) (m : MemberState) (now : ℕ) (answer : StoreAnswer) → Is past m → Is (past ++ Answered now answer ∷ []) (answered m now answer)
answered_counts past m now answer is =
    let told = answered_told (IsGranted (past ++ Answered now answer ∷ [])) m now answer (still_counts past _ m.session is.0) (grants past now answer m.asked is.1) in
    (told.2, subst (Awaited (IsOpen (past ++ Answered now answer ∷ []))) (sym told.3) tt)

call_counts : (past : List Call) (m : MemberState) (call : Call) (after : MemberState) → Is past m → Takes m call after → Is (past ++ call ∷ []) after
call_counts past m (Next now step) after is takes = subst (Is _) (sym takes.noted) (noted_counts past m now takes.sight.is_stable step is)
call_counts past m (Answered now answer) after is takes = subst (Is _) (sym takes) (answered_counts past m now answer is)
call_counts past m (Learn records taken) after is takes = subst (Is _) (sym takes.rest) (still past _ tt m is)
call_counts past m (SnapshotRead now epoch leases has_unknown has_request) after is takes = subst (Is _) (sym takes) (snapshot_counts _ m now epoch leases has_unknown has_request after.coming after.affected (still past _ tt m is))
call_counts past m (SnapshotLost now leases) after is takes = subst (Is _) (sym takes) (still_counts past _ m.session is.0, tt)
call_counts past m (Followed now header terms) after is takes = subst (Is _) (sym takes.1) (followed_counts _ m now header terms (still past _ tt m is))
call_counts past m NotThere after is takes = let now = still past NotThere tt m is in subst (Is _) (sym takes) (if_is (Is _) (is_following m.asked) _ _ (end_counts _ _ Ending.NotThere m.ending (now.0, tt)) now)
call_counts past m Passed after is takes = subst (Is _) (sym takes) (still_counts past _ m.session is.0, tt)
call_counts past m Woke after is takes = subst (Is _) (sym takes) (still past _ tt m is)
call_counts past m Leave after is takes = subst (Is _) (sym takes) (end_counts _ m Ending.Left m.ending (still past _ tt m is))
call_counts past m Broken after is takes = subst (Is _) (sym takes) (end_counts _ m Ending.Broken m.ending (still past _ tt m is))
call_counts past m (Lost token) after is takes = let now = still past (Lost token) tt m is in subst (Is _) (sym takes) (if_is (Is _) _ _ _ now now)
call_counts past m Stopped after is takes = subst (Is _) (sym takes) (still past _ tt m is)
call_counts past m (StoppedOn partition) after is takes = subst (Is _) (sym takes) (still past _ tt m is)

lives_counts : (past calls : List Call) (m after : MemberState) (made more : List Made) → Is past m → Lives m made calls after more → Is (past ++ calls) after
lives_counts past [] m after made more is (same, made_same) = subst (Is (past ++ [])) (sym same) (subst (λ (calls : List Call). Is calls m) (sym (append-nil past)) is)
lives_counts past (call ∷ calls) m after made more is (mid, takes, lives) =
    subst (λ (all : List Call). Is all after) (append_assoc past (call ∷ []) calls)
    (lives_counts (past ++ call ∷ []) calls mid after (with_made made (made_in m call)) more (call_counts past m call mid is takes) lives)

pub counts_lem : (calls : List Call) (m : MemberState) (made : List Made) (session : SessionId) (since : ℕ) → HasLived calls m made → m.session ≡ SessionState.Live session since → IsGranted calls session since
counts_lem calls m made session since lived live = subst (Counts (IsGranted calls)) live
    (lives_counts [] calls (new_member lived.header lived.terms lived.process lived.ttl) m [] made (tt, tt) lived.lives).0
