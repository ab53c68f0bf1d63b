-- What a run gives of the premises of a round.
use Rattle.std.proofs.Common.{◌≡◌, ◌≤◌, ◌<◌, ◌+◌, ◌*◌, ◌==◌, ◌||◌, ◌++◌, ◌∷◌, [], not, if◌then◌else◌, cond, ℕ, zero, suc, Bool, true, false, List, Option, Some, None, inl, inr, Contains, length, take, nat_le, arith, refl, sym, ap, subst, ◌∙◌}
use Rattle.std.proofs.lemmas.Bool.Decides.{nat_tests}
use Rattle.bully_agree.proofs.PlanLemmas.{last_found}
use Rattle.bully_agree.specs.Fencing.{IsLast, IsLastPlan, Planned}
use Rattle.bully_base.proofs.NodeSetLemmas.{Contains-from, Has-from}
use Rattle.bully_base.specs.NodeSet.{IsFallingBelow}
use Rattle.bully_base.specs.Setup.{Setup}
use Rattle.bully_calls.specs.declared.call.Answer.{Answer}
use Rattle.bully_calls.specs.declared.event.Event.{Event}
use Rattle.bully_member.specs.Asking.{IsOwn}
use Rattle.bully_member.specs.Due.{is_none_of}
use Rattle.bully_member.specs.Member.{Foresees, IsAffected, MemberState, are_no_nodes, coming_by, live_of, offset_in, offset_of, replica_of}
use Rattle.bully_member.specs.Rebalance.{rebalanced_nodes}
use Rattle.bully_member.specs.declared.opening.Terms.{Terms}
use Rattle.bully_member.specs.declared.opening.TheConstants.{REBALANCE_MAX}
use Rattle.bully_member.specs.declared.values.Ending.{Ending}
use Rattle.bully_member.specs.declared.values.Lease.{Lease}
use Rattle.bully_member.specs.declared.values.Promise.{Promise}
use Rattle.bully_rebalance.proofs.ActLemmas.{learned_all}
use Rattle.bully_rebalance.proofs.Preparing.{has_is_member, is_member_has}
use Rattle.bully_rebalance.specs.Acting.{IsReachedBy}
use Rattle.bully_rebalance.specs.Leaving.{Loses}
use Rattle.bully_rebalance.specs.Rebalancing.{is_member, table_before}
use Rattle.bully_replica.specs.Replica.{IsLogOf, ReplicaState}
use Rattle.bully_round.proofs.SizedLemmas.{sized_lem}
use Rattle.bully_round.proofs.TurnLemmas.{same_num}
use Rattle.bully_round.specs.From.{AreTogether, GoesOn, HasFoundSame, HasLease, HasMember, InRun, IsGrownBy, IsPartOf, IsSameReplica, IsTold, IsUpTo, TakesTurns}
use Rattle.bully_round.specs.Group.{HasSameView, IsLeaseOf}
use Rattle.bully_round.specs.Progress.{DoesTasks, Turn}
use Rattle.bully_run.proofs.LinkLemmas.{Linked}
use Rattle.bully_run.proofs.RunLemmas.{Writes, linked_of, reached_lem, writes_of}
use Rattle.bully_run.specs.Run.{Done, Happening, Happens, HasRun, Process, Run, RunsBy, SentAppend, first_run, id_of}
use Rattle.bully_run.specs.Calls.{session_now}
use Rattle.bully_table.specs.Planning.{planned}
use Rattle.bully_work.proofs.StoreLemmas.{store_keeps}
use Rattle.bully_work.specs.Store.{Act, Epoch, IsReached, Lease as Held, Promised, Store, current, longer}
use Rattle.bully_world.proofs.LawfulLemmas.{lead_split}
use Rattle.bully_world.proofs.StepOfLemmas.{lawful_is_one}
use Rattle.bully_world.specs.Lawful.{IsLawful, LeadTo}
use Rattle.bully_world.specs.State.{world_of}
use Rattle.bully_world.specs.World.{World, first_world}

-- A run goes on.

runs_more : (happenings more : List Happening) (R mid R' : Run) → RunsBy R happenings mid → RunsBy mid more R' → RunsBy R (happenings ++ more) R'
runs_more [] more R mid R' is runs = subst (λ x. RunsBy x more R') is runs
runs_more (h ∷ happenings) more R mid R' (next, happens, runs) rest = (next, happens, runs_more happenings more next mid R' runs rest)

pub run_on : (happenings more : List Happening) (R R' : Run) → HasRun happenings R → RunsBy R more R' → HasRun (happenings ++ more) R'
run_on happenings more R R' run runs =
    record { setup = run.setup; number = run.number; one = run.one; runs = runs_more happenings more (first_run run.setup run.number) R R' run.runs runs }

-- a moment of some run
abbrev pub IsMoment : Run → Type 0
IsMoment R = (happenings : List Happening) × HasRun happenings R

pub goes_then : (R R' : Run) → IsMoment R → GoesOn R R' → IsMoment R'
goes_then R R' (happenings, run) (more, runs) = (happenings ++ more, run_on happenings more R R' run runs)

pub happens_then : (R R' : Run) (h : Happening) → IsMoment R → Happens R h R' → IsMoment R'
happens_then R R' h (happenings, run) happens = (happenings ++ h ∷ [], run_on happenings (h ∷ []) R R' run (R', happens, refl))

turns_then : (R R' : Run) (p : ℕ) (m after : MemberState) (turns : List Turn) → IsMoment R → TakesTurns R p m turns R' after → IsMoment R'
turns_then R R' p m after [] moment does = goes_then R R' moment does.0
turns_then R R' p m after (t ∷ turns) moment (mid, next, goes, at, calm, turn, task, more) = turns_then mid R' p next after turns (goes_then R mid moment goes) more

pub moment_then : (R R' : Run) (p : ℕ) (m after : MemberState) (turns : List Turn) → IsMoment R → TakesTurns R p m turns R' after → IsMoment R'
moment_then R R' p m after turns moment does = turns_then R R' p m after turns moment does

-- What a member has learned.

-- the table of a plan has the setup's partitions
plan_sized : (setup : Setup) (mid : World) (i : ℕ) (table : List ℕ) (after : List Event) (answers : List Answer) (w : World) → LeadTo setup mid (Event.Plan i table ∷ after) answers w → length table ≡ setup.partitions
plan_sized setup mid i table after [] w leads = absurd leads
plan_sized setup mid i table after (a ∷ answers) w leads = leads.1.2

table_sized : (r : ReplicaState) (log : List Event) (p : Planned) → IsLogOf r log → r.last ≡ Some p → length p.table ≡ r.world.setup.partitions
table_sized r log p is at =
    let last : IsLastPlan log p = subst (IsLast log) at is.last in
    let leads : LeadTo r.world.setup (first_world r.world.setup) (last.before ++ Event.Plan p.planner p.table ∷ last.after) is.answers (world_of r.world) =
    subst (λ events. LeadTo r.world.setup (first_world r.world.setup) events is.answers (world_of r.world)) last.parts is.lawful.leads in
    let parts = lead_split r.world.setup (first_world r.world.setup) last.before (Event.Plan p.planner p.table ∷ last.after) is.answers (world_of r.world) leads in
    plan_sized r.world.setup parts.2 p.planner p.table last.after parts.1 (world_of r.world) parts.5

abbrev process_of : ℕ → MemberState → Process
process_of name m = record { name = name; member = m }

linked_at : (happenings : List Happening) (R : Run) (p : ℕ) (m : MemberState) → HasRun happenings R → (at : HasMember R p m) → Linked R.store at.name m
linked_at happenings R p m run at = linked_of happenings R p (process_of at.name m) run at.there

pub part_lem : (happenings : List Happening) (R : Run) (p : ℕ) (m : MemberState) → HasRun happenings R → (at : HasMember R p m) → IsPartOf R at.name m
part_lem happenings R p m run at = record {
  started = linked.place.started;
  setup = linked.place.setup;
  number = linked.place.number;
  learned = linked.place.rows;
  within = linked.place.low;
  promised = linked.holds.within;
  sized = sized_lem happenings R p (process_of at.name m) run at.there;
}
  where
    linked : Linked R.store at.name m
    linked = linked_at happenings R p m run at

pub in_run_lem : (happenings : List Happening) (R : Run) (p : ℕ) (m : MemberState) (P : Type 0) → HasRun happenings R → HasMember R p m → InRun m P → P
in_run_lem happenings R p m P run at holds =
    let part = part_lem happenings R p m run at in
    let all = part.sized in
    holds (record { events = take (offset_of m) (R.store.epochs m.terms.epoch).log; log = part.learned })
    (λ plan is. let size = table_sized (replica_of m) (take (offset_of m) (R.store.epochs m.terms.epoch).log) plan part.learned is in omega (arith, size, all))

-- what a run gives a member that has learned the whole log
pub log_lem : (happenings : List Happening) (R : Run) (p : ℕ) (m : MemberState) → HasRun happenings R → HasMember R p m → IsUpTo R m → IsLogOf (replica_of m) (current R.store).log
log_lem happenings R p m run at up = learned_all (replica_of m) (current R.store).log (offset_of m) (offset_of m)
    (subst (λ e. IsLogOf (replica_of m) (take (offset_of m) (R.store.epochs e).log)) up.epoch (part_lem happenings R p m run at).learned) up.whole refl

pub setup_lem : (happenings : List Happening) (R : Run) (p : ℕ) (m : MemberState) → HasRun happenings R → HasMember R p m → IsUpTo R m → (replica_of m).world.setup ≡ (current R.store).setup
setup_lem happenings R p m run at up = (part_lem happenings R p m run at).setup ∙ ap (λ e. (R.store.epochs e).setup) up.epoch

same_of : (r t : ReplicaState) (log : List Event) → r.world.setup ≡ t.world.setup → IsLogOf r log → IsLogOf t log → IsSameReplica r t
same_of r t log setup one other = record {
  setup = setup;
  world = sym (lawful_is_one r.world.setup log one.answers other.answers (world_of r.world) (world_of t.world) one.lawful (subst (λ s. IsLawful s log other.answers (world_of t.world)) (sym setup) other.lawful)).0;
  events = sym one.counted ∙ other.counted;
  last = sym (last_found log r.last one.last) ∙ last_found log t.last other.last;
}

pub same_lem : (happenings : List Happening) (R : Run) (p q : ℕ) (m n : MemberState) → HasRun happenings R → HasMember R p m → HasMember R q n → IsUpTo R m → IsUpTo R n → IsSameReplica (replica_of m) (replica_of n)
same_lem happenings R p q m n run one other up too = same_of (replica_of m) (replica_of n) (current R.store).log
    (setup_lem happenings R p m run one up ∙ sym (setup_lem happenings R q n run other too)) (log_lem happenings R p m run one up) (log_lem happenings R q n run other too)

-- What it foresees.

coming_with : Setup → (events : ℕ) → Option Planned → Terms → (has_request : Bool) → (group : List ℕ) → Option (List ℕ)
coming_with setup events last t has_request group =
    if not t.is_cooperative || (has_request || not (nat_le (events + REBALANCE_MAX * setup.nodes) t.rows_max)) || are_no_nodes group then None else
    Some (planned setup (table_before last t.old) group)

coming_is : (r : ReplicaState) (t : Terms) (has_request : Bool) (group : List ℕ) → coming_by r t has_request group ≡ coming_with r.world.setup r.world.events r.last t has_request group
unfolding coming_with
coming_is r t has_request group = refl

other_node : (s : Setup) (events : ℕ) (last : Option Planned) (t u : Terms) (has_request : Bool) (group : List ℕ) → u ≡ record t { node = u.node } → coming_with s events last u has_request group ≡ coming_with s events last t has_request group
unfolding coming_with
other_node s events last t u has_request group is = ap (λ (x : Terms). coming_with s events last x has_request group) is

affects : (coop other : Bool) (r t : ReplicaState) (leases held : List Lease) (coming next : Option (List ℕ)) (i : ℕ) → coop ≡ other → r.last ≡ t.last → leases ≡ held → coming ≡ next → IsAffected coop r leases coming i → IsAffected other t held next i
affects false false r t leases held coming next i same plans reads comes is = subst (λ (x : List Lease). Contains (live_of x) i) reads is
affects true true r t leases held coming next i same plans reads comes (p, at, loses) = (p, sym plans ∙ at, subst (λ (x : Option (List ℕ)). Loses p.table x i) comes loses)
affects false true r t leases held coming next i same plans reads comes is = absurd (cc same)
affects true false r t leases held coming next i same plans reads comes is = absurd (cc same)

bools_same : (a b : Bool) → (a ≡ true → b ≡ true) → (b ≡ true → a ≡ true) → a ≡ b
bools_same true true one other = refl
bools_same true false one other = absurd (cc (one refl))
bools_same false true one other = absurd (cc (other refl))
bools_same false false one other = refl

same_members : (ks js : List ℕ) (i : ℕ) → (Contains ks i → Contains js i) → (Contains js i → Contains ks i) → is_member ks i ≡ is_member js i
same_members ks js i one other = bools_same (is_member ks i) (is_member js i)
    (λ is. is_member_has js i (Has-from js i (one (Contains-from ks i (has_is_member ks i is)))))
    (λ is. is_member_has ks i (Has-from ks i (other (Contains-from js i (has_is_member js i is)))))

view_of : (m n : MemberState) → IsSameReplica (replica_of m) (replica_of n) → HasFoundSame m n → Foresees m → Foresees n → HasSameView m n
view_of m n same found one other = record {
  offset = same.events;
  epoch = sym (ap (λ (t : Terms). t.epoch) found.terms);
  coming = coming;
  affected = λ i. same_members m.affected n.affected i
      (λ has. (other.affects i).1 (affects m.terms.is_cooperative n.terms.is_cooperative (replica_of m) (replica_of n) m.leases n.leases m.coming n.coming i cooperative same.last (sym found.leases) coming ((one.affects i).0 has)))
      (λ has. (one.affects i).1 (affects n.terms.is_cooperative m.terms.is_cooperative (replica_of n) (replica_of m) n.leases m.leases n.coming m.coming i (sym cooperative) (sym same.last) found.leases (sym coming) ((other.affects i).0 has)));
}
  where
    cooperative : m.terms.is_cooperative ≡ n.terms.is_cooperative
    cooperative = sym (ap (λ (t : Terms). t.is_cooperative) found.terms)

    coming : m.coming ≡ n.coming
    coming = one.comes ∙ coming_is (replica_of m) m.terms m.has_request m.group
        ∙ ap (λ (s : Setup). coming_with s (offset_of m) (replica_of m).last m.terms m.has_request m.group) same.setup
        ∙ ap (λ k. coming_with (replica_of n).world.setup k (replica_of m).last m.terms m.has_request m.group) same.events
        ∙ ap (λ (l : Option Planned). coming_with (replica_of n).world.setup (offset_of n) l m.terms m.has_request m.group) same.last
        ∙ sym (other_node (replica_of n).world.setup (offset_of n) (replica_of n).last m.terms n.terms m.has_request m.group found.terms)
        ∙ ap (λ b. coming_with (replica_of n).world.setup (offset_of n) (replica_of n).last n.terms b m.group) (sym found.request)
        ∙ ap (λ (g : List ℕ). coming_with (replica_of n).world.setup (offset_of n) (replica_of n).last n.terms n.has_request g) (sym found.group)
        ∙ sym (other.comes ∙ coming_is (replica_of n) n.terms n.has_request n.group)

pub view_lem : (happenings : List Happening) (R : Run) (p q : ℕ) (m n : MemberState) → HasRun happenings R → HasMember R p m → HasMember R q n → IsUpTo R m → IsUpTo R n → HasFoundSame m n → Foresees m → Foresees n → HasSameView m n
view_lem happenings R p q m n run one other up too found first second = view_of m n (same_lem happenings R p q m n run one other up too) found first second

-- Leases.

same_promise : (a b : Promise) (held : Promised) → held.epoch ≡ a.epoch → held.epoch ≡ b.epoch → held.offset ≡ a.offset → held.offset ≡ b.offset → a ≡ b
same_promise a b held one other first second =
    ap (λ e. record { epoch = e; offset = a.offset }) (sym one ∙ other) ∙ ap (λ o. record { epoch = b.epoch; offset = o }) (sym first ∙ second)

module _ (happenings : List Happening) (R : Run) (run : HasRun happenings R) (ms : List MemberState) (together : AreTogether R ms) where
  pub holder_lem : (m : MemberState) (p : Lease) → Contains ms m → Contains m.leases p → (n : MemberState) × Contains ms n × IsLeaseOf n p
  holder_lem m p has there = by_holder (together.holders told.name told.held told.live)
    where
      told : IsTold R p
      told = together.told m p has there

      by_holder : (n : MemberState) × (q : ℕ) × (at : HasMember R q n) × Contains ms n × (at.name ≡ told.name) → (n : MemberState) × Contains ms n × IsLeaseOf n p
      by_holder (n, q, at, one, named) = (
        n,
        one,
        record {
          node = told.node ∙ ap (current R.store).number (sym named) ∙ sym (part.number ∙ ap (λ e. (R.store.epochs e).number at.name) (together.up_to n one).epoch);
          promise = same_promise p.promise n.own told.held.promised told.epoch own.epoch told.offset own.offset;
          kept = λ exact. sym told.kept ∙ own.kept exact;
        },
      )
        where
          part : IsPartOf R at.name n
          part = part_lem happenings R q n run at

          own : IsOwn n n.terms.node told.held
          own = (together.has n q at one).knows told.held (ap R.store.live named ∙ told.live)

  -- no promise in the store reaches further than its member knows
  within : (own : Promise) (e promised : ℕ) (held : Promised) → held.epoch ≡ own.epoch → held.offset ≡ own.offset → IsReachedBy held e promised → offset_in e own ≤ promised
  within own e promised held epoch offset (inl older) = by_test (own.epoch == e) refl
    where
      by_test : (b : Bool) → (own.epoch == e) ≡ b → (if b then own.offset else 0) ≤ promised
      by_test true is = let same : own.epoch ≡ e = grind (arith, nat_tests, is) in absurd (omega (arith, same, epoch, older))
      by_test false is = omega arith
  within own e promised held epoch offset (inr (now, low)) = by_test (own.epoch == e)
    where
      by_test : (b : Bool) → (if b then own.offset else 0) ≤ promised
      by_test true = omega (arith, offset, low)
      by_test false = omega arith

  pub own_within : (n : MemberState) → Contains ms n → offset_in n.terms.epoch n.own ≤ n.promised
  own_within n has = within n.own n.terms.epoch n.promised lease.live.0 own.epoch own.offset reached
    where
      there : (p : ℕ) × HasMember R p n
      there = together.members n has

      lease : HasLease R there.1.name n
      lease = together.has n there.0 there.1 has

      held : Held
      held = record { session = id_of (session_now n); promised = lease.live.0 }

      own : IsOwn n n.terms.node held
      own = lease.knows held lease.live.1

      acts : (acts : List Act) × IsReached acts R.store
      acts = reached_lem happenings R run

      reached : IsReachedBy lease.live.0 n.terms.epoch n.promised
      reached = (linked_at happenings R there.0 n run there.1).knows.reached lease.live.0 ((store_keeps acts.0 R.store acts.1).fits there.1.name held lease.live.1).told

  pub other_within : (m : MemberState) (p : Lease) (bound : ℕ) → Contains ms m → Contains m.leases p → ((n : MemberState) → Contains ms n → n.promised ≤ bound) → offset_in m.terms.epoch p.promise ≤ bound
  other_within m p bound has there low =
      let (n, one, of) = holder_lem m p has there in
      let same : m.terms.epoch ≡ n.terms.epoch = (together.up_to m has).epoch ∙ sym (together.up_to n one).epoch in
      let at : offset_in m.terms.epoch p.promise ≡ offset_in n.terms.epoch n.own = ap (λ e. offset_in e p.promise) same ∙ ap (offset_in n.terms.epoch) of.promise in
      let own = own_within n one in
      let most = low n one in
      omega (arith, at, own, most)

-- Turns.

does_by : (R R' : Run) (p : ℕ) (m after : MemberState) (turns : List Turn) → IsMoment R → HasMember R p m → TakesTurns R p m turns R' after → DoesTasks m turns after
does_by R R' p m after [] moment at does = does.1
does_by R R' p m after (t ∷ turns) moment at (mid, next, goes, there, calm, turn, task, more) =
    (next, in_run_lem moment.0 R p m _ moment.1 at calm, turn, task, does_by mid R' p next after turns (goes_then R mid moment goes) there more)

pub does_lem : (happenings : List Happening) (R R' : Run) (p : ℕ) (m after : MemberState) (turns : List Turn) → HasRun happenings R → HasMember R p m → TakesTurns R p m turns R' after → DoesTasks m turns after
does_lem happenings R R' p m after turns run at does = does_by R R' p m after turns (happenings, run) at does

-- The change.

longer_is : (s : Store) (more : List Event) → (current (longer s more)).log ≡ (current s).log ++ more
longer_is s more = ap (λ b. (cond b new (current s)).log) (same_num s.epoch)
  where
    new : Epoch
    new = record (current s) { log = (current s).log ++ more; lengths = (current s).lengths ++ length ((current s).log ++ more) ∷ [] }

falls_node : (bound : ℕ) (ms : List ℕ) (i : ℕ) → IsFallingBelow bound ms → Contains ms i → (0 < i) × (i < bound)
falls_node bound [] i falls (k, low, at) = absurd (omega (arith, low))
falls_node bound (m ∷ ms) i falls (zero, low, at) = let same : m ≡ i = cc at in let some = falls.0 in let below = falls.1 in (omega (arith, same, some), omega (arith, same, below))
falls_node bound (m ∷ ms) i falls (suc k, low, at) = let (some, less) = falls_node m ms i falls.2 (k, omega (arith, low), at) in let below = falls.1 in (some, omega (arith, less, below))

pub grown_lem : (happenings : List Happening) (R R' : Run) (w : MemberState) (offset : ℕ) (silent : ℕ → Bool) (seen : ℕ → Option Held) (more : List Event) → HasRun happenings R
    → Happens R (Done (SentAppend w offset silent seen more)) R' → IsGrownBy R w more R'
grown_lem happenings R R' w offset silent seen more run (has, s', (accepts, longer_so), same) = record {
  epoch = accepts.0;
  learned = log;
  appends = writes.rebalances (current R.store).log log;
  nodes = λ i there. let (some, below) = falls_node ((replica_of w).world.setup.nodes + 1) (rebalanced_nodes w) i falls there in (some, omega (arith, below));
  now = ap (λ (x : Run). x.store.epoch) same ∙ ap (λ (s : Store). s.epoch) longer_so;
  log = ap (λ (x : Run). (current x.store).log) same ∙ ap (λ (s : Store). (current s).log) longer_so ∙ longer_is R.store more;
}
  where
    writes : Writes R.store w offset silent seen more
    writes = writes_of happenings R w offset silent seen more run has

    log : IsLogOf (replica_of w) (current R.store).log
    log = learned_all (replica_of w) (current R.store).log (offset_of w) offset
        (subst (λ e. IsLogOf (replica_of w) (take (offset_of w) (R.store.epochs e).log)) accepts.0 writes.place.rows) accepts.1 writes.asks.changes.end

    falls : IsFallingBelow ((replica_of w).world.setup.nodes + 1) (rebalanced_nodes w)
    falls = by_cases w.ending w.terms.is_cooperative
      where
        by_cases : (ending : Option Ending) (coop : Bool) → IsFallingBelow ((replica_of w).world.setup.nodes + 1) (if not (is_none_of ending) then [] else if coop then w.group else live_of w.leases)
        by_cases (Some ending) coop = tt
        by_cases None true = writes.asks.changes.foresees.falling
        by_cases None false = writes.asks.changes.foresees.live
