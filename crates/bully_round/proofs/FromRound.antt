-- A round of a run is a round.
use Rattle.std.proofs.Common.{◌≡◌, ◌≤◌, ◌<◌, ◌+◌, ◌*◌, ◌^◌, ◌↔◌, ◌++◌, ◌∷◌, [], if◌then◌else◌, ℕ, zero, suc, Bool, true, false, List, Contains, length, map, arith, refl, sym, ap, subst, ◌∙◌}
use Rattle.bully_base.proofs.NodeSetLemmas.{Contains-from}
use Rattle.bully_base.specs.Setup.{IsNode, Setup}
use Rattle.bully_calls.specs.declared.event.Event.{Event}
use Rattle.bully_member.specs.Activities.{any_stopping, busy, busy_from, works_at}
use Rattle.bully_member.specs.Member.{Foresees, MemberState, SeesAhead, SeesStable, replica_of}
use Rattle.bully_member.specs.Rebalance.{rebalanced_nodes}
use Rattle.bully_member.specs.Told.{to_snapshot}
use Rattle.bully_member.specs.declared.opening.Terms.{Terms}
use Rattle.bully_member.specs.declared.values.Activity.{Activity}
use Rattle.bully_rebalance.proofs.Preparing.{has_is_member}
use Rattle.bully_replica.specs.Replica.{IsLogOf}
use Rattle.bully_round.proofs.CalledLemmas.{one_process}
use Rattle.bully_round.proofs.FromLemmas.{IsMoment, does_lem, goes_then, grown_lem, happens_then, holder_lem, in_run_lem, log_lem, moment_then, other_within, own_within, setup_lem, view_lem}
use Rattle.bully_round.proofs.MapLemmas.{has_mapped, mapped_has}
use Rattle.bully_round.proofs.KeptLemmas.{tasks_place}
use Rattle.bully_round.proofs.RoundLemmas.{ends_stable_lem, turns_lem, works_in_round}
use Rattle.bully_round.specs.From.{AreReady, GoesThrough, HasLease, HasMember, IsDoneBy, IsGrownBy, IsRoundFrom, last_in}
use Rattle.bully_round.specs.Group.{Appends, HasLearnedOf, HaveOneView, IsAtRest, IsRound, Passage, Passes, all_turns, ready_in, table_of}
use Rattle.bully_round.specs.Progress.{DoesTasks, to_do_seen, unless}
use Rattle.bully_run.proofs.FrameLemmas.{id_by, ids_apart}
use Rattle.bully_run.proofs.RunLemmas.{linked_of, process_is, works_lem}
use Rattle.bully_run.specs.Calls.{session_now}
use Rattle.bully_run.specs.Run.{Done, Happening, HasRun, Process, Run, SentAppend, WorksNow, id_of, session_by}
use Rattle.bully_work.proofs.StoreLemmas.{one_lease}
use Rattle.bully_work.specs.Store.{Lease as Held, Piece, current}
use Rattle.bully_work.specs.Working.{GivesTo}

fresh_of : (b : Bool) (k n : ℕ) → k + (if b then 3 else n) ≡ 0 → b ≡ false
fresh_of true k n none = absurd (omega (arith, none))
fresh_of false k n none = refl

module _ (happenings : List Happening) (R : Run) (ms : List MemberState) (run : HasRun happenings R) (ready : AreReady R ms) where
  at_rest : (m : MemberState) → Contains ms m → (now : ℕ) × IsAtRest m now false
  at_rest m has = let (p, at) = ready.together.members m has in let (now, rest) = ready.rest m has in (now, in_run_lem happenings R p m (IsAtRest m now false) run at rest)

  pub ready_foresees : (m : MemberState) → Contains ms m → Foresees m
  ready_foresees m has =
      let (now, rest) = at_rest m has in
      subst (λ b. SeesAhead b (replica_of m) m.terms m.leases m.has_request m.group m.coming m.affected) (fresh_of m.needs_snapshot (unless rest.sight.may_go_on) (to_do_seen m rest.sight) rest.none) (ready.ahead m has)

  -- all have one view
  pub ready_view : HaveOneView ms
  ready_view = record {
    rest = at_rest;
    old = ready.old;
    alike = λ m n one other.
        let (p, at) = ready.together.members m one in
        let (q, there) = ready.together.members n other in
        view_lem happenings R p q m n run at there (ready.together.up_to m one) (ready.together.up_to n other) (ready.alike m n one other) (ready_foresees m one) (ready_foresees n other);
    leases = λ m p has there. holder_lem happenings R run ms ready.together m p has there;
    known = ready.known;
  }

pub view_of_ready : (happenings : List Happening) (R : Run) (ms : List MemberState) → HasRun happenings R → AreReady R ms → HaveOneView ms
view_of_ready happenings R ms run ready = ready_view happenings R ms run ready

module _ (start last : Run) (xs : List Passage) (w : MemberState) (more : List Event) (is : IsRoundFrom start xs w more last) where
  abbrev log : List Event
  log = (current is.ready.store).log

  at_start : IsMoment start
  at_start = (is.happenings, is.run)

  at_ready : IsMoment is.ready
  at_ready = goes_then start is.ready at_start is.gets_ready

  at_change : IsMoment is.appended.before
  at_change = goes_then is.ready is.appended.before at_ready is.appended.comes

  pub at_last : IsMoment last
  at_last = goes_then is.appended.behind last
      (happens_then is.appended.before is.appended.behind (Done (SentAppend w is.appended.offset is.appended.silent is.appended.seen more)) at_change is.appended.done) is.appended.goes

  grown : IsGrownBy is.appended.before w more is.appended.behind
  grown = grown_lem at_change.0 is.appended.before is.appended.behind w is.appended.offset is.appended.silent is.appended.seen more at_change.1 is.appended.done

  same_log : (current is.appended.before.store).log ≡ log
  same_log = is.appended.unchanged.log

  pub log_then : (current last.store).log ≡ log ++ more
  log_then = is.appended.still.log ∙ grown.log ∙ ap (λ (l : List Event). l ++ more) same_log

  module _ (x : Passage) (has : Contains xs x) where
    through : (p : ℕ) × GoesThrough start is.ready last p x
    through = is.passes x has

    one : Contains (map ready_in xs) x.ready
    one = mapped_has ready_in xs x has

    one_last : Contains (map last_in xs) x.last
    one_last = mapped_has last_in xs x has

    done : IsDoneBy w log x.last
    done = is.done x has

    at_done : IsMoment through.1.done
    at_done = moment_then start through.1.done through.0 x.start x.promised x.first at_start through.1.promises

    at_woken : IsMoment through.1.woken
    at_woken = goes_then through.1.done through.1.woken at_done through.1.wakes

    at_again : IsMoment through.1.again
    at_again = goes_then is.ready through.1.again at_ready through.1.wakes_again

    third : DoesTasks (to_snapshot x.ready) x.third x.last
    third = does_lem at_again.0 through.1.again last through.0 (to_snapshot x.ready) x.last x.third at_again.1 through.1.looks_then through.1.goes_on

    writer_setup : (replica_of w).world.setup ≡ (current is.ready.store).setup
    writer_setup = let (p, at) = is.are_ready.together.members w is.writer in setup_lem at_ready.0 is.ready p w at_ready.1 at (is.are_ready.together.up_to w is.writer)

    setup : (replica_of x.last).world.setup ≡ (replica_of w).world.setup
    setup = ap (λ (y : Terms × Setup). y.1) (tasks_place (to_snapshot x.ready) x.last x.third third)
        ∙ setup_lem at_ready.0 is.ready through.0 x.ready at_ready.1 through.1.is_ready (is.are_ready.together.up_to x.ready one) ∙ sym writer_setup

    among : Contains (rebalanced_nodes w) x.last.terms.node
    among = subst (λ (ks : List ℕ). Contains ks x.last.terms.node) done.same (Contains-from x.last.group x.last.terms.node (has_is_member x.last.group x.last.terms.node done.admitted))

    learned : HasLearnedOf w log more x.last
    learned = record {
      setup = setup;
      learned = subst (IsLogOf (replica_of x.last)) log_then (log_lem at_last.0 last through.0 x.last at_last.1 through.1.lasts (is.are_done.up_to x.last one_last));
      same = done.same;
      node = subst (λ (s : Setup). IsNode s x.last.terms.node) (sym setup) (grown.nodes x.last.terms.node among);
      among = among;
      promised = done.promised;
      own = let low = own_within at_last.0 last at_last.1 (map last_in xs) is.are_done x.last one_last in let most = done.promised in omega (arith, low, most);
      others = λ p there. other_within at_last.0 last at_last.1 (map last_in xs) is.are_done x.last p (length log) one_last there
          (λ n at. let (y, own, same) = has_mapped last_in xs n at in subst (λ (m : MemberState). m.promised ≤ length log) (sym same) (is.done y own).promised);
      goes_on = done.goes_on;
    }

    passes : Passes w log more x
    passes = record {
      promises = does_lem is.happenings start through.1.done through.0 x.start x.promised x.first is.run through.1.starts through.1.promises;
      looks = does_lem at_woken.0 through.1.woken is.ready through.0 (to_snapshot x.promised) x.ready x.second at_woken.1 through.1.looks_again through.1.looks;
      goes_on = third;
      learned = learned;
      now = done.now;
      sight = done.sight;
      calm = in_run_lem at_last.0 last through.0 x.last _ at_last.1 through.1.lasts done.calm;
      sees = done.sees;
      none = done.none;
    }

  pub is_round : IsRound xs w log more
  is_round = record {
    view = ready_view at_ready.0 is.ready (map ready_in xs) at_ready.1 is.are_ready;
    writer = is.writer;
    appends = subst (λ (l : List Event). Appends w l more) same_log grown.appends;
    passes = passes;
    all = is.all;
  }

pub round_lem : (start last : Run) (xs : List Passage) (w : MemberState) (more : List Event) → (is : IsRoundFrom start xs w more last) → IsRound xs w (current is.ready.store).log more
round_lem start last xs w more is = is_round start last xs w more is

pub longer_lem : (start last : Run) (xs : List Passage) (w : MemberState) (more : List Event) → (is : IsRoundFrom start xs w more last) → (current last.store).log ≡ (current is.ready.store).log ++ more
longer_lem start last xs w more is = log_then start last xs w more is

pub turns_from_lem : (start last : Run) (xs : List Passage) (w : MemberState) (more : List Event) → IsRoundFrom start xs w more last → all_turns xs ≤ 12 * length xs
turns_from_lem start last xs w more is = turns_lem xs w (current is.ready.store).log more (round_lem start last xs w more is)

pub stable_from_lem : (start last : Run) (xs : List Passage) (w : MemberState) (more : List Event) (x : Passage) → IsRoundFrom start xs w more last → Contains xs x → SeesStable x.last
stable_from_lem start last xs w more x is has = ends_stable_lem xs w (current is.ready.store).log more x (round_lem start last xs w more is) has

pub own_from_lem : (start last : Run) (xs : List Passage) (w : MemberState) (more : List Event) (x : Passage) (k : ℕ) → IsRoundFrom start xs w more last → Contains xs x → works_at x.last.works k ≡ true ↔ GivesTo (table_of w) k x.last.terms.node
own_from_lem start last xs w more x k is has = works_in_round xs w (current is.ready.store).log more x k (round_lem start last xs w more is) has

-- Nobody else works.

working_at : (works : List Activity) (from k : ℕ) → any_stopping works ≡ false → Contains (busy_from from works) k → (d : ℕ) × (k ≡ from + d) × (works_at works d ≡ true)
working_at [] from k free (i, low, at) = absurd (omega (arith, low))
working_at (Activity.Idle ∷ works) from k free has = let (d, is, at) = working_at works (suc from) k free has in (suc d, omega (arith, is), at)
working_at (Activity.Working ∷ works) from k free (zero, low, at) = let same : from ≡ k = cc at in (0, omega (arith, same), refl)
working_at (Activity.Working ∷ works) from k free (suc i, low, at) = let (d, is, there) = working_at works (suc from) k free (i, omega (arith, low), at) in (suc d, omega (arith, is), there)
working_at (Activity.Stopping ∷ works) from k free has = absurd (cc free)

all_working : (works : List Activity) (k : ℕ) → any_stopping works ≡ false → Contains (busy works) k → works_at works k ≡ true
all_working works k free has = let (d, is, at) = working_at works 0 k free has in let same : d ≡ k = omega (arith, is) in subst (λ i. works_at works i ≡ true) same at

pub only_lem : (start last : Run) (xs : List Passage) (w : MemberState) (more : List Event) (p : ℕ) (y : Piece) → IsRoundFrom start xs w more last → WorksNow last p y
    → (x : Passage) × Contains xs x × HasMember last p x.last × GivesTo (table_of w) y.partition x.last.terms.node
only_lem start last xs w more p y is works = by_holder (is.are_done.holders works.process.name here works.works.live.1)
  where
    here : Held
    here = record { session = id_of (session_by p works.number); promised = works.works.live.0 }

    moment : IsMoment last
    moment = at_last start last xs w more is

    by_holder : (m : MemberState) × (r : ℕ) × (at : HasMember last r m) × Contains (map last_in xs) m × (at.name ≡ works.process.name)
        → (x : Passage) × Contains xs x × HasMember last p x.last × GivesTo (table_of w) y.partition x.last.terms.node
    by_holder (m, r, at, has, named) = by_passage (has_mapped last_in xs m has)
      where
        lease : HasLease last at.name m
        lease = is.are_done.has m r at has

        process : m.process ≡ r
        process = process_is moment.0 last r (record { name = at.name; member = m }) moment.1 at.there

        same : id_by p works.number ≡ id_by m.process m.tries
        same = ap (λ (x : Held). x.session) (one_lease here (record { session = id_of (session_now m); promised = lease.live.0 }) works.works.live.1 (ap last.store.live (sym named) ∙ lease.live.1))

        low : works.number < 2 ^ 64
        low = let top = (linked_of moment.0 last p works.process moment.1 works.started).holds.tops in let asked = works.asked in omega (arith, top, asked)

        high : m.tries < 2 ^ 64
        high = let top = (linked_of moment.0 last r (record { name = at.name; member = m }) moment.1 at.there).holds.tops in omega (arith, top)

        itself : p ≡ r
        itself = (ids_apart p m.process works.number m.tries low high same).0 ∙ process

        own : HasMember last p m
        own = subst (λ q. HasMember last q m) (sym itself) at

        member : works.process.member ≡ m
        member = ap (λ (q : Process). q.member) (one_process (last.processes p) works.process (record { name = own.name; member = m }) works.started own.there)

        busy_there : Contains (busy m.works) y.partition
        busy_there = subst (λ (n : MemberState). Contains (busy n.works) y.partition) member (works_lem moment.0 last p works.number works.process y moment.1 works.started works.asked works.works.work)

        by_passage : (x : Passage) × Contains xs x × (m ≡ x.last) → (x : Passage) × Contains xs x × HasMember last p x.last × GivesTo (table_of w) y.partition x.last.terms.node
        by_passage (x, one, is_last) = (
          x,
          one,
          subst (HasMember last p) is_last own,
          (own_from_lem start last xs w more x y.partition is one).0 (all_working x.last.works y.partition free (subst (λ (n : MemberState). Contains (busy n.works) y.partition) is_last busy_there)),
        )
          where
            free : any_stopping x.last.works ≡ false
            free = ((round_lem start last xs w more is).passes x one).calm.free
