-- There is a whole round: two members stop, read a snapshot, promise, and look again. The higher one appends a rebalance of
-- the empty log. Both read its rows, and the one to whose node the table gives the partition begins to work.
use Rattle.std.proofs.Common.{◌≡◌, ◌||◌, ◌∷◌, [], not, if◌then◌else◌, ℕ, Bool, true, false, List, Some, None, Ok, Contains, length, arith, refl, sym, ap, ◌∙◌}
use Rattle.bully_base.specs.NodeSet.{with_node}
use Rattle.bully_base.specs.Setup.{IsNode}
use Rattle.bully_calls.specs.declared.event.Event.{Event}
use Rattle.bully_handlers.specs.Vector.{is_down}
use Rattle.bully_member.specs.Due.{noted, stable_step, token_now}
use Rattle.bully_member.specs.Keeping.{MayWork}
use Rattle.bully_member.specs.Learned.{after_learning, ending_behind}
use Rattle.bully_member.specs.Member.{MemberState, admitted_among, is_under_way, replica_of}
use Rattle.bully_member.specs.Told.{found, to_snapshot, with_arrivals, with_own}
use Rattle.bully_member.specs.declared.values.Activity.{Activity}
use Rattle.bully_member.specs.declared.values.Request.{Request}
use Rattle.bully_member.specs.declared.values.Step.{Step}
use Rattle.bully_rebalance.specs.Rebalancing.{Rebalances}
use Rattle.bully_replica.specs.Replica.{IsLogOf}
use Rattle.bully_round.proofs.RoundLemmas.{stable_for}
use Rattle.bully_round.proofs.SomePassage.{first_turns, looks_lem, nodes, promised, promises_lem, second_turns, sees_free, starting}
use Rattle.bully_round.proofs.SomeRound.{all_rows, appends, calm, events, gives, has, log_of, n, node_of, none, reading, replica, sees, sees_idle, sight, stable, token, token_is, within}
use Rattle.bully_round.proofs.SomeRows.{follows_log, written}
use Rattle.bully_round.proofs.SomeTurns.{free_sight, header, idle, learned, of_two, session, setup, turn}
use Rattle.bully_round.proofs.SomeView.{all_leases, both_live, one, view}
use Rattle.bully_round.proofs.TurnLemmas.{same_num}
use Rattle.bully_round.specs.Group.{IsRound, Passage, Passes}
use Rattle.bully_round.specs.Progress.{DoesTasks, IsCalm, TakesTurn, Turn}
use Rattle.bully_run.proofs.CallLemmas.{nothing_learned}
use Rattle.bully_world.specs.Cause.{is_down_at}
use Rattle.bully_world.specs.State.{world_of}

-- which nodes are admitted, by whether these are Down, and a change is under way
abbrev admitted_if : (one_down two_down under_way : Bool) → List ℕ
admitted_if one_down two_down under_way =
    let low = if not one_down || false || under_way then with_node 1 [] else [] in if not two_down || false || under_way then with_node 2 low else low

-- It reads a snapshot, and then it begins to work by this token, or doesn't.
abbrev third_turns : (works : Bool) → (token : ℕ) → List Turn
third_turns works token = turn (Step.Ask Request.Snapshot) ∷ (if works then turn (Step.Begin token) ∷ [] else [])

module _ (more : List Event) (rebalances : Rebalances setup [] None nodes more) where
  -- no node is Down any more
  up : (i : ℕ) → Contains nodes i → is_down_at (world_of (replica more rebalances).world) i ≡ false
  up i among = let is = node_of i among in ap is_down (((stable more rebalances i is among false).nodes i is).normal among)

  module _ (node : ℕ) where
    abbrev woken : MemberState
    woken = to_snapshot (one node)

    abbrev asking : MemberState
    asking = noted woken 1 false (Step.Ask Request.Snapshot)

    -- the member, once it has learned the rows; and once a snapshot showed it these nodes
    abbrev behind : MemberState
    behind = reading more rebalances node

    abbrev shown : List ℕ → MemberState
    shown group = with_own (found (with_arrivals behind 1 all_leases) 1 all_leases false false group None nodes)

    learns : behind ≡ after_learning asking (all_rows more rebalances) (Ok tt)
    learns = ap (λ same. record asking { learned = all_rows more rebalances; ending = ending_behind None (not same); needs_snapshot = true }) (sym (same_num (length more)))

    admits : admitted_among (with_arrivals behind 1 all_leases) 1 all_leases ≡ nodes
    admits =
        ap (λ down. admitted_if down (is_down_at (world_of (replica more rebalances).world) 2) under_way) (up 1 (1, omega arith, refl))
        ∙ ap (λ down. admitted_if false down under_way) (up 2 (0, omega arith, refl))
      where
        under_way : Bool
        under_way = is_under_way (with_arrivals behind 1 all_leases) all_leases

    calm_woken : IsCalm woken 1
    calm_woken = record { session = session node; since = 0; live = refl; early = refl; going = refl; within = refl; answered = refl; rested = refl; free = refl; quiet = refl; learned = learned; sized = λ p is. absurd (cc is) }

  is_shown : (node : ℕ) → Contains nodes node → n more rebalances node false ≡ shown node nodes
  is_shown = of_two (λ i. n more rebalances i false ≡ shown i nodes) 2 1 refl refl

  module _ (node : ℕ) (among : Contains nodes node) where
    abbrev is : IsNode setup node
    is = node_of node among

    -- whether the table gives it the partition
    abbrev given : Bool
    given = gives more rebalances node is among

    -- the member after the change, before or after it begins
    abbrev later : (works : Bool) → MemberState
    later works = n more rebalances node works

    looks : TakesTurn (woken node) 1 1 (Step.Ask Request.Snapshot) (later false)
    looks = record {
      mid = asking node;
      goes = record { sight = free_sight; sees = sees_free (woken node) refl refl; due = refl; noted = refl; keeps = tt; awaits = refl; stops = λ k busy. absurd (idle k busy) };
      reported = record {
        records = written more;
        taken = Ok tt;
        behind = behind node;
        learns = record { left = []; follows = follows_log (replica more rebalances) more (log_of more rebalances) within (λ one. refl); rest = learns node };
        leases = all_leases;
        has_unknown = false;
        has_request = false;
        reads = is_shown node among ∙ ap (shown node) (sym (admits node));
        foresees = record { falling = (omega arith, omega arith, (omega arith, omega arith, tt)); live = (omega arith, omega arith, (omega arith, omega arith, tt)); comes = refl; affects = both_live };
      };
    }

    may_work : MayWork (later false) 1
    may_work = record { live = refl; going = refl; within = refl }

    begins : given ≡ true → TakesTurn (later false) 1 1 (Step.Begin (token more rebalances)) (later true)
    begins owns = record {
      mid = later true;
      goes = record {
        sight = sight false;
        sees = sees_idle more rebalances node is among owns;
        due = sym (ap (stable_step (later false) 1 false) owner);
        noted = ap (λ left. record (later false) { works = (if left then Activity.Working else Activity.Idle) ∷ []; token = token more rebalances; is_exact = false; is_asked_exact = false }) (sym owns);
        keeps = record { free = refl; may = may_work; is_stable = stable_for (one 2) (later false) [] more rebalances (has more rebalances node is among false); owner = owner };
        awaits = refl;
        stops = λ k works. may_work;
      };
      reported = refl;
    }
      where
        owner : token_now (later false) ≡ Some (token more rebalances)
        owner = token_is more rebalances node is among false owns

    goes_on : (works : Bool) → given ≡ works → DoesTasks (woken node) (third_turns works (token more rebalances)) (later works)
    goes_on false owns = (later false, calm_woken node, looks, refl, refl)
    goes_on true owns = (later false, calm_woken node, looks, refl, (later true, calm more rebalances node is among false, begins owns, refl, refl))

    abbrev passage : Passage
    passage = record {
      start = starting node;
      first = first_turns node;
      promised = promised node;
      second = second_turns;
      ready = one node;
      third = third_turns given (token more rebalances);
      last = later given;
    }

    passes : Passes (one 2) [] more passage
    passes = record {
      promises = promises_lem node among;
      looks = looks_lem node among;
      goes_on = goes_on given refl;
      learned = has more rebalances node is among given;
      now = 1;
      sight = sight true;
      calm = calm more rebalances node is among given;
      sees = sees more rebalances node is among given refl;
      none = none more rebalances node is among given refl;
    }

abbrev lower : Passage
lower = passage events appends 1 (1, omega arith, refl)

abbrev higher : Passage
higher = passage events appends 2 (0, omega arith, refl)

abbrev both_pass : List Passage
both_pass = lower ∷ higher ∷ []

round : IsRound both_pass (one 2) [] events
round = record {
  view = view;
  writer = (1, omega arith, refl);
  appends = appends;
  passes = of_two (Passes (one 2) [] events) lower higher (passes events appends 1 (1, omega arith, refl)) (passes events appends 2 (0, omega arith, refl));
  all = of_two (λ i. (x : Passage) × Contains both_pass x × (x.last.terms.node ≡ i)) 2 1 (higher, (1, omega arith, refl), refl) (lower, (0, omega arith, refl), refl);
}

pub some_whole_lem : (xs : List Passage) × (w : MemberState) × (log more : List Event) × IsRound xs w log more × IsLogOf (replica_of w) log × (length xs ≡ 2)
some_whole_lem = (both_pass, one 2, [], events, round, (nothing_learned header).log, refl)
