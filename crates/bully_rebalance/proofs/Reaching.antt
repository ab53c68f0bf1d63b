-- Where some events lead that are no plans: one event, and a whole call.
use Rattle.std.proofs.Common.{◌≡◌, ◌≢◌, ◌++◌, ◌||◌, ℕ, Bool, true, false, List, [], ◌∷◌, Some, None, refl, sym, ap, subst, ◌∙◌}
use Rattle.bully_agree.specs.Fencing.{is_plan, has_plan}
use Rattle.bully_base.specs.Setup.{Setup, IsNode}
use Rattle.bully_base.specs.declared.node.Status.TheVariants.{Down}
use Rattle.bully_calls.specs.Pending.{Pending, answer_of, outcome_of}
use Rattle.bully_calls.specs.declared.call.Answer.{Answer}
use Rattle.bully_calls.specs.declared.call.Call.{Call}
use Rattle.bully_calls.specs.declared.call.Outcome.{Outcome}
use Rattle.bully_calls.specs.declared.call.Phase.{Phase}
use Rattle.bully_calls.specs.declared.event.Event.{Event}
use Rattle.bully_handlers.specs.Handler.{reply}
use Rattle.bully_handlers.specs.Vector.{Vector, crashed, recovered}
use Rattle.bully_rebalance.specs.Rebalancing.{whole_call}
use Rattle.bully_steps.specs.NextPoint.{election, next_point, next_vector}
use Rattle.bully_steps.specs.Point.{offered}
use Rattle.bully_steps.specs.declared.point.Point.{Point}
use Rattle.bully_steps.specs.declared.point.Want.{Want}
use Rattle.bully_world.proofs.NodeInvariantLemmas.{node_state_here, node_state_other, node_of_up, step_fits, ran_here, ran_there, ran_other}
use Rattle.bully_world.specs.Lawful.{LeadTo}
use Rattle.bully_world.specs.NodeInvariant.{WorldInvariant}
use Rattle.bully_world.specs.Step.{IsUp, Returns, Step, called, ran, sent}
use Rattle.bully_world.specs.World.{NodeState, World, node_state, pending, point, vector, with_node_state}

-- one list, then another
pub lead_append : (setup : Setup) (w : World) (events : List Event) (answers : List Answer) (mid : World) (more : List Event) (others : List Answer) (w' : World)
    → LeadTo setup w events answers mid → LeadTo setup mid more others w' → LeadTo setup w (events ++ more) (answers ++ others) w'
lead_append setup w [] [] mid more others w' l k = subst (λ v. LeadTo setup v more others w') l k
lead_append setup w (e ∷ events) (a ∷ answers) mid more others w' l k = (l.0, l.1, lead_append setup l.0 events answers mid more others w' l.2 k)
lead_append setup w [] (a ∷ answers) mid more others w' l k = absurd l
lead_append setup w (e ∷ events) [] mid more others w' l k = absurd l

pub no_plan : (xs ys : List Event) → has_plan xs ≡ false → has_plan ys ≡ false → has_plan (xs ++ ys) ≡ false
no_plan [] ys p q = q
no_plan (x ∷ xs) ys p q = by_test (is_plan x) p (λ r. no_plan xs ys r q)
  where
    by_test : (b : Bool) → (b || has_plan xs) ≡ false → (has_plan xs ≡ false → has_plan (xs ++ ys) ≡ false) → (b || has_plan (xs ++ ys)) ≡ false
    by_test true p more = p
    by_test false p more = more p

-- from w these events lead to w'
pub record Reaches (setup : Setup) (w : World) (events : List Event) (w' : World) : Type 0 where
  pub answers : List Answer
  pub leads : LeadTo setup w events answers w'

pub reaches_then : (setup : Setup) (w mid w' : World) (xs ys : List Event) → Reaches setup w xs mid → Reaches setup mid ys w' → Reaches setup w (xs ++ ys) w'
reaches_then setup w mid w' xs ys a b = record { answers = a.answers ++ b.answers; leads = lead_append setup w xs a.answers mid ys b.answers w' a.leads b.leads }

pub reaches_by : (setup : Setup) (w w' : World) (e : Event) (a : Answer) → Step setup w e w' a → Reaches setup w (e ∷ []) w'
reaches_by setup w w' e a s = record { answers = a ∷ []; leads = (w', s, refl) }

-- and node i is m there, and all others are as before
pub record Turned (setup : Setup) (w : World) (events : List Event) (i : ℕ) (m : NodeState) : Type 0 where
  pub world : World
  pub way : Reaches setup w events world
  pub fits : WorldInvariant setup world
  pub here : node_state world i ≡ m
  pub others : (j : ℕ) → j ≢ i → node_state world j ≡ node_state w j

pub turned_then : (setup : Setup) (w : World) (xs ys : List Event) (i : ℕ) (m m' : NodeState) (t : Turned setup w xs i m) → Turned setup t.world ys i m' → Turned setup w (xs ++ ys) i m'
turned_then setup w xs ys i m m' t u = record {
  world = u.world;
  way = reaches_then setup w t.world u.world xs ys t.way u.way;
  fits = u.fits;
  here = u.here;
  others = λ j d. u.others j d ∙ t.others j d;
}

-- one event that writes one node
pub turned_by : (setup : Setup) (w : World) (e : Event) (a : Answer) (i : ℕ) (m : NodeState) → WorldInvariant setup w → IsNode setup i → Step setup w e (with_node_state w i m) a → Turned setup w (e ∷ []) i m
turned_by setup w e a i m all node s = record {
  world = with_node_state w i m;
  way = reaches_by setup w (with_node_state w i m) e a s;
  fits = step_fits setup w e (with_node_state w i m) a s all;
  here = node_state_here setup w i m all node;
  others = λ j d. node_state_other w i j m d;
}

pub crash_turned : (setup : Setup) (w : World) (i : ℕ) → WorldInvariant setup w → IsUp w i → Turned setup w (Event.Crash i ∷ []) i (record { vector = crashed setup (vector w i); point = Point.Idle; pending = None })
crash_turned setup w i all up = turned_by setup w (Event.Crash i) Answer.Done i _ all (node_of_up setup w i all up) (up, refl, refl)

pub recover_turned : (setup : Setup) (w : World) (i : ℕ) → WorldInvariant setup w → IsNode setup i → (vector w i).status ≡ Down
    → Turned setup w (Event.Recover i ∷ []) i (record { vector = recovered setup (vector w i); point = election i; pending = None })
recover_turned setup w i all node down =
    subst (λ c. Turned setup w (Event.Recover i ∷ []) i (record { vector = recovered setup (vector w i); point = election i; pending = c })) ((all.fits i).down_free down)
    (turned_by setup w (Event.Recover i) Answer.Done i (record (node_state w i) { vector = recovered setup (vector w i); point = election i }) all node (node, down, refl, refl))

module _ (setup : Setup) (w : World) (i : ℕ) (m : NodeState) (all : WorldInvariant setup w) (is : node_state w i ≡ m) where
  pub move_turned : m.vector.status ≢ Down → m.pending ≡ None → offered setup m.vector.coordinator m.point ≡ Want.Move → (p : Point) → next_point setup i m.vector.up m.point Outcome.Moved ≡ Some p
      → Turned setup w (Event.Move i ∷ []) i (record { vector = next_vector i m.point Outcome.Moved m.vector; point = p; pending = None })
  move_turned = subst (λ x. x.vector.status ≢ Down → x.pending ≡ None → offered setup x.vector.coordinator x.point ≡ Want.Move → (p : Point) → next_point setup i x.vector.up x.point Outcome.Moved ≡ Some p
      → Turned setup w (Event.Move i ∷ []) i (record { vector = next_vector i x.point Outcome.Moved x.vector; point = p; pending = None })) is at_place
    where
      at_place : IsUp w i → pending w i ≡ None → offered setup (vector w i).coordinator (point w i) ≡ Want.Move → (p : Point) → next_point setup i (vector w i).up (point w i) Outcome.Moved ≡ Some p
          → Turned setup w (Event.Move i ∷ []) i (record { vector = next_vector i (point w i) Outcome.Moved (vector w i); point = p; pending = None })
      at_place up free offers p next = turned_by setup w (Event.Move i) Answer.Done i _ all (node_of_up setup w i all up) (up, free, offers, (p, next, refl), refl)

  pub start_turned : m.vector.status ≢ Down → m.pending ≡ None → (call : Call) → offered setup m.vector.coordinator m.point ≡ Want.Start call
      → Turned setup w (Event.Start i ∷ []) i (record m { pending = Some (sent call m.vector) })
  start_turned = subst (λ x. x.vector.status ≢ Down → x.pending ≡ None → (call : Call) → offered setup x.vector.coordinator x.point ≡ Want.Start call → Turned setup w (Event.Start i ∷ []) i (record x { pending = Some (sent call x.vector) })) is at_place
    where
      at_place : IsUp w i → pending w i ≡ None → (call : Call) → offered setup (vector w i).coordinator (point w i) ≡ Want.Start call → Turned setup w (Event.Start i ∷ []) i (record (node_state w i) { pending = Some (sent call (vector w i)) })
      at_place up free call offers = turned_by setup w (Event.Start i) Answer.Done i _ all (node_of_up setup w i all up) (up, free, call, offers, refl, refl)

  pub lose_turned : m.vector.status ≢ Down → (c : Pending) → m.pending ≡ Some c → c.phase ≡ Phase.Sent → (vector w c.call.callee).status ≡ Down
      → Turned setup w (Event.Lose i ∷ []) i (record m { pending = Some (record c { phase = Phase.Failed }) })
  lose_turned = subst (λ x. x.vector.status ≢ Down → (c : Pending) → x.pending ≡ Some c → c.phase ≡ Phase.Sent → (vector w c.call.callee).status ≡ Down → Turned setup w (Event.Lose i ∷ []) i (record x { pending = Some (record c { phase = Phase.Failed }) })) is at_place
    where
      apart : (f : Phase) → f ≡ Phase.Sent → f ≢ Phase.Failed
      apart f e g = cc

      at_place : IsUp w i → (c : Pending) → pending w i ≡ Some c → c.phase ≡ Phase.Sent → (vector w c.call.callee).status ≡ Down → Turned setup w (Event.Lose i ∷ []) i (record (node_state w i) { pending = Some (record c { phase = Phase.Failed }) })
      at_place up c has at_start down = turned_by setup w (Event.Lose i) Answer.Done i _ all (node_of_up setup w i all up) (c, has, apart c.phase at_start, down, refl, refl)

  pub return_turned : m.vector.status ≢ Down → (c : Pending) → m.pending ≡ Some c → c.is_live ≡ true → (o : Outcome) → outcome_of c.phase ≡ Some o → (p : Point) → next_point setup i m.vector.up m.point o ≡ Some p
      → Turned setup w (Event.Return i ∷ []) i (record { vector = next_vector i m.point o m.vector; point = p; pending = None })
  return_turned = subst (λ x. x.vector.status ≢ Down → (c : Pending) → x.pending ≡ Some c → c.is_live ≡ true → (o : Outcome) → outcome_of c.phase ≡ Some o → (p : Point) → next_point setup i x.vector.up x.point o ≡ Some p
      → Turned setup w (Event.Return i ∷ []) i (record { vector = next_vector i x.point o x.vector; point = p; pending = None })) is at_place
    where
      at_place : IsUp w i → (c : Pending) → pending w i ≡ Some c → c.is_live ≡ true → (o : Outcome) → outcome_of c.phase ≡ Some o → (p : Point) → next_point setup i (vector w i).up (point w i) o ≡ Some p
          → Turned setup w (Event.Return i ∷ []) i (record { vector = next_vector i (point w i) o (vector w i); point = p; pending = None })
      at_place up c has live o tells p next =
          turned_by setup w (Event.Return i) (answer_of o) i _ all (node_of_up setup w i all up)
          (c, o, has, tells, subst (λ b. Returns setup w i b o (with_node_state w i (record { vector = next_vector i (point w i) o (vector w i); point = p; pending = None })) (answer_of o)) (sym live) ((p, next, refl), refl))

-- a whole call that fails
pub call_fails : (setup : Setup) (w : World) (i : ℕ) (m : NodeState) → WorldInvariant setup w → node_state w i ≡ m → m.vector.status ≢ Down → m.pending ≡ None → (call : Call)
    → offered setup m.vector.coordinator m.point ≡ Want.Start call → (vector w call.callee).status ≡ Down → (p : Point) → next_point setup i m.vector.up m.point Outcome.Failed ≡ Some p
    → Turned setup w (whole_call i false) i (record { vector = next_vector i m.point Outcome.Failed m.vector; point = p; pending = None })
call_fails setup w i m all is up free call offers down p next = turned_then setup w (Event.Start i ∷ Event.Lose i ∷ []) (Event.Return i ∷ []) i lost ended both returned
  where
    started : NodeState
    started = record m { pending = Some (sent call m.vector) }

    lost : NodeState
    lost = record m { pending = Some (record (sent call m.vector) { phase = Phase.Failed }) }

    ended : NodeState
    ended = record { vector = next_vector i m.point Outcome.Failed m.vector; point = p; pending = None }

    start : Turned setup w (Event.Start i ∷ []) i started
    start = start_turned setup w i m all is up free call offers

    other : call.callee ≢ i
    other e = up (ap (λ (n : NodeState). n.vector.status) (sym is) ∙ ap (λ k. (vector w k).status) (sym e) ∙ down)

    still : (vector start.world call.callee).status ≡ Down
    still = ap (λ (n : NodeState). n.vector.status) (start.others call.callee other) ∙ down

    lose : Turned setup start.world (Event.Lose i ∷ []) i lost
    lose = lose_turned setup start.world i started start.fits start.here up (sent call m.vector) refl refl still

    both : Turned setup w (Event.Start i ∷ Event.Lose i ∷ []) i lost
    both = turned_then setup w (Event.Start i ∷ []) (Event.Lose i ∷ []) i started lost start lose

    returned : Turned setup both.world (Event.Return i ∷ []) i ended
    returned = return_turned setup both.world i lost both.fits both.here up (record (sent call m.vector) { phase = Phase.Failed }) refl refl Outcome.Failed refl p next

-- these events lead to a world where node i is m, and node j is m', and all others are as before
pub record Called (setup : Setup) (w : World) (events : List Event) (i j : ℕ) (m m' : NodeState) : Type 0 where
  pub world : World
  pub way : Reaches setup w events world
  pub fits : WorldInvariant setup world
  pub here : node_state world i ≡ m
  pub there : node_state world j ≡ m'
  pub others : (k : ℕ) → k ≢ i → k ≢ j → node_state world k ≡ node_state w k

run_at : (setup : Setup) (w : World) (i : ℕ) (m : NodeState) → WorldInvariant setup w → node_state w i ≡ m → (c : Pending) → m.pending ≡ Some c → c.phase ≡ Phase.Sent → (vector w c.call.callee).status ≢ Down
    → Called setup w (Event.Run i ∷ []) i c.call.callee (record m { pending = Some (record c { phase = Phase.Ran (reply c.call.kind (vector w c.call.callee)) }) }) (called i c (node_state w c.call.callee))
run_at setup w i m all is = subst (λ x. (c : Pending) → x.pending ≡ Some c → c.phase ≡ Phase.Sent → (vector w c.call.callee).status ≢ Down
    → Called setup w (Event.Run i ∷ []) i c.call.callee (record x { pending = Some (record c { phase = Phase.Ran (reply c.call.kind (vector w c.call.callee)) }) }) (called i c (node_state w c.call.callee))) is at_place
  where
    at_place : (c : Pending) → pending w i ≡ Some c → c.phase ≡ Phase.Sent → IsUp w c.call.callee
        → Called setup w (Event.Run i ∷ []) i c.call.callee (record (node_state w i) { pending = Some (record c { phase = Phase.Ran (reply c.call.kind (vector w c.call.callee)) }) }) (called i c (node_state w c.call.callee))
    at_place c has at_start there = record {
      world = ran w i c;
      way = reaches_by setup w (ran w i c) (Event.Run i) (reply c.call.kind (vector w c.call.callee)) (c, has, at_start, there, refl, refl);
      fits = step_fits setup w (Event.Run i) (ran w i c) (reply c.call.kind (vector w c.call.callee)) (c, has, at_start, there, refl, refl) all;
      here = ran_here setup w i c all has there;
      there = ran_there setup w i c all has there;
      others = ran_other setup w i c all has there;
    }

-- a whole call that is answered Yes
pub call_runs : (setup : Setup) (w : World) (i : ℕ) (m : NodeState) → WorldInvariant setup w → node_state w i ≡ m → m.vector.status ≢ Down → m.pending ≡ None → (call : Call)
    → offered setup m.vector.coordinator m.point ≡ Want.Start call → call.callee ≢ i → (vector w call.callee).status ≢ Down → ((v : Vector) → reply call.kind v ≡ Answer.Yes)
    → (p : Point) → next_point setup i m.vector.up m.point Outcome.Yes ≡ Some p
    → Called setup w (whole_call i true) i call.callee (record { vector = next_vector i m.point Outcome.Yes m.vector; point = p; pending = None }) (called i (sent call m.vector) (node_state w call.callee))
call_runs setup w i m all is up free call offers other there said p next = record {
  world = returned.world;
  way = reaches_then setup w run.world returned.world (Event.Start i ∷ Event.Run i ∷ []) (Event.Return i ∷ []) (reaches_then setup w start.world run.world (Event.Start i ∷ []) (Event.Run i ∷ []) start.way run.way) returned.way;
  fits = returned.fits;
  here = returned.here;
  there = returned.others call.callee other ∙ run.there ∙ ap (called i (sent call m.vector)) (start.others call.callee other);
  others = λ k d e. returned.others k d ∙ run.others k d e ∙ start.others k d;
}
  where
    started : NodeState
    started = record m { pending = Some (sent call m.vector) }

    start : Turned setup w (Event.Start i ∷ []) i started
    start = start_turned setup w i m all is up free call offers

    answered : NodeState
    answered = record m { pending = Some (record (sent call m.vector) { phase = Phase.Ran (reply call.kind (vector start.world call.callee)) }) }

    still : (vector start.world call.callee).status ≢ Down
    still e = there (ap (λ (n : NodeState). n.vector.status) (sym (start.others call.callee other)) ∙ e)

    run : Called setup start.world (Event.Run i ∷ []) i call.callee answered (called i (sent call m.vector) (node_state start.world call.callee))
    run = run_at setup start.world i started start.fits start.here (sent call m.vector) refl refl still

    returned : Turned setup run.world (Event.Return i ∷ []) i (record { vector = next_vector i m.point Outcome.Yes m.vector; point = p; pending = None })
    returned = return_turned setup run.world i answered run.fits run.here up (record (sent call m.vector) { phase = Phase.Ran (reply call.kind (vector start.world call.callee)) }) refl refl Outcome.Yes
        (ap (λ a. outcome_of (Phase.Ran a)) (said (vector start.world call.callee))) p next
