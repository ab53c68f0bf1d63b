-- Whatever a lawful log leads to, there are events that make the group stable among nodes that are live.
use Rattle.std.proofs.Common.{◌≡◌, ◌≢◌, ◌<◌, ◌≤◌, ◌+◌, ◌*◌, ◌-◌, ◌++◌, ◌⊎◌, inl, inr, ℕ, zero, suc, Bool, true, false, List, [], ◌∷◌, Option, Some, None, IfSome, Contains, length, length-append, append_assoc, arith, refl, sym, ap, subst, ◌∙◌}
use Rattle.std.proofs.lemmas.Option.{slice_get_within, get_or_from_slice_get}
use Rattle.bully_agree.specs.Fencing.{has_plan}
use Rattle.bully_base.proofs.NodeSetLemmas.{Contains-from, Has, Has-from, IsFallingBelow-more, with_node-falling, with_node-members, with_node-top}
use Rattle.bully_base.specs.NodeSet.{IsFallingBelow, highest_of, with_node}
use Rattle.bully_base.specs.Setup.{IsNode, IsSetup, Setup}
use Rattle.bully_base.specs.declared.TheConstants.{NODES_MAX}
use Rattle.bully_base.specs.declared.node.Status.TheVariants.{Down, Normal, Reorganization}
use Rattle.bully_calls.specs.declared.call.Answer.{Answer}
use Rattle.bully_calls.specs.declared.event.Event.{Event}
use Rattle.bully_handlers.specs.Vector.{Vector}
use Rattle.bully_rebalance.proofs.Crashing.{HaveCrashed, all_down, crashes}
use Rattle.bully_rebalance.proofs.Electing.{IsToldBy, stands}
use Rattle.bully_rebalance.proofs.Gathering.{Gathers, gathering, gathers, has_positive, is_vector}
use Rattle.bully_rebalance.proofs.Preparing.{ArePrepared, has_is_member, has_or_not, no_member, prepares}
use Rattle.bully_rebalance.proofs.Reaching.{Reaches, Turned, lead_append, move_turned, no_plan, reaches_by, reaches_then}
use Rattle.bully_rebalance.proofs.SizeLemmas.{rebalancing_few}
use Rattle.bully_rebalance.proofs.Telling.{IsLed, Tells, has_below, readies}
use Rattle.bully_rebalance.specs.Stable.{AllStable, OwnersAreLive, IsStableIn}
use Rattle.bully_rebalance.specs.Rebalancing.{PlansAnew, Rebalances, calling, crashing, halting, preparing, repeated, rebalancing, whole_call}
use Rattle.bully_steps.specs.ProcedureState.{IsPlannedOver}
use Rattle.bully_steps.specs.declared.point.Point.{Point}
use Rattle.bully_steps.proofs.PlanLemmas.{node_and_up}
use Rattle.bully_table.proofs.PlannedLemmas.{Plannable, covers-from, plannable-from, planned-balanced, planned-covers, planned-fewest, weighs-from}
use Rattle.bully_table.specs.Planning.{IsFewest, owners_before, planned, quota}
use Rattle.bully_world.proofs.NodeInvariantLemmas.{lawful_fits, node_state_here, node_state_other, step_fits}
use Rattle.bully_world.specs.Lawful.{IsLawful, LeadTo}
use Rattle.bully_world.specs.NodeInvariant.{WorldInvariant}
use Rattle.bully_world.specs.Step.{Step}
use Rattle.bully_world.specs.World.{NodeState, World, first_world, node_state, pending, point, vector, with_node_state}

-- the plan of a node that is at Planning
pub record Plans (setup : Setup) (w : World) (i : ℕ) (table : List ℕ) (m : NodeState) : Type 0 where
  pub world : World
  pub step : Step setup w (Event.Plan i table) world Answer.Done
  pub fits : WorldInvariant setup world
  pub here : node_state world i ≡ m
  pub others : (j : ℕ) → j ≢ i → node_state world j ≡ node_state w j

plans : (setup : Setup) (w : World) (i : ℕ) (table : List ℕ) (m : NodeState) → WorldInvariant setup w → IsNode setup i → node_state w i ≡ m → m.point ≡ Point.Planning → m.pending ≡ None
    → IsPlannedOver setup i m.vector.up table → Plans setup w i table (record { vector = record m.vector { task = Some table }; point = Point.Readying m.vector.up; pending = None })
plans setup w i table m all node is = subst (λ x. x.point ≡ Point.Planning → x.pending ≡ None → IsPlannedOver setup i x.vector.up table
    → Plans setup w i table (record { vector = record x.vector { task = Some table }; point = Point.Readying x.vector.up; pending = None })) is at_place
  where
    at_place : point w i ≡ Point.Planning → pending w i ≡ None → IsPlannedOver setup i (vector w i).up table
        → Plans setup w i table (record { vector = record (vector w i) { task = Some table }; point = Point.Readying (vector w i).up; pending = None })
    at_place at free over = record {
      world = with_node_state w i (record { vector = record (vector w i) { task = Some table }; point = Point.Readying (vector w i).up; pending = None });
      step = (at, free, over.partitions, over.balanced, refl, refl);
      fits = step_fits setup w (Event.Plan i table) _ Answer.Done (at, free, over.partitions, over.balanced, refl, refl) all;
      here = node_state_here setup w i _ all node;
      others = λ j d. node_state_other w i j _ d;
    }

-- behind the plan it tells all that have joined it, and is Normal then
pub record Serves (setup : Setup) (w : World) (h : ℕ) (up : List ℕ) : Type 0 where
  pub world : World
  pub way : Reaches setup w (calling h (length up) true) world
  pub leader : IsLed h (vector world h)
  pub led : (j : ℕ) → Has up j → IsLed h (vector world j)
  pub others : (j : ℕ) → j ≢ h → (Has up j → ⊥) → node_state world j ≡ node_state w j

module _ (setup : Setup) (h : ℕ) (w : World) (events : List ℕ → List Event) (node : IsNode setup h) (g : Gathers setup w events h) (table : List ℕ) (over : IsPlannedOver setup h g.now.up table) where
  abbrev serving : Vector
  serving = record g.now { task = Some table }

  pub plan : Plans setup g.world h table (stands serving (Point.Readying g.now.up))
  plan = plans setup g.world h table (stands g.now Point.Planning) g.fits node g.here refl refl over

  other : (j : ℕ) → Has g.now.up j → j ≢ h
  other j has e = absurd (let l = has_below g.now.up h j g.falls has in omega (arith, l, e))

  up_is : (v : Vector) → v.status ≡ Reorganization → v.status ≢ Down
  up_is v is e = absurd (cc)

  tells : Tells setup plan.world (repeated (length g.now.up) (whole_call h true)) h (stands serving (Point.Readying [])) g.now.up (IsLed h)
  tells = readies setup h serving (up_is serving g.status) g.now.up g.falls plan.world plan.fits plan.here
      (λ j has. let same = is_vector plan.world g.world j j (plan.others j (other j has)) in
      (ap (λ (x : Vector). x.status) same ∙ (g.joined j has).0, ap (λ (x : Vector). x.coordinator) same ∙ (g.joined j has).1))

  ended : Turned setup tells.world (Event.Move h ∷ []) h (stands (record serving { status = Normal }) Point.Idle)
  ended = move_turned setup tells.world h (stands serving (Point.Readying [])) tells.fits tells.here (up_is serving g.status) refl refl Point.Idle refl

  pub serves : Serves setup plan.world h g.now.up
  serves = record {
    world = ended.world;
    way = reaches_then setup plan.world tells.world ended.world (repeated (length g.now.up) (whole_call h true)) (Event.Move h ∷ []) tells.way ended.way;
    leader = (ap (λ (m : NodeState). m.vector.status) ended.here, ap (λ (m : NodeState). m.vector.coordinator) ended.here ∙ g.coordinator);
    led = λ j has. subst (λ (m : NodeState). IsLed h m.vector) (sym (ended.others j (other j has))) (tells.told j has);
    others = λ j d not_it. ended.others j d ∙ tells.others j d not_it;
  }

calling_no_plan : (h n : ℕ) (b : Bool) → has_plan (calling h n b) ≡ false
calling_no_plan h n true = no_plan (repeated n (whole_call h true)) (Event.Move h ∷ []) (calls n) refl
  where
    calls : (n : ℕ) → has_plan (repeated n (whole_call h true)) ≡ false
    calls zero = refl
    calls (suc n) = calls n
calling_no_plan h n false = no_plan (repeated n (whole_call h false)) (Event.Move h ∷ []) (calls n) refl
  where
    calls : (n : ℕ) → has_plan (repeated n (whole_call h false)) ≡ false
    calls zero = refl
    calls (suc n) = calls n

regroup : (a b c d : List Event) → a ++ ((b ++ c) ++ d) ≡ ((a ++ b) ++ c) ++ d
regroup a b c d = sym (append_assoc a (b ++ c) d) ∙ ap (λ xs. xs ++ d) (sym (append_assoc a b c))

-- falling lists with the same members are the same
falling_same : (b c : ℕ) (xs ys : List ℕ) → IsFallingBelow b xs → IsFallingBelow c ys → ((j : ℕ) → Has xs j → Has ys j) → ((j : ℕ) → Has ys j → Has xs j) → xs ≡ ys
falling_same b c [] [] f g to back = refl
falling_same b c [] (y ∷ ys) f g to back = absurd (back y (inl refl))
falling_same b c (x ∷ xs) [] f g to back = absurd (to x (inl refl))
falling_same b c (x ∷ xs) (y ∷ ys) f g to back = joined_at same (falling_same x y xs ys f.2 g.2 (λ j h. on j h (to j (inr h))) (λ j h. off j h (back j (inr h))))
  where
    at_most : (j k : ℕ) (ks : List ℕ) → IsFallingBelow k ks → (j ≡ k) ⊎ Has ks j → j ≤ k
    at_most j k ks falls (inl e) = omega (arith, e)
    at_most j k ks falls (inr h) = let l = has_below ks k j falls h in omega (arith, l)

    same : x ≡ y
    same = let l = at_most x y ys g.2 (to x (inl refl)) in let m = at_most y x xs f.2 (back y (inl refl)) in omega (arith, l, m)

    on : (j : ℕ) → Has xs j → (j ≡ y) ⊎ Has ys j → Has ys j
    on j h (inl e) = absurd (let l = has_below xs x j f.2 h in omega (arith, l, e, same))
    on j h (inr k) = k

    off : (j : ℕ) → Has ys j → (j ≡ x) ⊎ Has xs j → Has xs j
    off j h (inl e) = absurd (let l = has_below ys y j g.2 h in omega (arith, l, e, same))
    off j h (inr k) = k

    joined_at : x ≡ y → xs ≡ ys → x ∷ xs ≡ y ∷ ys
    joined_at e q = ap (λ k. k ∷ xs) e ∙ ap (λ ks. y ∷ ks) q

-- a node and those that are up below it may be planned over
pub plannable_over : (setup : Setup) (h : ℕ) (up : List ℕ) (old : Option (List ℕ)) → IsSetup setup → IsNode setup h → IsFallingBelow h up → IfSome old (λ t. length t ≡ setup.partitions)
    → Plannable setup (NODES_MAX + 1) (owners_before old) (with_node h up)
plannable_over setup h up old is node falls sized =
    let limit = is.nodes.1 in
    let wide : IsFallingBelow (NODES_MAX + 1) up = IsFallingBelow-more h (NODES_MAX + 1) up (omega (arith, node.1, limit)) falls in
    let falling : IsFallingBelow (NODES_MAX + 1) (with_node h up) = with_node-falling up h (NODES_MAX + 1) node.0 (omega (arith, node.1, limit)) wide in
    let highest : Some h ≡ highest_of (with_node h up) = sym (ap highest_of (with_node-top h up falls)) in
    let heavy = weighs-from setup (with_node h up) (Some h) is falling (node_and_up setup.nodes h up node.1 falls) highest refl in
    plannable-from setup (owners_before old) (with_node h up) falling heavy (covers-from setup old sized)

-- the planned table may be planned
planned_over : (setup : Setup) (h : ℕ) (up : List ℕ) (old : Option (List ℕ)) → Plannable setup (NODES_MAX + 1) (owners_before old) (with_node h up) → IsPlannedOver setup h up (planned setup old (with_node h up))
planned_over setup h up old plannable = record {
  partitions = planned-covers (quota setup (owners_before old) (with_node h up)) setup.partitions (owners_before old) (with_node h up);
  balanced = planned-balanced setup (NODES_MAX + 1) (owners_before old) (with_node h up) plannable;
}

module _ (setup : Setup) (h : ℕ) (low : List ℕ) (w : World) (old : Option (List ℕ)) (all : WorldInvariant setup w) (falls : IsFallingBelow (setup.nodes + 1) (h ∷ low)) (is : IsSetup setup)
    (sized : IfSome old (λ t. length t ≡ setup.partitions)) where
  abbrev live : List ℕ
  live = h ∷ low

  node : IsNode setup h
  node = let l = falls.1 in (falls.0, omega (arith, l))

  -- all are prepared
  ready : ArePrepared setup w live h setup.nodes
  ready = prepares setup live h (inl refl) w all setup.nodes (omega arith)

  gone_above : (j : ℕ) → h < j → Has live j → ⊥
  gone_above j l (inl e) = absurd (omega (arith, l, e))
  gone_above j l (inr has) = let b = has_below low h j falls.2 has in absurd (omega (arith, l, b))

  told : (j : ℕ) → 0 < j → j < h → IsToldBy ready.world live j
  told j p l =
      let each = ready.each j p (omega (arith, l, node.1)) in
      record { up = λ t. each.up (has_is_member live j t); down = λ t. each.down (no_member live j t) }

  gathered : Gathers setup ready.world (gathering setup live h) h
  gathered =
      let v = (ready.each h node.0 node.1).stands refl in
      gathers setup live h ready.world v.0 ready.fits node v.2 v.1 told (λ j l b. (ready.each j (omega (arith, l)) b).down (gone_above j l))

  abbrev table : List ℕ
  table = planned setup old (with_node h gathered.now.up)

  over : IsPlannedOver setup h gathered.now.up table
  over = planned_over setup h gathered.now.up old (plannable_over setup h gathered.now.up old is node gathered.falls sized)

  abbrev planning : Plans setup gathered.world h table (stands (record gathered.now { task = Some table }) (Point.Readying gathered.now.up))
  planning = plan setup h ready.world (gathering setup live h) node gathered table over

  served : Serves setup planning.world h gathered.now.up
  served = serves setup h ready.world (gathering setup live h) node gathered table over

  -- who joined it is live
  joined_live : (j : ℕ) → Has gathered.now.up j → 0 < j → Has live j
  joined_live j has p = by_case (has_or_not live j)
    where
      within : j ≤ setup.nodes
      within = let l = has_below gathered.now.up h j gathered.falls has in omega (arith, l, node.1)

      by_case : Has live j ⊎ (Has live j → ⊥) → Has live j
      by_case (inl it) = it
      by_case (inr gone) = absurd (gathered.were_up j has ((ready.each j p within).down gone))

  -- one that is gone is Down all the time
  stays_down : (i : ℕ) → IsNode setup i → i ≢ h → (Has live i → ⊥) → (vector served.world i).status ≡ Down
  stays_down i a_node other gone =
      let down = (ready.each i a_node.0 a_node.1).down gone in
      let apart : Has gathered.now.up i → ⊥ = λ has. gathered.were_up i has down in
      ap (λ (m : NodeState). m.vector.status) (served.others i other apart ∙ planning.others i other ∙ gathered.down i other down) ∙ down

  stable_led : (i : ℕ) → Has live i → IsLed h (vector served.world i) → IsStableIn live i (vector served.world i)
  stable_led i has led = record { normal = λ _. led.0; led = λ _. led.1; down = λ gone. absurd (gone (Contains-from live i has)) }

  all_stable_there : AllStable served.world setup live
  all_stable_there i a_node = by_case (grind arith) (has_or_not live i)
    where
      lower : i ≢ h → Has live i → i < h
      lower d (inl e) = absurd (d e)
      lower d (inr has) = has_below low h i falls.2 has

      by_case : (i ≡ h) ⊎ (i ≢ h) → Has live i ⊎ (Has live i → ⊥) → IsStableIn live i (vector served.world i)
      by_case (inl e) it = stable_led i (inl e) (subst (λ x. IsLed h (vector served.world x)) (sym e) served.leader)
      by_case (inr d) (inl has) = stable_led i has (served.led i (gathered.all_up i a_node.0 (lower d has) ((ready.each i a_node.0 a_node.1).up has)))
      by_case (inr d) (inr gone) =
          let down = stays_down i a_node d gone in
          record { normal = λ has. absurd (gone (Has-from live i has)); led = λ has. absurd (gone (Has-from live i has)); down = λ _. down }

  owners : OwnersAreLive table live
  owners k owner gives = Contains-from live owner (of_member ((with_node-members gathered.now.up h owner).0 member))
    where
      member : Contains (with_node h gathered.now.up) owner
      member = subst (λ x. Contains (with_node h gathered.now.up) x) (get_or_from_slice_get table k owner 0 gives) (over.balanced.owned k 0 (slice_get_within table k owner gives))

      of_member : (owner ≡ h) ⊎ Contains gathered.now.up owner → Has live owner
      of_member (inl e) = inl e
      of_member (inr has) = joined_live owner (Has-from gathered.now.up owner has) (has_positive gathered.now.up h owner gathered.falls (Has-from gathered.now.up owner has))

  -- those that joined it are the lower ones that are live
  joined_low : (j : ℕ) → Has gathered.now.up j → Has low j
  joined_low j has = by_case (joined_live j has (has_positive gathered.now.up h j gathered.falls has))
    where
      by_case : (j ≡ h) ⊎ Has low j → Has low j
      by_case (inl e) = absurd (let l = has_below gathered.now.up h j gathered.falls has in omega (arith, l, e))
      by_case (inr it) = it

  low_joined : (j : ℕ) → Has low j → Has gathered.now.up j
  low_joined j has =
      let p = has_positive low h j falls.2 has in
      let l = has_below low h j falls.2 has in
      gathered.all_up j p l ((ready.each j p (omega (arith, l, node.1))).up (inr has))

  same_low : gathered.now.up ≡ low
  same_low = falling_same h h gathered.now.up low gathered.falls falls.2 joined_low low_joined

  same_table : table ≡ planned setup old live
  same_table = ap (planned setup old) (with_node-top h gathered.now.up gathered.falls ∙ ap (λ ms. h ∷ ms) same_low)

  -- the events up to the plan
  abbrev before : List Event
  before = preparing w live h setup.nodes ++ gathering setup live h low

  first : Reaches setup w before gathered.world
  first = reaches_then setup w ready.world gathered.world (preparing w live h setup.nodes) (gathering setup live h low) ready.way
      (subst (λ up. Reaches setup ready.world (gathering setup live h up) gathered.world) same_low gathered.way)

  second : Reaches setup gathered.world (Event.Plan h (planned setup old live) ∷ []) planning.world
  second = subst (λ t. Reaches setup gathered.world (Event.Plan h t ∷ []) planning.world) same_table (reaches_by setup gathered.world planning.world (Event.Plan h table) Answer.Done planning.step)

  third : Reaches setup planning.world (calling h (length low) true) served.world
  third = subst (λ up. Reaches setup planning.world (calling h (length up) true) served.world) same_low served.way

  whole : Reaches setup w ((before ++ Event.Plan h (planned setup old live) ∷ []) ++ calling h (length low) true) served.world
  whole = reaches_then setup w planning.world served.world (before ++ Event.Plan h (planned setup old live) ∷ []) (calling h (length low) true)
      (reaches_then setup w gathered.world planning.world before (Event.Plan h (planned setup old live) ∷ []) first second) third

  regrouped : (before ++ Event.Plan h (planned setup old live) ∷ []) ++ calling h (length low) true ≡ rebalancing setup w old live
  regrouped = ap (λ xs. (xs ++ Event.Plan h (planned setup old live) ∷ []) ++ calling h (length low) true) (regroup (preparing w live h setup.nodes) (calling h (setup.nodes - h) false) (halting live h (h - 1) ++ Event.Move h ∷ []) (calling h (length low) true))

  fewest : IsFewest setup old (planned setup old live) live
  fewest =
      subst (λ ms. IsFewest setup old (planned setup old ms) ms) (with_node-top h low falls.2)
      (planned-fewest setup (NODES_MAX + 1) old (with_node h low) (plannable_over setup h low old is node falls.2 sized))

  rebalances_by : (events : List Event) → (before ++ Event.Plan h (planned setup old live) ∷ []) ++ calling h (length low) true ≡ events → length events ≤ 11 * setup.nodes
      → (log : List Event) (answers : List Answer) → IsLawful setup log answers w → length log + length events ≤ setup.events_max → Rebalances setup log old live events
  rebalances_by events same few log answers lawful room = record {
    few = few;
    answers = answers ++ whole.answers;
    world = served.world;
    lawful = record {
      leads = lead_append setup (first_world setup) log answers w events whole.answers served.world lawful.leads (subst (λ more. LeadTo setup w more whole.answers served.world) same whole.leads);
      bounded = let size = length-append log events in omega (arith, size, room);
    };
    stable = all_stable_there;
    plan = λ _. subst (PlansAnew setup log old live) same (record {
      plan = record { planner = h; table = planned setup old live; token = length (log ++ before) + 1 };
      last = record {
        before = log ++ before;
        after = calling h (length low) true;
        parts = ap (λ xs. log ++ xs) (append_assoc before (Event.Plan h (planned setup old live) ∷ []) (calling h (length low) true)) ∙ sym (append_assoc log before (Event.Plan h (planned setup old live) ∷ calling h (length low) true));
        last = calling_no_plan h (length low) true;
        counted = refl;
      };
      behind = let size = length-append log before in omega (arith, size);
      owners = subst (λ t. OwnersAreLive t live) same_table owners;
      table = refl;
      fewest = fewest;
    });
  }

  rebalances_all : (log : List Event) (answers : List Answer) → IsLawful setup log answers w → length log + length (rebalancing setup w old live) ≤ setup.events_max → Rebalances setup log old live (rebalancing setup w old live)
  rebalances_all = rebalances_by (rebalancing setup w old live) regrouped (rebalancing_few setup w old live falls)

-- with no live node
rebalances_nobody : (setup : Setup) (w : World) (old : Option (List ℕ)) → WorldInvariant setup w → (log : List Event) (answers : List Answer) → IsLawful setup log answers w → length log + length (rebalancing setup w old []) ≤ setup.events_max
    → Rebalances setup log old [] (rebalancing setup w old [])
rebalances_nobody setup w old all log answers lawful room = record {
  few = rebalancing_few setup w old [] tt;
  answers = answers ++ down.way.answers;
  world = down.world;
  lawful = record {
    leads = lead_append setup (first_world setup) log answers w (crashing w setup.nodes) down.way.answers down.world lawful.leads down.way.leads;
    bounded = let size = length-append log (crashing w setup.nodes) in omega (arith, size, room);
  };
  stable = all_down setup w down;
  plan = λ some. absurd (some refl);
}
  where
    down : HaveCrashed setup w setup.nodes
    down = crashes setup w all setup.nodes

pub becomes_stable_lem : (setup : Setup) (log : List Event) (answers : List Answer) (w : World) (old : Option (List ℕ)) (live : List ℕ) → IsSetup setup → IsLawful setup log answers w → IfSome old (λ t. length t ≡ setup.partitions)
    → IsFallingBelow (setup.nodes + 1) live → length log + length (rebalancing setup w old live) ≤ setup.events_max → Rebalances setup log old live (rebalancing setup w old live)
becomes_stable_lem setup log answers w old [] is lawful sized falls room = rebalances_nobody setup w old (lawful_fits setup log answers w lawful) log answers lawful room
becomes_stable_lem setup log answers w old (h ∷ low) is lawful sized falls room = rebalances_all setup h low w old (lawful_fits setup log answers w lawful) falls is sized log answers lawful room
