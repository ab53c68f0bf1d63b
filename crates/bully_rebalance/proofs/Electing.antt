-- A whole election of a node above which all are Down, with nothing between its steps.
use Rattle.std.proofs.Common.{◌≡◌, ◌≢◌, ◌<◌, ◌≤◌, ◌+◌, ◌++◌, ◌⊎◌, inl, inr, ℕ, zero, suc, Bool, true, false, List, [], Some, None, Contains, nat_le, arith, refl, sym, ap, subst, ◌∙◌}
use Rattle.std.proofs.lemmas.Bool.Decides.{nat_tests}
use Rattle.bully_base.proofs.NodeSetLemmas.{with_node-members}
use Rattle.bully_base.specs.NodeSet.{with_node}
use Rattle.bully_base.specs.Setup.{Setup}
use Rattle.bully_base.specs.declared.node.Status.TheVariants.{Down, Election}
use Rattle.bully_calls.specs.declared.call.Call.{Call}
use Rattle.bully_calls.specs.declared.call.CallKind.TheVariants.{AreYouUp, Halt}
use Rattle.bully_calls.specs.declared.call.Outcome.{Outcome}
use Rattle.bully_calls.specs.declared.event.Event.{Event}
use Rattle.bully_handlers.specs.Vector.{Vector}
use Rattle.bully_rebalance.proofs.Reaching.{Called, Reaches, Turned, call_fails, call_runs, reaches_then, turned_then}
use Rattle.bully_rebalance.specs.Rebalancing.{halting, is_member, repeated, whole_call}
use Rattle.bully_steps.specs.NextPoint.{next_point}
use Rattle.bully_steps.specs.Point.{offered}
use Rattle.bully_steps.specs.declared.point.Point.{Point}
use Rattle.bully_steps.specs.declared.point.Want.{Want}
use Rattle.bully_world.specs.NodeInvariant.{WorldInvariant}
use Rattle.bully_world.specs.Step.{called, sent}
use Rattle.bully_world.specs.World.{NodeState, World, node_state, vector}

-- a node between its calls
abbrev pub stands : Vector → Point → NodeState
stands v p = record { vector = v; point = p; pending = None }

-- no event
pub reaches_none : (setup : Setup) (w : World) → Reaches setup w [] w
reaches_none setup w = record { answers = []; leads = refl }

pub turned_none : (setup : Setup) (w : World) (i : ℕ) → WorldInvariant setup w → Turned setup w [] i (node_state w i)
turned_none setup w i all = record { world = w; way = reaches_none setup w; fits = all; here = refl; others = λ j d. refl }

within : (k n : ℕ) → k ≤ n → nat_le k n ≡ true
within k n l = grind (arith, nat_tests, l)

pub beyond : (k n : ℕ) → n < k → nat_le k n ≡ false
beyond k n l = grind (arith, nat_tests, l)

-- it asks each higher node, and all are Down
pub asks : (setup : Setup) (i : ℕ) (v : Vector) (n k : ℕ) → n + k ≡ setup.nodes + 1 → i < k → (w : World) → WorldInvariant setup w → node_state w i ≡ stands v (Point.Asking k) → v.status ≢ Down
    → ((j : ℕ) → i < j → j ≤ setup.nodes → (vector w j).status ≡ Down) → Turned setup w (repeated n (whole_call i false)) i (stands v (Point.Asking (setup.nodes + 1)))
asks setup i v zero k left above w all is up down = subst (λ m. Turned setup w [] i m) (is ∙ ap (λ x. stands v (Point.Asking x)) (omega (arith, left))) (turned_none setup w i all)
asks setup i v (suc n) k left above w all is up down =
    let t = asked in
    turned_then setup w (whole_call i false) (repeated n (whole_call i false)) i (stands v (Point.Asking (k + 1))) (stands v (Point.Asking (setup.nodes + 1))) t
    (asks setup i v n (k + 1) (omega (arith, left)) (omega (arith, above)) t.world t.fits t.here up (λ j l b. ap (λ (m : NodeState). m.vector.status) (t.others j (λ e. absurd (omega (arith, l, e)))) ∙ down j l b))
  where
    is_asked : nat_le k setup.nodes ≡ true
    is_asked = within k setup.nodes (omega (arith, left))

    call : Call
    call = record { callee = k; kind = AreYouUp }

    offers : offered setup v.coordinator (Point.Asking k) ≡ Want.Start call
    offers = rw is_asked refl

    next : next_point setup i v.up (Point.Asking k) Outcome.Failed ≡ Some (Point.Asking (k + 1))
    next = rw is_asked refl

    asked : Turned setup w (whole_call i false) i (stands v (Point.Asking (k + 1)))
    asked = call_fails setup w i (stands v (Point.Asking k)) all is up refl call offers (down k above (omega (arith, left))) (Point.Asking (k + 1)) next

-- what a node's halts come to, from node k down to node 1
pub record Halts (setup : Setup) (w : World) (events : List Event) (i k : ℕ) (v : Vector) : Type 0 where
  pub world : World
  pub way : Reaches setup w events world
  pub fits : WorldInvariant setup world
  pub up : List ℕ
  pub here : node_state world i ≡ stands (record v { up = up }) (Point.Halting 0)
  pub joined : (j : ℕ) → j ≢ i → Contains up j → Contains v.up j ⊎ ((vector w j).status ≢ Down)
  pub kept : (j : ℕ) → Contains v.up j → Contains up j
  pub all_up : (j : ℕ) → 0 < j → j ≤ k → (vector w j).status ≢ Down → Contains up j
  pub status : (j : ℕ) → 0 < j → j ≤ k → (vector w j).status ≢ Down → (vector world j).status ≡ Election
  pub halter : (j : ℕ) → 0 < j → j ≤ k → (vector w j).status ≢ Down → (vector world j).halter ≡ Some i
  pub down : (j : ℕ) → j ≢ i → (vector w j).status ≡ Down → node_state world j ≡ node_state w j
  pub others : (j : ℕ) → j ≢ i → k < j → node_state world j ≡ node_state w j

-- node k + 1 is Down, and its Halt fails; and then the others
passes : (setup : Setup) (w : World) (i k : ℕ) (xs : List Event) (v : Vector) → (vector w (suc k)).status ≡ Down → suc k < i → (t : Turned setup w (whole_call i false) i (stands v (Point.Halting k))) → Halts setup t.world xs i k v → Halts setup w (whole_call i false ++ xs) i (suc k) v
passes setup w i k xs v is_down below t more = record {
  world = more.world;
  way = reaches_then setup w t.world more.world (whole_call i false) xs t.way more.way;
  fits = more.fits;
  up = more.up;
  here = more.here;
  joined = λ j d h. from j d (more.joined j d h);
  kept = more.kept;
  all_up = λ j p l u. more.all_up j p (lower j l u) (still j l u);
  status = λ j p l u. more.status j p (lower j l u) (still j l u);
  halter = λ j p l u. more.halter j p (lower j l u) (still j l u);
  down = λ j d is. more.down j d (same j d ∙ is) ∙ t.others j d;
  others = λ j d l. more.others j d (omega (arith, l)) ∙ t.others j d;
}
  where
    same : (j : ℕ) → j ≢ i → (vector t.world j).status ≡ (vector w j).status
    same j d = ap (λ (m : NodeState). m.vector.status) (t.others j d)

    lower : (j : ℕ) → j ≤ suc k → (vector w j).status ≢ Down → j ≤ k
    lower j l u = by_case (grind arith)
      where
        by_case : (j ≡ suc k) ⊎ (j ≤ k) → j ≤ k
        by_case (inl e) = absurd (u (ap (λ x. (vector w x).status) e ∙ is_down))
        by_case (inr h) = h

    still : (j : ℕ) → j ≤ suc k → (vector w j).status ≢ Down → (vector t.world j).status ≢ Down
    still j l u e = u (sym (same j (λ q. absurd (omega (arith, l, q, below)))) ∙ e)

    from : (j : ℕ) → j ≢ i → Contains v.up j ⊎ ((vector t.world j).status ≢ Down) → Contains v.up j ⊎ ((vector w j).status ≢ Down)
    from j d (inl h) = inl h
    from j d (inr u) = inr (λ e. u (same j d ∙ e))

-- node k + 1 is halted, and joins; and then the others
joins : (setup : Setup) (w : World) (i k : ℕ) (xs : List Event) (v : Vector) (m : NodeState) → (vector w (suc k)).status ≢ Down → suc k < i → m.vector.status ≡ Election → m.vector.halter ≡ Some i
    → (c : Called setup w (whole_call i true) i (suc k) (stands (record v { up = with_node (suc k) v.up }) (Point.Halting k)) m) → Halts setup c.world xs i k (record v { up = with_node (suc k) v.up }) → Halts setup w (whole_call i true ++ xs) i (suc k) v
joins setup w i k xs v m is_up below election halted c more = record {
  world = more.world;
  way = reaches_then setup w c.world more.world (whole_call i true) xs c.way more.way;
  fits = more.fits;
  up = more.up;
  here = more.here;
  joined = λ j d h. from j d (more.joined j d h);
  kept = λ j h. more.kept j ((with_node-members v.up (suc k) j).1 (inr h));
  all_up = λ j p l u. all_of j p u (grind arith);
  status = λ j p l u. status_of j p u (grind arith);
  halter = λ j p l u. halter_of j p u (grind arith);
  down = λ j d is. more.down j d (same j d (other j is) ∙ is) ∙ c.others j d (other j is);
  others = λ j d l. more.others j d (omega (arith, l)) ∙ c.others j d (λ e. absurd (omega (arith, l, e)));
}
  where
    same : (j : ℕ) → j ≢ i → j ≢ suc k → (vector c.world j).status ≡ (vector w j).status
    same j d e = ap (λ (m : NodeState). m.vector.status) (c.others j d e)

    other : (j : ℕ) → (vector w j).status ≡ Down → j ≢ suc k
    other j is e = is_up (ap (λ x. (vector w x).status) (sym e) ∙ is)

    still : (j : ℕ) → j ≤ k → (vector w j).status ≢ Down → (vector c.world j).status ≢ Down
    still j l u e = u (sym (same j (λ q. absurd (omega (arith, l, q, below))) (λ q. absurd (omega (arith, l, q)))) ∙ e)

    there : (vector more.world (suc k)) ≡ m.vector
    there = ap (λ (m : NodeState). m.vector) (more.others (suc k) (λ e. absurd (omega (arith, e, below))) (omega arith) ∙ c.there)

    has : Contains more.up (suc k)
    has = more.kept (suc k) ((with_node-members v.up (suc k) (suc k)).1 (inl refl))

    all_of : (j : ℕ) → 0 < j → (vector w j).status ≢ Down → (j ≡ suc k) ⊎ (j ≤ k) → Contains more.up j
    all_of j p u (inl e) = subst (λ x. Contains more.up x) (sym e) has
    all_of j p u (inr l) = more.all_up j p l (still j l u)

    status_of : (j : ℕ) → 0 < j → (vector w j).status ≢ Down → (j ≡ suc k) ⊎ (j ≤ k) → (vector more.world j).status ≡ Election
    status_of j p u (inl e) = subst (λ x. (vector more.world x).status ≡ Election) (sym e) (ap (λ (x : Vector). x.status) there ∙ election)
    status_of j p u (inr l) = more.status j p l (still j l u)

    halter_of : (j : ℕ) → 0 < j → (vector w j).status ≢ Down → (j ≡ suc k) ⊎ (j ≤ k) → (vector more.world j).halter ≡ Some i
    halter_of j p u (inl e) = subst (λ x. (vector more.world x).halter ≡ Some i) (sym e) (ap (λ (x : Vector). x.halter) there ∙ halted)
    halter_of j p u (inr l) = more.halter j p l (still j l u)

    it : (j : ℕ) → j ≡ suc k → (vector w j).status ≢ Down
    it j e = subst (λ x. (vector w x).status ≢ Down) (sym e) is_up

    from : (j : ℕ) → j ≢ i → Contains (with_node (suc k) v.up) j ⊎ ((vector c.world j).status ≢ Down) → Contains v.up j ⊎ ((vector w j).status ≢ Down)
    from j d (inl h) = by_case ((with_node-members v.up (suc k) j).0 h)
      where
        by_case : (j ≡ suc k) ⊎ Contains v.up j → Contains v.up j ⊎ ((vector w j).status ≢ Down)
        by_case (inl e) = inr (it j e)
        by_case (inr h) = inl h
    from j d (inr u) = by_case (grind arith)
      where
        by_case : (j ≡ suc k) ⊎ (j ≢ suc k) → Contains v.up j ⊎ ((vector w j).status ≢ Down)
        by_case (inl e) = inr (it j e)
        by_case (inr q) = inr (λ e. u (same j d q ∙ e))

-- a live node is up, and any other is Down
pub record IsToldBy (w : World) (live : List ℕ) (j : ℕ) : Type 0 where
  pub up : is_member live j ≡ true → (vector w j).status ≢ Down
  pub down : is_member live j ≡ false → (vector w j).status ≡ Down

pub told_still : (w w' : World) (live : List ℕ) (j : ℕ) → node_state w' j ≡ node_state w j → IsToldBy w live j → IsToldBy w' live j
told_still w w' live j same is = record {
  up = λ t e. is.up t (ap (λ (m : NodeState). m.vector.status) (sym same) ∙ e);
  down = λ t. ap (λ (m : NodeState). m.vector.status) same ∙ is.down t;
}

pub halts_all : (setup : Setup) (live : List ℕ) (i k : ℕ) (w : World) (v : Vector) → k < i → WorldInvariant setup w → node_state w i ≡ stands v (Point.Halting k) → v.status ≢ Down
    → ((j : ℕ) → 0 < j → j ≤ k → IsToldBy w live j) → Halts setup w (halting live i k) i k v
halts_all setup live i zero w v below all is up told = record {
  world = w;
  way = reaches_none setup w;
  fits = all;
  up = v.up;
  here = is;
  joined = λ j d h. inl h;
  kept = λ j h. h;
  all_up = λ j p l u. absurd (omega (arith, p, l));
  status = λ j p l u. absurd (omega (arith, p, l));
  halter = λ j p l u. absurd (omega (arith, p, l));
  down = λ j d is. refl;
  others = λ j d l. refl;
}
halts_all setup live i (suc k) w v below all is up told = by_test (is_member live (suc k)) refl (λ w v. halts_all setup live i k w v (omega (arith, below)))
  where
    call : Call
    call = record { callee = suc k; kind = Halt }

    here : IsToldBy w live (suc k)
    here = told (suc k) (omega arith) (omega arith)

    apart : (j : ℕ) → j ≤ k → j ≢ i
    apart j l e = absurd (omega (arith, l, e, below))

    by_test : (b : Bool) → is_member live (suc k) ≡ b
        → ((w : World) (v : Vector) → WorldInvariant setup w → node_state w i ≡ stands v (Point.Halting k) → v.status ≢ Down → ((j : ℕ) → 0 < j → j ≤ k → IsToldBy w live j) → Halts setup w (halting live i k) i k v)
        → Halts setup w (whole_call i b ++ halting live i k) i (suc k) v
    by_test false gone more =
        let t : Turned setup w (whole_call i false) i (stands v (Point.Halting k)) = call_fails setup w i (stands v (Point.Halting (suc k))) all is up refl call refl (here.down gone) (Point.Halting k) refl in
        passes setup w i k (halting live i k) v (here.down gone) below t
        (more t.world v t.fits t.here up (λ j p l. told_still w t.world live j (t.others j (apart j l)) (told j p (omega (arith, l)))))
    by_test true has more =
        let c : Called setup w (whole_call i true) i (suc k) (stands (record v { up = with_node (suc k) v.up }) (Point.Halting k)) (called i (sent call v) (node_state w (suc k))) =
        call_runs setup w i (stands v (Point.Halting (suc k))) all is up refl call refl (λ e. absurd (omega (arith, e, below))) (here.up has) (λ _. refl) (Point.Halting k) refl in
        joins setup w i k (halting live i k) v (called i (sent call v) (node_state w (suc k))) (here.up has) below refl refl c
        (more c.world (record v { up = with_node (suc k) v.up }) c.fits c.here up (λ j p l. told_still w c.world live j (c.others j (apart j l) (λ e. absurd (omega (arith, l, e)))) (told j p (omega (arith, l)))))
