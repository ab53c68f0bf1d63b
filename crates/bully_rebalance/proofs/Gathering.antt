-- A node above which all are Down gathers those that are up.
use Rattle.std.proofs.Common.{◌≡◌, ◌≢◌, ◌<◌, ◌≤◌, ◌+◌, ◌++◌, ◌-◌, ◌⊎◌, inl, inr, ℕ, true, false, List, [], ◌∷◌, Some, Contains, length, nat_le, arith, refl, sym, ap, subst, ◌∙◌}
use Rattle.bully_base.proofs.NodeSetLemmas.{Has, Has-from, Contains-from}
use Rattle.bully_base.specs.NodeSet.{IsFallingBelow}
use Rattle.bully_base.specs.Setup.{Setup, IsNode}
use Rattle.bully_base.specs.declared.node.Status.TheVariants.{Down, Election, Reorganization}
use Rattle.bully_calls.specs.declared.call.Outcome.{Outcome}
use Rattle.bully_calls.specs.declared.event.Event.{Event}
use Rattle.bully_handlers.specs.Vector.{Vector}
use Rattle.bully_rebalance.proofs.Electing.{Halts, IsToldBy, asks, beyond, halts_all, stands, told_still}
use Rattle.bully_rebalance.proofs.Reaching.{Reaches, Turned, move_turned, reaches_then}
use Rattle.bully_rebalance.proofs.Telling.{HasJoined, IsCalled, Tells, announces, has_below}
use Rattle.bully_rebalance.specs.Rebalancing.{calling, halting, repeated, whole_call}
use Rattle.bully_steps.specs.NextPoint.{election, next_point}
use Rattle.bully_steps.specs.Point.{offered}
use Rattle.bully_steps.specs.declared.point.Point.{Point}
use Rattle.bully_steps.specs.declared.point.Want.{Want}
use Rattle.bully_world.specs.NodeInvariant.{NodeInvariant, WorldInvariant}
use Rattle.bully_world.specs.World.{NodeState, World, node_state, vector}

-- these events lead to a world where node h is at Planning, and exactly the lower nodes that were up have joined it
pub record Gathers (setup : Setup) (w : World) (events : List ℕ → List Event) (h : ℕ) : Type 0 where
  pub world : World
  pub fits : WorldInvariant setup world
  pub now : Vector
  pub way : Reaches setup w (events now.up) world
  pub here : node_state world h ≡ stands now Point.Planning
  pub status : now.status ≡ Reorganization
  pub coordinator : now.coordinator ≡ Some h
  pub falls : IsFallingBelow h now.up
  pub joined : (j : ℕ) → Has now.up j → HasJoined h (vector world j)
  pub were_up : (j : ℕ) → Has now.up j → (vector w j).status ≢ Down
  pub all_up : (j : ℕ) → 0 < j → j < h → (vector w j).status ≢ Down → Has now.up j
  pub down : (j : ℕ) → j ≢ h → (vector w j).status ≡ Down → node_state world j ≡ node_state w j

pub has_positive : (ks : List ℕ) (bound j : ℕ) → IsFallingBelow bound ks → Has ks j → 0 < j
has_positive [] bound j falls h = absurd h
has_positive (k ∷ ks) bound j falls (inl e) = omega (arith, e, falls.0)
has_positive (k ∷ ks) bound j falls (inr h) = has_positive ks k j falls.2 h

-- those that are up fall below the node
up_falls : (setup : Setup) (w : World) (i : ℕ) (v : Vector) (p : Point) → WorldInvariant setup w → node_state w i ≡ stands v p → IsFallingBelow i v.up
up_falls setup w i v p all is = let fits : NodeInvariant setup i (stands v p) = subst (NodeInvariant setup i) is (all.fits i) in fits.by_setup.up

pub is_vector : (w v : World) (i j : ℕ) → node_state w i ≡ node_state v j → vector w i ≡ vector v j
is_vector w v i j e = ap (λ (m : NodeState). m.vector) e

-- the events up to there, if these were up
abbrev pub gathering : Setup → List ℕ → ℕ → List ℕ → List Event
gathering setup live h up = (calling h (setup.nodes - h) false ++ (halting live h (h - 1) ++ Event.Move h ∷ [])) ++ calling h (length up) true

module _ (setup : Setup) (live : List ℕ) (h : ℕ) (w : World) (v : Vector) (all : WorldInvariant setup w) (node : IsNode setup h) (is : node_state w h ≡ stands v (election h)) (up : v.status ≢ Down)
    (told : (j : ℕ) → 0 < j → j < h → IsToldBy w live j) (above : (j : ℕ) → h < j → j ≤ setup.nodes → (vector w j).status ≡ Down) where
  asked : Turned setup w (repeated (setup.nodes - h) (whole_call h false)) h (stands v (Point.Asking (setup.nodes + 1)))
  asked = asks setup h v (setup.nodes - h) (h + 1) (omega (arith, node.1)) (omega arith) w all is up above

  -- it halts itself
  abbrev halted : Vector
  halted = record v { status = Election; halter = Some h; up = [] }

  election_up : Election ≢ Down
  election_up e = absurd (cc)

  begun : Turned setup asked.world (Event.Move h ∷ []) h (stands halted (Point.Halting (h - 1)))
  begun = move_turned setup asked.world h (stands v (Point.Asking (setup.nodes + 1))) asked.fits asked.here up refl offers (Point.Halting (h - 1)) next
    where
      through : nat_le (setup.nodes + 1) setup.nodes ≡ false
      through = beyond (setup.nodes + 1) setup.nodes (omega arith)

      offers : offered setup v.coordinator (Point.Asking (setup.nodes + 1)) ≡ Want.Move
      offers = rw through refl

      next : next_point setup h v.up (Point.Asking (setup.nodes + 1)) Outcome.Moved ≡ Some (Point.Halting (h - 1))
      next = rw through refl

  -- up to there all others are as they were
  before : (j : ℕ) → j ≢ h → node_state begun.world j ≡ node_state w j
  before j d = begun.others j d ∙ asked.others j d

  halts : Halts setup begun.world (halting live h (h - 1)) h (h - 1) halted
  halts = halts_all setup live h (h - 1) begun.world halted (omega (arith, node.0)) begun.fits begun.here election_up
      (λ j p l. told_still w begun.world live j (before j (λ e. absurd (omega (arith, l, e, p)))) (told j p (omega (arith, l, p))))

  abbrev leading : Vector
  leading = record v { status = Reorganization; coordinator = Some h; halter = Some h; up = halts.up }

  moved : Turned setup halts.world (Event.Move h ∷ []) h (stands leading (Point.Announcing halts.up))
  moved = move_turned setup halts.world h (stands (record halted { up = halts.up }) (Point.Halting 0)) halts.fits halts.here election_up refl refl (Point.Announcing halts.up) refl

  falling : IsFallingBelow h halts.up
  falling = up_falls setup moved.world h leading (Point.Announcing halts.up) moved.fits moved.here

  other : (j : ℕ) → Has halts.up j → j ≢ h
  other j has e = absurd (let l = has_below halts.up h j falling has in omega (arith, l, e))

  -- each was up
  was_up : (j : ℕ) → Has halts.up j → (vector begun.world j).status ≢ Down
  was_up j has = by_case (halts.joined j (other j has) (Contains-from halts.up j has))
    where
      by_case : Contains [] j ⊎ ((vector begun.world j).status ≢ Down) → (vector begun.world j).status ≢ Down
      by_case (inl none) = absurd (Has-from [] j none)
      by_case (inr was) = was

  called : (j : ℕ) → Has halts.up j → IsCalled h (vector moved.world j)
  called j has =
      let l = has_below halts.up h j falling has in
      let p = has_positive halts.up h j falling has in
      let same = is_vector moved.world halts.world j j (moved.others j (other j has)) in
      (ap (λ (x : Vector). x.status) same ∙ halts.status j p (omega (arith, l)) (was_up j has), ap (λ (x : Vector). x.halter) same ∙ halts.halter j p (omega (arith, l)) (was_up j has))

  reorganization_up : Reorganization ≢ Down
  reorganization_up e = absurd (cc)

  tells : Tells setup moved.world (repeated (length halts.up) (whole_call h true)) h (stands leading (Point.Announcing [])) halts.up (HasJoined h)
  tells = announces setup h leading reorganization_up halts.up falling moved.world moved.fits moved.here called

  ended : Turned setup tells.world (Event.Move h ∷ []) h (stands leading Point.Planning)
  ended = move_turned setup tells.world h (stands leading (Point.Announcing [])) tells.fits tells.here reorganization_up refl refl Point.Planning refl

  on : Reaches setup w (gathering setup live h halts.up) ended.world
  on =
      let first = reaches_then setup w asked.world begun.world (repeated (setup.nodes - h) (whole_call h false)) (Event.Move h ∷ []) asked.way begun.way in
      let second = reaches_then setup begun.world halts.world moved.world (halting live h (h - 1)) (Event.Move h ∷ []) halts.way moved.way in
      let third = reaches_then setup moved.world tells.world ended.world (repeated (length halts.up) (whole_call h true)) (Event.Move h ∷ []) tells.way ended.way in
      let both = reaches_then setup w begun.world moved.world (calling h (setup.nodes - h) false) (halting live h (h - 1) ++ Event.Move h ∷ []) first second in
      reaches_then setup w moved.world ended.world (calling h (setup.nodes - h) false ++ (halting live h (h - 1) ++ Event.Move h ∷ [])) (calling h (length halts.up) true) both third

  pub gathers : Gathers setup w (gathering setup live h) h
  gathers = record {
    world = ended.world;
    way = on;
    fits = ended.fits;
    now = leading;
    here = ended.here;
    status = refl;
    coordinator = refl;
    falls = falling;
    joined = λ j has. subst (λ (x : NodeState). HasJoined h x.vector) (sym (ended.others j (other j has))) (tells.told j has);
    were_up = λ j has e. was_up j has (ap (λ (m : NodeState). m.vector.status) (before j (other j has)) ∙ e);
    all_up = λ j p l u. Has-from halts.up j (halts.all_up j p (omega (arith, l)) (still j l u));
    down = λ j d is. ended.others j d ∙ tells.others j d (λ has. was_up j has (down_there j d is)) ∙ moved.others j d ∙ halts.down j d (down_there j d is) ∙ before j d;
  }
    where
      down_there : (j : ℕ) → j ≢ h → (vector w j).status ≡ Down → (vector begun.world j).status ≡ Down
      down_there j d is = ap (λ (m : NodeState). m.vector.status) (before j d) ∙ is

      still : (j : ℕ) → j < h → (vector w j).status ≢ Down → (vector begun.world j).status ≢ Down
      still j l u e = u (ap (λ (m : NodeState). m.vector.status) (sym (before j (λ q. absurd (omega (arith, l, q))))) ∙ e)
