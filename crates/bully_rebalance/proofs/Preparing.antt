-- All nodes that are gone crash, all live ones recover, and one of these does so anew.
use Rattle.std.proofs.Common.{◌≡◌, ◌≢◌, ◌<◌, ◌≤◌, ◌==◌, ◌||◌, ◌⊎◌, inl, inr, ℕ, zero, suc, Bool, true, false, List, [], ◌∷◌, arith, refl, sym, ap, subst, ◌∙◌}
use Rattle.std.proofs.lemmas.Bool.Decides.{Decides-eqb, nat_tests}
use Rattle.std.specs.Bool.{Decides}
use Rattle.bully_base.proofs.NodeSetLemmas.{Has}
use Rattle.bully_base.specs.Setup.{Setup, IsNode}
use Rattle.bully_base.specs.declared.node.Status.{Status}
use Rattle.bully_base.specs.declared.node.Status.TheVariants.{Down, Election, Normal, Reorganization}
use Rattle.bully_calls.specs.declared.event.Event.{Event}
use Rattle.bully_handlers.specs.Vector.{Vector, is_down, recovered}
use Rattle.bully_rebalance.proofs.Electing.{reaches_none, stands, turned_none}
use Rattle.bully_rebalance.proofs.Reaching.{Reaches, Turned, crash_turned, reaches_then, recover_turned, turned_then}
use Rattle.bully_rebalance.specs.Rebalancing.{is_member, prepared_by, preparing}
use Rattle.bully_steps.specs.NextPoint.{election}
use Rattle.bully_world.specs.Cause.{is_down_at}
use Rattle.bully_world.specs.NodeInvariant.{WorldInvariant}
use Rattle.bully_world.specs.World.{NodeState, World, node_state, vector}

-- a node is live and up, or gone and Down; and the one that stands for election has just recovered
pub record IsPrepared (live : List ℕ) (h i : ℕ) (m : NodeState) : Type 0 where
  pub up : Has live i → m.vector.status ≢ Down
  pub down : (Has live i → ⊥) → m.vector.status ≡ Down
  pub stands : i ≡ h → (v : Vector) × (v.status ≢ Down) × (m ≡ stands v (election h))

pub has_or_not : (ks : List ℕ) (j : ℕ) → Has ks j ⊎ (Has ks j → ⊥)
has_or_not [] j = inr (λ h. h)
has_or_not (k ∷ ks) j = by_case (grind arith) (has_or_not ks j)
  where
    by_case : (j ≡ k) ⊎ (j ≢ k) → Has ks j ⊎ (Has ks j → ⊥) → Has (k ∷ ks) j ⊎ (Has (k ∷ ks) j → ⊥)
    by_case (inl e) more = inl (inl e)
    by_case (inr d) (inl h) = inl (inr h)
    by_case (inr d) (inr n) = inr (λ x. neither x)
      where
        neither : (j ≡ k) ⊎ Has ks j → ⊥
        neither (inl e) = d e
        neither (inr h) = n h

-- recovered, it is up
pub recovered_up : (setup : Setup) (v : Vector) → (recovered setup v).status ≢ Down
recovered_up setup v e = absurd (cc)

pub is_member_has : (ks : List ℕ) (j : ℕ) → Has ks j → is_member ks j ≡ true
is_member_has [] j h = absurd h
is_member_has (k ∷ ks) j (inl e) = grind (arith, nat_tests, e)
is_member_has (k ∷ ks) j (inr h) = later (k == j) (is_member_has ks j h)
  where
    later : (b : Bool) → is_member ks j ≡ true → (b || is_member ks j) ≡ true
    later true m = refl
    later false m = m

pub has_is_member : (ks : List ℕ) (j : ℕ) → is_member ks j ≡ true → Has ks j
has_is_member [] j t = absurd (cc)
has_is_member (k ∷ ks) j t = by_test (k == j) (Decides-eqb k j).0 t (has_is_member ks j)
  where
    by_test : (b : Bool) → (b ≡ true → k ≡ j) → (b || is_member ks j) ≡ true → (is_member ks j ≡ true → Has ks j) → (j ≡ k) ⊎ Has ks j
    by_test true same t more = inl (sym (same refl))
    by_test false same t more = inr (more t)

pub no_member : (ks : List ℕ) (j : ℕ) → is_member ks j ≡ false → Has ks j → ⊥
no_member ks j t has = let m = is_member_has ks j has in absurd (cc)

pub down_tells : (s : Status) → is_down s ≡ true → s ≡ Down
down_tells Down t = refl
down_tells Election t = absurd (cc)
down_tells Reorganization t = absurd (cc)
down_tells Normal t = absurd (cc)

pub up_tells : (s : Status) → is_down s ≡ false → s ≢ Down
up_tells Down t e = absurd (cc)
up_tells Election t e = absurd (cc)
up_tells Reorganization t e = absurd (cc)
up_tells Normal t e = absurd (cc)

module _ (setup : Setup) (live : List ℕ) (h : ℕ) (has_it : Has live h) (w : World) (i : ℕ) (all : WorldInvariant setup w) (node : IsNode setup i) where
  abbrev Prepares : List Event → Type 0
  Prepares events = (m : NodeState) × IsPrepared live h i m × Turned setup w events i m

  -- one that is gone
  gone_down : (Has live i → ⊥) → (vector w i).status ≡ Down → Prepares []
  gone_down gone down =
      (node_state w i, record { up = λ has. absurd (gone has); down = λ _. down; stands = λ e. absurd (gone (subst (Has live) (sym e) has_it)) }, turned_none setup w i all)

  goes : (Has live i → ⊥) → (vector w i).status ≢ Down → Prepares (Event.Crash i ∷ [])
  goes gone up = (_, record { up = λ has. absurd (gone has); down = λ _. refl; stands = λ e. absurd (gone (subst (Has live) (sym e) has_it)) }, crash_turned setup w i all up)

  -- one that is live and doesn't stand
  comes : Has live i → i ≢ h → (vector w i).status ≡ Down → Prepares (Event.Recover i ∷ [])
  comes has other down = (_, record { up = λ _. recovered_up setup (vector w i); down = λ gone. absurd (gone has); stands = λ e. absurd (other e) }, recover_turned setup w i all node down)

  stays : Has live i → i ≢ h → (vector w i).status ≢ Down → Prepares []
  stays has other up = (node_state w i, record { up = λ _. up; down = λ gone. absurd (gone has); stands = λ e. absurd (other e) }, turned_none setup w i all)

  stands_anew : i ≡ h → (v : Vector) → v.status ≢ Down → IsPrepared live h i (stands v (election i))
  stands_anew e v up = record { up = λ _. up; down = λ gone. absurd (gone (subst (Has live) (sym e) has_it)); stands = λ e. (v, up, ap (λ x. stands v (election x)) e) }

  -- the one that stands
  recovers : i ≡ h → (vector w i).status ≡ Down → Prepares (Event.Recover i ∷ [])
  recovers e down = (_, stands_anew e (recovered setup (vector w i)) (recovered_up setup (vector w i)), recover_turned setup w i all node down)

  anew : i ≡ h → (vector w i).status ≢ Down → Prepares (Event.Crash i ∷ Event.Recover i ∷ [])
  anew e up =
      let t = crash_turned setup w i all up in
      let down : (vector t.world i).status ≡ Down = ap (λ (m : NodeState). m.vector.status) t.here in
      (_, stands_anew e (recovered setup (vector t.world i)) (recovered_up setup (vector t.world i)), turned_then setup w (Event.Crash i ∷ []) (Event.Recover i ∷ []) i _ _ t (recover_turned setup t.world i t.fits node down))

  prepares_one : Prepares (prepared_by (is_member live i) (i == h) (is_down_at w i) i)
  prepares_one = by_test (is_member live i) (i == h) (is_down_at w i) (has_is_member live i) (no_member live i) (Decides-eqb i h) (down_tells (vector w i).status) (up_tells (vector w i).status)
    where
      differs : false ≡ true → ⊥
      differs e = cc

      by_test : (p s d : Bool) → (p ≡ true → Has live i) → (p ≡ false → Has live i → ⊥) → Decides s (i ≡ h) → (d ≡ true → (vector w i).status ≡ Down) → (d ≡ false → (vector w i).status ≢ Down)
          → Prepares (prepared_by p s d i)
      by_test true true true has gone same down up = recovers (same.0 refl) (down refl)
      by_test true true false has gone same down up = anew (same.0 refl) (up refl)
      by_test true false true has gone same down up = comes (has refl) (λ e. absurd (differs (same.1 e))) (down refl)
      by_test true false false has gone same down up = stays (has refl) (λ e. absurd (differs (same.1 e))) (up refl)
      by_test false true true has gone same down up = gone_down (gone refl) (down refl)
      by_test false true false has gone same down up = goes (gone refl) (up refl)
      by_test false false true has gone same down up = gone_down (gone refl) (down refl)
      by_test false false false has gone same down up = goes (gone refl) (up refl)

abbrev prepared_in : World → List ℕ → ℕ → ℕ → List Event
prepared_in w live h i = prepared_by (is_member live i) (i == h) (is_down_at w i) i

-- all nodes up to n are prepared, and no other was touched
pub record ArePrepared (setup : Setup) (w : World) (live : List ℕ) (h n : ℕ) : Type 0 where
  pub world : World
  pub way : Reaches setup w (preparing w live h n) world
  pub fits : WorldInvariant setup world
  pub each : (i : ℕ) → 0 < i → i ≤ n → IsPrepared live h i (node_state world i)
  pub later : (i : ℕ) → n < i → node_state world i ≡ node_state w i

pub prepares : (setup : Setup) (live : List ℕ) (h : ℕ) → Has live h → (w : World) → WorldInvariant setup w → (n : ℕ) → n ≤ setup.nodes → ArePrepared setup w live h n
prepares setup live h has w all zero within = record { world = w; way = reaches_none setup w; fits = all; each = λ i p l. absurd (omega (arith, p, l)); later = λ i l. refl }
prepares setup live h has w all (suc n) within = one_more (prepares setup live h has w all n (omega (arith, within)))
  where
    one_more : ArePrepared setup w live h n → ArePrepared setup w live h (suc n)
    one_more before = by_one (prepares_one setup live h has before.world (suc n) before.fits (omega arith, within))
      where
        same : prepared_in before.world live h (suc n) ≡ prepared_in w live h (suc n)
        same = ap (λ (m : NodeState). prepared_by (is_member live (suc n)) (suc n == h) (is_down m.vector.status) (suc n)) (before.later (suc n) (omega arith))

        by_one : (m : NodeState) × IsPrepared live h (suc n) m × Turned setup before.world (prepared_in before.world live h (suc n)) (suc n) m → ArePrepared setup w live h (suc n)
        by_one (m, is, t) = record {
          world = t.world;
          way = reaches_then setup w before.world t.world (preparing w live h n) (prepared_in w live h (suc n)) before.way (subst (λ events. Reaches setup before.world events t.world) same t.way);
          fits = t.fits;
          each = λ i p l. by_case i p (grind arith);
          later = λ i l. t.others i (λ e. absurd (omega (arith, l, e))) ∙ before.later i (omega (arith, l));
        }
          where
            by_case : (i : ℕ) → 0 < i → (i ≡ suc n) ⊎ (i ≤ n) → IsPrepared live h i (node_state t.world i)
            by_case i p (inl e) = subst (λ x. IsPrepared live h x (node_state t.world x)) (sym e) (subst (IsPrepared live h (suc n)) (sym t.here) is)
            by_case i p (inr l) = subst (IsPrepared live h i) (sym (t.others i (λ e. absurd (omega (arith, l, e))))) (before.each i p l)
