-- What a rebalance leaves to those that keep it.
use Rattle.std.proofs.Common.{All, ◌≡◌, ◌≢◌, ◌↔◌, ◌⊎◌, inl, inr, ◌<◌, ◌+◌, ◌++◌, ◌∷◌, ℕ, Bool, true, false, List, [], length, Option, Contains, arith, sym, ap, subst, ◌∙◌}
use Rattle.std.proofs.lemmas.Bool.Decides.{nat_tests}
use Rattle.std.proofs.lemmas.Option.{same_Some, slice_get_within}
use Rattle.std.proofs.lemmas.List.Elements.{All-nil, All-contains}
use Rattle.bully_agree.proofs.PlanLemmas.{one_last}
use Rattle.bully_agree.specs.Fencing.{IsLastPlan, Planned}
use Rattle.bully_base.proofs.NodeSetLemmas.{Has-from}
use Rattle.bully_base.specs.NodeSet.{IsFallingBelow}
use Rattle.bully_base.specs.Setup.{IsNode, Setup}
use Rattle.bully_calls.specs.declared.event.Event.{Event}
use Rattle.bully_work.specs.Store.{Lease, MayAppend, MayRollOver, IsOneToOne, OwnsIn, Store, current}
use Rattle.bully_rebalance.proofs.Gathering.{has_positive}
use Rattle.bully_rebalance.proofs.Telling.{has_below}
use Rattle.bully_rebalance.specs.Leaving.{AreAsked, AreLeft, HasKeeper, HaveKeepers, IsAsked, IsLeft, Leaves, LeavesTo, LoseNothing, Loses, OwnNothing, is_left}
use Rattle.bully_rebalance.specs.declared.leaving.Keeper.{Keeper}
use Rattle.bully_rebalance.specs.Rebalancing.{Rebalances}
use Rattle.bully_table.specs.Planning.{planned}
use Rattle.bully_work.specs.Working.{GivesTo}

-- the plan of a rebalance
pub planned_lem : (setup : Setup) (log more : List Event) (old : Option (List ℕ)) (live : List ℕ) (p : Planned) → Rebalances setup log old live more → live ≢ [] → IsLastPlan (log ++ more) p → p.table ≡ planned setup old live
planned_lem setup log more old live p is some last =
    let new = is.plan some in
    ap (λ (x : Planned). x.table) (one_last (log ++ more) p new.plan last new.last) ∙ new.table

-- a partition has one owner
one_owner : (table : List ℕ) (k i j : ℕ) → GivesTo table k i → GivesTo table k j → i ≡ j
one_owner table k i j one other = same_Some i j (sym one ∙ other)

less_or_same : (k p : ℕ) → k < p + 1 → (k < p) ⊎ (k ≡ p)
less_or_same k p low = grind (arith, nat_tests, low)

-- those of a falling list are nodes
is_node : (setup : Setup) (live : List ℕ) (i : ℕ) → IsFallingBelow (setup.nodes + 1) live → Contains live i → IsNode setup i
is_node setup live i falls has =
    let low = has_positive live (setup.nodes + 1) i falls (Has-from live i has) in
    let high = has_below live (setup.nodes + 1) i falls (Has-from live i has) in
    (low, omega (arith, high))

some_kept : (ks : List ℕ) (k : ℕ) → Contains ks k → ks ≢ []
some_kept ks k has none = none_in k (subst (λ x. Contains x k) none has)
  where
    none_in : (k : ℕ) → Contains [] k → ⊥
    none_in k (at_place, low, is) = absurd (omega (arith, low))

pub may_append_lem : (s : Store) (old : Option (List ℕ)) (live : List ℕ) (more : List Event) (e offset : ℕ) (silent : ℕ → Bool) (seen : ℕ → Option Lease) → Rebalances (current s).setup (current s).log old live more
    → IsFallingBelow ((current s).setup.nodes + 1) live → AreLeft e offset live (planned (current s).setup old live) (current s).number silent seen
    → LoseNothing (current s).log live (planned (current s).setup old live) (current s).number silent → MayAppend s e offset silent seen more
may_append_lem s old live more e offset silent seen is falls left whole = record {
  lawful = (is.world, (is.answers, is.lawful));
  whole = λ i k says owned. let given = whole i k owned.plan says owned.owner.last owned.gives in owns i k given.rebalanced given.left;
  idle = λ i here asked there. let is_left = left i here asked there in (is_left.epoch, is_left.idle);
  kept = λ i k here asked there has. keeps i k here (left i here asked there) has;
}
  where
    some : (j : ℕ) → Contains live j → live ≢ []
    some j has none = some_kept live j has none

    owns : (i k : ℕ) → Contains live ((current s).number i) → GivesTo (planned (current s).setup old live) k ((current s).number i) → OwnsIn (current s) ((current s).log ++ more) i k
    owns i k rebalanced gives =
        let new = is.plan (some ((current s).number i) rebalanced) in
        record {
          plan = new.plan;
          owner = record {
            world = is.world;
            learned = (is.answers, is.lawful);
            normal = (is.stable ((current s).number i) (is_node (current s).setup live ((current s).number i) falls rebalanced)).normal rebalanced;
            last = new.last;
          };
          gives = subst (λ t. GivesTo t k ((current s).number i)) (sym new.table) gives;
        }

    keeps : (i k : ℕ) (here : Lease) → IsLeft e offset live (planned (current s).setup old live) ((current s).number i) here → Contains here.promised.kept k → OwnsIn (current s) ((current s).log ++ more) i k
    keeps i k here is_left has =
        owns i k (is_left.rebalanced (some_kept here.promised.kept k has)) (All-contains (λ x. GivesTo (planned (current s).setup old live) x ((current s).number i)) here.promised.kept k is_left.left has)

-- what a writer's test of all keepers says of all that it has seen
pub passes_lem : (e offset : ℕ) (live table : List ℕ) (keepers : List Keeper) (number : ℕ → ℕ) (silent : ℕ → Bool) (seen : ℕ → Option Lease) → AreAsked e offset live keepers number silent seen → All (LeavesTo table) keepers
    → AreLeft e offset live table number silent seen
passes_lem e offset live table keepers number silent seen asked all i here spoken there = record {
  epoch = is.epoch;
  idle = is.idle;
  rebalanced = is.rebalanced;
  left = left here.promised.kept is.asked;
}
  where
    is : IsAsked e offset live keepers (number i) here
    is = asked i here spoken there

    left : (kept : List ℕ) → (kept ≢ [] → Contains keepers (record { node = number i; partitions = kept })) → Leaves table (number i) kept
    left [] has = All-nil (λ k. GivesTo table k (number i))
    left (k ∷ kept) has = All-contains (LeavesTo table) keepers (record { node = number i; partitions = k ∷ kept }) all (has (λ e. absurd (cc e)))

-- ... and of all that the silent own
pub whole_lem : (log : List Event) (live table : List ℕ) (keepers : List Keeper) (number : ℕ → ℕ) (silent : ℕ → Bool) → HaveKeepers log live keepers number silent → All (LeavesTo table) keepers → LoseNothing log live table number silent
whole_lem log live table keepers number silent have all i k p says last gives = record {
  rebalanced = is.rebalanced;
  left = subst (λ x. GivesTo table k x) is.same (All-contains (λ x. GivesTo table x is.keeper.node) is.keeper.partitions k (All-contains (LeavesTo table) keepers is.keeper all is.is) is.has);
}
  where
    is : HasKeeper live keepers (number i) k
    is = have i k p says last gives

pub rolls_lem : (s : Store) (silent : ℕ → Bool) (next : ℕ → ℕ) → OwnNothing (current s).log (current s).number silent → IsOneToOne next → MayRollOver s silent next
rolls_lem s silent next none one = (λ i k says owned. none i k owned.plan says owned.owner.last owned.gives, one)

-- Who loses something at the first p partitions.

pub record LosesIn (before : List ℕ) (after : Option (List ℕ)) (p i : ℕ) : Type 0 where
  pub loses : Loses before after i
  pub within : loses.partition < p

pub loses_none : (before : List ℕ) (after : Option (List ℕ)) (i : ℕ) → LosesIn before after 0 i → ⊥
loses_none before after i is = let low = is.within in absurd (omega (arith, low))

-- one more partition, whose owner loses it
pub loses_more : (before : List ℕ) (after : Option (List ℕ)) (losers new : List ℕ) (p owner : ℕ) → GivesTo before p owner → is_left after owner p ≡ false → ((i : ℕ) → Contains losers i ↔ LosesIn before after p i)
    → ((i : ℕ) → Contains new i ↔ ((i ≡ owner) ⊎ Contains losers i)) → (i : ℕ) → Contains new i ↔ LosesIn before after (p + 1) i
loses_more before after losers new p owner gives lost so_far is i = (λ has. there ((is i).0 has), λ loses. (is i).1 (back loses))
  where
    there : (i ≡ owner) ⊎ Contains losers i → LosesIn before after (p + 1) i
    there (inl same) = record {
      loses = record { partition = p; had = subst (GivesTo before p) (sym same) gives; lost = subst (λ j. is_left after j p ≡ false) (sym same) lost };
      within = omega arith;
    }
    there (inr has) = let old = (so_far i).0 has in let low = old.within in record { loses = old.loses; within = omega (arith, low) }

    back : LosesIn before after (p + 1) i → (i ≡ owner) ⊎ Contains losers i
    back loses = by_place (less_or_same loses.loses.partition p loses.within)
      where
        by_place : (loses.loses.partition < p) ⊎ (loses.loses.partition ≡ p) → (i ≡ owner) ⊎ Contains losers i
        by_place (inl low) = inr ((so_far i).1 (record { loses = loses.loses; within = low }))
        by_place (inr same) = inl (one_owner before p i owner (subst (λ k. GivesTo before k i) same loses.loses.had) gives)

-- ... whose owner keeps it
pub loses_same : (before : List ℕ) (after : Option (List ℕ)) (losers : List ℕ) (p owner : ℕ) → GivesTo before p owner → is_left after owner p ≡ true → ((i : ℕ) → Contains losers i ↔ LosesIn before after p i)
    → (i : ℕ) → Contains losers i ↔ LosesIn before after (p + 1) i
loses_same before after losers p owner gives left so_far i = (λ has. let old = (so_far i).0 has in let low = old.within in record { loses = old.loses; within = omega (arith, low) }, λ loses. (so_far i).1 (back loses))
  where
    back : LosesIn before after (p + 1) i → LosesIn before after p i
    back loses = by_place (less_or_same loses.loses.partition p loses.within)
      where
        by_place : (loses.loses.partition < p) ⊎ (loses.loses.partition ≡ p) → LosesIn before after p i
        by_place (inl low) = record { loses = loses.loses; within = low }
        by_place (inr same) =
            let owner_is = one_owner before p i owner (subst (λ k. GivesTo before k i) same loses.loses.had) gives in
            absurd (cc (subst (λ j. is_left after j p ≡ true) (sym owner_is) left, subst (λ k. is_left after i k ≡ false) same loses.loses.lost))

pub loses_all : (before : List ℕ) (after : Option (List ℕ)) (i : ℕ) → LosesIn before after (length before) i ↔ Loses before after i
loses_all before after i = (λ is. is.loses, λ is. record { loses = is; within = slice_get_within before is.partition i is.had })
