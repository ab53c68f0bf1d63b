-- At rest in a stable group a member works on exactly what its node owns.
use Rattle.std.proofs.Common.{◌≡◌, ◌↔◌, ◌+◌, ◌&&◌, ◌==◌, if◌then◌else◌, ℕ, Bool, true, false, List, [], ◌∷◌, Option, Some, None, Contains, nat_lt, slice_get, arith, refl, sym, ap, subst, ◌∙◌}
use Rattle.std.proofs.lemmas.Bool.Decides.{nat_tests}
use Rattle.std.specs.Option.{option_map, option_map_or}
use Rattle.bully_agree.specs.Fencing.{Planned}
use Rattle.bully_handlers.specs.Vector.{is_normal}
use Rattle.bully_member.specs.Activities.{works_at}
use Rattle.bully_member.specs.Due.{HasAllOf, Sees, goes_on, goes_on_by, last_table, token_now}
use Rattle.bully_member.specs.Member.{MemberState, replica_of}
use Rattle.bully_member.specs.declared.values.Sight.{Sight}
use Rattle.bully_rebalance.proofs.PartitionLemmas.{partitions_exact}
use Rattle.bully_rebalance.specs.Leaving.{is_given, is_left}
use Rattle.bully_rebalance.specs.Owning.{owned_by, owned_in, owned_with, partitions_of, token_in}
use Rattle.bully_rebalance.specs.declared.holding.Owned.{Owned}
use Rattle.bully_replica.specs.LastPlan.{table_in}
use Rattle.bully_replica.specs.Replica.{token_of}
use Rattle.bully_round.proofs.TurnLemmas.{is_true, left_last, table_if}
use Rattle.bully_round.specs.Progress.{IsCalm, Owns, to_begin, to_do, to_do_seen, to_do_then, to_promise, unless}
use Rattle.bully_work.specs.Working.{GivesTo}
use Rattle.bully_world.specs.State.{world_of}
use Rattle.bully_world.specs.World.{vector}

-- What a node owns is what the last plan gives it.

owned_parts : (token : ℕ) (partitions : List ℕ) (o : Owned) → owned_with token partitions ≡ Some o → o.partitions ≡ partitions
owned_parts token [] o is = absurd (cc is)
owned_parts token (k ∷ partitions) o is = owned_list (record { token = token; partitions = k ∷ partitions }) o is
  where
    owned_list : (a b : Owned) → Some a ≡ Some b → b.partitions ≡ a.partitions
    owned_list a b same = let one : a ≡ b = cc same in ap (λ (x : Owned). x.partitions) (sym one)

of_last : (b : Bool) (last : Option Planned) (node : ℕ) (o : Owned) → (if b then owned_in last node else None) ≡ Some o → (k : ℕ) → Contains o.partitions k ↔ (is_left (option_map table_in last) node k ≡ true)
of_last false last node o is k = absurd (cc is)
of_last true None node o is k = absurd (cc is)
of_last true (Some p) node o is k =
    let same : o.partitions ≡ partitions_of p.table node = owned_parts p.token (partitions_of p.table node) o is in
    let exact = partitions_exact p.table node k in
    (λ has. given_is p.table node k (exact.0 (subst (λ (ks : List ℕ). Contains ks k) same has)), λ left. subst (λ (ks : List ℕ). Contains ks k) (sym same) (exact.1 (gives_if p.table node k left)))
  where
    given_is : (table : List ℕ) (i k : ℕ) → GivesTo table k i → is_left (Some table) i k ≡ true
    given_is table i k gives = ap (λ (o : Option ℕ). option_map_or (λ owner. owner == i) o false) gives ∙ same_num i
      where
        same_num : (n : ℕ) → (n == n) ≡ true
        same_num n = grind (arith, nat_tests)

    gives_if : (table : List ℕ) (i k : ℕ) → is_given table i k ≡ true → GivesTo table k i
    gives_if table i k is = by_owner (slice_get table k) refl is
      where
        by_owner : (o : Option ℕ) → slice_get table k ≡ o → option_map_or (λ owner. owner == i) o false ≡ true → slice_get table k ≡ Some i
        by_owner None there is = absurd (cc is)
        by_owner (Some owner) there is = let same : owner ≡ i = grind (arith, nat_tests, is) in there ∙ ap Some same

-- What is done if nothing is left to do.

may_of : (b : Bool) (n : ℕ) → unless b + n ≡ 0 → (b ≡ true) × (n ≡ 0)
may_of true n is = (refl, omega (arith, is))
may_of false n is = absurd (omega (arith, is))

seen_of : (b : Bool) (n : ℕ) → (if b then 3 else n) ≡ 0 → n ≡ 0
seen_of true n is = absurd (omega (arith, is))
seen_of false n is = is

begin_of : (st : Bool) (n k : ℕ) → st ≡ true → (if st then n else k) ≡ 0 → n ≡ 0
begin_of true n k stable is = is
begin_of false n k stable is = absurd (cc stable)

has_of : (may has same : Bool) → unless (may && (has && same)) ≡ 0 → has ≡ true
has_of true true same is = refl
has_of true false same is = absurd (omega (arith, is))
has_of false has same is = absurd (omega (arith, is))

module _ (m : MemberState) (now : ℕ) (s : Sight) (calm : IsCalm m now) (sees : Sees m now s) (stable : s.is_stable ≡ true) (none : to_do m s ≡ 0) (k : ℕ) where
  parts : (s.may_go_on ≡ true) × (to_do_then m s ≡ 0)
  parts = may_of s.may_go_on (to_do_then m s) none

  begun_all : to_begin m s (token_now m) ≡ 0
  begun_all = begin_of s.is_stable (to_begin m s (token_now m)) (to_promise m s) stable (seen_of m.needs_snapshot (to_do_seen m s) parts.1)

  -- it works on nothing else
  works_left : works_at m.works k ≡ true → (is_left (last_table m) m.terms.node k ≡ true) × (goes_on_by m (token_now m) ≡ true)
  works_left works = left_last (goes_on m now) (goes_on_by m (token_now m)) (last_table m) m.coming m.terms.node k
      (subst (λ st. is_left (table_if (goes_on m now) st (goes_on_by m (token_now m)) (last_table m) m.coming) m.terms.node k ≡ true) stable (sees.stays.0 (is_true s.may_go_on parts.0) k works))

  owns_if : (owned : Option Owned) → owned_by (replica_of m) m.terms.node m.promised ≡ owned → goes_on_by m (option_map token_in owned) ≡ true → is_left (last_table m) m.terms.node k ≡ true → Owns m k
  owns_if None is goes left = absurd (cc goes)
  owns_if (Some o) is goes left = (o, is, (of_last (is_normal (vector (world_of (replica_of m).world) m.terms.node).status && nat_lt m.promised (token_of (replica_of m).last)) (replica_of m).last m.terms.node o is k).1 left)

  owns : works_at m.works k ≡ true → Owns m k
  owns works = let left = works_left works in owns_if (owned_by (replica_of m) m.terms.node m.promised) refl left.1 left.0

  -- it works on all of that
  gives_at : (last : Option Planned) → is_left (option_map table_in last) m.terms.node k ≡ true → HasAllOf m (option_map table_in last) → works_at m.works k ≡ true
  gives_at None left all = absurd (cc left)
  gives_at (Some p) left all = all k (by_owner (slice_get p.table k) refl left)
    where
      by_owner : (o : Option ℕ) → slice_get p.table k ≡ o → option_map_or (λ owner. owner == m.terms.node) o false ≡ true → slice_get p.table k ≡ Some m.terms.node
      by_owner None there is = absurd (cc is)
      by_owner (Some owner) there is = let same : owner ≡ m.terms.node = grind (arith, nat_tests, is) in there ∙ ap Some same

  works : Owns m k → works_at m.works k ≡ true
  works (o, is, has) =
      let token : token_now m ≡ Some o.token = ap (option_map token_in) is in
      let begun : to_begin m s (Some o.token) ≡ 0 = sym (ap (to_begin m s) token) ∙ begun_all in
      let all = has_of s.may_go_on s.has_all (o.token == m.token) begun in
      gives_at (replica_of m).last ((of_last (is_normal (vector (world_of (replica_of m).world) m.terms.node).status && nat_lt m.promised (token_of (replica_of m).last)) (replica_of m).last m.terms.node o is k).0 has) (sees.all.0 (is_true s.has_all all))

  pub exactly_at : works_at m.works k ≡ true ↔ Owns m k
  exactly_at = (owns, works)

pub exactly_lem : (m : MemberState) (now : ℕ) (s : Sight) → IsCalm m now → Sees m now s → s.is_stable ≡ true → to_do m s ≡ 0 → (k : ℕ) → works_at m.works k ≡ true ↔ Owns m k
exactly_lem m now s calm sees stable none k = exactly_at m now s calm sees stable none k
