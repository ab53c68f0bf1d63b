-- The set of the nodes of some names, name by name.
use Rattle.std.proofs.Common.{◌≡◌, ◌∙◌, ℕ, ◌≤◌, List, [], ◌∷◌, length, All, Option, Some, None, bytes_eq, refl, ap, subst, arith}
use Rattle.std.specs.Prelude.{option_and_then, option_map}
use Rattle.std.proofs.lemmas.Bool.Decides.{nat_tests}
use Rattle.std.proofs.lemmas.List.Elements.{All-nil}
use Rattle.std.proofs.lemmas.Option.{same_Some}
use Rattle.bully_base.specs.NodeSet.{with_node}
use Rattle.bully_base.proofs.NodeSetLemmas.{with_node-all}
use Rattle.bully_base.specs.Setup.{Setup}
use Rattle.bully_config.specs.Configuration.{Configuration, IsConfiguration, node_named}
use Rattle.bully_config.proofs.FaultLemmas.{position_within}
use Rattle.bully.specs.Wanted.{members_named}

-- the set with the nodes of these names
abbrev pub named_onto : List (List ℕ) → List (List ℕ) → List ℕ → Option (List ℕ)
named_onto names [] members = Some members
named_onto names (word ∷ words) members = option_and_then (λ node. named_onto names words (with_node node members)) (node_named names word)

-- two nodes come in in either order
with_node-swap : (j k : ℕ) (ms : List ℕ) → with_node j (with_node k ms) ≡ with_node k (with_node j ms)
with_node-swap j k [] = grind (arith, nat_tests)
with_node-swap j k (m ∷ ms) =
    let rest = with_node-swap j k ms in
    grind (arith, nat_tests, rest)

onto-more : (names words : List (List ℕ)) (node : ℕ) (members : List ℕ) → named_onto names words (with_node node members) ≡ option_map (with_node node) (named_onto names words members)
onto-more names [] node members = refl
onto-more names (word ∷ words) node members = go (node_named names word) (onto-more names words)
  where
    go : (o : Option ℕ) → ((k : ℕ) (ms : List ℕ) → named_onto names words (with_node k ms) ≡ option_map (with_node k) (named_onto names words ms))
        → option_and_then (λ k. named_onto names words (with_node k (with_node node members))) o ≡ option_map (with_node node) (option_and_then (λ k. named_onto names words (with_node k members)) o)
    go None more = refl
    go (Some k) more = ap (named_onto names words) (with_node-swap k node members) ∙ more node (with_node k members)

-- from the empty set on: the set of the names
pub onto-none : (names words : List (List ℕ)) → named_onto names words [] ≡ members_named names words
onto-none names [] = refl
onto-none names (word ∷ words) = go (node_named names word) (onto-more names words) (onto-none names words)
  where
    go : (o : Option ℕ) → ((k : ℕ) (ms : List ℕ) → named_onto names words (with_node k ms) ≡ option_map (with_node k) (named_onto names words ms))
        → named_onto names words [] ≡ members_named names words
        → option_and_then (λ k. named_onto names words (with_node k [])) o ≡ option_and_then (λ k. option_map (with_node k) (members_named names words)) o
    go None more rest = refl
    go (Some k) more rest = more k [] ∙ ap (option_map (with_node k)) rest

-- ---- all of them are nodes of the configuration

pub named-within : (names words : List (List ℕ)) (members : List ℕ) → members_named names words ≡ Some members → All (λ m. m ≤ length names) members
named-within names [] members e = subst (λ ms. All (λ m. m ≤ length names) ms) (same_Some _ _ e) (All-nil (λ m. m ≤ length names))
named-within names (word ∷ words) members e = by_node (node_named names word) (members_named names words) refl e (named-within names words)
  where
    by_node : (o : Option ℕ) (more : Option (List ℕ)) → node_named names word ≡ o → option_and_then (λ node. option_map (with_node node) more) o ≡ Some members
        → ((ms : List ℕ) → more ≡ Some ms → All (λ m. m ≤ length names) ms) → All (λ m. m ≤ length names) members
    by_node None more named e later = absurd (cc e)
    by_node (Some k) None named e later = absurd (cc e)
    by_node (Some k) (Some ms) named e later =
        let (low, high) = position_within (bytes_eq word) 1 k names named in
        subst (λ xs. All (λ m. m ≤ length names) xs) (same_Some _ _ e) (with_node-all (λ m. m ≤ length names) k ms (omega (arith, high)) (later ms refl))

-- the names are as many as the nodes
pub members-within : (c : Configuration) (setup : Setup) (words : List (List ℕ)) (members : List ℕ) → IsConfiguration c → setup ≡ c.setup → members_named c.names words ≡ Some members
    → All (λ m. m ≤ setup.nodes) members
members-within c setup words members is same named =
    let count : length c.names ≡ setup.nodes = rw same is.names in
    subst (λ n. All (λ m. m ≤ n) members) count (named-within c.names words members named)
