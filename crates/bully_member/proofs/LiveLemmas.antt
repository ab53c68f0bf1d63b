-- The live nodes, as a set.
use Rattle.std.proofs.Common.{rules, ◌≡◌, ◌↔◌, ◌+◌, ◌≤◌, if◌then◌else◌, ℕ, Bool, true, false, List, [], ◌∷◌, All, Contains, fold, arith, refl, sym, ◌∙◌}
use Rattle.std.specs.Prelude.{IsTrue}
use Rattle.std.proofs.lemmas.List.Elements.{All-tail}
use Rattle.bully_base.proofs.NodeSetLemmas.{Contains-from, Has-from, falling-below, with_node-falling}
use Rattle.bully_rebalance.proofs.Preparing.{has_is_member, is_member_has}
use Rattle.bully_rebalance.specs.Rebalancing.{is_member}
use Rattle.bully_base.specs.NodeSet.{IsFallingBelow, with_node}
use Rattle.bully_base.specs.Setup.{IsNode, Setup}
use Rattle.bully_member.specs.Member.{MemberState, admitted_among, is_admitted, is_under_way, live_of, with_admitted}
use Rattle.bully_member.specs.declared.values.Lease.{Lease}

-- none of a falling list is above its bound
pub falls_within : (nodes : ℕ) (ms : List ℕ) → IsFallingBelow (nodes + 1) ms → All (λ m. m ≤ nodes) ms
falls_within nodes ms falls = λ k d low. let below = falling-below ms (nodes + 1) falls k d low in omega (arith, below)

-- the nodes of leases of a group fall below the number of its nodes
live_more : (s : Setup) (nodes : List ℕ) (leases : List Lease) → IsFallingBelow (s.nodes + 1) nodes → All (λ (p : Lease). IsNode s p.node) leases
    → IsFallingBelow (s.nodes + 1) (fold (λ (ms : List ℕ) (p : Lease). with_node p.node ms) nodes leases)
live_more s nodes [] falls all = falls
live_more s nodes (p ∷ ps) falls all =
    live_more s (with_node p.node nodes) ps (with_node-falling nodes p.node (s.nodes + 1) (all 0 p (omega arith)).0 (omega (arith, (all 0 p (omega arith)).1)) falls) (All-tail (λ (p : Lease). IsNode s p.node) p ps all)

pub live_falls : (s : Setup) (leases : List Lease) → All (λ (p : Lease). IsNode s p.node) leases → IsFallingBelow (s.nodes + 1) (live_of leases)
live_falls s leases all = live_more s [] leases tt all

-- ... and of those that are admitted
admitted_more : (m : MemberState) (now : ℕ) (w : Bool) (s : Setup) (nodes : List ℕ) (leases : List Lease) → IsFallingBelow (s.nodes + 1) nodes → All (λ (p : Lease). IsNode s p.node) leases
    → IsFallingBelow (s.nodes + 1) (fold (with_admitted m now w) nodes leases)
admitted_more m now w s nodes [] falls all = falls
admitted_more m now w s nodes (p ∷ ps) falls all = admitted_more m now w s (with_admitted m now w nodes p) ps (by_test (is_admitted m now w p)) (All-tail (λ (p : Lease). IsNode s p.node) p ps all)
  where
    by_test : (b : Bool) → IsFallingBelow (s.nodes + 1) (if b then with_node p.node nodes else nodes)
    by_test true = with_node-falling nodes p.node (s.nodes + 1) (all 0 p (omega arith)).0 (omega (arith, (all 0 p (omega arith)).1)) falls
    by_test false = falls

pub admitted_falls : (m : MemberState) (now : ℕ) (s : Setup) (leases : List Lease) → All (λ (p : Lease). IsNode s p.node) leases → IsFallingBelow (s.nodes + 1) (admitted_among m now leases)
admitted_falls m now s leases all = admitted_more m now (is_under_way m leases) s [] leases tt all

-- whether a set has a node
pub has_is : (nodes : List ℕ) (node : ℕ) (b : Bool) → (IsTrue b ↔ Contains nodes node) → b ≡ is_member nodes node
has_is nodes node b tells = by_test b (is_member nodes node) refl (λ has. Contains-from nodes node (has_is_member nodes node has)) (λ has. is_member_has nodes node (Has-from nodes node has)) tells
  where
    by_test : (b c : Bool) → is_member nodes node ≡ c → (is_member nodes node ≡ true → Contains nodes node) → (Contains nodes node → is_member nodes node ≡ true) → (IsTrue b ↔ Contains nodes node) → b ≡ c
    by_test true c is from to told = sym (to (told.0 (search (rules)))) ∙ is
    by_test false true is from to told = absurd (search (rules, told.1 (from is)))
    by_test false false is from to told = refl
