-- Leases of nodes up to one, and what they keep.
use Rattle.std.proofs.Common.{◌≡◌, ◌==◌, ◌<◌, ◌≤◌, ◌∷◌, [], ℕ, Bool, true, false, List, All, arith, drop, if◌then◌else◌, refl, take}
use Rattle.std.proofs.lemmas.Bool.Decides.{nat_tests}
use Rattle.std.proofs.lemmas.List.Elements.{All-cons, All-nil, All-tail}
use Rattle.bully_base.specs.declared.TheConstants.{NODES_MAX}
use Rattle.bully_member.specs.Member.{MemberState, replica_of}
use Rattle.bully_member.specs.declared.values.Lease.{Lease}
use Rattle.bully_c.specs.Leases.{AreLeases, IsLease, lease_given, leases_given}
use Rattle.bully_c.specs.Members.{last_node}
use Rattle.bully_c.specs.declared.leases.CLease.{CLease}

abbrev IsHere : ℕ → Lease → Type 0
IsHere last p = (0 < p.node) × (p.node ≤ last)

pub nodes-within : (last : ℕ) (told : List CLease) (kept : List ℕ) → AreLeases last told → All (λ (p : Lease). (0 < p.node) × (p.node ≤ last)) (leases_given told kept)
nodes-within last [] kept are = All-nil (IsHere last)
nodes-within last (p ∷ ps) kept are =
    All-cons (IsHere last) (lease_given p (take p.kept_count kept)) (leases_given ps (drop p.kept_count kept)) (omega (arith, (are 0 p (omega arith)).0), (are 0 p (omega arith)).1)
    (nodes-within last ps (drop p.kept_count kept) (All-tail (IsLease last) p ps are))

-- what stands where nothing does
abbrev pub nobody-there : CLease
nobody-there = record { process = 0; number = 0; epoch = 0; offset = 0; node = 0; kept_count = 0; is_leaving = 0 }

-- in its own epoch the last node is the group's
pub last-own : (m : MemberState) (epoch : ℕ) → epoch ≡ m.terms.epoch → last_node m epoch ≡ (replica_of m).world.setup.nodes
last-own m epoch same = by_test (epoch == m.terms.epoch) (grind (arith, nat_tests, same))
  where
    by_test : (b : Bool) → b ≡ true → (if b then (replica_of m).world.setup.nodes else NODES_MAX) ≡ (replica_of m).world.setup.nodes
    by_test true is = refl
    by_test false is = absurd (cc is)
