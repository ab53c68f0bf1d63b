-- Leases, as C has them.
use Rattle.std.specs.Prelude.{◌≡◌, ◌⊎◌, ◌≤◌, ◌==◌, not, ℕ, List, [], ◌∷◌, All, take, drop, length}
use Rattle.bully_member.specs.declared.values.Lease.{Lease}
use Rattle.bully_c.specs.declared.leases.CLease.{CLease}
use Rattle.bully_c.specs.declared.status.TheConstants.{BAD_KEPT, BAD_NODE, OUT_OF_MEMORY}

-- a lease whose promise keeps these partitions; not 0: it leaves
abbrev pub lease_given : CLease → (kept : List ℕ) → Lease
lease_given p kept = record {
  node = p.node;
  session = record { process = p.process; number = p.number };
  promise = record { epoch = p.epoch; offset = p.offset };
  kept = kept;
  is_leaving = not (p.is_leaving == 0);
}

-- each keeps as many of these partitions as it says, after those of the leases before it
abbrev pub leases_given : List CLease → (kept : List ℕ) → List Lease
leases_given [] kept = []
leases_given (p ∷ ps) kept = lease_given p (take p.kept_count kept) ∷ leases_given ps (drop p.kept_count kept)

-- they keep as many partitions as there are
abbrev pub AreKept : List CLease → (kept : List ℕ) → Type 0
AreKept [] kept = kept ≡ []
AreKept (p ∷ ps) kept = (p.kept_count ≤ length kept) × AreKept ps (drop p.kept_count kept)

-- it is of a node up to this one
abbrev pub IsLease : ℕ → CLease → Type 0
IsLease last p = (1 ≤ p.node) × (p.node ≤ last)

abbrev pub AreLeases : ℕ → List CLease → Type 0
AreLeases last leases = All (IsLease last) leases

abbrev pub RefusesLeases : ℕ → List CLease → (kept : List ℕ) → ℕ → Type 0
RefusesLeases last leases kept status =
    ((status ≡ BAD_NODE) × ¬ AreLeases last leases)
    ⊎ ((status ≡ BAD_KEPT) × AreLeases last leases × ¬ AreKept leases kept)
    ⊎ ((status ≡ OUT_OF_MEMORY) × AreLeases last leases × AreKept leases kept)
