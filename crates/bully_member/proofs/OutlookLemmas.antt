-- What is coming for a group, and whom that affects.
use Rattle.std.proofs.Common.{◌≡◌, ◌↔◌, ℕ, Bool, true, false, List, Option, Some, None, Contains, refl, sym, subst}
use Rattle.std.specs.Option.{option_map}
use Rattle.bully_agree.specs.Fencing.{Planned}
use Rattle.bully_member.specs.Member.{IsAffected}
use Rattle.bully_member.specs.declared.values.Lease.{Lease}
use Rattle.bully_rebalance.specs.Leaving.{Loses}
use Rattle.bully_replica.specs.LastPlan.{table_in}
use Rattle.bully_replica.specs.Replica.{ReplicaState}

-- in a cooperative group those are affected that lose something of the last plan's table
pub affects : (coop : Bool) (r : ReplicaState) (leases : List Lease) (coming : Option (List ℕ)) (table losers : List ℕ) (i : ℕ)
    → coop ≡ true → option_map table_in r.last ≡ Some table → (Contains losers i ↔ Loses table coming i) → Contains losers i ↔ IsAffected coop r leases coming i
affects false r leases coming table losers i is last told = absurd (cc is)
affects true r leases coming table losers i is last told = by_last r.last refl last
  where
    by_last : (p : Option Planned) → r.last ≡ p → option_map table_in p ≡ Some table → Contains losers i ↔ ((p : Planned) × (r.last ≡ Some p) × Loses p.table coming i)
    by_last None same had = absurd (cc had)
    by_last (Some p) same had = (
      λ has. (p, same, subst (λ t. Loses t coming i) (sym (cc had)) (told.0 has)),
      λ lost. told.1 (subst (λ t. Loses t coming i) (cc (lost.1, same, had)) lost.2),
    )
