-- What is noted of a snapshot.
use Rattle.std.proofs.Common.{◌≡◌, ◌==◌, not, ℕ, Bool, true, false, List, Result, OnOk, if◌then◌else◌, refl, sym, subst, ap, ◌∙◌}
use Rattle.bully_member.specs.Member.{MemberState}
use Rattle.bully_member.specs.Told.{awaits_snapshot, found_here, snapshot_read, with_arrivals}
use Rattle.bully_member.specs.declared.values.Lease.{Lease}

pick : (a b : Bool) (x y z : MemberState) → a ≡ true → b ≡ true → (if not a then x else if not b then y else z) ≡ z
pick true true x y z one other = refl
pick true false x y z one other = absurd (cc other)
pick false b x y z one other = absurd (cc one)

-- if a snapshot of its epoch is awaited, all of it is noted once the sessions are
pub read_lem : {A B : Type 0} (r : Result A B) (m mid after : MemberState) (now epoch : ℕ) (leases : List Lease) (unknown request : Bool) → awaits_snapshot m.asked ≡ true → (epoch == m.terms.epoch) ≡ true → mid ≡ with_arrivals m now leases
    → OnOk r (after ≡ found_here mid now leases unknown request after.coming after.affected) → OnOk r (after ≡ snapshot_read m now epoch leases unknown request after.coming after.affected)
read_lem r m mid after now epoch leases unknown request awaits here noted = subst (λ (x : MemberState). OnOk r (after ≡ x))
    (ap (λ (x : MemberState). found_here x now leases unknown request after.coming after.affected) noted
    ∙ sym (pick (awaits_snapshot m.asked) (epoch == m.terms.epoch) m _ (found_here (with_arrivals m now leases) now leases unknown request after.coming after.affected) awaits here))
