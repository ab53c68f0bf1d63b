-- Who holds the lease of a member's own node doesn't change what it sees coming.
use Rattle.std.proofs.Common.{◌≡◌, ◌∙◌, ℕ, Bool, List, None, Option, Some, ap, refl, sym}
use Rattle.bully_member.specs.Member.{MemberState, admitted_among, lease_of}
use Rattle.bully_member.specs.Told.{found, found_here, own_by, own_by_promise, own_promise, with_own}
use Rattle.bully_member.specs.declared.values.Lease.{Lease}
use Rattle.bully_member.specs.declared.values.Promise.{Promise}
use Rattle.bully_member.specs.declared.values.SessionState.{SessionState}

promise_coming : (m : MemberState) (own : Option (Promise × Bool)) → ((own_by_promise m own).coming ≡ m.coming) × ((own_by_promise m own).affected ≡ m.affected)
promise_coming m None = (refl, refl)
promise_coming m (Some own) = (refl, refl)

by_coming : (m : MemberState) (s : SessionState) (here : Option Lease) → ((own_by m s here).coming ≡ m.coming) × ((own_by m s here).affected ≡ m.affected)
by_coming m (SessionState.Live session since) here = promise_coming m (own_promise m session here)
by_coming m (SessionState.Absent) here = (refl, refl)
by_coming m (SessionState.Unknown session) here = (refl, refl)

-- what was found by a snapshot, and then by the lease of its own node, is what the member sees coming in the end
pub own_found : (m : MemberState) (now : ℕ) (leases : List Lease) (has_unknown has_request : Bool) (group : List ℕ) (coming : Option (List ℕ)) (affected : List ℕ) (new : MemberState)
    → group ≡ admitted_among m now leases → new ≡ with_own (found m now leases has_unknown has_request group coming affected)
    → new ≡ found_here m now leases has_unknown has_request new.coming new.affected
own_found m now leases has_unknown has_request group coming affected new admitted made =
    let before = found m now leases has_unknown has_request group coming affected in
    let same = by_coming before before.session (lease_of before.terms.node before.leases) in
    let one : new.coming ≡ coming = ap (λ (n : MemberState). n.coming) made ∙ same.0 in
    let two : new.affected ≡ affected = ap (λ (n : MemberState). n.affected) made ∙ same.1 in
    made
    ∙ ap (λ g. with_own (found m now leases has_unknown has_request g coming affected)) admitted
    ∙ ap (λ s. found_here m now leases has_unknown has_request s affected) (sym one)
    ∙ ap (λ s. found_here m now leases has_unknown has_request new.coming s) (sym two)
