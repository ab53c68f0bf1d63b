-- Once it has read a snapshot, none is due.
use Rattle.std.proofs.Common.{◌≡◌, ◌⊎◌, inl, inr, ◌&&◌, ◌||◌, ◌==◌, not, if◌then◌else◌, ℕ, suc, zero, Bool, true, false, List, [], ◌∷◌, Option, Some, Contains, fold, arith, refl, sym, ap, ◌∙◌}
use Rattle.std.specs.List.{list_any}
use Rattle.bully_base.proofs.NodeSetLemmas.{Contains-from, Has-from, with_node-members}
use Rattle.bully_base.specs.NodeSet.{with_node}
use Rattle.bully_member.specs.Due.{is_admitted_since, is_outdated}
use Rattle.bully_member.specs.Member.{MemberState, admitted_among, is_admitted, is_down, is_under_way, lease_of, stay_left, with_admitted}
use Rattle.bully_member.specs.Told.{found, own_by, with_arrivals}
use Rattle.bully_member.specs.declared.values.Lease.{Lease}
use Rattle.bully_member.specs.declared.values.Request.{Request}
use Rattle.bully_member.specs.declared.values.SessionId.{SessionId}
use Rattle.bully_member.specs.declared.values.SessionState.{SessionState}
use Rattle.bully_member.specs.declared.values.Step.{Step}
use Rattle.bully_rebalance.proofs.Preparing.{has_is_member, is_member_has}
use Rattle.bully_rebalance.specs.Rebalancing.{is_member}
use Rattle.bully_round.proofs.TurnLemmas.{by_fresh, look_is}
use Rattle.bully_round.specs.Progress.{HasLooked, TakesTurn}
use Rattle.bully_run.proofs.AnswerLemmas.{own_reported}

-- Each lease that is admitted is that of a node of the group.

member_of : (ms : List ℕ) (k j : ℕ) → (j ≡ k) ⊎ Contains ms j → is_member (with_node k ms) j ≡ true
member_of ms k j is = is_member_has (with_node k ms) j (Has-from (with_node k ms) j ((with_node-members ms k j).1 is))

stays_member : (m : MemberState) (now : ℕ) (w : Bool) (leases : List Lease) (nodes : List ℕ) (i : ℕ) → is_member nodes i ≡ true → is_member (fold (with_admitted m now w) nodes leases) i ≡ true
stays_member m now w [] nodes i is = is
stays_member m now w (p ∷ ps) nodes i is = stays_member m now w ps (with_admitted m now w nodes p) i (by_test (is_admitted m now w p))
  where
    by_test : (b : Bool) → is_member (if b then with_node p.node nodes else nodes) i ≡ true
    by_test true = member_of nodes p.node i (inr (Contains-from nodes i (has_is_member nodes i is)))
    by_test false = is

admitted_member : (m : MemberState) (now : ℕ) (w : Bool) (leases : List Lease) (nodes : List ℕ) (p : Lease) → Contains leases p → is_admitted m now w p ≡ true → is_member (fold (with_admitted m now w) nodes leases) p.node ≡ true
admitted_member m now w [] nodes p (i, low, at) is = absurd (omega (arith, low))
admitted_member m now w (q ∷ qs) nodes p (zero, low, at) is =
    let same : q ≡ p = cc at in
    stays_member m now w qs (with_admitted m now w nodes q) p.node (by_test (is_admitted m now w q) (ap (is_admitted m now w) same ∙ is) (sym (ap (λ (x : Lease). x.node) same)))
  where
    by_test : (b : Bool) → b ≡ true → p.node ≡ q.node → is_member (if b then with_node q.node nodes else nodes) p.node ≡ true
    by_test true yes_it same = member_of nodes q.node p.node (inl same)
    by_test false yes_it same = absurd (cc yes_it)
admitted_member m now w (q ∷ qs) nodes p (suc i, low, at) is = admitted_member m now w qs (with_admitted m now w nodes q) p (i, omega (arith, low), at) is

-- So none is admitted since.

since_not : (leaving in_it up over follows : Bool) → (not leaving && (up || over || follows) ≡ true → in_it ≡ true) → (not leaving && not in_it) && over ≡ false
since_not true in_it up over follows is = refl
since_not false true up over follows is = refl
since_not false false up false follows is = refl
since_not false false true true follows is = absurd (cc (is refl))
since_not false false false true follows is = absurd (cc (is refl))

any_not : (test : Lease → Bool) (leases : List Lease) → ((p : Lease) → Contains leases p → test p ≡ false) → list_any test leases ≡ false
any_not test [] none = refl
any_not test (p ∷ ps) none = by_test (test p) (none p (0, omega arith, refl)) (any_not test ps (λ q has. none q (suc has.0, omega (arith, has.1), has.2)))
  where
    by_test : (b : Bool) → b ≡ false → list_any test ps ≡ false → b || list_any test ps ≡ false
    by_test true is more = absurd (cc is)
    by_test false is more = more

none_since : (m : MemberState) (now : ℕ) (leases : List Lease) (u r : Bool) (coming : Option (List ℕ)) (affected : List ℕ)
    → list_any (is_admitted_since (found m now leases u r (admitted_among m now leases) coming affected) now) leases ≡ false
none_since m now leases u r coming affected = any_not (is_admitted_since (found m now leases u r (admitted_among m now leases) coming affected) now) leases
    (λ p has. since_not p.is_leaving (is_member (admitted_among m now leases) p.node) (not (is_down m p.node)) (stay_left m.arrivals now p.node == 0) (is_under_way m leases) (λ is. admitted_member m now (is_under_way m leases) leases [] p has is))

-- what the member finds of its own lease changes nothing of that
same_since : (f : MemberState) (now : ℕ) (state : SessionState) (here : Option Lease) → list_any (is_admitted_since (own_by f state here) now) (own_by f state here).leases ≡ list_any (is_admitted_since f now) f.leases
same_since f now state here = ap (λ (x : MemberState). list_any (is_admitted_since x now) x.leases) (own_reported f state here)

neither : (a b : Bool) → a ≡ false → b ≡ false → a || b ≡ false
neither true b one other = absurd (cc one)
neither false b one other = other

looked_fresh : (mid after : MemberState) (now at : ℕ) (session : SessionId) (since : ℕ) → mid.asked ≡ Some (record { request = Request.Snapshot; at = now }) → HasLooked mid at after → after.session ≡ SessionState.Live session since → is_outdated after at ≡ false
looked_fresh mid after now at session since asked looked live = neither after.needs_snapshot _ fresh quiet
  where
    b : MemberState
    b = with_arrivals looked.behind at looked.leases

    f : MemberState
    f = found b at looked.leases looked.has_unknown looked.has_request (admitted_among b at looked.leases) after.coming after.affected

    is : after ≡ own_by f f.session (lease_of f.terms.node f.leases)
    is = look_is mid looked.behind after now at looked.leases looked.has_unknown looked.has_request
        (ap (λ (x : MemberState). x.asked) looked.learns.rest ∙ asked) (ap (λ (x : MemberState). x.terms.epoch) looked.learns.rest) looked.reads

    fresh : after.needs_snapshot ≡ false
    fresh = ap (λ (x : MemberState). x.needs_snapshot) is ∙ by_fresh f f.session (lease_of f.terms.node f.leases) session since refl (sym (ap (λ (x : MemberState). x.session) is) ∙ live)

    quiet : list_any (is_admitted_since after at) after.leases ≡ false
    quiet = ap (λ (x : MemberState). list_any (is_admitted_since x at) x.leases) is ∙ same_since f at f.session (lease_of f.terms.node f.leases)
        ∙ none_since b at looked.leases looked.has_unknown looked.has_request after.coming after.affected

pub fresh_lem : (m after : MemberState) (now at : ℕ) (session : SessionId) (since : ℕ) → TakesTurn m now at (Step.Ask Request.Snapshot) after → after.session ≡ SessionState.Live session since → is_outdated after at ≡ false
fresh_lem m after now at session since turn live = looked_fresh turn.mid after now at session since (ap (λ (x : MemberState). x.asked) turn.goes.noted) turn.reported live
