-- Whom members admit while a change is under way, and what they admit without the promises of others.
use Rattle.std.proofs.Common.{◌≡◌, ◌&&◌, ◌||◌, ◌==◌, not, ℕ, Bool, true, false, List, [], ◌∷◌, if◌then◌else◌, nat_lt, fold, map, arith, refl, sym, ap, ◌∙◌}
use Rattle.std.proofs.lemmas.Bool.Decides.{nat_tests}
use Rattle.std.proofs.lemmas.List.Folds.{fold-map}
use Rattle.std.specs.List.{list_any}
use Rattle.bully_base.specs.NodeSet.{with_node}
use Rattle.bully_member.proofs.RoleLemmas.{any_map, no_first}
use Rattle.bully_member.specs.Admitting.{staying_among, with_staying}
use Rattle.bully_member.specs.Member.{MemberState, admitted_among, is_down, is_kept_out, is_under_way, stay_left, with_admitted}
use Rattle.bully_member.specs.Roles.{unpromised}
use Rattle.bully_member.specs.declared.values.Lease.{Lease}

-- While a change is under way everybody is admitted who doesn't leave.

all_but_leaving : (leaving down over : Bool) (one other : List ℕ) → (if not leaving && (not down || over || true) then one else other) ≡ (if leaving then other else one)
all_but_leaving true down over one other = refl
all_but_leaving false false over one other = refl
all_but_leaving false true true one other = refl
all_but_leaving false true false one other = refl

-- Who isn't kept out is admitted in any case, or in none.

second_not : (a b : Bool) → (a || b) ≡ false → b ≡ false
second_not true b is = absurd (cc is)
second_not false b is = is

over_if : (s : ℕ) → nat_lt 0 s ≡ false → (s == 0) ≡ true
over_if s is = grind (arith, nat_tests, is)

in_any_case : (over under_way : Bool) → over ≡ true → (over || under_way) ≡ (over || false)
in_any_case true under_way is = refl
in_any_case false under_way is = absurd (cc is)

either : (leaving down under_way : Bool) (s : ℕ) → (not leaving && down && nat_lt 0 s) ≡ false
    → (not leaving && (not down || (s == 0) || under_way)) ≡ (not leaving && (not down || (s == 0) || false))
either true down under_way s none = refl
either false false under_way s none = refl
either false true under_way s none = in_any_case (s == 0) under_way (over_if s none)

module _ (m : MemberState) (now : ℕ) where
  admits_all : (nodes : List ℕ) (leases : List Lease) → fold (with_admitted m now true) nodes leases ≡ fold with_staying nodes leases
  admits_all nodes [] = refl
  admits_all nodes (p ∷ ps) =
      ap (λ ns. fold (with_admitted m now true) ns ps) (all_but_leaving p.is_leaving (is_down m p.node) (stay_left m.arrivals now p.node == 0) (with_node p.node nodes) nodes)
      ∙ admits_all (with_staying nodes p) ps

  pub admitted_alike : (leases : List Lease) → is_under_way m leases ≡ true → admitted_among m now leases ≡ staying_among leases
  admitted_alike leases under_way = ap (λ w. fold (with_admitted m now w) [] leases) under_way ∙ admits_all [] leases

  -- nobody is kept out, so it is all one whether a change is under way
  plain : (under_way : Bool) (nodes : List ℕ) (leases : List Lease) → list_any (is_kept_out m now) leases ≡ false → fold (with_admitted m now under_way) nodes leases ≡ fold (with_admitted m now false) nodes leases
  plain under_way nodes [] none = refl
  plain under_way nodes (p ∷ ps) none =
      ap (λ b. fold (with_admitted m now under_way) (if b then with_node p.node nodes else nodes) ps)
      (either p.is_leaving (is_down m p.node) under_way (stay_left m.arrivals now p.node) (no_first (is_kept_out m now p) _ none))
      ∙ plain under_way (with_admitted m now false nodes p) ps (second_not (is_kept_out m now p) _ none)

  pub admits_bare : (leases : List Lease) → list_any (is_kept_out m now) leases ≡ false → admitted_among m now (map (unpromised m.terms.node) leases) ≡ admitted_among m now leases
  admits_bare leases none =
      plain (is_under_way m (map drop leases)) [] (map drop leases) (any_map (is_kept_out m now) drop leases ∙ none)
      ∙ fold-map (with_admitted m now false) drop [] leases
      ∙ sym (plain (is_under_way m leases) [] leases none)
    where
      drop : Lease → Lease
      drop = unpromised m.terms.node
