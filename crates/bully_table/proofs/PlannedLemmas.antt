-- The planned table is balanced, and no balanced table has fewer moves.
use Rattle.std.proofs.Common.{◌≡◌, ◌≢◌, ℕ, zero, suc, ◌+◌, ◌-◌, ◌<◌, ◌≤◌, min, ◌⊎◌, inl, inr, Bool, true, false, cond, List, [], ◌∷◌, ◌++◌, map, length, arith, sym, refl, ◌∙◌, ap, Contains, add-one, Option, Some, None, All, ◌&&◌, not, ◌==◌, IfSome, is_none, sum_by}
use Rattle.std.specs.List.{range_with_len}
use Rattle.std.proofs.lemmas.Bool.Decides.{nat_tests}
use Rattle.std.proofs.lemmas.List.Elements.{All-get_or, All-from_get_or}
use Rattle.std.proofs.lemmas.List.FromFn.{length-map-range_with_len, get_or-map-range_with_len, map-range_with_len_more}
use Rattle.std.proofs.lemmas.List.Sums.{sum_by_push}
use Rattle.bully_base.specs.declared.TheConstants.{NODES_MAX}
use Rattle.bully_base.specs.NodeSet.{IsFallingBelow, highest_of}
use Rattle.bully_base.specs.Setup.{Setup, IsSetup}
use Rattle.bully_table.specs.Balance.{count_of, total_weight, base_of, IsFair, IsBalanced}
use Rattle.bully_table.specs.Planning.{owner_at, places_where, moves, moves_from, kept_from, IsFewest, IsMostKept, owners_before, rest_of, quota, stays, room, rooms_below, taker, planned_owner, planned_by, planned}
use Rattle.bully_table.proofs.BalanceSteps.{falling-within, falling-nodes}
use Rattle.bully_table.proofs.TotalLemmas.{total-sum_by, total-le, total-below-within, one}
use Rattle.bully_table.proofs.PlaceCounts.{places-none, places-next, places-more, places-le, places-not, places-parted, places-count_all}
use Rattle.bully_table.proofs.PartLemmas.{weighs, some-weighs}
use Rattle.bully_table.proofs.ShareLemmas.{quota-is, quotas-total, kept-most, counts-total}
use Rattle.bully_table.proofs.StayLemmas.{AreQuotas, stays-member, stays-count_all, room-is, stays-total, rooms-total, rooms_below-is, IsIn, taker-of, taker-only, taker-member}

-- how many of the first n partitions don't stay
abbrev pub leaving : (ℕ → ℕ) → List ℕ → List ℕ → ℕ → ℕ
leaving quotas before members n = places_where (λ k. not (stays quotas before members k)) n

pub leaving-le : (quotas : ℕ → ℕ) (before members : List ℕ) (p n : ℕ) → p < n → stays quotas before members p ≡ false → leaving quotas before members p < leaving quotas before members n
leaving-le quotas before members p zero l e = absurd (omega arith)
leaving-le quotas before members p (suc n) l e = by_case (grind arith) (places-next (λ k. not (stays quotas before members k)) n) (λ h. leaving-le quotas before members p n h e)
  where
    by_case : (p ≡ n) ⊎ (p < n) → leaving quotas before members (suc n) ≡ leaving quotas before members n + one (not (stays quotas before members n)) → (p < n → leaving quotas before members p < leaving quotas before members n) →
        leaving quotas before members p < leaving quotas before members (suc n)
    by_case (inl same) step more = grind (arith, same, e, step)
    by_case (inr h) step more = omega (arith, more h)

pub planned-stays : (quotas : ℕ → ℕ) (before members : List ℕ) (p : ℕ) → stays quotas before members p ≡ true → planned_owner quotas before members p ≡ owner_at before p
unfolding planned_owner
planned-stays quotas before members p e = rw e refl

pub planned-taken : (quotas : ℕ → ℕ) (before members : List ℕ) (p : ℕ) → stays quotas before members p ≡ false → planned_owner quotas before members p ≡ taker quotas before members (leaving quotas before members p)
unfolding planned_owner
planned-taken quotas before members p e = rw e refl

-- each owner is a member
planned-member : (quotas : ℕ → ℕ) (partitions bound : ℕ) (before members : List ℕ) (p : ℕ) → AreQuotas quotas partitions bound before members → p < partitions → Contains members (planned_owner quotas before members p)
planned-member quotas partitions bound before members p h l = by_case (stays quotas before members p) refl
  where
    by_case : (b : Bool) → stays quotas before members p ≡ b → Contains members (planned_owner quotas before members p)
    by_case true e = rw (planned-stays quotas before members p e) (stays-member quotas before members p e)
    by_case false e = rw (planned-taken quotas before members p e) (taker-member quotas bound before members (leaving quotas before members p) h.falling (omega (arith, rooms-total quotas partitions bound before members h, leaving-le quotas before members p partitions l e)))

-- how many of the first n partitions a member owns: those that stay with it, and those of its part that were reached
planned-count : (quotas : ℕ → ℕ) (bound : ℕ) (before members : List ℕ) (m n : ℕ) → IsFallingBelow bound members → Contains members m →
    places_where (λ p. planned_owner quotas before members p == m) n ≡ places_where (λ p. stays quotas before members p && (owner_at before p == m)) n + (min (leaving quotas before members n) (rooms_below quotas before members m + room quotas before members m) - min (leaving quotas before members n) (rooms_below quotas before members m))
planned-count quotas bound before members m zero falling x =
    let left = places-none (λ p. planned_owner quotas before members p == m) in
    let staying = places-none (λ p. stays quotas before members p && (owner_at before p == m)) in
    let none = places-none (λ k. not (stays quotas before members k)) in
    omega arith
planned-count quotas bound before members m (suc n) falling x =
    rw (← add-one) (by_case (stays quotas before members n) refl
    (planned-count quotas bound before members m n falling x)
    (places-more (λ p. planned_owner quotas before members p == m) n)
    (places-more (λ p. stays quotas before members p && (owner_at before p == m)) n)
    (places-more (λ k. not (stays quotas before members k)) n))
  where
    owned : ℕ → ℕ
    owned k = places_where (λ p. planned_owner quotas before members p == m) k

    staying : ℕ → ℕ
    staying k = places_where (λ p. stays quotas before members p && (owner_at before p == m)) k

    taken : (owner : ℕ) → taker quotas before members (leaving quotas before members n) ≡ owner →
        one (owner == m) ≡ (min (leaving quotas before members n + 1) (rooms_below quotas before members m + room quotas before members m) - min (leaving quotas before members n + 1) (rooms_below quotas before members m)) - (min (leaving quotas before members n) (rooms_below quotas before members m + room quotas before members m) - min (leaving quotas before members n) (rooms_below quotas before members m))
    taken owner e = by_owner (grind arith)
      where
        by_owner : (owner ≡ m) ⊎ (owner ≢ m) → one (owner == m) ≡ (min (leaving quotas before members n + 1) (rooms_below quotas before members m + room quotas before members m) - min (leaving quotas before members n + 1) (rooms_below quotas before members m)) - (min (leaving quotas before members n) (rooms_below quotas before members m + room quotas before members m) - min (leaving quotas before members n) (rooms_below quotas before members m))
        by_owner (inl same) =
            let within = taker-only quotas before members m (leaving quotas before members n) (falling-within bound members m falling x).0 (e ∙ same) in
            grind (arith, nat_tests, same, within)
        by_owner (inr apart) =
            let outside : ¬ IsIn quotas before members m (leaving quotas before members n) = λ within. apart (sym e ∙ taker-of quotas bound before members m (leaving quotas before members n) falling x within) in
            grind (arith, nat_tests, apart, outside)

    by_case : (b : Bool) → stays quotas before members n ≡ b →
        owned n ≡ staying n + (min (leaving quotas before members n) (rooms_below quotas before members m + room quotas before members m) - min (leaving quotas before members n) (rooms_below quotas before members m)) →
        owned (n + 1) ≡ owned n + one (planned_owner quotas before members n == m) →
        staying (n + 1) ≡ staying n + one (stays quotas before members n && (owner_at before n == m)) →
        leaving quotas before members (n + 1) ≡ leaving quotas before members n + one (not (stays quotas before members n)) →
        owned (n + 1) ≡ staying (n + 1) + (min (leaving quotas before members (n + 1)) (rooms_below quotas before members m + room quotas before members m) - min (leaving quotas before members (n + 1)) (rooms_below quotas before members m))
    by_case true e more here stay leave = grind (arith, e, more, here, stay, leave, planned-stays quotas before members n e)
    by_case false e more here stay leave =
        let next = taken (planned_owner quotas before members n) (sym (planned-taken quotas before members n e)) in
        grind (arith, e, more, here, stay, leave, next)

-- and its quota of all
planned-quota : (quotas : ℕ → ℕ) (partitions bound : ℕ) (before members : List ℕ) (m : ℕ) → AreQuotas quotas partitions bound before members → Contains members m →
    places_where (λ p. planned_owner quotas before members p == m) partitions ≡ quotas m
planned-quota quotas partitions bound before members m h x =
    let owned = planned-count quotas bound before members m partitions h.falling x in
    let staying = stays-count_all quotas bound before members m partitions h.falling x h.covers in
    let own_room = room-is quotas bound before members m h.falling x in
    let rooms = rooms-total quotas partitions bound before members h in
    let lower = rooms_below-is quotas before members m in
    let within = total-below-within (room quotas before members) bound m members h.falling x in
    omega arith

count-map_more : (f : ℕ → ℕ) (m n : ℕ) → count_of m (map f (range_with_len 0 (n + 1))) ≡ count_of m (map f (range_with_len 0 n)) + one (f n == m)
count-map_more f m n =
    ap (λ (xs : List ℕ). count_of m xs) (map-range_with_len_more f 0 n n (omega arith))
    ∙ sum_by_push (λ owner. cond (owner == m) 1 0) (map f (range_with_len 0 n)) (f n)

count-map : (f : ℕ → ℕ) (m n : ℕ) → count_of m (map f (range_with_len 0 n)) ≡ places_where (λ p. f p == m) n
count-map f m zero = sym (places-none (λ p. f p == m))
count-map f m (suc n) =
    let next : suc n ≡ n + 1 = omega arith in
    ap (λ (k : ℕ). count_of m (map f (range_with_len 0 k))) next
    ∙ (count-map_more f m n
    ∙ (ap (λ (k : ℕ). k + one (f n == m)) (count-map f m n)
    ∙ sym (places-next (λ p. f p == m) n)))

pub planned-covers : (quotas : ℕ → ℕ) (partitions : ℕ) (before members : List ℕ) → length (planned_by quotas partitions before members) ≡ partitions
planned-covers quotas partitions before members = length-map-range_with_len (planned_owner quotas before members) 0 partitions

planned-at : (quotas : ℕ → ℕ) (partitions : ℕ) (before members : List ℕ) (p : ℕ) → p < partitions → owner_at (planned_by quotas partitions before members) p ≡ planned_owner quotas before members p
planned-at quotas partitions before members p l = get_or-map-range_with_len (planned_owner quotas before members) 0 partitions p p 0 l (omega arith)

-- the table has the quotas
planned-owned : (quotas : ℕ → ℕ) (partitions bound : ℕ) (before members : List ℕ) → AreQuotas quotas partitions bound before members → All (Contains members) (planned_by quotas partitions before members)
planned-owned quotas partitions bound before members h =
    All-from_get_or (Contains members) (planned_by quotas partitions before members) 0
    (λ p l. let within : p < partitions = omega (arith, planned-covers quotas partitions before members) in rw (planned-at quotas partitions before members p within) (planned-member quotas partitions bound before members p h within))

planned-counted : (quotas : ℕ → ℕ) (partitions bound : ℕ) (before members : List ℕ) (m : ℕ) → AreQuotas quotas partitions bound before members → Contains members m → count_of m (planned_by quotas partitions before members) ≡ quotas m
planned-counted quotas partitions bound before members m h x = count-map (planned_owner quotas before members) m partitions ∙ planned-quota quotas partitions bound before members m h x

-- no more partitions move than those that don't stay
planned-moves : (quotas : ℕ → ℕ) (partitions : ℕ) (before members : List ℕ) → moves before (planned_by quotas partitions before members) ≤ leaving quotas before members partitions
planned-moves quotas partitions before members = rw (planned-covers quotas partitions before members) (places-le _ _ partitions (λ p l t. by_case p l t (stays quotas before members p) refl))
  where
    by_case : (p : ℕ) → p < partitions → not (owner_at before p == owner_at (planned_by quotas partitions before members) p) ≡ true → (b : Bool) → stays quotas before members p ≡ b → not (stays quotas before members p) ≡ true
    by_case p l t true e =
        let same : owner_at (planned_by quotas partitions before members) p ≡ owner_at before p = planned-at quotas partitions before members p l ∙ planned-stays quotas before members p e in
        absurd (grind (arith, nat_tests, t, same))
    by_case p l t false e = rw e refl

-- Quotas by weight.

-- there are members, they weigh something, and the old table has no more partitions than the setup
pub record Plannable (setup : Setup) (bound : ℕ) (before members : List ℕ) : Type 0 where
  pub falling : IsFallingBelow bound members
  pub some : 0 < length members
  pub weighs : 0 < total_weight setup members
  pub covers : length before ≤ setup.partitions

pub are-quotas : (setup : Setup) (bound : ℕ) (before members : List ℕ) → Plannable setup bound before members → AreQuotas (quota setup before members) setup.partitions bound before members
are-quotas setup bound before members h = record {
  falling = h.falling;
  whole = quotas-total setup bound before members h.falling h.some h.weighs;
  covers = h.covers;
}

pub planned-balanced : (setup : Setup) (bound : ℕ) (before members : List ℕ) → Plannable setup bound before members → IsBalanced setup (planned_by (quota setup before members) setup.partitions before members) members
planned-balanced setup bound before members h = record {
  owned = planned-owned (quota setup before members) setup.partitions bound before members (are-quotas setup bound before members h);
  fair = λ m x. rw (planned-counted (quota setup before members) setup.partitions bound before members m (are-quotas setup bound before members h) x) (quota-near m x);
}
  where
    quota-near : (m : ℕ) → Contains members m → IsFair (base_of setup members m) (quota setup before members m)
    quota-near m x =
        let is = quota-is (base_of setup members) (rest_of setup members) before members m x in
        (grind (arith, is), grind (arith, is))

-- and at least as many move, to any balanced table
balanced-moves : (setup : Setup) (bound : ℕ) (before members other : List ℕ) → Plannable setup bound before members → length other ≡ setup.partitions → IsBalanced setup other members →
    leaving (quota setup before members) before members setup.partitions ≤ moves before other
balanced-moves setup bound before members other h covers balanced =
    let staying = places-not (stays (quota setup before members) before members) setup.partitions in
    let kept = places-not (λ p. owner_at before p == owner_at other p) setup.partitions in
    let parted = places-parted (λ p. owner_at before p == owner_at other p) (owner_at other) bound members setup.partitions h.falling (λ p l e. All-get_or (Contains members) other p 0 (omega arith) balanced.owned) in
    let by_member = total-le kept_of (λ m. min (count_of m before) (count_of m other)) members (λ m x. kept_least m x) in
    let most = kept-most setup bound before members (λ m. count_of m other) h.falling h.some h.weighs balanced.fair (counts-total bound members other h.falling balanced.owned ∙ covers) in
    let total_is = stays-total (quota setup before members) setup.partitions bound before members (are-quotas setup bound before members h) in
    rw covers (omega arith)
  where
    kept_of : ℕ → ℕ
    kept_of m = places_where (λ p. (owner_at before p == owner_at other p) && (owner_at other p == m)) setup.partitions

    kept_least : (m : ℕ) → Contains members m → kept_of m ≤ min (count_of m before) (count_of m other)
    kept_least m x =
        let pos = (falling-within bound members m h.falling x).0 in
        let old = places-le (λ p. (owner_at before p == owner_at other p) && (owner_at other p == m)) (λ p. owner_at before p == m) setup.partitions (λ p l t. grind (arith, nat_tests, t)) in
        let new = places-le (λ p. (owner_at before p == owner_at other p) && (owner_at other p == m)) (λ p. owner_at other p == m) setup.partitions (λ p l t. grind (arith, nat_tests, t)) in
        let old_count = places-count_all before m setup.partitions pos h.covers in
        let new_count = places-count_all other m setup.partitions pos (omega arith) in
        omega arith

pub planned-fewest : (setup : Setup) (bound : ℕ) (old : Option (List ℕ)) (members : List ℕ) → Plannable setup bound (owners_before old) members → IsFewest setup old (planned setup old members) members
planned-fewest setup bound None members h = record {
  covers = planned-covers (quota setup [] members) setup.partitions [] members;
  balanced = planned-balanced setup bound [] members h;
  least = λ other covers balanced. omega arith;
}
planned-fewest setup bound (Some old) members h = record {
  covers = planned-covers (quota setup old members) setup.partitions old members;
  balanced = planned-balanced setup bound old members h;
  least = λ other covers balanced. omega (arith, planned-moves (quota setup old members) setup.partitions old members, balanced-moves setup bound old members other h covers balanced);
}

-- each partition stays or moves
kept-rest : (setup : Setup) (old : Option (List ℕ)) (table : List ℕ) → length table ≡ setup.partitions → kept_from old table + moves_from setup old table ≡ setup.partitions
kept-rest setup None table covers = omega arith
kept-rest setup (Some old) table covers = omega (arith, covers, places-not (λ p. owner_at old p == owner_at table p) (length table))

-- a table with the fewest moves keeps the most
pub fewest-keeps : (setup : Setup) (old : Option (List ℕ)) (members table : List ℕ) (count : ℕ) → IsFewest setup old table members → count ≡ moves_from setup old table → IsMostKept setup old members (setup.partitions - count)
fewest-keeps setup old members table count fewest e = record {
  some = (table, fewest.covers, fewest.balanced, omega (arith, e, kept-rest setup old table fewest.covers));
  none_more = λ other covers balanced. omega (arith, e, fewest.least other covers balanced, kept-rest setup old other covers, kept-rest setup old table fewest.covers);
}

-- no more partitions move than there are
pub moves-within : (setup : Setup) (old : Option (List ℕ)) (table : List ℕ) → length table ≡ setup.partitions → moves_from setup old table ≤ setup.partitions
moves-within setup None table covers = omega arith
moves-within setup (Some old) table covers = omega (arith, places-not (λ p. owner_at old p == owner_at table p) (length table))

-- what the code knows makes a plan possible
pub covers-from : (setup : Setup) (old : Option (List ℕ)) → IfSome old (λ t. length t ≡ setup.partitions) → length (owners_before old) ≤ setup.partitions
covers-from setup None h = omega arith
covers-from setup (Some old) h = omega arith

pub lengths-from : (old : Option (List ℕ)) (partitions n : ℕ) → IfSome old (λ t. length t ≡ partitions) → n ≡ partitions → IfSome old (λ t. length t ≡ n)
lengths-from None partitions n h e = tt
lengths-from (Some old) partitions n h e = omega arith

some-from : (highest : Option ℕ) (members : List ℕ) → highest ≡ highest_of members → is_none highest ≡ false → 0 < length members
some-from highest [] e h = absurd (grind (arith, e, h))
some-from highest (m ∷ ms) e h = omega arith

pub weighs-from : (setup : Setup) (members : List ℕ) (highest : Option ℕ) → IsSetup setup → IsFallingBelow (NODES_MAX + 1) members → All (λ m. m ≤ setup.nodes) members → highest ≡ highest_of members → is_none highest ≡ false → 0 < total_weight setup members
weighs-from setup members highest is falling nodes e some = weighs setup members is (falling-nodes (NODES_MAX + 1) setup.nodes members falling nodes) (some-from highest members e some)

pub plannable-from : (setup : Setup) (before members : List ℕ) → IsFallingBelow (NODES_MAX + 1) members → 0 < total_weight setup members → length before ≤ setup.partitions → Plannable setup (NODES_MAX + 1) before members
plannable-from setup before members falling heavy covers = record {
  falling = falling;
  some = some-weighs setup members heavy;
  weighs = heavy;
  covers = covers;
}

-- one partition more
pub planned-more : (f : ℕ → ℕ) (place owner : ℕ) (items next : List ℕ) → items ≡ map f (range_with_len 0 place) → owner ≡ f place → next ≡ items ++ owner ∷ [] → next ≡ map f (range_with_len 0 (place + 1))
planned-more f place owner items next was e more =
    more ∙ (ap (λ (xs : List ℕ). xs ++ owner ∷ []) was ∙ (ap (λ (k : ℕ). map f (range_with_len 0 place) ++ k ∷ []) e ∙ sym (map-range_with_len_more f 0 place place (omega arith))))

pub leaving-none : (quotas : ℕ → ℕ) (before members : List ℕ) → 0 ≡ leaving quotas before members 0
leaving-none quotas before members = sym (places-none (λ k. not (stays quotas before members k)))

pub leaving-more : (quotas : ℕ → ℕ) (before members : List ℕ) (place was next : ℕ) → stays quotas before members place ≡ false → was ≡ leaving quotas before members place → next ≡ was + 1 → next ≡ leaving quotas before members (place + 1)
leaving-more quotas before members place was next e is more = grind (arith, e, is, more, places-more (λ k. not (stays quotas before members k)) place)

pub leaving-same : (quotas : ℕ → ℕ) (before members : List ℕ) (place was next : ℕ) → stays quotas before members place ≡ true → was ≡ leaving quotas before members place → next ≡ was → next ≡ leaving quotas before members (place + 1)
leaving-same quotas before members place was next e is more = grind (arith, e, is, more, places-more (λ k. not (stays quotas before members k)) place)

-- and there is room for it
pub leaving-fits : (quotas : ℕ → ℕ) (partitions bound : ℕ) (before members : List ℕ) (place : ℕ) → AreQuotas quotas partitions bound before members → place < partitions → stays quotas before members place ≡ false →
    leaving quotas before members place < sum_by (room quotas before members) members
leaving-fits quotas partitions bound before members place h l e = omega (arith, rooms-total quotas partitions bound before members h, leaving-le quotas before members place partitions l e, total-sum_by (room quotas before members) members)

pub planned-found : (quotas : ℕ → ℕ) (before members : List ℕ) (place movers owner : ℕ) → stays quotas before members place ≡ false → movers ≡ leaving quotas before members place →
    owner ≡ taker quotas before members movers → owner ≡ planned_owner quotas before members place
planned-found quotas before members place movers owner e is found = found ∙ (ap (λ (j : ℕ). taker quotas before members j) is ∙ sym (planned-taken quotas before members place e))

-- what `staying_owner` tells
pub told-stays : (b : Bool) (owner at : ℕ) → Some owner ≡ cond b (Some at) None → (b ≡ true) × (owner ≡ at)
told-stays true owner at e = (refl, cc)
told-stays false owner at e = absurd (cc)

pub told-leaves : (b : Bool) (at : ℕ) → None ≡ cond b (Some at) None → b ≡ false
told-leaves true at e = absurd (cc)
told-leaves false at e = refl
