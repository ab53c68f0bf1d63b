-- New seats, the lowest actor whose log differs, and where each entry stands.
use Rattle.std.proofs.Common.{◌≡◌, ◌<◌, ◌≤◌, ◌+◌, ◌-◌, ◌++◌, ◌⊎◌, ℕ, zero, suc, List, [], ◌∷◌, Some, length, length-append, get_or, arith, refl, sym, ap, subst, ◌∙◌, inl, inr, ⊎_elim, slice_get}
use Rattle.bully_group.specs.Seat.{SeatState, AreNewSeats, IsSeat, IsKnown, last_of}
use Rattle.bully_base.specs.declared.TheConstants.{NODES_MAX}
use Rattle.bully_watch.specs.declared.entry.Entry.{Entry}
use Rattle.std.proofs.lemmas.Option.{slice_get_within, slice_get-get_or}

-- what stands in a list with one more at its end
pub snoc_get : {X : Type 0} (xs : List X) (x y : X) (i : ℕ) → slice_get (xs ++ x ∷ []) i ≡ Some y → (slice_get xs i ≡ Some y) ⊎ ((i ≡ length xs) × (x ≡ y))
snoc_get [] x y zero is = let same : x ≡ y = cc in inr (refl, same)
snoc_get [] x y (suc i) is = absurd cc
snoc_get (z ∷ xs) x y zero is = inl is
snoc_get (z ∷ xs) x y (suc i) is = ⊎_elim (λ a. inl a) (λ (p : (i ≡ length xs) × (x ≡ y)). inr (omega (arith, p.0), p.1)) (snoc_get xs x y i is)

-- one new seat more
pub new_seat_more : (n : ℕ) (seats : List SeatState) (s : SeatState) → AreNewSeats n seats → s.actor ≡ n → s.log ≡ [] → AreNewSeats (n + 1) (seats ++ s ∷ [])
new_seat_more n seats s all who new = record {
  len = omega (arith, length-append seats (s ∷ []), all.len);
  each = λ i t is.
      ⊎_elim (λ (a : slice_get seats i ≡ Some t). all.each i t a)
      (λ (p : (i ≡ length seats) × (s ≡ t)). (sym (ap (λ (z : SeatState). z.actor) p.1) ∙ (who ∙ (sym all.len ∙ sym p.0)), sym (ap (λ (z : SeatState). z.log) p.1) ∙ new)) (snoc_get seats s t i is);
}

-- nothing stands in an empty log
pub new_seat : (s : SeatState) → s.actor ≤ NODES_MAX → s.log ≡ [] → IsSeat s
new_seat s within new = record {
  within = within;
  rising = λ i j p q below at later. absurd (grind (arith, new, at));
  own = λ i p at. absurd (grind (arith, new, at));
}

pub le_cases : (i k : ℕ) → i ≤ k → (i < k) ⊎ (i ≡ k)
le_cases zero zero h = inr refl
le_cases zero (suc k) h = inl (omega arith)
le_cases (suc i) zero h = absurd (omega (arith, h))
le_cases (suc i) (suc k) h = ⊎_elim (λ (a : i < k). inl (omega (arith, a))) (λ (a : i ≡ k). inr (ap suc a)) (le_cases i k (omega (arith, h)))

-- each index of a seat that is known is one of the history
last_after : (s : SeatState) (history : List Entry) (i : ℕ) (p : ℕ × Entry) → IsSeat s → IsKnown history s → slice_get s.log i ≡ Some p → p.0 < length history
last_after s history i p kept known at = by_last (le_cases i (length s.log - 1) (omega (arith, within)))
  where
    within : i < length s.log
    within = slice_get_within s.log i p at

    is_last : (q : ℕ × Entry) → last_of s ≡ Some q → q.0 < length history
    is_last q last = slice_get_within history q.0 q.1 (known.stands q.0 q.1 last)

    there : slice_get s.log (length s.log - 1) ≡ Some (get_or s.log (length s.log - 1) p)
    there = slice_get-get_or s.log (length s.log - 1) p (omega (arith, within))

    by_last : (i < length s.log - 1) ⊎ (i ≡ length s.log - 1) → p.0 < length history
    by_last (inl before) = let first = kept.rising i (length s.log - 1) p (get_or s.log (length s.log - 1) p) before at there in let last = is_last (get_or s.log (length s.log - 1) p) there in omega (arith, first, last)
    by_last (inr same) = is_last p (subst (λ (k : ℕ). slice_get s.log k ≡ Some p) same at)

-- a seat with one entry more, which is the history's last
pub seat_more : (s : SeatState) (history : List Entry) (e : Entry) → IsSeat s → IsKnown history s → e.actor ≡ s.actor → IsSeat (record { actor = s.actor; log = s.log ++ (length history, e) ∷ [] })
seat_more s history e kept known who = record {
  within = kept.within;
  rising = λ i j p q below at later. by_place i j p q below (snoc_get s.log (length history, e) p i at) (snoc_get s.log (length history, e) q j later);
  own = λ i p at.
      ⊎_elim (λ (a : slice_get s.log i ≡ Some p). kept.own i p a)
      (λ (a : (i ≡ length s.log) × ((length history, e) ≡ p)). sym (ap (λ (x : ℕ × Entry). x.1.actor) a.1) ∙ who) (snoc_get s.log (length history, e) p i at);
}
  where
    by_place : (i j : ℕ) (p q : ℕ × Entry) → i < j → (slice_get s.log i ≡ Some p) ⊎ ((i ≡ length s.log) × ((length history, e) ≡ p)) → (slice_get s.log j ≡ Some q) ⊎ ((j ≡ length s.log) × ((length history, e) ≡ q)) → p.0 < q.0
    by_place i j p q below (inl a) (inl b) = kept.rising i j p q below a b
    by_place i j p q below (inl a) (inr b) = let before = last_after s history i p kept known a in let is : length history ≡ q.0 = ap (λ (x : ℕ × Entry). x.0) b.1 in omega (arith, before, is)
    by_place i j p q below (inr a) (inl b) = let within = slice_get_within s.log j q b in absurd (omega (arith, within, below, a.0))
    by_place i j p q below (inr a) (inr b) = absurd (omega (arith, below, a.0, b.0))
