-- How many events rebalance a group.
use Rattle.std.proofs.Common.{◌≡◌, ◌≤◌, ◌+◌, ◌*◌, ◌-◌, ◌++◌, ◌==◌, ◌&&◌, ◌||◌, not, if◌then◌else◌, ℕ, zero, suc, Bool, true, false, List, [], ◌∷◌, Option, Some, length, length-append, arith, refl, ap}
use Rattle.bully_base.specs.NodeSet.{IsFallingBelow, highest_of}
use Rattle.bully_base.specs.Setup.{IsNode, Setup}
use Rattle.bully_calls.specs.declared.event.Event.{Event}
use Rattle.bully_rebalance.proofs.Telling.{has_fewer}
use Rattle.bully_rebalance.specs.Rebalancing.{calling, crashing, event_if, halting, is_member, prepared_by, preparing, repeated, rebalancing, rebalancing_by, whole_call}
use Rattle.bully_table.specs.Planning.{planned}
use Rattle.bully_world.specs.Cause.{is_down_at}
use Rattle.bully_world.specs.World.{World}

repeated_size : (n : ℕ) (events : List Event) → length (repeated n events) ≡ n * length events
repeated_size zero events = omega arith
repeated_size (suc n) events = let size = length-append events (repeated n events) in let more = repeated_size n events in omega (arith, size, more)

calling_size : (h n : ℕ) (b : Bool) → length (calling h n b) ≡ 3 * n + 1
calling_size h n b =
    let size = length-append (repeated n (whole_call h b)) (Event.Move h ∷ []) in
    let calls : length (repeated n (whole_call h b)) ≡ n * 3 = repeated_size n (whole_call h b) in
    omega (arith, size, calls)

halting_size : (live : List ℕ) (h k : ℕ) → length (halting live h k) ≡ 3 * k
halting_size live h zero = omega arith
halting_size live h (suc k) = let more = halting_size live h k in omega (arith, more)

-- one event or none
abbrev pub one_if : Bool → ℕ
one_if b = if b then 1 else 0

pub event_if_size : (b : Bool) (e : Event) → length (event_if b e) ≡ one_if b
event_if_size true e = refl
event_if_size false e = refl

pub one_if_most : (b : Bool) → one_if b ≤ 1
one_if_most true = omega arith
one_if_most false = omega arith

pub prepared_size : (p s d : Bool) (i : ℕ) → length (prepared_by p s d i) ≡ one_if (not d && (not p || s)) + one_if (p && (d || s))
prepared_size p s d i =
    let size = length-append (event_if (not d && (not p || s)) (Event.Crash i)) (event_if (p && (d || s)) (Event.Recover i)) in
    let crash = event_if_size (not d && (not p || s)) (Event.Crash i) in
    let recover = event_if_size (p && (d || s)) (Event.Recover i) in
    omega (arith, size, crash, recover)

pub preparing_more : (w : World) (live : List ℕ) (h n : ℕ) → length (preparing w live h (suc n)) ≡ length (preparing w live h n) + length (prepared_by (is_member live (suc n)) (suc n == h) (is_down_at w (suc n)) (suc n))
preparing_more w live h n = length-append (preparing w live h n) (prepared_by (is_member live (suc n)) (suc n == h) (is_down_at w (suc n)) (suc n))

pub preparing_size : (w : World) (live : List ℕ) (h n : ℕ) → length (preparing w live h n) ≤ 2 * n
preparing_size w live h zero = omega arith
preparing_size w live h (suc n) =
    let more = preparing_size w live h n in
    let size = preparing_more w live h n in
    let one = prepared_size (is_member live (suc n)) (suc n == h) (is_down_at w (suc n)) (suc n) in
    let crash = one_if_most (not (is_down_at w (suc n)) && (not (is_member live (suc n)) || (suc n == h))) in
    let recover = one_if_most (is_member live (suc n) && (is_down_at w (suc n) || (suc n == h))) in
    omega (arith, more, size, one, crash, recover)

pub crashing_more : (w : World) (n : ℕ) → length (crashing w (suc n)) ≡ length (crashing w n) + one_if (not (is_down_at w (suc n)))
crashing_more w n =
    let size = length-append (crashing w n) (event_if (not (is_down_at w (suc n))) (Event.Crash (suc n))) in
    let one = event_if_size (not (is_down_at w (suc n))) (Event.Crash (suc n)) in
    omega (arith, size, one)

pub crashing_size : (w : World) (n : ℕ) → length (crashing w n) ≤ n
crashing_size w zero = omega arith
crashing_size w (suc n) =
    let more = crashing_size w n in
    let size = crashing_more w n in
    let one = one_if_most (not (is_down_at w (suc n))) in
    omega (arith, more, size, one)

rebalancing_by_size : (setup : Setup) (w : World) (old : Option (List ℕ)) (live : List ℕ) (h others : ℕ) → IsNode setup h
    → length (rebalancing_by setup w old live h others) ≡ length (preparing w live h setup.nodes) + (3 * setup.nodes + 6 * others + 2)
rebalancing_by_size setup w old live h others node =
    let a = length-append (preparing w live h setup.nodes) (calling h (setup.nodes - h) false) in
    let b = length-append (preparing w live h setup.nodes ++ calling h (setup.nodes - h) false) (halting live h (h - 1) ++ Event.Move h ∷ []) in
    let c = length-append ((preparing w live h setup.nodes ++ calling h (setup.nodes - h) false) ++ (halting live h (h - 1) ++ Event.Move h ∷ [])) (calling h others true) in
    let d = length-append (((preparing w live h setup.nodes ++ calling h (setup.nodes - h) false) ++ (halting live h (h - 1) ++ Event.Move h ∷ [])) ++ calling h others true) (Event.Plan h (planned setup old live) ∷ []) in
    let e = length-append ((((preparing w live h setup.nodes ++ calling h (setup.nodes - h) false) ++ (halting live h (h - 1) ++ Event.Move h ∷ [])) ++ calling h others true) ++ Event.Plan h (planned setup old live) ∷ []) (calling h others true) in
    let f = length-append (halting live h (h - 1)) (Event.Move h ∷ []) in
    let asks = calling_size h (setup.nodes - h) false in
    let halts = halting_size live h (h - 1) in
    let tells = calling_size h others true in
    omega (arith, a, b, c, d, e, f, asks, halts, tells, node.0, node.1)

-- what rebalances a group of which some nodes are live
pub rebalancing_size : (setup : Setup) (w : World) (old : Option (List ℕ)) (live : List ℕ) (h : ℕ) → highest_of live ≡ Some h → IsNode setup h
    → length (rebalancing setup w old live) ≡ length (preparing w live h setup.nodes) + (3 * setup.nodes + 6 * (length live - 1) + 2)
rebalancing_size setup w old [] h is node = absurd (cc)
rebalancing_size setup w old (m ∷ ms) h is node = by_highest (cc)
  where
    by_highest : m ≡ h → length (rebalancing setup w old (m ∷ ms)) ≡ length (preparing w (m ∷ ms) h setup.nodes) + (3 * setup.nodes + 6 * (length (m ∷ ms) - 1) + 2)
    by_highest e =
        let same : length (rebalancing_by setup w old (m ∷ ms) m (length ms)) ≡ length (rebalancing_by setup w old (m ∷ ms) h (length ms)) = ap (λ k. length (rebalancing_by setup w old (m ∷ ms) k (length ms))) e in
        let size = rebalancing_by_size setup w old (m ∷ ms) h (length ms) node in
        omega (arith, same, size)

pub rebalancing_few : (setup : Setup) (w : World) (old : Option (List ℕ)) (live : List ℕ) → IsFallingBelow (setup.nodes + 1) live → length (rebalancing setup w old live) ≤ 11 * setup.nodes
rebalancing_few setup w old [] falls = let size = crashing_size w setup.nodes in omega (arith, size)
rebalancing_few setup w old (h ∷ low) falls =
    let within = falls.1 in
    let size = rebalancing_by_size setup w old (h ∷ low) h (length low) (falls.0, omega (arith, within)) in
    let prepared = preparing_size w (h ∷ low) h setup.nodes in
    let fewer = has_fewer low h falls.0 falls.2 in
    let positive = falls.0 in
    omega (arith, size, prepared, fewer, within, positive)
