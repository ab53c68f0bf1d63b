-- What the loops of rebalancing push and count, step by step.
use Rattle.std.proofs.Common.{◌≡◌, ◌<◌, ◌+◌, ◌-◌, ◌++◌, ◌↔◌, ◌==◌, not, ℕ, suc, Bool, true, false, List, [], IsTrue, Contains, length, length-append, arith, refl, sym, ap, ◌∙◌, append_assoc}
use Rattle.bully_base.proofs.NodeSetLemmas.{Contains-from, Has-from}
use Rattle.bully_calls.specs.declared.event.Event.{Event}
use Rattle.bully_rebalance.proofs.Preparing.{has_is_member, is_member_has}
use Rattle.bully_rebalance.specs.Rebalancing.{crashing, event_if, halting, is_member, prepared_by, preparing, repeated, whole_call}
use Rattle.bully_world.specs.Cause.{is_down_at}
use Rattle.bully_world.specs.World.{World}

-- the first of what is left is pushed
pushed : (items now old all first rest left : List Event) → items ++ left ≡ old ++ all → left ≡ first ++ rest → now ≡ items ++ first → now ++ rest ≡ old ++ all
pushed items now old all first rest left so_far is push = ap (λ xs. xs ++ rest) push ∙ append_assoc items first rest ∙ ap (λ xs. items ++ xs) (sym is) ∙ so_far

repeated_first : (n m : ℕ) (events : List Event) → n ≡ suc m → repeated n events ≡ events ++ repeated m events
repeated_first n m events e = ap (λ k. repeated k events) e

pub calls_more : (items now old : List Event) (count i : ℕ) (events : List Event) → items ++ repeated (count - i) events ≡ old ++ repeated count events → i < count → now ≡ items ++ events
    → now ++ repeated (count - (i + 1)) events ≡ old ++ repeated count events
calls_more items now old count i events so_far l push =
    pushed items now old (repeated count events) events (repeated (count - (i + 1)) events) (repeated (count - i) events) so_far (repeated_first (count - i) (count - (i + 1)) events (omega (arith, l))) push

halting_first : (live : List ℕ) (h n m k : ℕ) (b : Bool) → n ≡ suc m → k ≡ n → b ≡ is_member live k → halting live h n ≡ whole_call h b ++ halting live h m
halting_first live h n m k b e f is = ap (halting live h) e ∙ ap (λ t. whole_call h t ++ halting live h m) (ap (is_member live) (sym e ∙ sym f) ∙ sym is)

pub halts_more : (items now old : List Event) (live : List ℕ) (h below i k : ℕ) (b : Bool) → items ++ halting live h (below - i) ≡ old ++ halting live h below → i < below → k ≡ below - i → b ≡ is_member live k
    → now ≡ items ++ whole_call h b → now ++ halting live h (below - (i + 1)) ≡ old ++ halting live h below
halts_more items now old live h below i k b so_far l e is push =
    pushed items now old (halting live h below) (whole_call h b) (halting live h (below - (i + 1))) (halting live h (below - i)) so_far (halting_first live h (below - i) (below - (i + 1)) k b (omega (arith, l)) e is) push

-- whether a node is a member, as a test
pub member_test : (live : List ℕ) (k : ℕ) (b : Bool) → IsTrue b ↔ Contains live k → b ≡ is_member live k
member_test live k true is = sym (is_member_has live k (Has-from live k (is.0 refl)))
member_test live k false is = by_test (is_member live k) (λ t. is.1 (Contains-from live k (has_is_member live k t)))
  where
    by_test : (t : Bool) → (t ≡ true → false ≡ true) → false ≡ t
    by_test true more = more refl
    by_test false more = refl

pub prepared_more : (items now old : List Event) (w : World) (live : List ℕ) (h n node : ℕ) (p s d : Bool) → items ≡ old ++ preparing w live h n → n + 1 ≡ node → p ≡ is_member live node → s ≡ (node == h) → d ≡ is_down_at w node
    → now ≡ items ++ prepared_by p s d node → now ≡ old ++ preparing w live h (n + 1)
prepared_more items now old w live h n node p s d so_far next e f g push =
    push ∙ ap (λ xs. xs ++ prepared_by p s d node) so_far ∙ append_assoc old (preparing w live h n) (prepared_by p s d node) ∙ ap (λ xs. old ++ xs) (sym one)
  where
    counted : n + 1 ≡ suc n
    counted = omega arith

    same : prepared_by p s d node ≡ prepared_by (is_member live (suc n)) (suc n == h) (is_down_at w (suc n)) (suc n)
    same =
        ap (λ b. prepared_by b s d node) e ∙ ap (λ b. prepared_by (is_member live node) b d node) f ∙ ap (λ b. prepared_by (is_member live node) (node == h) b node) g
        ∙ ap (λ k. prepared_by (is_member live k) (k == h) (is_down_at w k) k) (sym next ∙ counted)

    one : preparing w live h (n + 1) ≡ preparing w live h n ++ prepared_by p s d node
    one = ap (preparing w live h) counted ∙ ap (λ xs. preparing w live h n ++ xs) (sym same)

crashed_more : (w : World) (n node : ℕ) → n + 1 ≡ node → crashing w (n + 1) ≡ crashing w n ++ event_if (not (is_down_at w node)) (Event.Crash node)
crashed_more w n node next =
    ap (crashing w) counted ∙ ap (λ k. crashing w n ++ event_if (not (is_down_at w k)) (Event.Crash k)) (sym counted ∙ next)
  where
    counted : n + 1 ≡ suc n
    counted = omega arith

pub crashes_more : (items now old : List Event) (w : World) (n node : ℕ) (d : Bool) → items ≡ old ++ crashing w n → n + 1 ≡ node → d ≡ is_down_at w node → now ≡ items ++ event_if (not d) (Event.Crash node) → now ≡ old ++ crashing w (n + 1)
crashes_more items now old w n node d so_far next is push =
    push ∙ ap (λ xs. xs ++ event_if (not d) (Event.Crash node)) so_far ∙ append_assoc old (crashing w n) (event_if (not d) (Event.Crash node))
    ∙ ap (λ xs. old ++ xs) (ap (λ b. crashing w n ++ event_if (not b) (Event.Crash node)) is ∙ sym (crashed_more w n node next))

-- One node more is counted.

pub crash_counted : (w : World) (count more n node : ℕ) (d : Bool) → count ≡ length (crashing w n) → n + 1 ≡ node → d ≡ is_down_at w node → ((i : ℕ) → length (event_if (not d) (Event.Crash i)) ≡ more)
    → count + more ≡ length (crashing w (n + 1))
crash_counted w count more n node d so_far next is one =
    let size = length-append (crashing w n) (event_if (not (is_down_at w node)) (Event.Crash node)) in
    let this : length (event_if (not (is_down_at w node)) (Event.Crash node)) ≡ more = ap (λ b. length (event_if (not b) (Event.Crash node))) (sym is) ∙ one node in
    let whole : length (crashing w (n + 1)) ≡ length (crashing w n ++ event_if (not (is_down_at w node)) (Event.Crash node)) = ap length (crashed_more w n node next) in
    omega (arith, so_far, size, this, whole)

pub prepared_counted : (w : World) (live : List ℕ) (h count more n node : ℕ) (p s d : Bool) → count ≡ length (preparing w live h n) → n + 1 ≡ node → p ≡ is_member live node → s ≡ (node == h) → d ≡ is_down_at w node
    → ((i : ℕ) → length (prepared_by p s d i) ≡ more) → count + more ≡ length (preparing w live h (n + 1))
prepared_counted w live h count more n node p s d so_far next e f g one =
    let whole : preparing w live h n ++ prepared_by p s d node ≡ [] ++ preparing w live h (n + 1) = prepared_more (preparing w live h n) (preparing w live h n ++ prepared_by p s d node) [] w live h n node p s d refl next e f g refl in
    let size = length-append (preparing w live h n) (prepared_by p s d node) in
    let this = one node in
    let same : length (preparing w live h n ++ prepared_by p s d node) ≡ length (preparing w live h (n + 1)) = ap length whole in
    omega (arith, so_far, size, this, same)
