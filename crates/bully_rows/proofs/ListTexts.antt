-- The text of a table, of weights and of a set, read back.
use Rattle.std.proofs.Common.{◌≡◌, ◌∙◌, ℕ, ◌+◌, ◌^◌, ◌<◌, ◌≤◌, ◌++◌, Bool, true, false, List, [], ◌∷◌, length, map, reverse, Option, Some, None, Ok, All, append-nil, arith, refl, ap, ◌==◌, IfSome, codes, nat_le, nat_lt, option_and_then, if◌then◌else◌}
use Rattle.std.specs.Str.{bytes_eq}
use Rattle.std.specs.Fmt.{decimal}
use Rattle.std.specs.List.{list_any}
use Rattle.std.proofs.lemmas.Bool.Decides.{nat_tests}
use Rattle.std.proofs.lemmas.List.{length-map, length-reverse, map-append, reverse-append}
use Rattle.std.proofs.lemmas.List.Elements.{All-head, All-nil, All-push, All-same, All-tail, All-weaker}
use Rattle.std.proofs.lemmas.List.Splits.{slice_split_at, slice_split_none}
use Rattle.bully_base.specs.NodeSet.{IsFallingBelow, with_node}
use Rattle.bully_base.specs.Setup.{AreWeights, IsNode, IsSetup, IsWeight, Setup}
use Rattle.bully_table.specs.TableText.{is_no_number, names_nobody, owner_of, owners_text, pieces_of, table_of_text}
use Rattle.bully_rows.specs.declared.header.Version.{Version}
use Rattle.bully_rows.specs.Headers.{node_in, nodes_max, weights_from, weights_in}
use Rattle.bully_rows.specs.ReadBack.{AreOwners, IsNamed}
use Rattle.bully_rows.specs.Rows.{is_above, set_from, set_in, task_in}
use Rattle.bully_rows.specs.TraceText.{set_text, task_text}
use Rattle.bully_rows.proofs.NumberTexts.{decimal-digits, decimal-no_dash, named-small, node-read, number-read, unspaced, weight-read}

-- ---- numbers with a space between each two

abbrev pub AreSmall : List ℕ → Type 0
AreSmall xs = All (λ n. n < 2 ^ 64) xs

-- the pieces are the texts of the numbers
pub pieces-read : (x : ℕ) (xs : List ℕ) → AreSmall (x ∷ xs) → pieces_of (owners_text 32 (x ∷ xs)) ≡ map decimal (x ∷ xs)
pieces-read x [] small =
    slice_split_none (λ b. b == 32) (decimal x) (unspaced (decimal x) (decimal-digits x (All-head (λ n. n < 2 ^ 64) x [] small)))
pieces-read x (y ∷ xs) small =
    slice_split_at (λ b. b == 32) (decimal x) 32 (owners_text 32 (y ∷ xs))
    (unspaced (decimal x) (decimal-digits x (All-head (λ n. n < 2 ^ 64) x (y ∷ xs) small))) refl
    ∙ ap (λ (ps : List (List ℕ)). decimal x ∷ ps) (pieces-read y xs (All-tail (λ n. n < 2 ^ 64) x (y ∷ xs) small))

-- they are no dash
pub numbers-no_dash : (x : ℕ) (xs : List ℕ) → AreSmall (x ∷ xs) → bytes_eq (owners_text 32 (x ∷ xs)) (codes "-") ≡ false
numbers-no_dash x [] small = rw (append-nil (decimal x)) at (decimal-no_dash x [] (All-head (λ n. n < 2 ^ 64) x [] small))
numbers-no_dash x (y ∷ xs) small = decimal-no_dash x (32 ∷ owners_text 32 (y ∷ xs)) (All-head (λ n. n < 2 ^ 64) x (y ∷ xs) small)

-- ---- tables

owner-small : (setup : Setup) → IsSetup setup → (i : ℕ) → IsNode setup i → i < 2 ^ 64
owner-small setup within i node = let low = within.nodes in omega arith

pub owners-small : (setup : Setup) (owners : List ℕ) → IsSetup setup → All (IsNode setup) owners → AreSmall owners
owners-small setup owners within nodes = All-weaker (IsNode setup) (λ n. n < 2 ^ 64) (owner-small setup within) owners nodes

-- what is asked of each piece
owners-known : (setup : Setup) (owners : List ℕ) → IsSetup setup → All (IsNode setup) owners
    → (list_any (names_nobody setup) (map decimal owners) ≡ false) × (list_any is_no_number (map decimal owners) ≡ false) × (map owner_of (map decimal owners) ≡ owners)
owners-known setup [] within nodes = (refl, refl, refl)
owners-known setup (i ∷ owners) within nodes =
    let node = All-head (IsNode setup) i owners nodes in
    let (known, numbers, same) = owners-known setup owners within (All-tail (IsNode setup) i owners nodes) in
    let read = number-read i node.0 (owner-small setup within i node) in
    let positive : nat_lt 0 i ≡ true = grind (arith, nat_tests, node.0) in
    let low : nat_le i setup.nodes ≡ true = grind (arith, nat_tests, node.1) in
    (rw (read, positive, low) known, rw read numbers, rw read (ap (λ (is : List ℕ). i ∷ is) same))

table-of : (setup : Setup) (text : List ℕ) (pieces : List (List ℕ)) (owners : List ℕ) → pieces_of text ≡ pieces → (length pieces == setup.partitions) ≡ true
    → list_any (names_nobody setup) pieces ≡ false → list_any is_no_number pieces ≡ false → map owner_of pieces ≡ owners → table_of_text setup text ≡ Ok owners
table-of setup text pieces owners cut count known numbers same = rw (cut, count, known, numbers, same) refl

pub table-read : (setup : Setup) (owners : List ℕ) → IsSetup setup → AreOwners setup owners → table_of_text setup (owners_text 32 owners) ≡ Ok owners
table-read setup [] within are = let some = within.partitions in absurd (omega (arith, are.0))
table-read setup (i ∷ owners) within are =
    let cut = pieces-read i owners (owners-small setup (i ∷ owners) within are.1) in
    let size = length-map (i ∷ owners) decimal in
    let count : (length (map decimal (i ∷ owners)) == setup.partitions) ≡ true = grind (arith, nat_tests, size, are.0) in
    let (known, numbers, same) = owners-known setup (i ∷ owners) within are.1 in
    table-of setup (owners_text 32 (i ∷ owners)) (map decimal (i ∷ owners)) (i ∷ owners) cut count known numbers same

-- a table, or none
pub task-read : (setup : Setup) (task : Option (List ℕ)) → IsSetup setup → IfSome task (AreOwners setup) → task_in setup (task_text 32 task) ≡ Some task
task-read setup None within are = refl
task-read setup (Some []) within are = let some = within.partitions in absurd (omega (arith, are.0))
task-read setup (Some (i ∷ owners)) within are =
    let other = numbers-no_dash i owners (owners-small setup (i ∷ owners) within are.1) in
    rw (other, table-read setup (i ∷ owners) within are) refl

-- ---- weights

weight-small : (w : ℕ) → IsWeight w → w < 2 ^ 64
weight-small w within = omega arith

pub weights-small : (weights : List ℕ) → All IsWeight weights → AreSmall weights
weights-small weights each = All-weaker IsWeight (λ n. n < 2 ^ 64) weight-small weights each

weights-of : (weights : List ℕ) → All IsWeight weights → weights_from (map decimal weights) ≡ Some weights
weights-of [] each = refl
weights-of (w ∷ weights) each =
    let here = All-head IsWeight w weights each in
    rw (weight-read w here.0 here.1, weights-of weights (All-tail IsWeight w weights each)) refl

weights-at : (nodes : ℕ) (text : List ℕ) (pieces : List (List ℕ)) (weights : List ℕ) → pieces_of text ≡ pieces → (length pieces == nodes) ≡ true
    → weights_from pieces ≡ Some weights → weights_in nodes text ≡ Some weights
weights-at nodes text pieces weights cut count each = rw (cut, count) each

pub weights-read : (nodes : ℕ) (weights : List ℕ) → 0 < nodes → AreWeights nodes weights → weights_in nodes (owners_text 32 weights) ≡ Some weights
weights-read nodes [] some are = absurd (omega (arith, are.0))
weights-read nodes (w ∷ weights) some are =
    let cut = pieces-read w weights (weights-small (w ∷ weights) are.1) in
    let size = length-map (w ∷ weights) decimal in
    let count : (length (map decimal (w ∷ weights)) == nodes) ≡ true = grind (arith, nat_tests, size, are.0) in
    weights-at nodes (owners_text 32 (w ∷ weights)) (map decimal (w ∷ weights)) (w ∷ weights) cut count (weights-of (w ∷ weights) are.1)

-- ---- sets

-- one set, and then the members of further pieces
set-append : (version : Version) (set : List ℕ) (ps qs : List (List ℕ)) → set_from version set (ps ++ qs) ≡ option_and_then (λ s. set_from version s qs) (set_from version set ps)
set-append version set [] qs = refl
set-append version set (p ∷ ps) qs = by_node (node_in version p) (λ i. set-append version (with_node i set) ps qs)
  where
    by_test : (test : Bool) (one two : Option (List ℕ)) → one ≡ option_and_then (λ s. set_from version s qs) two
        → (if test then one else None) ≡ option_and_then (λ s. set_from version s qs) (if test then two else None)
    by_test true one two e = e
    by_test false one two e = refl

    by_node : (o : Option ℕ) → ((i : ℕ) → set_from version (with_node i set) (ps ++ qs) ≡ option_and_then (λ s. set_from version s qs) (set_from version (with_node i set) ps))
        → option_and_then (λ i. if is_above i set then set_from version (with_node i set) (ps ++ qs) else None) o
        ≡ option_and_then (λ s. set_from version s qs) (option_and_then (λ i. if is_above i set then set_from version (with_node i set) ps else None) o)
    by_node None more = refl
    by_node (Some i) more = by_test (is_above i set) _ _ (more i)

-- a member above the others
above-all : (bound m : ℕ) (ms : List ℕ) → IsFallingBelow bound (m ∷ ms) → (is_above m ms ≡ true) × (with_node m ms ≡ m ∷ ms)
above-all bound m [] falls = (refl, refl)
above-all bound m (n ∷ ms) falls =
    let low : nat_lt n m ≡ true = grind (arith, nat_tests, falls.2.1) in
    (low, rw low refl)

set-one : (version : Version) (bound m : ℕ) (ms : List ℕ) → IsFallingBelow bound (m ∷ ms) → node_in version (decimal m) ≡ Some m → set_from version ms (decimal m ∷ []) ≡ Some (m ∷ ms)
set-one version bound m ms falls read =
    let (above, with) = above-all bound m ms falls in
    rw (read, above, with) refl

-- a falling list is below its first bound
named-first : (version : Version) (bound m : ℕ) (ms : List ℕ) → bound ≤ nodes_max version + 1 → IsFallingBelow bound (m ∷ ms) → IsNamed version m
named-first version bound m ms low falls = (falls.0, omega (arith, falls.1))

set-of : (version : Version) (bound : ℕ) (ms : List ℕ) → bound ≤ nodes_max version + 1 → IsFallingBelow bound ms → set_from version [] (map decimal (reverse ms)) ≡ Some ms
set-of version bound [] low falls = refl
set-of version bound (m ∷ ms) low falls =
    let named = named-first version bound m ms low falls in
    let turned : map decimal (reverse (m ∷ ms)) ≡ map decimal (reverse ms) ++ (decimal m ∷ []) =
    ap (map decimal) (reverse-append (m ∷ []) ms) ∙ map-append decimal (reverse ms) (m ∷ []) in
    let before = set-of version m ms (omega (arith, falls.1)) falls.2 in
    ap (set_from version []) turned ∙ set-append version [] (map decimal (reverse ms)) (decimal m ∷ [])
    ∙ ap (option_and_then (λ s. set_from version s (decimal m ∷ []))) before ∙ set-one version bound m ms falls (node-read version m named)

set-at : (version : Version) (text : List ℕ) (pieces : List (List ℕ)) (ms : List ℕ) → bytes_eq text (codes "-") ≡ false → pieces_of text ≡ pieces
    → set_from version [] pieces ≡ Some ms → set_in version text ≡ Some ms
set-at version text pieces ms other cut read = rw (other, cut) read

-- numbers of which there is one
set-turned : (version : Version) (xs ms : List ℕ) → 0 < length xs → AreSmall xs → set_from version [] (map decimal xs) ≡ Some ms → set_in version (owners_text 32 xs) ≡ Some ms
set-turned version [] ms some small read = absurd (omega arith)
set-turned version (x ∷ xs) ms some small read =
    set-at version (owners_text 32 (x ∷ xs)) (map decimal (x ∷ xs)) ms (numbers-no_dash x xs small) (pieces-read x xs small) read

pub turned-small : (version : Version) (bound : ℕ) (ms : List ℕ) → bound ≤ nodes_max version + 1 → IsFallingBelow bound ms → AreSmall (reverse ms)
turned-small version bound [] low falls = All-nil (λ n. n < 2 ^ 64)
turned-small version bound (m ∷ ms) low falls =
    let before = turned-small version m ms (omega (arith, falls.1)) falls.2 in
    let here = named-small version m (named-first version bound m ms low falls) in
    All-same (λ n. n < 2 ^ 64) (reverse (m ∷ ms)) (reverse ms ++ (m ∷ [])) (reverse-append (m ∷ []) ms) (All-push (λ n. n < 2 ^ 64) (reverse ms) m before here)

pub set-read : (version : Version) (ms : List ℕ) → IsFallingBelow (nodes_max version + 1) ms → set_in version (set_text ms) ≡ Some ms
set-read version [] falls = refl
set-read version (m ∷ ms) falls =
    let bound = nodes_max version + 1 in
    let size = length-reverse (m ∷ ms) in
    set-turned version (reverse (m ∷ ms)) (m ∷ ms) (omega (arith, size)) (turned-small version bound (m ∷ ms) (omega arith) falls)
    (set-of version bound (m ∷ ms) (omega arith) falls)
