-- The header of a trace.
use Rattle.std.proofs.Common.{◌≡◌, ◌≢◌, ◌∙◌, ℕ, suc, ◌<◌, ◌≤◌, ◌++◌, ◌==◌, Bool, true, false, List, [], ◌∷◌, length, Option, Some, None, Result, Ok, Err, if◌then◌else◌, append_assoc, refl, sym, ap, subst, arith, ◌&&◌, IfOk, option_and_then, option_map, codes, nat_le}
use Rattle.std.specs.Result.{IsOk, result_ok}
use Rattle.std.specs.Str.{bytes_eq}
use Rattle.std.proofs.lemmas.Grind.{common_steps}
use Rattle.std.proofs.lemmas.List.Elements.{All-cons, All-nil}
use Rattle.std.proofs.lemmas.Option.{same_Some}
use Rattle.std.proofs.lemmas.Bool.Decides.{nat_tests}
use Rattle.bully_base.specs.declared.TheConstants.{EVENTS_MAX, WEIGHT_MAX}
use Rattle.bully_base.specs.declared.setup.SetupFault.{SetupFault}
use Rattle.bully_base.specs.Setup.{AreWeights, IsWeight, Setup, even_setup}
use Rattle.bully_base.proofs.SetupLemmas.{even-is_even}
use Rattle.bully_table.specs.Numeral.{number_of}
use Rattle.bully_table.specs.TableText.{pieces_of}
use Rattle.bully_rows.specs.declared.TheConstants.{FIRST_NODES_MAX, FIRST_PARTITIONS_MAX}
use Rattle.bully_rows.specs.declared.header.Header.{Header}
use Rattle.bully_rows.specs.declared.header.Version.{Version}
use Rattle.bully_rows.specs.declared.trace.Row.{Row}
use Rattle.bully_rows.specs.Headers.{IsVersionFor, Record, header_of, header_with, fits_first, later_version, node_in, partitions_in, says_more, setup_in, version_for, weight_in, weighted_in, weights_from, weights_in, within}
use Rattle.bully_rows.specs.Trace.{AreRowsFor, are_short, version_with}
use Rattle.bully_rows.specs.Words.{keeps_named}

-- ---- what is read is within the limits

one-within : (limit n w : ℕ) → within limit n ≡ Some w → (0 < w) × (w ≤ limit)
one-within limit n w e = grind (arith, common_steps, e)

pub told-within : (limit : ℕ) (o : Option ℕ) (w : ℕ) → option_and_then (within limit) o ≡ Some w → (0 < w) × (w ≤ limit)
told-within limit None w e = absurd (cc e)
told-within limit (Some n) w e = one-within limit n w e

-- ---- versions

first_if : (first : Bool) → (if first then Version.One else Version.Two) ≡ Version.One → first ≡ true
first_if true e = refl
first_if false e = absurd (cc e)

version_fits : (setup : Setup) → IsVersionFor (version_for setup) setup
version_fits setup e = first_if (fits_first setup) e

-- the version that rows ask for goes with each setup that the other one goes with, and with the rows
with-rows : (short : Bool) (version : Version) (setup : Setup) → IsVersionFor version setup
    → IsVersionFor (if short then version else Version.Three) setup × (says_more (if short then version else Version.Three) ≡ false → short ≡ true)
with-rows true version setup fits = (fits, λ _. refl)
with-rows false version setup fits = (λ one. absurd (cc one), λ short. absurd (cc short))

pub version_fits_rows : (setup : Setup) (rows : List Row)
    → IsVersionFor (version_with (version_for setup) rows) setup × AreRowsFor (version_with (version_for setup) rows) rows
version_fits_rows setup rows = with-rows (are_short rows) (version_for setup) setup (version_fits setup)

pub two_fits_rows : (setup : Setup) (rows : List Row) → IsVersionFor (version_with Version.Two rows) setup × AreRowsFor (version_with Version.Two rows) rows
two_fits_rows setup rows = with-rows (are_short rows) Version.Two setup (λ one. absurd (cc one))

-- numbers within the limits of version 1, and weights of 1
numbers-first : (n p : Option ℕ) (setup : Setup) → ((i : ℕ) → n ≡ Some i → i ≤ FIRST_NODES_MAX) → ((k : ℕ) → p ≡ Some k → k ≤ FIRST_PARTITIONS_MAX)
    → option_and_then (λ i. option_map (λ k. even_setup i k EVENTS_MAX) p) n ≡ Some setup → fits_first setup ≡ true
numbers-first None p setup few_nodes few_partitions e = absurd (cc e)
numbers-first (Some i) None setup few_nodes few_partitions e = absurd (cc e)
numbers-first (Some i) (Some k) setup few_nodes few_partitions e =
    let even = even-is_even i k EVENTS_MAX in
    let nodes : nat_le i FIRST_NODES_MAX ≡ true = grind (arith, nat_tests, few_nodes i refl) in
    let partitions : nat_le k FIRST_PARTITIONS_MAX ≡ true = grind (arith, nat_tests, few_partitions k refl) in
    subst (λ s. fits_first s ≡ true) (same_Some _ _ e) (rw (even, nodes, partitions) refl)

first-setup : (nodes partitions : List ℕ) (setup : Setup) → setup_in nodes partitions ≡ Some setup → fits_first setup ≡ true
first-setup nodes partitions setup e =
    numbers-first (node_in Version.One nodes) (partitions_in Version.One partitions) setup
    (λ i at_i. (told-within FIRST_NODES_MAX (number_of nodes) i at_i).1) (λ k at_k. (told-within FIRST_PARTITIONS_MAX (number_of partitions) k at_k).1) e

first-fits : (test : Bool) (o : Option Setup) (header : Header) → ((setup : Setup) → o ≡ Some setup → fits_first setup ≡ true)
    → (if test then option_map (header_with Version.One) o else None) ≡ Some header → IsVersionFor header.version header.setup
first-fits true (Some s) header first e = subst (λ (h : Header). IsVersionFor h.version h.setup) (same_Some _ _ e) (λ _. first s refl)
first-fits true None header first e = absurd (cc e)
first-fits false o header first e = absurd (cc e)

later-known : (text : List ℕ) (version : Version) → later_version text ≡ Some version → version ≢ Version.One
later-known text version e one = by_test (bytes_eq text (codes "2")) (bytes_eq text (codes "3")) e
  where
    by_test : (two three : Bool) → (if two then Some Version.Two else if three then Some Version.Three else None) ≡ Some version → ⊥
    by_test true three e = cc (e, one)
    by_test false true e = cc (e, one)
    by_test false false e = cc e

later-fits : (test : Bool) (text : List ℕ) (o : Option Setup) (header : Header)
    → (if test then option_and_then (λ v. option_map (header_with v) o) (later_version text) else None) ≡ Some header → IsVersionFor header.version header.setup
later-fits false text o header e = absurd (cc e)
later-fits true text o header e = by_version (later_version text) o refl e
  where
    by_version : (found : Option Version) (o : Option Setup) → later_version text ≡ found → option_and_then (λ v. option_map (header_with v) o) found ≡ Some header
        → IsVersionFor header.version header.setup
    by_version None o at e = absurd (cc e)
    by_version (Some v) None at e = absurd (cc e)
    by_version (Some v) (Some setup) at e =
        subst (λ (h : Header). IsVersionFor h.version h.setup) (same_Some _ _ e) (λ one. absurd (later-known text v at one))

-- what a header tells fits its version
pub header-fits : (fields : Record) (header : Header) → header_of fields ≡ Some header → IsVersionFor header.version header.setup
header-fits [] header e = absurd (cc e)
header-fits (a ∷ []) header e = absurd (cc e)
header-fits (a ∷ b ∷ []) header e = absurd (cc e)
header-fits (a ∷ b ∷ c ∷ []) header e = absurd (cc e)
header-fits (a ∷ b ∷ c ∷ d ∷ []) header e =
    first-fits (bytes_eq a (codes "bully") && bytes_eq b (codes "1")) (setup_in c d) header (first-setup c d) e
header-fits (a ∷ b ∷ c ∷ d ∷ x ∷ []) header e = absurd (cc e)
header-fits (a ∷ b ∷ c ∷ d ∷ x ∷ y ∷ []) header e =
    later-fits (bytes_eq a (codes "bully")) b (weighted_in c d x y) header e
header-fits (a ∷ b ∷ c ∷ d ∷ x ∷ y ∷ z ∷ rest) header e = absurd (cc e)

-- ---- records of another length

pub no-header : (fields : Record) → length fields ≢ 4 → length fields ≢ 6 → None ≡ header_of fields
no-header [] four six = refl
no-header (a ∷ []) four six = refl
no-header (a ∷ b ∷ []) four six = refl
no-header (a ∷ b ∷ c ∷ []) four six = refl
no-header (a ∷ b ∷ c ∷ d ∷ []) four six = absurd (four refl)
no-header (a ∷ b ∷ c ∷ d ∷ x ∷ []) four six = refl
no-header (a ∷ b ∷ c ∷ d ∷ x ∷ y ∷ []) four six = absurd (six refl)
no-header (a ∷ b ∷ c ∷ d ∷ x ∷ y ∷ z ∷ rest) four six = refl

-- ---- weights, piece by piece

-- those that were read, and those that the other pieces are
abbrev pub joined : List ℕ → Option (List ℕ) → Option (List ℕ)
joined xs more = option_map (λ ys. xs ++ ys) more

joined-push : (xs : List ℕ) (w : ℕ) (more : Option (List ℕ)) → joined xs (option_map (λ ys. w ∷ ys) more) ≡ joined (xs ++ w ∷ []) more
joined-push xs w None = refl
joined-push xs w (Some ys) = ap Some (sym (append_assoc xs (w ∷ []) ys))

-- one weight more
pub weights-more : (all left next : List (List ℕ)) (xs : List ℕ) (w : ℕ) → weights_from all ≡ joined xs (weights_from left)
    → weights_from left ≡ option_map (λ more. w ∷ more) (weights_from next) → weights_from all ≡ joined (xs ++ w ∷ []) (weights_from next)
weights-more all left next xs w so_far is = so_far ∙ ap (joined xs) is ∙ joined-push xs w (weights_from next)

-- ---- weights that are read

pub are-weights : (pieces : List (List ℕ)) (ws : List ℕ) → weights_from pieces ≡ Some ws → AreWeights (length pieces) ws
are-weights [] ws e = subst (λ xs. AreWeights 0 xs) (same_Some _ _ e) (refl, All-nil IsWeight)
are-weights (piece ∷ pieces) ws e = by_piece (weight_in piece) (weights_from pieces) refl refl e (are-weights pieces)
  where
    by_piece : (o : Option ℕ) (more : Option (List ℕ)) → weight_in piece ≡ o → weights_from pieces ≡ more
        → option_and_then (λ w. option_map (λ ys. w ∷ ys) more) o ≡ Some ws → ((xs : List ℕ) → weights_from pieces ≡ Some xs → AreWeights (length pieces) xs)
        → AreWeights (suc (length pieces)) ws
    by_piece None more here rest e later = absurd (cc e)
    by_piece (Some w) None here rest e later = absurd (cc e)
    by_piece (Some w) (Some xs) here rest e later =
        let (count, each) = later xs rest in
        subst (λ ys. AreWeights (suc (length pieces)) ys) (same_Some _ _ e) (ap suc count, All-cons IsWeight w xs (told-within WEIGHT_MAX (number_of piece) w here) each)

pub weights-within : (nodes : ℕ) (text : List ℕ) (ws : List ℕ) → weights_in nodes text ≡ Some ws → AreWeights nodes ws
weights-within nodes text ws e = by_count (length (pieces_of text) == nodes) refl e
  where
    by_count : (test : Bool) → (length (pieces_of text) == nodes) ≡ test → (if test then weights_from (pieces_of text) else None) ≡ Some ws → AreWeights nodes ws
    by_count true same e =
        let count : length (pieces_of text) ≡ nodes = grind (arith, same) in
        subst (λ n. AreWeights n ws) count (are-weights (pieces_of text) ws e)
    by_count false same e = absurd (cc e)

-- a value that is there is told
pub made-told : (r : Result Setup SetupFault) (s : Setup) → IsOk r → IfOk r (λ made. made ≡ s) → result_ok r ≡ Some s
made-told (Ok made) s is same = ap Some same
made-told (Err fault) s is same = absurd (cc is)

-- what a header of version 2 tells of the setup, from its parts
pub weighted-told : (nodes partitions weights keeps : List ℕ) (n p : ℕ) (ws : List ℕ) (k : Bool) (o : Option Setup)
    → node_in Version.Two nodes ≡ Some n → partitions_in Version.Two partitions ≡ Some p → weights_in n weights ≡ Some ws → keeps_named keeps ≡ Some k
    → o ≡ Some (record { nodes = n; partitions = p; events_max = EVENTS_MAX; keeps = k; weights = ws }) → o ≡ weighted_in nodes partitions weights keeps
weighted-told nodes partitions weights keeps n p ws k o at_n at_p at_w at_k is = rw (at_n, at_p, at_w, at_k) is
