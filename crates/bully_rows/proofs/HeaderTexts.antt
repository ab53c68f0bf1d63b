-- The fields of a header, read back.
use Rattle.std.proofs.Common.{◌≡◌, ◌∙◌, ℕ, ◌≤◌, Bool, true, false, List, length, replicate, not, Some, arith, refl, sym, ap, ◌==◌, ◌&&◌, nat_le, option_map}
use Rattle.std.specs.Fmt.{decimal}
use Rattle.std.specs.List.{list_all}
use Rattle.std.proofs.lemmas.Bool.{and_parts, not-true}
use Rattle.std.proofs.lemmas.Bool.Decides.{nat_tests}
use Rattle.bully_base.specs.declared.TheConstants.{EVENTS_MAX}
use Rattle.bully_base.specs.Setup.{IsSetup, Setup, even_setup, is_even}
use Rattle.bully_base.proofs.SetupLemmas.{ones-all}
use Rattle.bully_table.specs.TableText.{owners_text}
use Rattle.bully_rows.specs.declared.TheConstants.{FIRST_NODES_MAX, FIRST_PARTITIONS_MAX}
use Rattle.bully_rows.specs.declared.header.Version.{Version}
use Rattle.bully_rows.specs.Headers.{IsVersionFor, fits_first, header_of, header_with, setup_in, weighted_in}
use Rattle.bully_rows.specs.TraceText.{header_fields}
use Rattle.bully_rows.specs.Words.{keeps_named, keeps_word}
use Rattle.bully_rows.proofs.HeaderLemmas.{weighted-told}
use Rattle.bully_rows.proofs.ListTexts.{weights-read}
use Rattle.bully_rows.proofs.NumberTexts.{node-read, partitions-read}

-- ---- version 1

-- a setup is the one of its numbers where all nodes weigh 1 and no task is kept
even-of : (n p e : ℕ) (keeps : Bool) (weights : List ℕ) → e ≡ EVENTS_MAX → length weights ≡ n → keeps ≡ false → list_all (λ w. w == 1) weights ≡ true
    → even_setup n p EVENTS_MAX ≡ record { nodes = n; partitions = p; events_max = e; keeps = keeps; weights = weights }
even-of n p e keeps weights most size clear all =
    let same : weights ≡ replicate n 1 = ones-all weights all ∙ ap (λ (k : ℕ). replicate k 1) size in
    rw (most, clear, same) refl

first-read : (setup : Setup) → IsSetup setup → setup.events_max ≡ EVENTS_MAX → fits_first setup ≡ true
    → setup_in (decimal setup.nodes) (decimal setup.partitions) ≡ Some setup
first-read setup within most fits =
    let (even, limits) = and_parts (is_even setup) (nat_le setup.nodes FIRST_NODES_MAX && nat_le setup.partitions FIRST_PARTITIONS_MAX) fits in
    let (few_nodes, few_partitions) = and_parts (nat_le setup.nodes FIRST_NODES_MAX) (nat_le setup.partitions FIRST_PARTITIONS_MAX) limits in
    let (clear, all) = and_parts (not setup.keeps) (list_all (λ w. w == 1) setup.weights) even in
    let nodes : setup.nodes ≤ FIRST_NODES_MAX = grind (arith, nat_tests, few_nodes) in
    let partitions : setup.partitions ≤ FIRST_PARTITIONS_MAX = grind (arith, nat_tests, few_partitions) in
    let some = within.nodes in
    let parts = within.partitions in
    let size = within.weights in
    rw (node-read Version.One setup.nodes (some.0, nodes), partitions-read Version.One setup.partitions parts.0 partitions)
    (ap Some (even-of setup.nodes setup.partitions setup.events_max setup.keeps setup.weights most size.0 (not-true setup.keeps clear) all))

-- ---- the later versions

keeps-read : (keeps : Bool) → keeps_named (keeps_word keeps) ≡ Some keeps
keeps-read true = refl
keeps-read false = refl

later-setup : (setup : Setup) → setup.events_max ≡ EVENTS_MAX
    → Some setup ≡ Some (record { nodes = setup.nodes; partitions = setup.partitions; events_max = EVENTS_MAX; keeps = setup.keeps; weights = setup.weights })
later-setup setup most = rw (sym most) refl

later-read : (setup : Setup) → IsSetup setup → setup.events_max ≡ EVENTS_MAX
    → Some setup ≡ weighted_in (decimal setup.nodes) (decimal setup.partitions) (owners_text 32 setup.weights) (keeps_word setup.keeps)
later-read setup within most =
    let some = within.nodes in
    let parts = within.partitions in
    weighted-told (decimal setup.nodes) (decimal setup.partitions) (owners_text 32 setup.weights) (keeps_word setup.keeps) setup.nodes setup.partitions setup.weights setup.keeps (Some setup)
    (node-read Version.Two setup.nodes (some.0, some.1)) (partitions-read Version.Two setup.partitions parts.0 parts.1) (weights-read setup.nodes setup.weights some.0 within.weights)
    (keeps-read setup.keeps) (later-setup setup most)

-- ---- headers

pub header-read : (version : Version) (setup : Setup) → IsSetup setup → setup.events_max ≡ EVENTS_MAX → IsVersionFor version setup
    → header_of (header_fields version setup) ≡ Some (header_with version setup)
header-read Version.One setup within most fits = ap (option_map (header_with Version.One)) (first-read setup within most (fits refl))
header-read Version.Two setup within most fits = ap (option_map (header_with Version.Two)) (sym (later-read setup within most))
header-read Version.Three setup within most fits = ap (option_map (header_with Version.Three)) (sym (later-read setup within most))
