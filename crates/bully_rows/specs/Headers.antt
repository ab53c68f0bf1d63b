-- The header of a trace: what its first record means.
use Rattle.std.specs.Prelude.{◌≡◌, ℕ, length, Bool, true, false, List, [], ◌∷◌, Option, Some, None, ◌&&◌, ◌==◌, nat_lt}
use Rattle.std.specs.Prelude.{nat_le, codes, option_map, option_and_then, if◌then◌else◌}
use Rattle.std.specs.Str.{bytes_eq}
use Rattle.bully_base.specs.declared.TheConstants.{NODES_MAX, PARTITIONS_MAX, EVENTS_MAX, WEIGHT_MAX}
use Rattle.bully_base.specs.Setup.{Setup, even_setup, is_even}
use Rattle.bully_table.specs.Numeral.{number_of}
use Rattle.bully_table.specs.TableText.{pieces_of}
use Rattle.bully_rows.specs.declared.TheConstants.{FIRST_NODES_MAX, FIRST_PARTITIONS_MAX}
use Rattle.bully_rows.specs.declared.header.Header.{Header}
use Rattle.bully_rows.specs.declared.header.Version.{Version}
use Rattle.bully_rows.specs.Words.{keeps_named}

-- a record: its fields, each a list of bytes
abbrev pub Record : Type 0
Record = List (List ℕ)

-- the most nodes of a trace of this version
abbrev pub nodes_max : Version → ℕ
nodes_max Version.One = FIRST_NODES_MAX
nodes_max Version.Two = NODES_MAX
nodes_max Version.Three = NODES_MAX

-- the most partitions of a trace of this version
abbrev pub partitions_max : Version → ℕ
partitions_max Version.One = FIRST_PARTITIONS_MAX
partitions_max Version.Two = PARTITIONS_MAX
partitions_max Version.Three = PARTITIONS_MAX

-- rows of this version may say more
abbrev pub says_more : Version → Bool
says_more Version.One = false
says_more Version.Two = false
says_more Version.Three = true

-- version 1 can tell the setup: all nodes weigh 1, no task is kept, and there are no more nodes and partitions than it
-- has
abbrev pub fits_first : Setup → Bool
fits_first setup = is_even setup && (nat_le setup.nodes FIRST_NODES_MAX && nat_le setup.partitions FIRST_PARTITIONS_MAX)

-- the version of a trace of this setup: the first that can tell it
abbrev pub version_for : Setup → Version
version_for setup = if fits_first setup then Version.One else Version.Two

-- version 1 goes only with a setup that it can tell
abbrev pub IsVersionFor : Version → Setup → Type 0
IsVersionFor version setup = version ≡ Version.One → fits_first setup ≡ true

-- the number, where it is from 1 to the limit
abbrev pub within : ℕ → ℕ → Option ℕ
within limit n = if nat_lt 0 n && nat_le n limit then Some n else None

-- the number of a node, or of nodes, in a trace of this version
abbrev pub node_in : Version → List ℕ → Option ℕ
node_in version text = option_and_then (within (nodes_max version)) (number_of text)

abbrev pub partitions_in : Version → List ℕ → Option ℕ
partitions_in version text = option_and_then (within (partitions_max version)) (number_of text)

abbrev pub weight_in : List ℕ → Option ℕ
weight_in text = option_and_then (within WEIGHT_MAX) (number_of text)

-- the weights that these pieces are, where each is one
abbrev pub weights_from : List (List ℕ) → Option (List ℕ)
weights_from [] = Some []
weights_from (piece ∷ pieces) =
    option_and_then (λ weight. option_map (λ more. weight ∷ more) (weights_from pieces)) (weight_in piece)

-- so many weights, parted by single spaces
abbrev pub weights_in : ℕ → List ℕ → Option (List ℕ)
weights_in nodes text = if length (pieces_of text) == nodes then weights_from (pieces_of text) else None

-- the setup of these numbers, in which all nodes weigh 1 and no task is kept
abbrev pub setup_in : List ℕ → List ℕ → Option Setup
setup_in nodes partitions =
    option_and_then (λ n. option_map (λ p. even_setup n p EVENTS_MAX) (partitions_in Version.One partitions))
    (node_in Version.One nodes)

-- the setup of these numbers and these weights, which keeps tasks or doesn't
abbrev pub weighted_in : List ℕ → List ℕ → List ℕ → List ℕ → Option Setup
weighted_in nodes partitions weights keeps =
    option_and_then (λ n. option_and_then (λ p. option_and_then (λ each. option_map (λ k.
    record { nodes = n; partitions = p; events_max = EVENTS_MAX; keeps = k; weights = each })
    (keeps_named keeps)) (weights_in n weights)) (partitions_in Version.Two partitions)) (node_in Version.Two nodes)

-- a header of this version and this setup
abbrev pub header_with : Version → Setup → Header
header_with version setup = record { version = version; setup = setup }

-- the versions whose headers tell weights and what is kept
abbrev pub later_version : List ℕ → Option Version
later_version text =
    if bytes_eq text (codes "2") then Some Version.Two
    else if bytes_eq text (codes "3") then Some Version.Three else None

abbrev pub later_header : List ℕ → List ℕ → List ℕ → List ℕ → List ℕ → Option Header
later_header version nodes partitions weights keeps =
    option_and_then (λ v. option_map (header_with v) (weighted_in nodes partitions weights keeps))
    (later_version version)

-- what the first record means
abbrev pub header_of : Record → Option Header
header_of [] = None
header_of (a ∷ []) = None
header_of (a ∷ b ∷ []) = None
header_of (a ∷ b ∷ c ∷ []) = None
header_of (word ∷ version ∷ nodes ∷ partitions ∷ []) =
    if bytes_eq word (codes "bully") && bytes_eq version (codes "1")
    then option_map (header_with Version.One) (setup_in nodes partitions) else None
header_of (a ∷ b ∷ c ∷ d ∷ e ∷ []) = None
header_of (word ∷ version ∷ nodes ∷ partitions ∷ weights ∷ keeps ∷ []) =
    if bytes_eq word (codes "bully") then later_header version nodes partitions weights keeps else None
header_of (a ∷ b ∷ c ∷ d ∷ e ∷ f ∷ g ∷ rest) = None
