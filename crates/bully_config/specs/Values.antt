-- The values of a document: what the configuration has where nothing refuses the document.
use Rattle.std.specs.Prelude.{ℕ, ℤ, pos, negsuc, Bool, false, ◌&&◌, nat_le, codes, List, [], ◌∷◌, map, replicate}
use Rattle.std.specs.Prelude.{Option, Some, None, is_some, option_map, option_and_then, if◌then◌else◌}
use Rattle.std.specs.Option.{unwrap_or}
use Rattle.std.specs.Str.{bytes_eq}
use Rattle.toml.specs.Data.{Data, Members, as_bool, as_integer, as_table}
use Rattle.bully_base.specs.declared.TheConstants.{NODES_MAX, PARTITIONS_MAX, EVENTS_MAX, WEIGHT_MAX}
use Rattle.bully_config.specs.declared.TheConstants.{TURNS_MAX, PERIOD, PERIOD_MIN, PERIOD_MAX}
use Rattle.bully_config.specs.declared.config.Fault.{Fault}
use Rattle.bully_config.specs.declared.config.FaultKind.{FaultKind}
use Rattle.bully_config.specs.declared.fault.Key.{Key}
use Rattle.bully_config.specs.Configuration.{Configuration, node_named}
use Rattle.bully_config.specs.Document.{value_at, integer_at, string_at, items_at, text_of}

-- the number, where it is from the least to the most
abbrev pub within : ℕ → ℕ → ℤ → Option ℕ
within least most (pos n) = if nat_le least n && nat_le n most then Some n else None
within least most (negsuc n) = None

-- the number at a key, where it is from 1 to the limit
unfoldable pub number_at : Key → ℕ → Members → Option ℕ
number_at key limit ms = option_and_then (within 1 limit) (integer_at key ms)

-- the four numbers at the top, where they are in their ranges
abbrev pub nodes_in : Members → Option ℕ
nodes_in ms = number_at Key.Nodes NODES_MAX ms

abbrev pub partitions_in : Members → Option ℕ
partitions_in ms = number_at Key.Partitions PARTITIONS_MAX ms

abbrev pub events_in : Members → Option ℕ
events_in ms = number_at Key.Events EVENTS_MAX ms

abbrev pub turns_in : Members → Option ℕ
turns_in ms = number_at Key.Turns TURNS_MAX ms

-- the period: the profile's where the key isn't there
abbrev pub period_of : Option Data → Option ℕ
period_of None = Some PERIOD
period_of (Some d) = option_and_then (within PERIOD_MIN PERIOD_MAX) (as_integer d)

unfoldable pub period_in : Members → Option ℕ
period_in ms = period_of (value_at Key.Period ms)

abbrev pub or_zero : Option ℕ → ℕ
or_zero n = unwrap_or n 0

-- the names, in the order of the array
abbrev pub names_of : List Data → List (List ℕ)
names_of items = map text_of items

-- the weight that an item tells, where it is in its range
abbrev pub weight_in : Data → Option ℕ
weight_in d = option_and_then (within 1 WEIGHT_MAX) (as_integer d)

abbrev pub weight_told : Data → ℕ
weight_told d = or_zero (weight_in d)

-- what so many nodes weigh, in the order of the array: 1 each where the key isn't there
abbrev pub weights_in : ℕ → Members → List ℕ
weights_in nodes ms = if is_some (value_at Key.Weights ms) then map weight_told (items_at Key.Weights ms) else
    replicate nodes 1

-- whether tasks are kept over a crash: they aren't where the key isn't there
unfoldable pub keeps_in : Members → Bool
keeps_in ms = unwrap_or (option_and_then as_bool (value_at Key.Keep ms)) false

-- what a fault's word says that happens
abbrev pub kind_named : List ℕ → Option FaultKind
kind_named word =
    if bytes_eq word (codes "crash") then Some FaultKind.Crash
    else if bytes_eq word (codes "recover") then Some FaultKind.Recover
    else None

-- the turn, the node and the kind of a fault, where they are in their ranges
abbrev pub turn_in : ℕ → Members → Option ℕ
turn_in turns ms = number_at Key.At turns ms

abbrev pub node_in : List (List ℕ) → Members → Option ℕ
node_in names ms = option_and_then (node_named names) (string_at Key.Node ms)

abbrev pub kind_in : Members → Option FaultKind
kind_in ms = option_and_then kind_named (string_at Key.Kind ms)

module _ (turns : ℕ) (names : List (List ℕ)) where
  -- the fault that a table tells
  abbrev pub fault_in : Members → Option Fault
  fault_in ms =
      option_and_then (λ t. option_and_then (λ n. option_map (λ k. record { at = t; node = n; kind = k }) (kind_in ms))
      (node_in names ms)) (turn_in turns ms)

  -- the faults that the items tell, in their order; an item that tells none is refused
  abbrev pub faults_in : List Data → List Fault
  faults_in [] = []
  faults_in (d ∷ ds) = elim (option_and_then fault_in (as_table d)) [
    | None ↦ faults_in ds
    | Some fault ↦ fault ∷ faults_in ds
  ]

-- the values of a document
abbrev pub values_of : Members → Configuration
values_of ms =
    let turns = or_zero (turns_in ms) in
    let names = names_of (items_at Key.Names ms) in
    record {
      setup = record {
        nodes = or_zero (nodes_in ms);
        partitions = or_zero (partitions_in ms);
        events_max = or_zero (events_in ms);
        keeps = keeps_in ms;
        weights = weights_in (or_zero (nodes_in ms)) ms;
      };
      turns = turns;
      period = or_zero (period_in ms);
      names = names;
      faults = faults_in turns names (items_at Key.Fault ms);
    }
