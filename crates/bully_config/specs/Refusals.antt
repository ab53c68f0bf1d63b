-- The refusals of a document. Each is looked for over the whole document.
use Rattle.std.specs.Prelude.{ℕ, Bool, true, false, not, ◌||◌, ◌&&◌, ◌==◌, nat_lt, List, [], ◌∷◌, length, Option, Some}
use Rattle.std.specs.Prelude.{None, is_some, option_and_then, if◌then◌else◌}
use Rattle.std.specs.Option.{option_or, unwrap_or}
use Rattle.std.specs.List.{list_all, list_any}
use Rattle.std.specs.Str.{bytes_eq}
use Rattle.toml.specs.Data.{Data, Members, no_members, member, as_str, as_integer, as_bool, as_array, as_table}
use Rattle.bully_base.specs.declared.TheConstants.{NODES_MAX}
use Rattle.bully_config.specs.declared.TheConstants.{FAULTS_MAX}
use Rattle.bully_config.specs.declared.fault.ConfigFault.{ConfigFault}
use Rattle.bully_config.specs.declared.fault.Key.{Key}
use Rattle.bully_config.specs.Configuration.{has_double, is_empty}
use Rattle.bully_config.specs.Document.{list_of, value_at, items_at}
use Rattle.bully_config.specs.Keys.{word_of, required_keys, top_keys, fault_keys}
use Rattle.bully_config.specs.Values.{nodes_in, partitions_in, events_in, turns_in, period_in, or_zero, names_of}
use Rattle.bully_config.specs.Values.{weight_in, turn_in, node_in, kind_in}

-- the first of the keys that fails the test
abbrev pub first_failing : (Key → Bool) → List Key → Option Key
first_failing test [] = None
first_failing test (key ∷ keys) = if test key then first_failing test keys else Some key

-- the key at fault in the first table that has one
abbrev pub first_in : (Members → Option Key) → List Data → Option Key
first_in test [] = None
first_in test (d ∷ ds) = option_or (option_and_then test (as_table d)) (first_in test ds)

-- ---- a required key isn't there

-- the first of the keys that isn't there
abbrev pub first_absent : List Key → Members → Option Key
first_absent keys ms = first_failing (λ key. is_some (value_at key ms)) keys

abbrev pub is_table : Data → Bool
is_table d = is_some (as_table d)

abbrev pub is_string : Data → Bool
is_string d = is_some (as_str d)

abbrev pub is_integer : Data → Bool
is_integer d = is_some (as_integer d)

abbrev pub is_boolean : Data → Bool
is_boolean d = is_some (as_bool d)

-- faults that aren't all tables are passed over here
abbrev pub missing_in : Members → Option Key
missing_in ms = option_or (first_absent required_keys ms)
    (if list_all is_table (items_at Key.Fault ms) then first_in (first_absent fault_keys) (items_at Key.Fault ms) else
    None)

-- ---- a value has another kind

abbrev pub is_array_of : (Data → Bool) → Data → Bool
is_array_of test d = elim (as_array d) [
  | None ↦ false
  | Some items ↦ list_all test (list_of items)
]

-- the value is of the key's kind
abbrev pub has_kind : Key → Data → Bool
has_kind Key.Nodes d = is_integer d
has_kind Key.Partitions d = is_integer d
has_kind Key.Events d = is_integer d
has_kind Key.Turns d = is_integer d
has_kind Key.Period d = is_integer d
has_kind Key.Names d = is_array_of is_string d
has_kind Key.Weights d = is_array_of is_integer d
has_kind Key.Keep d = is_boolean d
has_kind Key.Fault d = is_array_of is_table d
has_kind Key.At d = is_integer d
has_kind Key.Node d = is_string d
has_kind Key.Kind d = is_string d

-- a key that isn't there has no kind
abbrev pub fits : Key → Option Data → Bool
fits key None = true
fits key (Some d) = has_kind key d

-- the first of the keys whose value has another kind
abbrev pub first_misfit : List Key → Members → Option Key
first_misfit keys ms = first_failing (λ key. fits key (value_at key ms)) keys

abbrev pub misfit_in : Members → Option Key
misfit_in ms = option_or (first_misfit top_keys ms) (first_in (first_misfit fault_keys) (items_at Key.Fault ms))

-- ---- a value is out of its range

-- as many as there are nodes, and none is empty
abbrev pub are_names : ℕ → List (List ℕ) → Bool
are_names nodes names = (length names == nodes) && not (list_any is_empty names)

abbrev pub is_weight : Data → Bool
is_weight d = is_some (weight_in d)

-- as many as there are nodes, and each in its range, where the key is there
abbrev pub are_weights : ℕ → Members → Bool
are_weights nodes ms =
    not (is_some (value_at Key.Weights ms))
    || ((length (items_at Key.Weights ms) == nodes) && list_all is_weight (items_at Key.Weights ms))

-- the first key of a fault that is out of its range
abbrev pub fault_out_of_range : ℕ → List (List ℕ) → Members → Option Key
fault_out_of_range turns names ms =
    if not (is_some (turn_in turns ms)) then Some Key.At
    else if not (is_some (node_in names ms)) then Some Key.Node
    else if not (is_some (kind_in ms)) then Some Key.Kind
    else None

abbrev pub out_of_range_in : Members → Option Key
out_of_range_in ms =
    let names = names_of (items_at Key.Names ms) in
    let faults = items_at Key.Fault ms in
    if not (is_some (nodes_in ms)) then Some Key.Nodes
    else if not (is_some (partitions_in ms)) then Some Key.Partitions
    else if not (is_some (events_in ms)) then Some Key.Events
    else if not (is_some (turns_in ms)) then Some Key.Turns
    else if not (is_some (period_in ms)) then Some Key.Period
    else if not (are_names (or_zero (nodes_in ms)) names) then Some Key.Names
    else if not (are_weights (or_zero (nodes_in ms)) ms) then Some Key.Weights
    else if nat_lt FAULTS_MAX (length faults) then Some Key.Fault
    else first_in (fault_out_of_range (or_zero (turns_in ms)) names) faults

-- ---- which key of a fault breaks the rule of a refusal

-- out of its range, where the turns are in theirs and the names aren't too many
abbrev pub range_key_in : Members → Members → Option Key
range_key_in ms fault =
    if nat_lt NODES_MAX (length (items_at Key.Names ms)) then None
    else option_and_then (λ turns. fault_out_of_range turns (names_of (items_at Key.Names ms)) fault) (turns_in ms)

-- of a refusal that tells no key there is none
abbrev pub key_in_fault : Members → Members → ConfigFault → Option Key
key_in_fault ms fault (ConfigFault.Missing key) = first_absent fault_keys fault
key_in_fault ms fault (ConfigFault.Kind key) = first_misfit fault_keys fault
key_in_fault ms fault (ConfigFault.Range key) = range_key_in ms fault
key_in_fault ms fault _ = None

-- ---- two names are equal

abbrev pub has_double_in : Members → Bool
has_double_in ms = has_double (names_of (items_at Key.Names ms))

-- ---- a key isn't listed

-- the text is one of the keys
abbrev pub is_listed : List Key → List ℕ → Bool
is_listed keys word = list_any (λ key. bytes_eq word (word_of key)) keys

-- the first key of the members that isn't one of these
abbrev pub first_unlisted : List Key → Members → Option (List ℕ)
first_unlisted keys no_members = None
first_unlisted keys (member word d ms) = if is_listed keys word then first_unlisted keys ms else Some word

-- the members have a key that isn't one of these
abbrev pub has_unlisted : List Key → Members → Bool
has_unlisted keys no_members = false
has_unlisted keys (member word d ms) = not (is_listed keys word) || has_unlisted keys ms

abbrev pub fault_has_unlisted : Data → Bool
fault_has_unlisted d = has_unlisted fault_keys (unwrap_or (as_table d) no_members)

abbrev pub has_unlisted_in : Members → Bool
has_unlisted_in ms = has_unlisted top_keys ms || list_any fault_has_unlisted (items_at Key.Fault ms)
