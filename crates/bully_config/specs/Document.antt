-- What a document has at the keys of a configuration.
use Rattle.std.specs.Prelude.{ℕ, ℤ, List, [], ◌∷◌, Option, option_map, option_and_then}
use Rattle.std.specs.Option.{unwrap_or}
use Rattle.toml.specs.Data.{Data, Items, no_items, item, Members, get_member, as_str, as_integer, as_array}
use Rattle.bully_config.specs.declared.fault.Key.{Key}
use Rattle.bully_config.specs.Keys.{word_of}

-- the items of an array, as a list
abbrev pub list_of : Items → List Data
list_of no_items = []
list_of (item d ds) = d ∷ list_of ds

-- the value at a key
unfoldable pub value_at : Key → Members → Option Data
value_at key ms = get_member (word_of key) ms

-- the integer, and the string, at a key
unfoldable pub integer_at : Key → Members → Option ℤ
integer_at key ms = option_and_then as_integer (value_at key ms)

unfoldable pub string_at : Key → Members → Option (List ℕ)
string_at key ms = option_and_then as_str (value_at key ms)

-- the items of the array at a key; nothing where there is no array
unfoldable pub items_at : Key → Members → List Data
items_at key ms = unwrap_or (option_map list_of (option_and_then as_array (value_at key ms))) []

-- the bytes of a string; nothing of another value
abbrev pub text_of : Data → List ℕ
text_of d = unwrap_or (as_str d) []
