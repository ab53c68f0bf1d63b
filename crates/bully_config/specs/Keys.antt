-- The keys of a configuration and the names of its faults, as texts.
use Rattle.std.specs.Prelude.{ℕ, List, [], ◌∷◌, ◌++◌, Option, Some, None, codes}
use Rattle.bully_config.specs.declared.fault.Key.{Key}
use Rattle.bully_config.specs.declared.fault.ConfigFault.{ConfigFault}

-- the key's text
abbrev pub word_of : Key → List ℕ
word_of Key.Nodes = codes "nodes"
word_of Key.Partitions = codes "partitions"
word_of Key.Events = codes "events"
word_of Key.Turns = codes "turns"
word_of Key.Period = codes "period"
word_of Key.Names = codes "names"
word_of Key.Weights = codes "weights"
word_of Key.Keep = codes "keep"
word_of Key.Fault = codes "fault"
word_of Key.At = codes "at"
word_of Key.Node = codes "node"
word_of Key.Kind = codes "kind"

-- the keys that a document must have, in their order
abbrev pub required_keys : List Key
required_keys = Key.Nodes ∷ Key.Partitions ∷ Key.Events ∷ Key.Turns ∷ Key.Names ∷ []

-- the keys that a document may have, in their order
abbrev pub top_keys : List Key
top_keys = Key.Nodes ∷ Key.Partitions ∷ Key.Events ∷ Key.Turns ∷ Key.Period ∷ Key.Names ∷ Key.Weights ∷ Key.Keep
    ∷ Key.Fault ∷ []

-- the keys that each fault must have, in their order, and it may have no other
abbrev pub fault_keys : List Key
fault_keys = Key.At ∷ Key.Node ∷ Key.Kind ∷ []

-- the name of a refusal
abbrev pub name_of : ConfigFault → List ℕ
name_of ConfigFault.Toml = codes "Toml"
name_of (ConfigFault.Missing key) = codes "Missing"
name_of (ConfigFault.Kind key) = codes "Kind"
name_of (ConfigFault.Range key) = codes "Range"
name_of ConfigFault.DoubleName = codes "DoubleName"
name_of ConfigFault.UnknownKey = codes "UnknownKey"
name_of ConfigFault.OutOfMemory = codes "OutOfMemory"

-- the key that a refusal tells
abbrev pub key_of : ConfigFault → Option Key
key_of ConfigFault.Toml = None
key_of (ConfigFault.Missing key) = Some key
key_of (ConfigFault.Kind key) = Some key
key_of (ConfigFault.Range key) = Some key
key_of ConfigFault.DoubleName = None
key_of ConfigFault.UnknownKey = None
key_of ConfigFault.OutOfMemory = None

-- a space and the key, where there is one
abbrev pub key_text : Option Key → List ℕ
key_text None = []
key_text (Some key) = 32 ∷ word_of key

-- the refusal as the program tells it
abbrev pub fault_text : ConfigFault → List ℕ
fault_text fault = name_of fault ++ key_text (key_of fault)
