-- What `Config::read` answers, memory aside: the first refusal of the document in the written order, else its values.
use Rattle.std.specs.Prelude.{◌≡◌, ◌⊎◌, ℕ, List, length, Option, Some, None, option_map, Result, Ok, Err, if◌then◌else◌}
use Rattle.std.specs.Option.{option_or}
use Rattle.toml.specs.Data.{Members}
use Rattle.toml.specs.Errors.{IsMemory}
use Rattle.toml.specs.Parse.{parse_document}
use Rattle.toml.specs.declared.de.error.Error.{Error}
use Rattle.bully_config.specs.declared.fault.ConfigFault.{ConfigFault}
use Rattle.bully_config.specs.declared.fault.Key.{Key}
use Rattle.bully_config.specs.Configuration.{Configuration}
use Rattle.bully_config.specs.Document.{items_at}
use Rattle.bully_config.specs.Refusals.{missing_in, misfit_in, out_of_range_in, has_double_in, has_unlisted_in}
use Rattle.bully_config.specs.Values.{values_of}

-- the first refusal: a missing key, a kind, a range, a double name, an unknown key
abbrev pub refusal_of : Members → Option ConfigFault
refusal_of ms =
    option_or (option_map ConfigFault.Missing (missing_in ms))
    (option_or (option_map ConfigFault.Kind (misfit_in ms))
    (option_or (option_map ConfigFault.Range (out_of_range_in ms))
    (if has_double_in ms then Some ConfigFault.DoubleName
    else if has_unlisted_in ms then Some ConfigFault.UnknownKey
    else None)))

-- the configuration of a document
abbrev pub configuration_of : Members → Result Configuration ConfigFault
configuration_of ms = elim (refusal_of ms) [
  | None ↦ Ok (values_of ms)
  | Some fault ↦ Err fault
]

-- the configuration of a text
abbrev pub answer_of : List ℕ → Result Configuration ConfigFault
answer_of text = elim (parse_document text) [
  | None ↦ Err ConfigFault.Toml
  | Some document ↦ configuration_of document
]

-- the configuration has as many faults as the document of the text
abbrev pub TellsEachFault : List ℕ → Configuration → Type 0
TellsEachFault text config =
    (document : Members) × (parse_document text ≡ Some document)
    × (length config.faults ≡ length (items_at Key.Fault document))

-- what an error of `toml` is told as
abbrev pub IsToldAs : Error → ConfigFault → Type 0
IsToldAs error fault = (IsMemory error × (fault ≡ ConfigFault.OutOfMemory))
    ⊎ ((¬ IsMemory error) × (fault ≡ ConfigFault.Toml))
