-- What is told of a configuration.
use Rattle.std.specs.Prelude.{◌≡◌, ◌⊎◌, ◌==◌, ℕ, List, [], ◌∷◌, ◌++◌, Ok, Err, IsUtf8, length, if◌then◌else◌}
use Rattle.std.specs.Fmt.{decimal}
use Rattle.bully_rows.specs.TraceText.{header_fields, line_of}
use Rattle.bully_rows.specs.Headers.{version_for}
use Rattle.bully_config.specs.Answers.{answer_of}
use Rattle.bully_config.specs.Configuration.{Configuration}
use Rattle.bully_config.specs.Keys.{fault_text}
use Rattle.bully_config.specs.declared.fault.ConfigFault.{ConfigFault}
use Rattle.bully_c.specs.Arguments.{IsCopied, IsMadeAndCopied}
use Rattle.bully_c.specs.declared.status.TheConstants.{BAD_CONFIG, OK, OUT_OF_MEMORY}

-- how many bytes a name has, a colon, the name, and a line end
unfoldable pub name_line : List ℕ → List ℕ
name_line name = decimal (length name) ++ (58 ∷ name) ++ (10 ∷ [])

-- the lines of the names
abbrev pub names_text : List (List ℕ) → List ℕ
names_text [] = []
names_text (name ∷ names) = name_line name ++ names_text names

-- the header of the group, and the lines of its names
abbrev pub configuration_text : Configuration → List ℕ
configuration_text c = line_of (header_fields (version_for c.setup) c.setup) ++ names_text c.names

-- the bytes spell this configuration
abbrev pub IsConfigurationIn : List ℕ → Configuration → Type 0
IsConfigurationIn bytes c = IsUtf8 bytes × (answer_of bytes ≡ Ok c)

-- or this is their first fault: what isn't UTF-8 is no TOML document
abbrev pub IsFaultIn : List ℕ → ConfigFault → Type 0
IsFaultIn bytes fault = ((fault ≡ ConfigFault.Toml) × ¬ IsUtf8 bytes) ⊎ (IsUtf8 bytes × (answer_of bytes ≡ Err fault))

-- the fault is written, or there isn't room for it, and its length alone is; or an allocation failed, and nothing is
abbrev pub IsFaultTold : List ℕ → List ℕ → ℕ → ℕ → List ℕ → ℕ → Type 0
IsFaultTold text before count_before status after count =
    ((status ≡ OUT_OF_MEMORY) × (after ≡ before) × (count ≡ count_before))
    ⊎ ((said : ℕ) × IsCopied text before said after count × (status ≡ if said == OK then BAD_CONFIG else said))

-- what is told of the configuration that bytes spell, or of its first fault; or an allocation failed, and nothing is
abbrev pub IsConfigurationTold : List ℕ → List ℕ → ℕ → ℕ → List ℕ → ℕ → Type 0
IsConfigurationTold bytes before count_before status after count =
    ((c : Configuration) × IsConfigurationIn bytes c
    × IsMadeAndCopied (configuration_text c) before count_before status after count)
    ⊎ ((fault : ConfigFault) × IsFaultIn bytes fault
    × IsFaultTold (fault_text fault) before count_before status after count)
    ⊎ ((status ≡ OUT_OF_MEMORY) × (after ≡ before) × (count ≡ count_before))
