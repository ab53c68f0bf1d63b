-- What is told of a configuration's text.
use Rattle.std.specs.Prelude.{◌≡◌, ◌≢◌, ℕ, List, ◌++◌, Option, Some, None, Ok, Err, codes, length}
use Rattle.bully_config.specs.Answers.{answer_of}
use Rattle.bully_config.specs.Configuration.{Configuration}
use Rattle.bully_config.specs.Keys.{fault_text}
use Rattle.bully_config.specs.declared.fault.ConfigFault.{ConfigFault}
use Rattle.bully_draft.specs.Shown.{ArePlain, lines_text, shown}

-- the first refusal of the text; none where it is a configuration
abbrev pub IsConfigTold : List ℕ → Option ConfigFault → Type 0
IsConfigTold text None = (config : Configuration) × (answer_of text ≡ Ok config)
IsConfigTold text (Some fault) = answer_of text ≡ Err fault

-- how the line of a document starts: with its first refusal, or that it has none
abbrev pub document_head : Option ConfigFault → List ℕ
document_head None = codes "the configuration has no fault"
document_head (Some fault) = fault_text fault ++ codes ": "

-- the text of a sheet: such lines, and one alone where this is told of a document, which starts so
pub record IsConfigText (told : Option ConfigFault) (text : List ℕ) : Type 0 where
  pub lines : List (List ℕ)
  pub plain : ArePlain lines
  pub whole : text ≡ lines_text lines
  pub one : told ≢ Some ConfigFault.Toml → length lines ≡ 1
  pub begins : told ≢ Some ConfigFault.Toml
      → (rest : List ℕ) × (text ≡ shown (document_head told ++ rest) ++ codes "\n")
