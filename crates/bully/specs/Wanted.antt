-- What `play` and `table` make of a configuration's bytes and of the words after its path, or why they do nothing.
use Rattle.std.specs.Prelude.{◌≡◌, ◌⊎◌, ℕ, List, [], ◌∷◌, Option, Some, None, option_and_then, option_map, Result, Ok}
use Rattle.std.specs.Prelude.{Err}
use Rattle.std.specs.Str.{IsUtf8}
use Rattle.bully_base.specs.NodeSet.{with_node}
use Rattle.bully_base.specs.Setup.{Setup}
use Rattle.bully_config.specs.Answers.{answer_of}
use Rattle.bully_config.specs.Configuration.{Configuration, node_named}
use Rattle.bully_config.specs.declared.fault.ConfigFault.{ConfigFault}
use Rattle.bully_table.specs.Planning.{IsFewest, IsMostKept, moves_from, planned}
use Rattle.bully_table.specs.TableText.{table_of_text}
use Rattle.bully_table.specs.declared.planning.TablePlan.{TablePlan}
use Rattle.bully_table.specs.declared.table.TableFault.{TableFault}
use Rattle.bully.specs.declared.refusals.Refusal.{Refusal}
use Rattle.bully.specs.declared.telling.Stop.{Stop}

-- the bytes of a file are read as this configuration, or refused with this fault; bytes that are no text are no TOML
abbrev pub ReadsAs : List ℕ → Result Configuration ConfigFault → Type 0
ReadsAs bytes answer = (IsUtf8 bytes × (answer_of bytes ≡ answer))
    ⊎ (¬ (IsUtf8 bytes) × (answer ≡ Err ConfigFault.Toml))

-- the set of the nodes of these names; none where a name is no node's
abbrev pub members_named : List (List ℕ) → List (List ℕ) → Option (List ℕ)
members_named names [] = Some []
members_named names (word ∷ words) =
    option_and_then (λ node. option_map (with_node node) (members_named names words)) (node_named names word)

-- what a table is planned for
pub record Wanted : Type 0 where
  pub setup : Setup
  pub old : Option (List ℕ)
  pub members : List ℕ

-- for these members and this old table; for no member there is no table
abbrev pub wanted_for : Setup → List ℕ → Option (List ℕ) → Result Wanted Refusal
wanted_for setup [] old = Err Refusal.Member
wanted_for setup (member ∷ members) old = Ok (record { setup = setup; old = old; members = member ∷ members })

-- with what the text of the old table spells
abbrev pub wanted_from : Setup → List ℕ → Result (List ℕ) TableFault → Result Wanted Refusal
wanted_from setup members (Ok table) = wanted_for setup members (Some table)
wanted_from setup members (Err fault) = Err (Refusal.Old fault)

-- with the text of the old table, where there is one
abbrev pub wanted_after : Setup → List ℕ → Option (List ℕ) → Result Wanted Refusal
wanted_after setup members None = wanted_for setup members None
wanted_after setup members (Some text) = wanted_from setup members (table_of_text setup text)

-- with the members, where each name is a node's
abbrev pub wanted_over : Setup → Option (List ℕ) → Option (List ℕ) → Result Wanted Refusal
wanted_over setup None old = Err Refusal.Member
wanted_over setup (Some members) old = wanted_after setup members old

-- with the names of the members
abbrev pub wanted_in : Configuration → List (List ℕ) → Option (List ℕ) → Result Wanted Refusal
wanted_in config names old = wanted_over config.setup (members_named config.names names) old

-- what the words of `table` want of these bytes, or the first refusal: the configuration's, a name's, the old table's
abbrev pub Wants : List ℕ → List (List ℕ) → Option (List ℕ) → Result Wanted Refusal → Type 0
Wants bytes names old answer =
    ((config : Configuration) × ReadsAs bytes (Ok config) × (wanted_in config names old ≡ answer))
    ⊎ ((fault : ConfigFault) × ReadsAs bytes (Err fault) × (Err (Refusal.Config fault) ≡ answer))

-- the plan of what is wanted: the planned table, its moves, and the most that any balanced table keeps
pub record IsPlanFor (wanted : Wanted) (plan : TablePlan) : Type 0 where
  pub planned : plan.table ≡ planned wanted.setup wanted.old wanted.members
  pub fewest : IsFewest wanted.setup wanted.old plan.table wanted.members
  pub moves : plan.moves ≡ moves_from wanted.setup wanted.old plan.table
  pub bound : IsMostKept wanted.setup wanted.old wanted.members plan.bound

-- the plan of what is wanted, or the refusal in its place; or memory was refused
abbrev pub IsPlanOf : (Result Wanted Refusal → Type 0) → Result TablePlan Refusal → Type 0
IsPlanOf wants (Ok plan) = (wanted : Wanted) × wants (Ok wanted) × IsPlanFor wanted plan
IsPlanOf wants (Err refusal) = (refusal ≡ Refusal.Stop Stop.OutOfMemory) ⊎ wants (Err refusal)
