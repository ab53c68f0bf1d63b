-- Why a command that reads a configuration does nothing: what it is of each fault, its status, and its line on the
-- errors.
use Rattle.std.specs.Prelude.{ℕ, List, ◌++◌, codes}
use Rattle.bully_config.specs.Keys.{fault_text}
use Rattle.bully_config.specs.declared.fault.ConfigFault.{ConfigFault}
use Rattle.bully_table.specs.declared.planning.PlanFault.{PlanFault}
use Rattle.bully_table.specs.declared.table.TableFault.{TableFault}
use Rattle.bully_table.specs.TableText.{table_fault_text}
use Rattle.bully.specs.declared.refusals.Refusal.{Refusal}
use Rattle.bully.specs.declared.telling.Stop.{Stop}
use Rattle.bully.specs.Answer.{stop_line}

-- the refusal of a fault; want of memory is no fault of form
abbrev pub refusal_of_config : ConfigFault → Refusal
refusal_of_config ConfigFault.OutOfMemory = Refusal.Stop Stop.OutOfMemory
refusal_of_config fault = Refusal.Config fault

abbrev pub refusal_of_table : TableFault → Refusal
refusal_of_table TableFault.OutOfMemory = Refusal.Stop Stop.OutOfMemory
refusal_of_table fault = Refusal.Old fault

abbrev pub refusal_of_plan : PlanFault → Refusal
refusal_of_plan PlanFault.NoMember = Refusal.Member
refusal_of_plan PlanFault.OutOfMemory = Refusal.Stop Stop.OutOfMemory

abbrev pub refusal_line : Refusal → List ℕ
refusal_line (Refusal.Config fault) = codes "bully: config: " ++ fault_text fault ++ codes "\n"
refusal_line Refusal.Member = codes "bully: words: Member\n"
refusal_line (Refusal.Old fault) = codes "bully: words: " ++ table_fault_text fault ++ codes "\n"
refusal_line (Refusal.Stop stop) = stop_line stop

abbrev pub refusal_status : Refusal → ℕ
refusal_status (Refusal.Config fault) = 3
refusal_status Refusal.Member = 2
refusal_status (Refusal.Old fault) = 2
refusal_status (Refusal.Stop stop) = 4
