-- What the program answers to `play`, `run` and `table` where the configuration's file holds these bytes: the status,
-- and what then stands on the output and on the errors.
use Rattle.std.specs.Prelude.{◌≡◌, ◌≢◌, ◌⊎◌, ℕ, Bool, List, Option, Ok, Err, codes}
use Rattle.std.specs.Io.KnownBytes.{Appends, Keeps}
use Rattle.bully_config.specs.Configuration.{Configuration}
use Rattle.bully_config.specs.declared.fault.ConfigFault.{ConfigFault}
use Rattle.bully_play.specs.Play.{IsPlay, trace_with}
use Rattle.bully_nodes.specs.Run.{IsNodesFault}
use Rattle.bully_play.specs.Turns.{IsScheduled}
use Rattle.bully_play.specs.declared.playing.PlayFault.{PlayFault}
use Rattle.bully_nodes.specs.declared.running.NodesFault.{NodesFault}
use Rattle.bully_table.specs.declared.planning.TablePlan.{TablePlan}
use Rattle.bully_rows.specs.TraceText.{trace_text}
use Rattle.bully_calls.specs.declared.event.Event.{Event}
use Rattle.bully.specs.Answer.{KnownBytes, Tells, stop_line}
use Rattle.bully.specs.PlanText.{IsPlanTold}
use Rattle.bully.specs.RefusalText.{refusal_line, refusal_status}
use Rattle.bully.specs.Wanted.{ReadsAs, Wanted, Wants, IsPlanFor}
use Rattle.bully.specs.declared.refusals.Refusal.{Refusal}
use Rattle.bully.specs.declared.telling.Stop.{Stop}

-- reading, writing or memory failed: that is told on the errors, and the output is touched by a failed write alone
abbrev pub IsStopped : KnownBytes → KnownBytes → KnownBytes → KnownBytes → ℕ → Type 0
IsStopped output output' errors errors' status =
    (stop : Stop) × (stop ≢ Stop.Write → Keeps output output') × Tells errors errors' (stop_line stop) × (status ≡ 4)

-- a refusal is told on the errors, and nothing stands on the output
abbrev pub IsRefused : Refusal → KnownBytes → KnownBytes → KnownBytes → KnownBytes → ℕ → Type 0
IsRefused refusal output output' errors errors' status =
    Keeps output output' × Tells errors errors' (refusal_line refusal) × (status ≡ refusal_status refusal)

-- nothing is done with the group, or not all of it: the configuration is refused, or something failed
abbrev pub IsNotDone : List ℕ → KnownBytes → KnownBytes → KnownBytes → KnownBytes → ℕ → Type 0
IsNotDone bytes output output' errors errors' status =
    ((fault : ConfigFault) × ReadsAs bytes (Err fault)
    × IsRefused (Refusal.Config fault) output output' errors errors' status)
    ⊎ IsStopped output output' errors errors' status

-- what stops the program where a trace of a group isn't written
abbrev pub stop_of_trace : PlayFault → Stop
stop_of_trace PlayFault.Write = Stop.Write
stop_of_trace PlayFault.OutOfMemory = Stop.OutOfMemory

-- the configuration is played, and the trace of a play of it stands on the output
abbrev pub IsPlayed : List ℕ → KnownBytes → KnownBytes → KnownBytes → KnownBytes → ℕ → Type 0
IsPlayed bytes output output' errors errors' status =
    (config : Configuration) × (events : List Event) × ReadsAs bytes (Ok config) × IsPlay config events
    × IsScheduled config events
    × Appends output output' (trace_text (trace_with config.setup events)) × Keeps errors errors' × (status ≡ 0)

-- the answer to `play`
abbrev pub IsPlayAnswer : List ℕ → KnownBytes → KnownBytes → KnownBytes → KnownBytes → ℕ → Type 0
IsPlayAnswer bytes output output' errors errors' status =
    IsPlayed bytes output output' errors errors' status
    ⊎ IsNotDone bytes output output' errors errors' status

-- the configuration is run in threads, and a trace stands on the output: its events are lawful within the bound of the
-- configuration, and each crash and each recovery of them is one of its faults
abbrev pub IsRun : List ℕ → KnownBytes → KnownBytes → KnownBytes → KnownBytes → ℕ → Type 0
IsRun bytes output output' errors errors' status =
    (config : Configuration) × (events : List Event) × ReadsAs bytes (Ok config) × IsPlay config events
    × Appends output output' (trace_text (trace_with config.setup events)) × Keeps errors errors' × (status ≡ 0)

-- the line of a run that ends without its history
abbrev pub nodes_line : NodesFault → List ℕ
nodes_line NodesFault.Spawn = codes "bully: Spawn\n"
nodes_line (NodesFault.Finish fault) = codes "bully: Finish\n"
nodes_line NodesFault.OutOfMemory = stop_line Stop.OutOfMemory

-- the run ends without its history: why is told on the errors, and nothing stands on the output
abbrev pub IsUnfinished : List ℕ → KnownBytes → KnownBytes → KnownBytes → KnownBytes → ℕ → Type 0
IsUnfinished bytes output output' errors errors' status =
    (config : Configuration) × (fault : NodesFault) × ReadsAs bytes (Ok config) × IsNodesFault fault
    × Keeps output output' × Tells errors errors' (nodes_line fault) × (status ≡ 4)

-- the answer to `run`
abbrev pub IsRunAnswer : List ℕ → KnownBytes → KnownBytes → KnownBytes → KnownBytes → ℕ → Type 0
IsRunAnswer bytes output output' errors errors' status =
    IsRun bytes output output' errors errors' status
    ⊎ IsUnfinished bytes output output' errors errors' status
    ⊎ IsNotDone bytes output output' errors errors' status

-- the table is planned, and its plan stands on the output, as JSON or not
abbrev pub IsPlanned : Bool → List ℕ → List (List ℕ) → Option (List ℕ) → KnownBytes → KnownBytes → KnownBytes
    → KnownBytes → ℕ → Type 0
IsPlanned is_json bytes names old output output' errors errors' status =
    (wanted : Wanted) × (plan : TablePlan) × (text : List ℕ) × Wants bytes names old (Ok wanted) × IsPlanFor wanted plan
    × IsPlanTold is_json plan text × Appends output output' text × Keeps errors errors' × (status ≡ 0)

-- the answer to `table` with these names of members and this text of an old table, as JSON or not
abbrev pub IsTableAnswer : Bool → List ℕ → List (List ℕ) → Option (List ℕ) → KnownBytes → KnownBytes → KnownBytes
    → KnownBytes → ℕ → Type 0
IsTableAnswer is_json bytes names old output output' errors errors' status =
    IsPlanned is_json bytes names old output output' errors errors' status
    ⊎ ((refusal : Refusal) × Wants bytes names old (Err refusal)
    × IsRefused refusal output output' errors errors' status)
    ⊎ IsStopped output output' errors errors' status
