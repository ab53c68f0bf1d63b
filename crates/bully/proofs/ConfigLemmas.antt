-- From what is read and planned to what the program answers to `play`, to `run` and to `table`.
use Rattle.std.proofs.Common.{◌≡◌, ◌≢◌, ◌⊎◌, inl, inr, ℕ, Bool, List, [], ◌∷◌, Option, Ok, Err, refl, ap, subst, ◌∙◌, arith}
use Rattle.std.specs.Io.KnownBytes.{Appends, Keeps}
use Rattle.bully_base.specs.Setup.{Setup}
use Rattle.bully_config.specs.Configuration.{Configuration}
use Rattle.bully_config.specs.declared.fault.ConfigFault.{ConfigFault}
use Rattle.bully_play.specs.Play.{IsPlay, trace_with}
use Rattle.bully_nodes.specs.Run.{IsNodesFault}
use Rattle.bully_play.specs.Turns.{IsScheduled}
use Rattle.bully_nodes.specs.declared.running.NodesFault.{NodesFault}
use Rattle.bully_table.specs.Planning.{IsFewest, IsMostKept, moves_from, planned}
use Rattle.bully_table.specs.declared.planning.TablePlan.{TablePlan}
use Rattle.bully_rows.specs.TraceText.{trace_text}
use Rattle.bully_calls.specs.declared.event.Event.{Event}
use Rattle.bully.specs.Answer.{KnownBytes, Tells, stop_line}
use Rattle.bully.specs.ConfigAnswer.{IsNotDone, IsPlayAnswer, IsRefused, IsRunAnswer, IsStopped, IsTableAnswer, nodes_line}
use Rattle.bully.specs.PlanText.{IsPlanTold}
use Rattle.bully.specs.RefusalText.{refusal_line, refusal_of_config, refusal_status}
use Rattle.bully.specs.Wanted.{IsPlanOf, ReadsAs, Wants, wanted_for}
use Rattle.bully.specs.declared.refusals.Refusal.{Refusal}
use Rattle.bully.specs.declared.telling.Stop.{Stop}
use Rattle.bully.proofs.KnownBytesLemmas.{keeps-same}

-- ---- what a fault is refused as

pub of-config : (fault : ConfigFault) → (refusal_of_config fault ≡ Refusal.Stop Stop.OutOfMemory) ⊎ ((fault ≢ ConfigFault.OutOfMemory) × (refusal_of_config fault ≡ Refusal.Config fault))
of-config ConfigFault.Toml = inr ((λ e. grind (arith, e)), refl)
of-config (ConfigFault.Missing key) = inr ((λ e. grind (arith, e)), refl)
of-config (ConfigFault.Kind key) = inr ((λ e. grind (arith, e)), refl)
of-config (ConfigFault.Range key) = inr ((λ e. grind (arith, e)), refl)
of-config ConfigFault.DoubleName = inr ((λ e. grind (arith, e)), refl)
of-config ConfigFault.UnknownKey = inr ((λ e. grind (arith, e)), refl)
of-config ConfigFault.OutOfMemory = inl refl

-- ---- the plan of what is wanted

-- there is a plan
pub plan-made : (setup : Setup) (old : Option (List ℕ)) (members : List ℕ) (plan : TablePlan) → members ≢ []
    → plan.table ≡ planned setup old members → IsFewest setup old plan.table members → plan.moves ≡ moves_from setup old plan.table → IsMostKept setup old members plan.bound
    → IsPlanOf (λ answer. wanted_for setup members old ≡ answer) (Ok plan)
plan-made setup old [] plan some table fewest moves bound = absurd (some refl)
plan-made setup old (m ∷ ms) plan some table fewest moves bound =
    (record { setup = setup; old = old; members = m ∷ ms }, refl, record { planned = table; fewest = fewest; moves = moves; bound = bound })

-- ---- the answers

-- a refusal that was told, or there was no memory for its line
told-or-stopped : (refusal : Refusal) (output output' errors errors' : KnownBytes) (status : ℕ) → Keeps output output'
    → ((status ≡ refusal_status refusal) × Tells errors errors' (refusal_line refusal)) ⊎ ((status ≡ 4) × Tells errors errors' (stop_line Stop.OutOfMemory))
    → IsRefused refusal output output' errors errors' status ⊎ IsStopped output output' errors errors' status
told-or-stopped refusal output output' errors errors' status kept (inl (done, told)) = inl (kept, told, done)
told-or-stopped refusal output output' errors errors' status kept (inr (done, told)) = inr (Stop.OutOfMemory, (λ _. kept), told, done)

-- want of memory that was told
memory-stops : (output output' errors errors' : KnownBytes) (status : ℕ) → Keeps output output'
    → ((status ≡ 4) × Tells errors errors' (stop_line Stop.OutOfMemory)) ⊎ ((status ≡ 4) × Tells errors errors' (stop_line Stop.OutOfMemory))
    → IsStopped output output' errors errors' status
memory-stops output output' errors errors' status kept (inl (done, told)) = (Stop.OutOfMemory, (λ _. kept), told, done)
memory-stops output output' errors errors' status kept (inr (done, told)) = (Stop.OutOfMemory, (λ _. kept), told, done)

abbrev IsTold : Refusal → KnownBytes → KnownBytes → ℕ → Type 0
IsTold refusal errors errors' status =
    ((status ≡ refusal_status refusal) × Tells errors errors' (refusal_line refusal)) ⊎ ((status ≡ 4) × Tells errors errors' (stop_line Stop.OutOfMemory))

-- the configuration whose group is to do something is refused
pub config-refused : (bytes : List ℕ) (fault : ConfigFault) (refusal : Refusal) (output output' errors errors' : KnownBytes) (status : ℕ)
    → (fault ≢ ConfigFault.OutOfMemory → ReadsAs bytes (Err fault)) → refusal ≡ refusal_of_config fault → Keeps output output' → IsTold refusal errors errors' status
    → IsNotDone bytes output output' errors errors' status
config-refused bytes fault refusal output output' errors errors' status reads is kept told = elim (of-config fault) [
  | inl memory ↦ inr (memory-stops output output' errors errors' status kept (subst (λ r. IsTold r errors errors' status) (is ∙ memory) told))
  | inr form ↦ elim (told-or-stopped (Refusal.Config fault) output output' errors errors' status kept (subst (λ r. IsTold r errors errors' status) (is ∙ form.1) told)) [
    | inl refused ↦ inl (fault, reads form.0, refused)
    | inr stopped ↦ inr stopped
  ]
]

-- the table isn't planned
pub table-refused : (is_json : Bool) (bytes : List ℕ) (names : List (List ℕ)) (old : Option (List ℕ)) (refusal : Refusal) (output output' errors errors' : KnownBytes) (status : ℕ)
    → IsPlanOf (Wants bytes names old) (Err refusal) → Keeps output output' → IsTold refusal errors errors' status
    → IsTableAnswer is_json bytes names old output output' errors errors' status
table-refused is_json bytes names old refusal output output' errors errors' status (inl memory) kept told =
    inr (inr (memory-stops output output' errors errors' status kept (subst (λ r. IsTold r errors errors' status) memory told)))
table-refused is_json bytes names old refusal output output' errors errors' status (inr wants) kept told = elim (told-or-stopped refusal output output' errors errors' status kept told) [
  | inl refused ↦ inr (inl (refusal, wants, refused))
  | inr stopped ↦ inr (inr stopped)
]

-- a stop, from what it says of the writers
stopped-from : {W E : Type 0} (written : W → KnownBytes) (told : E → KnownBytes) (output output' : W) (errors errors' : E) (status : ℕ)
    → (status ≡ 4) × (stop : Stop) × (stop ≢ Stop.Write → output' ≡ output) × Tells (told errors) (told errors') (stop_line stop)
    → IsStopped (written output) (written output') (told errors) (told errors') status
stopped-from written told output output' errors errors' status (four, stop, kept, line) =
    (stop, (λ other. keeps-same _ _ (ap written (kept other))), line, four)

-- the configuration is played
pub play-answered : {W E : Type 0} (written : W → KnownBytes) (told : E → KnownBytes) (bytes : List ℕ) (config : Configuration) (output output' : W) (errors errors' : E) (status : ℕ)
    → ReadsAs bytes (Ok config)
    → ((status ≡ 0) × (errors' ≡ errors) × ((events : List Event) × IsPlay config events × IsScheduled config events × Appends (written output) (written output') (trace_text (trace_with config.setup events))))
    ⊎ ((status ≡ 4) × (stop : Stop) × (stop ≢ Stop.Write → output' ≡ output) × Tells (told errors) (told errors') (stop_line stop))
    → IsPlayAnswer bytes (written output) (written output') (told errors) (told errors') status
play-answered written told bytes config output output' errors errors' status reads (inl (done, same, (events, play, scheduled, text))) =
    inl (config, events, reads, play, scheduled, text, keeps-same _ _ (ap told same), done)
play-answered written told bytes config output output' errors errors' status reads (inr stopped) =
    inr (inr (stopped-from written told output output' errors errors' status stopped))

-- the configuration is run
pub run-answered : {W E : Type 0} (written : W → KnownBytes) (told : E → KnownBytes) (bytes : List ℕ) (config : Configuration) (output output' : W) (errors errors' : E) (status : ℕ)
    → ReadsAs bytes (Ok config)
    → ((status ≡ 0) × (errors' ≡ errors) × ((events : List Event) × IsPlay config events × Appends (written output) (written output') (trace_text (trace_with config.setup events))))
    ⊎ ((status ≡ 4) × (fault : NodesFault) × IsNodesFault fault × (output' ≡ output) × Tells (told errors) (told errors') (nodes_line fault))
    ⊎ ((status ≡ 4) × (stop : Stop) × (stop ≢ Stop.Write → output' ≡ output) × Tells (told errors) (told errors') (stop_line stop))
    → IsRunAnswer bytes (written output) (written output') (told errors) (told errors') status
run-answered written told bytes config output output' errors errors' status reads (inl (done, same, (events, play, text))) =
    inl (config, events, reads, play, text, keeps-same _ _ (ap told same), done)
run-answered written told bytes config output output' errors errors' status reads (inr (inl (four, fault, is, same, line))) =
    inr (inl (config, fault, reads, is, keeps-same _ _ (ap written same), line, four))
run-answered written told bytes config output output' errors errors' status reads (inr (inr stopped)) =
    inr (inr (inr (stopped-from written told output output' errors errors' status stopped)))

-- the table is planned
pub table-answered : {W E : Type 0} (written : W → KnownBytes) (told : E → KnownBytes) (is_json : Bool) (bytes : List ℕ) (names : List (List ℕ)) (old : Option (List ℕ)) (plan : TablePlan) (output output' : W) (errors errors' : E) (status : ℕ)
    → IsPlanOf (Wants bytes names old) (Ok plan)
    → ((status ≡ 0) × ((text : List ℕ) × IsPlanTold is_json plan text × Appends (written output) (written output') text) × (errors' ≡ errors))
    ⊎ ((status ≡ 4) × (stop : Stop) × (stop ≢ Stop.Write → output' ≡ output) × Tells (told errors) (told errors') (stop_line stop))
    → IsTableAnswer is_json bytes names old (written output) (written output') (told errors) (told errors') status
table-answered written told is_json bytes names old plan output output' errors errors' status (wanted, wants, is) (inl (done, (text, says, appended), same)) =
    inl (wanted, plan, text, wants, is, says, appended, keeps-same _ _ (ap told same), done)
table-answered written told is_json bytes names old plan output output' errors errors' status wanted (inr stopped) =
    inr (inr (stopped-from written told output output' errors errors' status stopped))
