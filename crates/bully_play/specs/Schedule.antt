-- The faults that are still to come, turn by turn.
use Rattle.std.specs.Prelude.{◌≡◌, ◌≤◌, ◌==◌, ℕ, List}
use Rattle.std.specs.List.{filter}
use Rattle.bully_config.specs.declared.config.Fault.{Fault}

abbrev pub turn_of : Fault → ℕ
turn_of fault = fault.at

-- the faults of this turn, in their order
abbrev pub faults_in : ℕ → List Fault → List Fault
faults_in number faults = filter (λ fault. fault.at == number) faults

-- in each turn from this one on, what is left are the configuration's faults of that turn, in their order
abbrev pub AreLeft : List Fault → ℕ → List Fault → Type 0
AreLeft faults number left = (k : ℕ) → number ≤ k → faults_in k left ≡ faults_in k faults
