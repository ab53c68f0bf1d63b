use Rattle.std.proofs.Common.{◌≡◌, drop}
use Rattle.bully_config.specs.Refusals.{first_failing}
use Rattle.bully_config.specs.Searches.{Computes}
use Rattle.bully_config.proofs.refusal.first_failing.Given as goal

abbrev pub invariant-loop-key : goal.invariant-loop-key
invariant-loop-key g l =
    (passes : _) → Computes (λ key. key) (goal.F-post g l.test) passes → first_failing passes (drop l.key-index l.keys) ≡ first_failing passes l.keys
