-- What the claims of a trace tell of nodes between two of its events.
use Rattle.std.specs.Prelude.{◌≡◌, ◌⊎◌, List, [], ◌∷◌, ◌++◌, Option, Some, None, IsSome}
use Rattle.bully_base.specs.declared.node.Status.{Status}
use Rattle.bully_base.specs.declared.node.Status.TheVariants.{Reorganization, Normal}
use Rattle.bully_rows.specs.declared.trace.Claim.{Claim}
use Rattle.bully_rows.specs.declared.trace.Row.{Row}
use Rattle.bully_trace.specs.declared.verdict.Verdict.{Verdict}
use Rattle.bully_rows.specs.Trace.{Trace}
use Rattle.bully_trace.specs.Verdict.{events_of}
use Rattle.bully_rows.specs.Whole.{Whole}

-- the claim that the row makes, if it makes one
abbrev pub claim_of : Row → Option Claim
claim_of (Row.Event e) = None
claim_of (Row.Detailed e) = None
claim_of (Row.Claim claim) = Some claim
claim_of (Row.Whole whole) = Some whole.claim

abbrev pub TakesPartBy : Status → Type 0
TakesPartBy status = (status ≡ Reorganization) ⊎ (status ≡ Normal)

-- what two rows claim of nodes in Reorganization or Normal goes together: they tell a coordinator, and the same; and of
-- Normal nodes they tell a task, where they tell all, and the same owners
pub record ClaimsAgree (a b : Row) : Type 0 where
  pub has_coordinator : (c : Claim) → claim_of a ≡ Some c → TakesPartBy c.status → IsSome c.coordinator
  pub same_coordinator : (c d : Claim) → claim_of a ≡ Some c → claim_of b ≡ Some d → TakesPartBy c.status
      → TakesPartBy d.status → c.coordinator ≡ d.coordinator
  pub has_task : (c : Whole) → a ≡ Row.Whole c → c.claim.status ≡ Normal → IsSome c.task
  pub same_task : (c d : Whole) → a ≡ Row.Whole c → b ≡ Row.Whole d → c.claim.status ≡ Normal → d.claim.status ≡ Normal
      → c.task ≡ d.task

-- where the trace is lawful, two claims agree that have no event between them
abbrev pub RecordedAgreement : Trace → Verdict → Type 0
RecordedAgreement trace (Verdict.Lawful count) =
    (before between after : List Row) (a b : Row) (c : Claim) → trace.rows ≡ before ++ a ∷ (between ++ b ∷ after)
    → claim_of a ≡ Some c → events_of between ≡ [] → ClaimsAgree a b
RecordedAgreement trace (Verdict.Refused number why) = Unit {0}
RecordedAgreement trace (Verdict.Differs number) = Unit {0}
