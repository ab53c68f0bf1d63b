-- The row of what a node appends next, or why there is none; and why a text isn't learned to its end.
use Rattle.std.proofs.Common.{◌≡◌, ◌≤◌, ℕ, List, Option, Some, Result, Ok, Err, inl, inr, subst, arith, IfErr, IfOk}
use Rattle.bully_calls.specs.declared.event.Event.{Event}
use Rattle.bully_replica.specs.RowReplica.{RowReplicaState, FollowsUpTo, Stops}
use Rattle.bully_replica.specs.Next.{IsNext}
use Rattle.bully_replica.specs.Replica.{ReplicaState}
use Rattle.bully_replica.specs.declared.row_replica.LearnFault.{LearnFault}
use Rattle.bully_rows.specs.Headers.{Record}
use Rattle.bully_rows.specs.RecordsLeft.{ReadSoFar}
use Rattle.bully_rows.specs.declared.TheConstants.{ROWS_MAX}
use Rattle.bully_c.specs.Numbers.{learn_fault_number}
use Rattle.bully_c.specs.Replicas.{EndsLearning, HasNode, IsAllowedRow, IsNextRow, RefusesNext, RefusesRow}

-- what is said of the node that a number names
pub next-as : (r s : ReplicaState) (i node : ℕ) (told next : Option Event) → r ≡ s → i ≡ node → told ≡ next → IsNext r i told → IsNext s node next
next-as r s i node told next kept same is says = subst (λ r. IsNext r node next) kept (subst (λ k. IsNext r k next) same (subst (IsNext r i) is says))

pub next-ok : {A : Type 0} (bytes : A → List ℕ) (f : RowReplicaState) (node : ℕ) (e : Event) (made : Result A ℕ) → HasNode f node → IsNext f.replica node (Some e)
    → IfOk made (λ text. IsAllowedRow f e (bytes text)) → IfOk made (λ text. IsNextRow f node (bytes text))
next-ok bytes f node e (Ok text) has next allowed = (has, Some e, next, allowed)
next-ok bytes f node e (Err status) has next allowed = tt

pub next-err : {A : Type 0} (f : RowReplicaState) (node : ℕ) (e : Event) (made : Result A ℕ) → HasNode f node → IsNext f.replica node (Some e)
    → IfErr made (RefusesRow f e) → IfErr made (RefusesNext f node)
next-err f node e (Ok text) has next refuses = tt
next-err f node e (Err status) has next refuses = inr (has, inr (e, next, refuses))

-- a text has no header, so its reader gives no more rows than were learned
pub ends-learning : (records : List Record) (reader : ReadSoFar) (before after : RowReplicaState) (fault : LearnFault) (status : ℕ) → reader.number ≡ 0 → after.rows ≤ ROWS_MAX → status ≡ learn_fault_number fault
    → (left : List Record) × FollowsUpTo records before after left × Stops reader before left after fault → (left : List Record) × FollowsUpTo records before after left × EndsLearning left after status
ends-learning records reader before after fault status start within told (left, up, inl stops) = (left, up, inr (fault, told, stops))
ends-learning records reader before after fault status start within told (left, up, inr (many, given)) = absurd (omega (arith, start, within, given))
