-- Two that a test tells to be the same are; and each is the same as itself.
use Rattle.std.proofs.Common.{◌≡◌, ◌∙◌, ℕ, ◌==◌, true, List, Option, Some, None, refl, ap, arith}
use Rattle.std.proofs.lemmas.Bool.{and_from, and_parts}
use Rattle.std.proofs.lemmas.Bool.Decides.{nat_tests}
use Rattle.std.proofs.lemmas.Slice.Eq.{bytes_eq-Decides}
use Rattle.bully_base.specs.declared.node.Status.{Status}
use Rattle.bully_base.specs.declared.node.Status.TheVariants.{Down, Election, Reorganization, Normal}
use Rattle.bully_base.specs.Setup.{IsNode, Setup, is_node}
use Rattle.bully_calls.specs.declared.call.Answer.{Answer}
use Rattle.bully_calls.specs.declared.call.Call.{Call}
use Rattle.bully_calls.specs.declared.call.CallKind.{CallKind}
use Rattle.bully_calls.specs.declared.call.Answer.TheVariants as answer
use Rattle.bully_calls.specs.declared.call.CallKind.TheVariants as kind
use Rattle.bully_trace.specs.Details.{same_answer, same_answers, same_call, same_kind, same_status, same_task}

pub status-is : (a b : Status) → same_status a b ≡ true → a ≡ b
status-is Down Down e = refl
status-is Election Election e = refl
status-is Reorganization Reorganization e = refl
status-is Normal Normal e = refl
status-is a b e = absurd (cc e)

pub status-itself : (s : Status) → same_status s s ≡ true
status-itself Down = refl
status-itself Election = refl
status-itself Reorganization = refl
status-itself Normal = refl

pub task-is : (a b : Option (List ℕ)) → same_task a b ≡ true → a ≡ b
task-is None None e = refl
task-is None (Some b) e = absurd (cc e)
task-is (Some a) None e = absurd (cc e)
task-is (Some a) (Some b) e = ap Some ((bytes_eq-Decides a b).0 e)

pub task-itself : (t : Option (List ℕ)) → same_task t t ≡ true
task-itself None = refl
task-itself (Some t) = (bytes_eq-Decides t t).1 refl

kind-is : (a b : CallKind) → same_kind a b ≡ true → a ≡ b
kind-is kind.AreYouUp kind.AreYouUp e = refl
kind-is kind.AreYouNormal kind.AreYouNormal e = refl
kind-is kind.Halt kind.Halt e = refl
kind-is kind.NewCoordinator kind.NewCoordinator e = refl
kind-is kind.Ready kind.Ready e = refl
kind-is a b e = absurd (cc e)

kind-itself : (k : CallKind) → same_kind k k ≡ true
kind-itself kind.AreYouUp = refl
kind-itself kind.AreYouNormal = refl
kind-itself kind.Halt = refl
kind-itself kind.NewCoordinator = refl
kind-itself kind.Ready = refl

abbrev call : ℕ → CallKind → Call
call callee kind = record { callee = callee; kind = kind }

pub call-is : (a b : Call) → same_call a b ≡ true → a ≡ b
call-is a b e =
    let parts = and_parts (a.callee == b.callee) (same_kind a.kind b.kind) e in
    let callee : a.callee ≡ b.callee = grind (arith, nat_tests, parts.0) in
    ap (λ i. call i a.kind) callee ∙ ap (call b.callee) (kind-is a.kind b.kind parts.1)

pub call-itself : (c : Call) → same_call c c ≡ true
call-itself c = and_from (c.callee == c.callee) (same_kind c.kind c.kind) (grind (arith, nat_tests)) (kind-itself c.kind)

pub answer-is : (a b : Answer) → same_answer a b ≡ true → a ≡ b
answer-is answer.Done answer.Done e = refl
answer-is answer.Yes answer.Yes e = refl
answer-is answer.No answer.No e = refl
answer-is answer.Failed answer.Failed e = refl
answer-is answer.Discarded answer.Discarded e = refl
answer-is a b e = absurd (cc e)

pub answer-itself : (a : Answer) → same_answer a a ≡ true
answer-itself answer.Done = refl
answer-itself answer.Yes = refl
answer-itself answer.No = refl
answer-itself answer.Failed = refl
answer-itself answer.Discarded = refl

pub answers-is : (a b : Option Answer) → same_answers a b ≡ true → a ≡ b
answers-is None None e = refl
answers-is None (Some b) e = absurd (cc e)
answers-is (Some a) None e = absurd (cc e)
answers-is (Some a) (Some b) e = ap Some (answer-is a b e)

pub answers-itself : (a : Option Answer) → same_answers a a ≡ true
answers-itself None = refl
answers-itself (Some a) = answer-itself a

pub is-node : (setup : Setup) (i : ℕ) → IsNode setup i → is_node setup i ≡ true
is-node setup i node = grind (arith, nat_tests, node.0, node.1)

pub node-within : (setup : Setup) (i : ℕ) → is_node setup i ≡ true → IsNode setup i
node-within setup i e = grind (arith, nat_tests, e)
