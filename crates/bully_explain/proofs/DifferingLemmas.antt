-- What a row says, beside what the group shows of its node.
use Rattle.std.proofs.Common.{◌≡◌, ◌∙◌, ◌++◌, ℕ, Bool, true, List, [], Option, Some, ap, codes, nat_le, subst, sym}
use Rattle.std.specs.Bool.{if◌then◌else◌}
use Rattle.std.specs.Fmt.{decimal}
use Rattle.bully_calls.specs.Events.{node_saying}
use Rattle.bully_calls.specs.declared.call.Answer.{Answer}
use Rattle.bully_rows.specs.TraceText.{node_text, set_text, task_text}
use Rattle.bully_rows.specs.Whole.{Whole}
use Rattle.bully_rows.specs.Words.{call_word, status_word}
use Rattle.bully_rows.specs.declared.detail.DetailedEvent.{DetailedEvent}
use Rattle.bully_rows.specs.declared.trace.Claim.{Claim}
use Rattle.bully_handlers.specs.Vector.{StoredVector, Vector}
use Rattle.bully_world.specs.State.{WorldState, state_at, world_of}
use Rattle.bully_world.specs.World.{NodeState, vector}
use Rattle.bully_world.proofs.WorldIn.{node_state-world_in}
use Rattle.bully_explain.specs.Differing.{answer_in, answers_text, callee_in, claimed_text, detailed_text, heads, kind_text, sides, whole_text, words_beside}
use Rattle.bully_draft.specs.Drafted.{Appends, Drafted}

-- the same piece
pub appends_as : {a b : Drafted} {p q : List ℕ} → p ≡ q → Appends a b p → Appends a b q
appends_as {a} {b} same pushed = subst (Appends a b) same pushed

-- the node's vector in the world that the kept one stands for
vector-there : (world : WorldState) (i : ℕ) (v : StoredVector) → v ≡ (state_at world i).vector → v.vector ≡ vector (world_of world) i
vector-there world i v is = ap (λ (v : StoredVector). v.vector) is ∙ sym (ap (λ (m : NodeState). m.vector) (node_state-world_in world.states i))

-- of a node that the group has, what is told of its vector
pub of_node : {a b : Drafted} (world : WorldState) (i : ℕ) (has : Bool) (v : StoredVector) (told : Vector → List ℕ) → has ≡ nat_le i world.setup.nodes → has ≡ true → v ≡ (state_at world i).vector
    → Appends a b (told v.vector) → Appends a b (if nat_le i world.setup.nodes then told (vector (world_of world) i) else [])
of_node {a} {b} world i has v told test is there pushed =
    subst (λ t. Appends a b (if t then told (vector (world_of world) i) else [])) (sym is ∙ test) (subst (λ x. Appends a b (told x)) (vector-there world i v there) pushed)

-- ---- the texts by their parts

abbrev claimed_by : ℕ → List ℕ → List ℕ → Option ℕ → Option ℕ → List ℕ
claimed_by number said shown mine theirs =
    codes "node " ++ decimal number ++ codes " isn't as the row claims\n" ++ heads (codes "claimed") ++ words_beside (codes "status") said shown
    ++ sides (codes "coordinator") (node_text mine) (node_text theirs)

pub claimed-as : {a b : Drafted} (v : Vector) (claim : Claim) (number : ℕ) (said shown : List ℕ) (theirs : Option ℕ) → number ≡ claim.node → said ≡ status_word claim.status
    → shown ≡ status_word v.status → theirs ≡ v.coordinator → Appends a b (claimed_by number said shown claim.coordinator theirs) → Appends a b (claimed_text v claim)
claimed-as v claim number said shown theirs n s t k pushed =
    appends_as
    (ap (λ x. claimed_by x said shown claim.coordinator theirs) n ∙ ap (λ x. claimed_by claim.node x shown claim.coordinator theirs) s
    ∙ ap (λ x. claimed_by claim.node (status_word claim.status) x claim.coordinator theirs) t ∙ ap (claimed_by claim.node (status_word claim.status) (status_word v.status) claim.coordinator) k)
    pushed

abbrev whole_by : Vector → Claim → Option ℕ → Option ℕ → List ℕ → List ℕ → Option (List ℕ) → Option (List ℕ) → List ℕ
whole_by v claim halter halter' up up' task task' =
    claimed_text v claim ++ sides (codes "halter") (node_text halter) (node_text halter') ++ sides (codes "up") (set_text up) (set_text up')
    ++ sides (codes "owners") (task_text 32 task) (task_text 32 task')

pub whole-as : {a b : Drafted} (v : Vector) (whole : Whole) (claim : Claim) (halter halter' : Option ℕ) (up up' : List ℕ) (task task' : Option (List ℕ)) → claim ≡ whole.claim
    → halter ≡ whole.halter → halter' ≡ v.halter → up ≡ whole.up → up' ≡ v.up → task ≡ whole.task → task' ≡ v.task → Appends a b (whole_by v claim halter halter' up up' task task')
    → Appends a b (whole_text v whole)
whole-as v whole claim halter halter' up up' task task' k h h' u u' t t' pushed =
    appends_as
    (ap (λ x. whole_by v x halter halter' up up' task task') k ∙ ap (λ x. whole_by v whole.claim x halter' up up' task task') h
    ∙ ap (λ x. whole_by v whole.claim whole.halter x up up' task task') h' ∙ ap (λ x. whole_by v whole.claim whole.halter v.halter x up' task task') u
    ∙ ap (λ x. whole_by v whole.claim whole.halter v.halter whole.up x task task') u' ∙ ap (λ x. whole_by v whole.claim whole.halter v.halter whole.up v.up x task') t
    ∙ ap (whole_by v whole.claim whole.halter v.halter whole.up v.up whole.task) t')
    pushed

abbrev detailed_by : DetailedEvent → ℕ → List ℕ → List ℕ → Option ℕ → Option Answer → List ℕ
detailed_by e number said shown callee answer =
    codes "the call of node " ++ decimal number ++ codes " isn't what the row says\n" ++ heads (codes "told") ++ words_beside (codes "call") said shown
    ++ sides (codes "callee") (node_text (Some e.detail.call.callee)) (node_text callee) ++ answers_text (node_saying e.detail.kind) e.detail.answer answer

pub detailed-as : {a b : Drafted} (there : Option DetailedEvent) (e : DetailedEvent) (number : ℕ) (said shown : List ℕ) (callee : Option ℕ) (answer : Option Answer) → number ≡ e.node
    → said ≡ call_word e.detail.call.kind → shown ≡ kind_text there → callee ≡ callee_in there → answer ≡ answer_in there → Appends a b (detailed_by e number said shown callee answer)
    → Appends a b (detailed_text there e)
detailed-as there e number said shown callee answer n s t k w pushed =
    appends_as
    (ap (λ x. detailed_by e x said shown callee answer) n ∙ ap (λ x. detailed_by e e.node x shown callee answer) s
    ∙ ap (λ x. detailed_by e e.node (call_word e.detail.call.kind) x callee answer) t ∙ ap (λ x. detailed_by e e.node (call_word e.detail.call.kind) (kind_text there) x answer) k
    ∙ ap (detailed_by e e.node (call_word e.detail.call.kind) (kind_text there) (callee_in there)) w)
    pushed
