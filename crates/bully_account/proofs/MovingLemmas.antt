-- Which nodes an event takes to another point.
use Rattle.std.proofs.Common.{◌≡◌, ◌≢◌, ◌↔◌, ◌∙◌, ℕ, zero, suc, ◌+◌, ◌-◌, ◌<◌, ◌&&◌, Bool, true, false, not, List, [], ◌∷◌, Option, Some, None, length, refl, sym, ap, subst, arith, if◌then◌else◌, option_map, nat_le, ◌==◌}
use Rattle.std.proofs.lemmas.Option.{same_Some}
use Rattle.std.specs.Option.{option_map_or}
use Rattle.bully_base.proofs.PlaceLemmas.{at_node_past}
use Rattle.bully_base.specs.Setup.{IsNode, Setup}
use Rattle.bully_calls.specs.declared.call.Answer.{Answer}
use Rattle.bully_calls.specs.declared.call.CallKind.{CallKind}
use Rattle.bully_calls.specs.declared.call.Outcome.{Outcome}
use Rattle.bully_calls.specs.declared.call.Phase.{Phase}
use Rattle.bully_calls.specs.declared.event.Event.{Event}
use Rattle.bully_calls.specs.Events.{node_of}
use Rattle.bully_calls.specs.Pending.{Pending, outcome_of}
use Rattle.bully_calls.specs.Slot.{Slot, SlotCall, is_orphan as orphan_in, pending_in, pending_of}
use Rattle.bully_handlers.specs.Handler.{callee_after}
use Rattle.bully_steps.specs.declared.point.Point.{Point}
use Rattle.bully_steps.specs.NextPoint.{checking_from, election, next_point}
use Rattle.bully_world.specs.Cause.{is_idle}
use Rattle.bully_world.specs.NodeInvariant.{WorldInvariant}
use Rattle.bully_world.specs.Place.{call_at}
use Rattle.bully_world.specs.State.{IsReached, WorldState, is_halt, state_at, world_of}
use Rattle.bully_world.specs.Step.{IsUp, Proceeds, Returns, Step, called, ran, stopped_by}
use Rattle.bully_world.specs.World.{NodeState, World, empty_node_state, node_state, pending, point, with_node_state}
use Rattle.bully_world.proofs.MoveInvariant.{planning_up}
use Rattle.bully_world.proofs.NodeInvariantLemmas.{lawful_fits}
use Rattle.bully_world.proofs.NodeStateLemmas.{node_of_pending, node_of_up, node_state_here}
use Rattle.bully_world.proofs.RunInvariant.{ran_here, ran_there}
use Rattle.bully_world.proofs.WorldIn.{node_state-world_in}
use Rattle.bully_account.specs.Moving.{cuts_by, cuts_off, holds_no_orphan, own_move}
use Rattle.bully_account.specs.Remembered.{moved_by}

-- ---- what is read of a world

-- a node that the group doesn't have is idle
pub beyond-idle : (world : WorldState) (i : ℕ) → IsReached world → world.setup.nodes < i → is_idle (point (world_of world) i) ≡ true
beyond-idle world i reached past =
    let fits = lawful_fits world.setup reached.applied reached.answers (world_of world) reached.lawful in
    let none : node_state (world_of world) i ≡ empty_node_state = at_node_past empty_node_state (world_of world).states i (omega (arith, fits.count, past)) in
    ap (λ (m : NodeState). is_idle m.point) none

-- a slot as its caller's generation has it
pub no-orphan : (generation : ℕ) (slot : Slot) → not (orphan_in generation slot) ≡ holds_no_orphan (pending_in generation slot)
no-orphan generation slot = by_content slot.content
  where
    twice : (b : Bool) → not (not b) ≡ b
    twice true = refl
    twice false = refl

    by_content : (content : Option SlotCall) → not (option_map_or (λ p. not (p.tag.generation == generation)) content false) ≡ holds_no_orphan (option_map (pending_of generation) content)
    by_content None = refl
    by_content (Some p) = twice (p.tag.generation == generation)

pub orphan-told : (world : WorldState) (i : ℕ) (slot : Slot) (generation : ℕ) (orphan : Bool) → slot ≡ (state_at world i).slot → generation ≡ (state_at world i).generation
    → orphan ≡ orphan_in generation slot → not orphan ≡ holds_no_orphan (pending (world_of world) i)
orphan-told world i slot generation orphan there now told =
    ap not told
    ∙ no-orphan generation slot
    ∙ ap (λ (s : Slot). holds_no_orphan (pending_in generation s)) there
    ∙ ap (λ (g : ℕ). holds_no_orphan (pending_in g (state_at world i).slot)) now
    ∙ sym (ap (λ (m : NodeState). holds_no_orphan m.pending) (node_state-world_in world.states i))

-- ---- points that differ

longer : (k : ℕ) (rest : List ℕ) → rest ≢ k ∷ rest
longer k rest e = let more : length rest ≡ length (k ∷ rest) = ap length e in absurd (omega (arith, more))

abbrev number_at : Point → ℕ
number_at (Point.Asking k) = k
number_at (Point.Halting k) = k
number_at (Point.Checking k) = k
number_at p = 0

abbrev left_at : Point → List ℕ
left_at (Point.Announcing rest) = rest
left_at (Point.Readying rest) = rest
left_at p = []

-- a check goes on at a later node
checks-on : (setup : Setup) (i k : ℕ) → checking_from setup i (k + 1) ≢ Point.Checking k
checks-on setup i k e = by_other (k + 1 == i) (λ (o : ℕ) later is. by_end o later (nat_le o setup.nodes) is) e
  where
    by_end : (other : ℕ) → k < other → (b : Bool) → (if b then Point.Checking other else Point.Idle) ≡ Point.Checking k → ⊥
    by_end other later true is = let same : other ≡ k = ap number_at is in absurd (omega (arith, same, later))
    by_end other later false is = absurd (cc is)

    by_other : (b : Bool) → ((other : ℕ) → k < other → (if nat_le other setup.nodes then Point.Checking other else Point.Idle) ≡ Point.Checking k → ⊥)
        → (let other = if b then k + 1 + 1 else k + 1 in if nat_le other setup.nodes then Point.Checking other else Point.Idle) ≡ Point.Checking k → ⊥
    by_other true never is = never (k + 1 + 1) (omega arith) is
    by_other false never is = never (k + 1) (omega arith) is

-- an outcome that ends a call or a move leads to another point
apart : (x q p : Point) → Some x ≡ Some q → (x ≡ p → ⊥) → q ≢ p
apart x q p is never same = never (same_Some x q is ∙ same)

apart-then : (b : Bool) (x q p : Point) → (if b then Some x else None) ≡ Some q → (x ≡ p → ⊥) → q ≢ p
apart-then true x q p is never = apart x q p is never
apart-then false x q p is never = absurd (cc is)

apart-else : (b : Bool) (x q p : Point) → (if b then None else Some x) ≡ Some q → (x ≡ p → ⊥) → q ≢ p
apart-else true x q p is never = absurd (cc is)
apart-else false x q p is never = apart x q p is never

pub leads-elsewhere : (setup : Setup) (i : ℕ) (up : List ℕ) (p q : Point) (o : Outcome) → o ≢ Outcome.Started → next_point setup i up p o ≡ Some q → q ≢ p
leads-elsewhere setup i up Point.Idle q Outcome.Started other is = absurd (other refl)
leads-elsewhere setup i up Point.Idle q Outcome.Moved other is = absurd (cc is)
leads-elsewhere setup i up Point.Idle q Outcome.Planned other is = absurd (cc is)
leads-elsewhere setup i up Point.Idle q Outcome.Yes other is = absurd (cc is)
leads-elsewhere setup i up Point.Idle q Outcome.No other is = absurd (cc is)
leads-elsewhere setup i up Point.Idle q Outcome.Failed other is = absurd (cc is)
leads-elsewhere setup i up (Point.Asking k) q Outcome.Started other is = absurd (other refl)
leads-elsewhere setup i up (Point.Asking k) q Outcome.Moved other is = apart-else (nat_le k setup.nodes) (Point.Halting (i - 1)) q (Point.Asking k) is (λ e. absurd (cc e))
leads-elsewhere setup i up (Point.Asking k) q Outcome.Planned other is = absurd (cc is)
leads-elsewhere setup i up (Point.Asking k) q Outcome.Yes other is = apart-then (nat_le k setup.nodes) Point.Idle q (Point.Asking k) is (λ e. absurd (cc e))
leads-elsewhere setup i up (Point.Asking k) q Outcome.No other is = absurd (cc is)
leads-elsewhere setup i up (Point.Asking k) q Outcome.Failed other is = apart-then (nat_le k setup.nodes) (Point.Asking (k + 1)) q (Point.Asking k) is (λ e. let same : k + 1 ≡ k = ap number_at e in absurd (omega (arith, same)))
leads-elsewhere setup i up (Point.Halting zero) q Outcome.Started other is = absurd (other refl)
leads-elsewhere setup i up (Point.Halting zero) q Outcome.Moved other is = apart (Point.Announcing up) q (Point.Halting zero) is (λ e. absurd (cc e))
leads-elsewhere setup i up (Point.Halting zero) q Outcome.Planned other is = absurd (cc is)
leads-elsewhere setup i up (Point.Halting zero) q Outcome.Yes other is = absurd (cc is)
leads-elsewhere setup i up (Point.Halting zero) q Outcome.No other is = absurd (cc is)
leads-elsewhere setup i up (Point.Halting zero) q Outcome.Failed other is = absurd (cc is)
leads-elsewhere setup i up (Point.Halting (suc k)) q Outcome.Started other is = absurd (other refl)
leads-elsewhere setup i up (Point.Halting (suc k)) q Outcome.Moved other is = absurd (cc is)
leads-elsewhere setup i up (Point.Halting (suc k)) q Outcome.Planned other is = absurd (cc is)
leads-elsewhere setup i up (Point.Halting (suc k)) q Outcome.Yes other is = apart (Point.Halting k) q (Point.Halting (suc k)) is (λ e. let same : k ≡ suc k = ap number_at e in absurd (omega (arith, same)))
leads-elsewhere setup i up (Point.Halting (suc k)) q Outcome.No other is = absurd (cc is)
leads-elsewhere setup i up (Point.Halting (suc k)) q Outcome.Failed other is = apart (Point.Halting k) q (Point.Halting (suc k)) is (λ e. let same : k ≡ suc k = ap number_at e in absurd (omega (arith, same)))
leads-elsewhere setup i up (Point.Announcing []) q Outcome.Started other is = absurd (other refl)
leads-elsewhere setup i up (Point.Announcing []) q Outcome.Moved other is = apart Point.Planning q (Point.Announcing []) is (λ e. absurd (cc e))
leads-elsewhere setup i up (Point.Announcing []) q Outcome.Planned other is = absurd (cc is)
leads-elsewhere setup i up (Point.Announcing []) q Outcome.Yes other is = absurd (cc is)
leads-elsewhere setup i up (Point.Announcing []) q Outcome.No other is = absurd (cc is)
leads-elsewhere setup i up (Point.Announcing []) q Outcome.Failed other is = absurd (cc is)
leads-elsewhere setup i up (Point.Announcing (k ∷ rest)) q Outcome.Started other is = absurd (other refl)
leads-elsewhere setup i up (Point.Announcing (k ∷ rest)) q Outcome.Moved other is = absurd (cc is)
leads-elsewhere setup i up (Point.Announcing (k ∷ rest)) q Outcome.Planned other is = absurd (cc is)
leads-elsewhere setup i up (Point.Announcing (k ∷ rest)) q Outcome.Yes other is = apart (Point.Announcing rest) q (Point.Announcing (k ∷ rest)) is (λ e. longer k rest (ap left_at e))
leads-elsewhere setup i up (Point.Announcing (k ∷ rest)) q Outcome.No other is = absurd (cc is)
leads-elsewhere setup i up (Point.Announcing (k ∷ rest)) q Outcome.Failed other is = apart (election i) q (Point.Announcing (k ∷ rest)) is (λ e. absurd (cc e))
leads-elsewhere setup i up Point.Planning q Outcome.Started other is = absurd (other refl)
leads-elsewhere setup i up Point.Planning q Outcome.Moved other is = absurd (cc is)
leads-elsewhere setup i up Point.Planning q Outcome.Planned other is = apart (Point.Readying up) q Point.Planning is (λ e. absurd (cc e))
leads-elsewhere setup i up Point.Planning q Outcome.Yes other is = absurd (cc is)
leads-elsewhere setup i up Point.Planning q Outcome.No other is = absurd (cc is)
leads-elsewhere setup i up Point.Planning q Outcome.Failed other is = absurd (cc is)
leads-elsewhere setup i up (Point.Readying []) q Outcome.Started other is = absurd (other refl)
leads-elsewhere setup i up (Point.Readying []) q Outcome.Moved other is = apart Point.Idle q (Point.Readying []) is (λ e. absurd (cc e))
leads-elsewhere setup i up (Point.Readying []) q Outcome.Planned other is = absurd (cc is)
leads-elsewhere setup i up (Point.Readying []) q Outcome.Yes other is = absurd (cc is)
leads-elsewhere setup i up (Point.Readying []) q Outcome.No other is = absurd (cc is)
leads-elsewhere setup i up (Point.Readying []) q Outcome.Failed other is = absurd (cc is)
leads-elsewhere setup i up (Point.Readying (k ∷ rest)) q Outcome.Started other is = absurd (other refl)
leads-elsewhere setup i up (Point.Readying (k ∷ rest)) q Outcome.Moved other is = absurd (cc is)
leads-elsewhere setup i up (Point.Readying (k ∷ rest)) q Outcome.Planned other is = absurd (cc is)
leads-elsewhere setup i up (Point.Readying (k ∷ rest)) q Outcome.Yes other is = apart (Point.Readying rest) q (Point.Readying (k ∷ rest)) is (λ e. longer k rest (ap left_at e))
leads-elsewhere setup i up (Point.Readying (k ∷ rest)) q Outcome.No other is = absurd (cc is)
leads-elsewhere setup i up (Point.Readying (k ∷ rest)) q Outcome.Failed other is = apart (election i) q (Point.Readying (k ∷ rest)) is (λ e. absurd (cc e))
leads-elsewhere setup i up (Point.Checking k) q Outcome.Started other is = absurd (other refl)
leads-elsewhere setup i up (Point.Checking k) q Outcome.Moved other is = absurd (cc is)
leads-elsewhere setup i up (Point.Checking k) q Outcome.Planned other is = absurd (cc is)
leads-elsewhere setup i up (Point.Checking k) q Outcome.Yes other is = apart (checking_from setup i (k + 1)) q (Point.Checking k) is (checks-on setup i k)
leads-elsewhere setup i up (Point.Checking k) q Outcome.No other is = apart (election i) q (Point.Checking k) is (λ e. absurd (cc e))
leads-elsewhere setup i up (Point.Checking k) q Outcome.Failed other is = apart (checking_from setup i (k + 1)) q (Point.Checking k) is (checks-on setup i k)
leads-elsewhere setup i up Point.Inquiring q Outcome.Started other is = absurd (other refl)
leads-elsewhere setup i up Point.Inquiring q Outcome.Moved other is = absurd (cc is)
leads-elsewhere setup i up Point.Inquiring q Outcome.Planned other is = absurd (cc is)
leads-elsewhere setup i up Point.Inquiring q Outcome.Yes other is = apart Point.Idle q Point.Inquiring is (λ e. absurd (cc e))
leads-elsewhere setup i up Point.Inquiring q Outcome.No other is = absurd (cc is)
leads-elsewhere setup i up Point.Inquiring q Outcome.Failed other is = apart (election i) q Point.Inquiring is (λ e. absurd (cc e))

idle-is : (p : Point) → is_idle p ≡ true → p ≡ Point.Idle
idle-is Point.Idle e = refl
idle-is (Point.Asking k) e = absurd (cc e)
idle-is (Point.Halting k) e = absurd (cc e)
idle-is (Point.Announcing rest) e = absurd (cc e)
idle-is Point.Planning e = absurd (cc e)
idle-is (Point.Readying rest) e = absurd (cc e)
idle-is (Point.Checking k) e = absurd (cc e)
idle-is Point.Inquiring e = absurd (cc e)

-- ---- whether a point is another one

-- exactly if b
abbrev Tells : World → World → ℕ → Bool → Type 0
Tells v w i b = (b ≡ true) ↔ (point w i ≢ point v i)

tells-same : (v w : World) (i : ℕ) → point w i ≡ point v i → Tells v w i false
tells-same v w i same = (λ e. absurd (cc e), λ differs. absurd (differs same))

tells-other : (v w : World) (i : ℕ) → (point w i ≢ point v i) → Tells v w i true
tells-other v w i differs = (λ e. differs, λ d. refl)

-- where the node is idle behind
tells-stopped : (v w : World) (i : ℕ) → point w i ≡ Point.Idle → Tells v w i (not (is_idle (point v i)))
tells-stopped v w i idle = by_test (is_idle (point v i)) refl
  where
    by_test : (b : Bool) → is_idle (point v i) ≡ b → Tells v w i (not b)
    by_test true is = tells-same v w i (idle ∙ sym (idle-is (point v i) is))
    by_test false is = tells-other v w i (λ at. let same : is_idle (point v i) ≡ true = ap is_idle (sym at ∙ idle) in absurd (cc (sym is ∙ same)))

-- where it was idle before
tells-begun : (v w : World) (i : ℕ) → point v i ≡ Point.Idle → Tells v w i (not (is_idle (point w i)))
tells-begun v w i idle = by_test (is_idle (point w i)) refl
  where
    by_test : (b : Bool) → is_idle (point w i) ≡ b → Tells v w i (not b)
    by_test true is = tells-same v w i (idle-is (point w i) is ∙ sym idle)
    by_test false is = tells-other v w i (λ at. let same : is_idle (point w i) ≡ true = ap is_idle (at ∙ idle) in absurd (cc (sym is ∙ same)))

point-here : (setup : Setup) (v w : World) (i : ℕ) (m : NodeState) → WorldInvariant setup v → IsNode setup i → w ≡ with_node_state v i m → point w i ≡ m.point
point-here setup v w i m fits node is = ap (λ (u : World). point u i) is ∙ ap (λ (x : NodeState). x.point) (node_state_here setup v i m fits node)

outcome-ends : (f : Phase) (o : Outcome) → outcome_of f ≡ Some o → o ≢ Outcome.Started
outcome-ends f o is e = grind (arith, is, e)

proceeds-elsewhere : (setup : Setup) (v w : World) (i : ℕ) (o : Outcome) → WorldInvariant setup v → IsNode setup i → o ≢ Outcome.Started → Proceeds setup v i o w → Tells v w i true
proceeds-elsewhere setup v w i o fits node ends (p, next, is) =
    tells-other v w i (λ same. leads-elsewhere setup i _ (point v i) p o ends next (sym (point-here setup v w i _ fits node is) ∙ same))

returns-tell : (setup : Setup) (v w : World) (i : ℕ) (live : Bool) (o : Outcome) (a : Answer) → WorldInvariant setup v → IsNode setup i → o ≢ Outcome.Started → Returns setup v i live o w a
    → Tells v w i live
returns-tell setup v w i true o a fits node ends (on, answered) = proceeds-elsewhere setup v w i o fits node ends on
returns-tell setup v w i false o a fits node ends (is, answered) = tells-same v w i (point-here setup v w i _ fits node is)

-- an event takes its own node to another point exactly if that is told, or else if the node isn't idle behind it
pub own-moved : (setup : Setup) (v w : World) (e : Event) (a : Answer) → WorldInvariant setup v → Step setup v e w a
    → (moved_by (own_move v e) w (node_of e) ≡ true) ↔ (point w (node_of e) ≢ point v (node_of e))
own-moved setup v w (Event.Recover i) a fits (node, down, is, answered) =
    tells-other v w i (λ same. absurd (cc (sym (point-here setup v w i _ fits node is) ∙ same ∙ (fits.fits i).down_idle down)))
own-moved setup v w (Event.Crash i) a fits (up, is, answered) = tells-stopped v w i (point-here setup v w i _ fits (node_of_up setup v i fits up) is)
own-moved setup v w (Event.Check i) a fits (up, idle, is, answered) = tells-begun v w i idle
own-moved setup v w (Event.Timeout i) a fits (up, idle, is, answered) = tells-begun v w i idle
own-moved setup v w (Event.Start i) a fits (up, free, call, offered, is, answered) = tells-same v w i (point-here setup v w i _ fits (node_of_up setup v i fits up) is)
own-moved setup v w (Event.Run i) a fits (c, at, sent, up, is, answered) =
    tells-same v w i (ap (λ (u : World). point u i) is ∙ ap (λ (x : NodeState). x.point) (ran_here setup v i c fits at up))
own-moved setup v w (Event.Lose i) a fits (c, at, sent, down, is, answered) = tells-same v w i (point-here setup v w i _ fits (node_of_pending setup v i c fits at).0 is)
own-moved setup v w (Event.Return i) a fits (c, o, at, done, returns) =
    let told = returns-tell setup v w i c.is_live o a fits (node_of_pending setup v i c fits at).0 (outcome-ends c.phase o done) returns in
    subst (Tells v w i) (sym (ap holds_no_orphan at)) told
own-moved setup v w (Event.Drop i) a fits (c, at, orphan, is, answered) = tells-same v w i (point-here setup v w i _ fits (node_of_pending setup v i c fits at).0 is)
own-moved setup v w (Event.Move i) a fits (up, free, offers, on, answered) = proceeds-elsewhere setup v w i Outcome.Moved fits (node_of_up setup v i fits up) (λ e. absurd (cc e)) on
own-moved setup v w (Event.Plan i table) a fits (at, free, size, balanced, is, answered) =
    let node = node_of_up setup v i fits (planning_up setup i (node_state v i) (fits.fits i) at) in
    tells-other v w i (λ same. absurd (cc (sym (point-here setup v w i _ fits node is) ∙ same ∙ at)))

-- ---- a call that ran

-- it is in the slot before and behind
pub call-before : (v : World) (i : ℕ) (c : Pending) → pending v i ≡ Some c → call_at v i ≡ Some c.call
call-before v i c at = ap (option_map (λ (x : Pending). x.call)) at

pub call-behind : (setup : Setup) (v w : World) (i : ℕ) (c : Pending) → WorldInvariant setup v → pending v i ≡ Some c → IsUp v c.call.callee → w ≡ ran v i c → call_at w i ≡ Some c.call
call-behind setup v w i c fits at up is =
    ap (λ (u : World). call_at u i) is ∙ ap (λ (x : NodeState). option_map (λ (x : Pending). x.call) x.pending) (ran_here setup v i c fits at up)

halted-idle : (i : ℕ) (c : Pending) (m : NodeState) → is_halt c.call.kind ≡ true → (called i c m).point ≡ Point.Idle
halted-idle i c m halts = by_kind c.call.kind halts
  where
    by_kind : (kind : CallKind) → is_halt kind ≡ true → NodeState.point (stopped_by kind (record m { vector = callee_after i kind c.table m.vector })) ≡ Point.Idle
    by_kind CallKind.AreYouUp e = absurd (cc e)
    by_kind CallKind.AreYouNormal e = absurd (cc e)
    by_kind CallKind.Halt e = refl
    by_kind CallKind.NewCoordinator e = absurd (cc e)
    by_kind CallKind.Ready e = absurd (cc e)

-- a Halt takes its callee to another point exactly if it cuts a procedure off
pub halt-moved : (setup : Setup) (v w : World) (i : ℕ) (c : Pending) → WorldInvariant setup v → pending v i ≡ Some c → IsUp v c.call.callee → w ≡ ran v i c → is_halt c.call.kind ≡ true
    → (cuts_off v (Event.Run i) ≡ true) ↔ (point w c.call.callee ≢ point v c.call.callee)
halt-moved setup v w i c fits at up is halts =
    let k = c.call.callee in
    let idle : point w k ≡ Point.Idle =
    ap (λ (u : World). point u k) is ∙ ap (λ (x : NodeState). x.point) (ran_there setup v i c fits at up) ∙ halted-idle i c (node_state v k) halts in
    let cuts : cuts_off v (Event.Run i) ≡ not (is_idle (point v k)) =
    ap (cuts_by v) (call-before v i c at) ∙ ap (λ (b : Bool). b && not (is_idle (point v k))) halts in
    subst (Tells v w k) (sym cuts) (tells-stopped v w k idle)

-- the event's node is one of the group
pub step-node : (setup : Setup) (v w : World) (e : Event) (a : Answer) → WorldInvariant setup v → Step setup v e w a → IsNode setup (node_of e)
step-node setup v w (Event.Recover i) a fits step = step.0
step-node setup v w (Event.Crash i) a fits step = node_of_up setup v i fits step.0
step-node setup v w (Event.Check i) a fits step = node_of_up setup v i fits step.0
step-node setup v w (Event.Timeout i) a fits step = node_of_up setup v i fits step.0
step-node setup v w (Event.Start i) a fits step = node_of_up setup v i fits step.0
step-node setup v w (Event.Run i) a fits step = (node_of_pending setup v i step.0 fits step.1).0
step-node setup v w (Event.Lose i) a fits step = (node_of_pending setup v i step.0 fits step.1).0
step-node setup v w (Event.Return i) a fits step = (node_of_pending setup v i step.0 fits step.2).0
step-node setup v w (Event.Drop i) a fits step = (node_of_pending setup v i step.0 fits step.1).0
step-node setup v w (Event.Move i) a fits step = node_of_up setup v i fits step.0
step-node setup v w (Event.Plan i table) a fits step = node_of_up setup v i fits (planning_up setup i (node_state v i) (fits.fits i) step.0)
