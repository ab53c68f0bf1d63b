-- What agents give out meets the premises of those that take it.
use Rattle.std.proofs.Common.{◌≡◌, Bool, true, false, Option, Some, None, refl, sym, ◌∙◌, ap, subst, IfSome, if◌then◌else◌}
use Rattle.std.specs.Option.{option_map_or}
use Rattle.std.proofs.lemmas.Option.{same_Some}
use Rattle.bully_calls.specs.declared.call.Call.{Call}
use Rattle.bully_calls.specs.declared.call.Phase.{Phase}
use Rattle.bully_calls.specs.Pending.{Pending, is_sent}
use Rattle.bully_calls.specs.Slot.{SlotCall}
use Rattle.bully_calls.specs.declared.message.Reply.{Reply}
use Rattle.bully_calls.specs.declared.message.Request.{Request}
use Rattle.bully_handlers.specs.Handler.{reply}
use Rattle.bully_handlers.specs.Vector.{Vector}
use Rattle.bully_world.specs.NodeInvariant.{SuitsPhase}
use Rattle.bully_world.specs.World.{World, NodeState, node_state, pending, vector}
use Rattle.bully_world.proofs.RunInvariant.{ran_here, reply_suits}
use Rattle.bully_agent.specs.Agent.{AgentState}
use Rattle.bully_agent.specs.Calls.{IsDue, IsReplyTo, TellsRun, request_in}
use Rattle.bully_agent.proofs.PartLemmas.{like_vector}

-- a served reply tells what its run comes to
pub tells_run : (a : AgentState) (r : Request) (told : Reply) → told.caller ≡ r.caller → told.answer ≡ reply r.call.kind a.node_state.vector.vector → TellsRun a r told
tells_run a r told caller answered = λ w w' answer part q step.
    let c = step.0 in
    let same : c ≡ q.call = same_Some c q.call (sym step.1 ∙ q.is) in
    let call : c.call ≡ r.call = ap (λ (x : Pending). x.call) same ∙ q.same in
    let to_node : c.call.callee ≡ a.node = ap (λ (k : Call). k.callee) call ∙ q.goes in
    let vectors : vector w c.call.callee ≡ a.node_state.vector.vector = ap (vector w) to_node ∙ like_vector a.node_state (node_state w a.node) part.like in
    let answers : reply c.call.kind (vector w c.call.callee) ≡ told.answer = ap (λ (k : Call). reply k.kind (vector w c.call.callee)) call ∙ (ap (reply r.call.kind) vectors ∙ sym answered) in
    let f = Phase.Ran (reply c.call.kind (vector w c.call.callee)) in
    record {
      call = record c { phase = f };
      is =
          ap (pending w') caller
          ∙ (ap (λ (v : World). pending v r.caller) step.4
          ∙ ap (λ (x : NodeState). x.pending) (ran_here a.setup w r.caller c part.fits step.1 step.3));
      ran = ap (λ x. Phase.Ran x) answers;
    }

-- it is due to whoever gave out the request

abbrev asked : AgentState → SlotCall → Request
asked a p = record { caller = a.node; number = a.number; call = p.call; table = p.table }

due_in : (a : AgentState) (q : Option SlotCall) (r : Request) (told : Reply) → a.node_state.slot.content ≡ q → request_in a q ≡ Some r → told.caller ≡ r.caller → told.number ≡ r.number → SuitsPhase r.call.kind (Phase.Ran told.answer) → IsDue a told
due_in a None r told content is caller number suits = absurd (cc is)
due_in a (Some p) r told content is caller number suits = by_phase (is_sent p.phase) refl is
  where
    by_phase : (b : Bool) → is_sent p.phase ≡ b → (if b then Some (asked a p) else None) ≡ Some r → IsDue a told
    by_phase false sent e = absurd (cc e)
    by_phase true sent e =
        let same : asked a p ≡ r = cc e in
        record {
          caller = caller ∙ ap (λ (x : Request). x.caller) (sym same);
          number = number ∙ ap (λ (x : Request). x.number) (sym same);
          can = record {
            sent = ap (λ q. option_map_or (λ (x : SlotCall). is_sent x.phase) q false) content ∙ sent;
            answered = subst (λ q. IfSome q (λ (x : SlotCall). SuitsPhase x.call.kind (Phase.Ran told.answer))) (sym content) (subst (λ (x : Request). SuitsPhase x.call.kind (Phase.Ran told.answer)) (sym same) suits);
          };
        }

pub is_reply_to : (r : Request) (told : Reply) (v : Vector) → told.caller ≡ r.caller → told.number ≡ r.number → told.answer ≡ reply r.call.kind v → IsReplyTo r told
is_reply_to r told v caller number answered = λ a is.
    due_in a a.node_state.slot.content r told refl is caller number (subst (λ x. SuitsPhase r.call.kind (Phase.Ran x)) (sym answered) (reply_suits r.call.kind v))
