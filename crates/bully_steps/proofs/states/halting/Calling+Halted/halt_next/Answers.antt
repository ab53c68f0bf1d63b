-- What the outcome makes of the procedure is one of the node's.
use Rattle.std.proofs.Common.{◌≡◌, None, arith, sym, subst}
use Rattle.bully_steps.specs.declared.point.Point.{Point}
use Rattle.bully_steps.specs.ProcedureState.{IsProcedureState, resumed}
use Rattle.bully_steps.specs.Procedure.{halting}
use Rattle.bully_steps.specs.States.{state_at}
use Rattle.bully_steps.proofs.ResumeLemmas.{joined_is, resumed_is_state}
use Rattle.bully_steps.proofs.states.halting.Calling+Halted.halt_next.Goals as goal
use Rattle.bully_steps.proofs.states.halting.Calling+Halted.halt_next.Goals.{then-eq, else-eq}

pub invariant_of-self : goal.invariant_of-self
invariant_of-self c =
    let was : IsProcedureState (halting c.args.self.now) = subst (λ s. IsProcedureState (halting s)) c.self.view_is c.self.invariant in
    let is = resumed_is_state (halting c.args.self.now) c.args.outcome (Point.Halting c.args.next) was c.requires.can c.requires.next in
    elim c.if-eq.branch [
      | then-eq w ↦
          let same : state_at c.if-eq.self-inside.identity (Point.Halting c.args.next) c.if-eq.self-inside.held.up None c.eq-self-inside.result ≡ resumed (halting c.args.self.now) c.args.outcome =
          grind (arith, c.requires.next, w.self-inside-is, w.joined-self-inside.ensures.joined, c.self.view_is, w.if-eq.true, c.eq.ensures, c.eq-self-inside.ensures, joined_is c.args.self.now.identity.node c.args.self.now.held.next c.args.self.now.held.up w.joined-self-inside.ensures.positive) in
          subst IsProcedureState (sym same) is
      | else-eq w ↦
          let same : state_at c.if-eq.self-inside.identity (Point.Halting c.args.next) c.if-eq.self-inside.held.up None c.eq-self-inside.result ≡ resumed (halting c.args.self.now) c.args.outcome =
          grind (arith, c.requires.next, w.self-inside-is, c.self.view_is, w.if-eq.false, c.eq.ensures, c.eq-self-inside.ensures) in
          subst IsProcedureState (sym same) is
    ]
