use Rattle.std.proofs.Common.{◌≡◌, ◌+◌, ◌∙◌, ap, arith}
use Rattle.std.proofs.lemmas.List.Elements.{All-push}
use Rattle.bully_play.proofs.RoundLemmas.{idle_more}
use Rattle.bully_play.specs.Turns.{idle_at}
use Rattle.bully_steps.specs.declared.procedure.Procedure.{Procedure}
use Rattle.bully_steps.specs.Procedure.{state_of}
use Rattle.bully_play.proofs.playing.idle_procedures.Goals as goal

pub loop-before-preserved : goal.loop-before-preserved
loop-before-preserved c =
    let setup = c.args.setup.now in
    let procedures = c.loop-before.procedures.items in
    let p = c.idle_in.result in
    let number : c.unwrap-node.result ≡ c.loop-before.before + 1 = grind (arith, c.new.ensures, c.unwrap-node.ensures) in
    let idle : state_of p ≡ idle_at setup (c.loop-before.before + 1) = c.idle_in.ensures ∙ ap (λ n. idle_at setup n) number in
    rw c.in_ok-push.ensures.items (record {
      idle = idle_more setup c.loop-before.before procedures p c.loop-before.invariant.idle idle;
      setups = All-push (λ (p : Procedure). (state_of p).setup ≡ setup) procedures p c.loop-before.invariant.setups (ap (λ s. s.setup) c.idle_in.ensures);
      end = c.loop-before.invariant.end;
    })
