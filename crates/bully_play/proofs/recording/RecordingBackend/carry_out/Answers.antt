use Rattle.std.proofs.Common.{subst}
use Rattle.bully_play.proofs.RecordingLemmas.{serves_turn, chosen_turn}
use Rattle.bully_play.specs.Recording.{RecordingState}
use Rattle.bully_steps.specs.Procedure.{state_of}
use Rattle.bully_world.specs.Serving.{IsServed, NoneServed}
use Rattle.bully_play.proofs.recording.RecordingBackend.carry_out.Goals as goal

pub returns-in-Some-clause-takes : goal.returns-in-Some-clause-takes
returns-in-Some-clause-takes c =
    serves_turn c.apply.result c.args.choice c.args.self.now (state_of c.args.procedure.now) c.apply.new.self c.node.result c.in-Some.caller c.node.ensures.node
    (subst (λ (r : RecordingState). IsServed r.world c.node.result c.in-Some.caller) c.self.view_is c.in-Some.ensures.served) c.apply.ensures.applies

pub returns-in-None-clause-takes : goal.returns-in-None-clause-takes
returns-in-None-clause-takes c =
    chosen_turn c.go_on.result c.args.choice c.args.self.now (state_of c.args.procedure.now) c.go_on.new.self (state_of c.go_on.new.procedure) c.node.result c.node.ensures.node
    (subst (λ (r : RecordingState). NoneServed r.world c.node.result) c.self.view_is c.in-None.ensures.none) c.go_on.ensures.goes_on
