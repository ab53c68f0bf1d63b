use Rattle.std.proofs.Common.{◌≡◌, None, Some, refl, rules}
use Rattle.bully_trace.specs.declared.verdict.Verdict.{Verdict}
use Rattle.bully_world.specs.State.{world_of}
use Rattle.bully_trace.proofs.JudgeLemmas.{judged-all}
use Rattle.bully_trace.proofs.judging.Judge.verdict.Goals as goal

pub returns-in-Some : goal.returns-in-Some
returns-in-Some c = λ setup rows judged.
    let stopped : c.args.self.now.stopped ≡ Some c.in-Some.verdict = search rules in
    judged-all setup rows c.args.self.now c.in-Some.verdict (world_of c.args.self.now.world) (rw stopped (refl, refl)) judged

pub returns-in-None : goal.returns-in-None
returns-in-None c = λ setup rows judged.
    let going : c.args.self.now.stopped ≡ None = search rules in
    let lawful : Verdict.Lawful c.events.result ≡ Verdict.Lawful c.args.self.now.world.events = search rules in
    judged-all setup rows c.args.self.now (Verdict.Lawful c.events.result) (world_of c.args.self.now.world) (rw going (lawful, refl)) judged
