use Rattle.std.proofs.lemmas.Result.{on_ok_weaker}
use Rattle.bully_play.proofs.RecordingLemmas.{steps_taken}
use Rattle.bully_play.proofs.recording.Recording.apply_step.Goals as goal

pub returns-in-Ok-clause-steps : goal.returns-in-Ok-clause-steps
returns-in-Ok-clause-steps c =
    rw (← c.self.view_is) (on_ok_weaker c.record.result (λ is. steps_taken c.args.kind _ _ c.in-Ok.step.event c.in-Ok.step.answer c.apply_step.new.self _ c.record.new.self
    c.in-Ok.ensures.event c.in-Ok.ensures.step c.in-Ok.ensures.setup c.in-Ok.ensures.counted c.in-Ok.ensures.room c.in-Ok.ensures.generations c.in-Ok.ensures.procedure is) c.record.ensures)
