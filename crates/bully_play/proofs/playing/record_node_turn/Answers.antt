use Rattle.bully_play.proofs.RecordingLemmas.{turn_ok}
use Rattle.bully_steps.specs.Procedure.{state_of}
use Rattle.bully_play.proofs.playing.record_node_turn.Goals as goal

pub returns-clause-recorded : goal.returns-clause-recorded
returns-clause-recorded c =
    turn_ok c.take_node_turn.result c.args.period c.args.turn c.args.recording.now (state_of c.args.procedure.now) c.take_node_turn.new.backend (state_of c.take_node_turn.new.procedure) c.take_node_turn.ensures.turn
