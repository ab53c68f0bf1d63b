-- What is played is a trace that a text can tell.
use Rattle.bully_play.proofs.ToldLemmas.{play-read}
use Rattle.bully_play.proofs.playing.play.Goals as goal

pub returns-clause-read_back : goal.returns-clause-read_back
returns-clause-read_back g c =
    let (events, play, scheduled, same) = c.in_ok-trace.ensures.played in
    play-read c.args.config.now events c.in_ok-trace.trace (g.W.Write.contents c.args.writer.now) (g.W.Write.contents c.write_trace.new.writer) play same
    c.in_ok-trace.ensures.told c.in_ok-write_trace.ensures.read_back
