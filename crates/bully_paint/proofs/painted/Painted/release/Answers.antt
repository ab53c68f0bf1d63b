use Rattle.bully_paint.proofs.StrokeLemmas.{appends-queued, brush-same}
use Rattle.bully_paint.proofs.TextLemmas.{painted-out}
use Rattle.bully_paint.proofs.painted.Painted.release.Goals as goal

pub returns-clause-text : goal.returns-clause-text
returns-clause-text g c =
    painted-out c.args.self.now.paints (g.W.Write.contents c.args.self.now.below) c.args.self.now.queue.now c.args.self.now.held.now c.args.out.now c.requires.paints c.requires.queue c.requires.whole c.requires.text

pub returns-clause-painted : goal.returns-clause-painted
returns-clause-painted g c =
    (appends-queued (g.W.Write.contents c.args.self.now.below) c.args.self.now.queue.now c.args.out.now c.requires.queue, brush-same c.goes_within-self.result _ c.goes_within-self.ensures)
