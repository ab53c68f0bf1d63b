use Rattle.bully_paint.proofs.TextLemmas.{painted-kept}
use Rattle.bully_paint.proofs.painted.Painted.drain.Goals as goal

pub returns-clause-text : goal.returns-clause-text
returns-clause-text g c = painted-kept c.args.self.now.paints _ _ c.args.self.now.queue.now _ c.args.self.now.held.now c.requires c.put-result.ensures.bytes

pub returns-clause-out : goal.returns-clause-out
returns-clause-out g c = c.put-result.ensures.bytes
