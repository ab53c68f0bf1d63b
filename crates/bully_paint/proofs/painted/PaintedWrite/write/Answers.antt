use Rattle.bully_paint.specs.Painted.{brush_of, out_of}
use Rattle.bully_paint.proofs.StrokeLemmas.{goes-all}
use Rattle.bully_paint.proofs.painted.PaintedWrite.write.Goals as goal

pub returns-then-self-clause-painted : goal.returns-then-self-clause-painted
returns-then-self-clause-painted g c = λ paints.
    goes-all c.paint.result c.args.buf.now (out_of c.args.self.now) (out_of c.paint.new.self) (brush_of c.args.self.now) (brush_of c.paint.new.self) c.paint.ensures.bound c.paint.ensures.one c.paint.ensures.painted
