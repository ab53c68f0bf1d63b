use Rattle.bully_text.proofs.EachLemmas.{bounded-read}
use Rattle.bully_text.proofs.bounded.BoundedRowsRead.read.Goals as goal

pub returns-clause-bytes : goal.returns-clause-bytes
returns-clause-bytes g c =
    let now = c.args.self.now in
    bounded-read now.place now.count c.in_ok-given.given c.read.new.buf c.taken_of-taken.result now.is_cut (g.R.Read.remaining now.reader) (g.R.Read.remaining c.read.new.self) c.if-self.false c.in_ok-given.ensures.bound.0 c.taken_of-taken.ensures c.in_ok-given.ensures.bytes
