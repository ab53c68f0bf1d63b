-- No byte is lost before one is given, and behind a turn there is none.
use Rattle.std.proofs.Common.{◌<◌}
use Rattle.std.specs.Io.KnownBytes.{IsAtEnd, Keeps}
use Rattle.bully.proofs.growing.GrowingRead.read.Given as goal

abbrev pub invariant-loop : goal.invariant-loop
invariant-loop g l = record {
  kept : Keeps (g.F.Read.remaining l.initial.self.file) (g.F.Read.remaining l.self.file);
  end : 0 < l.counter → IsAtEnd (g.F.Read.remaining l.self.file);
}
