use Rattle.std.specs.Prelude.{◌++◌, drop}
use Rattle.left_right.specs.Sides.{view}
use Rattle.bully_watch.proofs.publisher.Publisher.published.Given as goal

abbrev pub ghosts-show : goal.ghosts-show
ghosts-show g a = record { knowledge = record (view a.writer.desk.place) { seen = (view a.writer.desk.place).seen ++ drop a.writer.behind a.writer.log.items } }
