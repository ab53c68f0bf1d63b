use Rattle.std.specs.Prelude.{[], true}
use Rattle.bully_watch.proofs.publisher.Publisher.open.Given as goal

abbrev pub ghosts-show : goal.ghosts-show
ghosts-show g a = record { knowledge = record { is_named = true; publisher = record { name = a._name.now.name; setup = a.writer.desk.shown.value.world.setup }; seen = [] } }
