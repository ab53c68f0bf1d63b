use Rattle.std.proofs.Common.{◌≡◌, drop, map}
use Rattle.std.specs.Fn.{FnReturnsAt}
use Rattle.toml.specs.View.{table_view, view}
use Rattle.bully_config.specs.Refusals.{first_in}
use Rattle.bully_config.specs.Searches.{Computes}
use Rattle.bully_config.proofs.refusal.first_key_in.Given as goal

abbrev pub invariant-loop-item : goal.invariant-loop-item
invariant-loop-item g l =
    (fault : _) → Computes table_view (FnReturnsAt g.F.Fn l.find) fault → first_in fault (map view (drop l.item-index l.faults)) ≡ first_in fault (map view l.faults)
