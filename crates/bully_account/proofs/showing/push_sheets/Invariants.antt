use Rattle.std.proofs.Common.{◌≡◌, length}
use Rattle.bully_account.specs.NodeSummary.{ShowsFrom}
use Rattle.bully_account.proofs.showing.push_sheets.Given as goal

abbrev pub invariant-loop-before : goal.invariant-loop-before
invariant-loop-before l = record {
  count : length l.sheets.items ≡ l.before;
  shown : ShowsFrom l.world 1 l.sheets.items;
  end : l.before-end ≡ l.world.setup.nodes;
}
