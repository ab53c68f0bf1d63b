use Rattle.std.proofs.Common.{◌≡◌, [], vec_len}
use Rattle.bully_account.specs.RowsOf.{AreRemembered}
use Rattle.bully_account.proofs.memory.Memories.new.Given as goal

abbrev pub invariant-loop : goal.invariant-loop
invariant-loop l = record {
  count : vec_len l.nodes ≡ l.counter;
  end : l.end ≡ l.setup.nodes;
  remembered : AreRemembered l.setup [] 1 l.nodes.items;
}
