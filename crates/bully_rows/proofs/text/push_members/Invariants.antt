use Rattle.std.proofs.Common.{◌≡◌, ◌+◌, ◌++◌, reverse}
use Rattle.std.specs.String.{string_bytes}
use Rattle.bully_base.specs.NodeSet.{below_node}
use Rattle.bully_table.specs.TableText.{owners_text}
use Rattle.bully_rows.proofs.text.push_members.Given as goal

abbrev pub invariant-loop-before : goal.invariant-loop-before
invariant-loop-before l = record {
  text : string_bytes l.text ≡ string_bytes l.fn.text ++ owners_text 32 (reverse (below_node (l.before + 1) l.set));
  end : l.before-end ≡ l.fn.highest;
}
