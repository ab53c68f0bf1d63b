use Rattle.std.proofs.Common.{◌≡◌, ◌++◌, take}
use Rattle.std.specs.String.{string_bytes}
use Rattle.bully_table.specs.TableText.{owners_text}
use Rattle.bully_rows.proofs.text.push_weights.Given as goal

abbrev pub invariant-loop-before : goal.invariant-loop-before
invariant-loop-before l = record {
  text : string_bytes l.text ≡ string_bytes l.fn.text ++ owners_text 32 (take l.before l.setup.weights);
  end : l.before-end ≡ l.setup.nodes;
}
