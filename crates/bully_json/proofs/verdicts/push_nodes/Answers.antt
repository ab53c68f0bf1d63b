use Rattle.std.proofs.Common.{◌≡◌, ◌+◌, ap, arith}
use Rattle.std.specs.String.{string_bytes}
use Rattle.bully_handlers.specs.Vector.{StoredVector}
use Rattle.bully_json.specs.Objects.{node_object}
use Rattle.bully_json.proofs.ObjectLemmas.{node_objects-next}
use Rattle.bully_json.proofs.verdicts.push_nodes.Goals as goal

pub loop-before-preserved : goal.loop-before-preserved
loop-before-preserved c =
    let number : c.loop-before.before + 1 ≡ c.unwrap-node.result = grind (arith, c.new.ensures, c.unwrap-node.ensures) in
    record {
      text = node_objects-next c.args.world.now.states (string_bytes c.args.text.now) (string_bytes c.loop-before.text) (string_bytes c.push_node.new.text) _ c.loop-before.before c.unwrap-node.result
          number c.loop-before.invariant.text c.in_ok-push_node.ensures (ap (λ (v : StoredVector). node_object c.unwrap-node.result v.vector) c.vector.ensures.vector);
      end = c.loop-before.invariant.end;
    }
