use Rattle.std.proofs.Common.{◌≡◌, ◌<◌, ◌+◌, length, arith}
use Rattle.bully.proofs.DrawLemmas.{one-named}
use Rattle.bully.proofs.drawing.all_names.Goals as goal

pub loop-before-preserved : goal.loop-before-preserved
loop-before-preserved c =
    let names = c.args.config.now.names in
    let number : c.unwrap-node.result ≡ c.loop-before.before + 1 = grind (arith, c.new.ensures, c.unwrap-node.ensures) in
    let within : c.loop-before.before < length names = omega (arith, c.loop-before-test.true, c.loop-before.invariant.end, c.setup.ensures.within.names) in
    record {
      names = one-named (λ s. s.now) names c.loop-before.names.items c.push.new.self.items c.name.result c.loop-before.before c.unwrap-node.result within number c.name.ensures
          c.in_ok-push.ensures.items c.loop-before.invariant.names;
      end = c.loop-before.invariant.end;
    }
