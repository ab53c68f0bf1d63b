use Rattle.std.proofs.Common.{string_bytes, arith, ◌≡◌, ◌<◌, ◌+◌, length}
use Rattle.bully_c.proofs.ConfigurationLemmas.{names-step}
use Rattle.bully_c.proofs.configurations.push_names.Goals as goal
use Rattle.bully_c.proofs.configurations.push_names.Goals.{in-Some+in_ok-push_name, in_default}

pub loop-place-preserved : goal.loop-place-preserved
loop-place-preserved c =
    let place = c.loop-place.place in
    let names = c.args.config.now.names in
    let low : place < c.args.config.now.setup.nodes = grind (arith, c.loop-place-test.true, c.nodes-place-end.ensures.nodes, c.setup.ensures.setup) in
    elim c.match-new.branch [
      | in-Some+in_ok-push_name w ↦
          let node : w.in-Some.node ≡ place + 1 = grind (arith, w.in-Some.ensures, w.in-Some.is, c.new.ensures) in
          let there : place < length names = omega (arith, low, c.setup.ensures.within.names) in
          names-step w.in-Some.node place names (string_bytes c.args.text.now) (string_bytes c.loop-place.text) (string_bytes c.match-new.text) node there c.loop-place.invariant (grind (arith, w.text-is, w.in_ok-push_name.ensures, w.name.ensures))
      | in_default w ↦ absurd (w.in_default.ensures (omega arith, omega (arith, low, c.setup.ensures.within.setup.nodes.1)))
    ]
