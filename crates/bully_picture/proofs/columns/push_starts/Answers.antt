use Rattle.std.proofs.Common.{◌≡◌, ◌∙◌, ◌+◌, ◌-◌, ◌<◌, ◌++◌, ap, arith, refl, sym}
use Rattle.std.proofs.lemmas.List.{append-nil}
use Rattle.bully_film.specs.Behind.{world_behind}
use Rattle.bully_film.specs.Scene.{snapshot, snapshots_of}
use Rattle.bully_film.proofs.LaneLemmas.{snapshots-more}
use Rattle.bully_picture.proofs.columns.push_starts.Goals as goal

pub loop-before-preserved : goal.loop-before-preserved
loop-before-preserved c =
    let number : c.unwrap-node.result ≡ c.loop-before.before + 1 = grind (arith, c.new.ensures, c.unwrap-node.ensures) in
    let nodes = c.args.finished.now.setup.nodes in
    let below : c.loop-before.before < nodes = omega (arith, c.loop-before.invariant.end, c.loop-before-test.true) in
    record {
      rest = λ window trace is.
          let w = world_behind trace.setup is.before in
          snapshots-more w c.loop-before.now.items c.push_start.new.now.items c.loop-before.before nodes c.unwrap-node.result (snapshot w c.unwrap-node.result) number below
          refl (c.in_ok-push_start.ensures window trace is) (c.loop-before.invariant.rest window trace is);
      end = c.loop-before.invariant.end;
    }

pub returns : goal.returns
returns c = λ window trace is.
    let now = c.loop-before.now.items in
    let before = c.loop-before.before in
    let none : c.args.finished.now.setup.nodes - before ≡ 0 = omega (arith, c.loop-before.invariant.end, c.loop-before-test.false) in
    sym (append-nil now) ∙ ap (λ k. now ++ snapshots_of (world_behind trace.setup is.before) (before + 1) k) (sym none) ∙ c.loop-before.invariant.rest window trace is
