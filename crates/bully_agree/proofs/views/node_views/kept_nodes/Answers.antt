use Rattle.std.proofs.Common.{◌≡◌, ◌+◌, length, map, take, arith, ap, ◌∙◌}
use Rattle.std.proofs.Math.Seq.{take-length}
use Rattle.std.proofs.lemmas.List.{length-map}
use Rattle.bully_world.specs.State.{node_state_of}
use Rattle.bully_agree.specs.NodeViews.{kept_of}
use Rattle.bully_agree.proofs.ViewLemmas.{count_of_reached}
use Rattle.bully_agree.proofs.NodeViewLemmas.{kept-more}
use Rattle.bully_agree.proofs.views.node_views.kept_nodes.Goals as goal

pub loop-before-preserved : goal.loop-before-preserved
loop-before-preserved c =
    let count = count_of_reached c.args.world.now c.setup.ensures.reached in
    let number : c.loop-before.before + 1 ≡ c.unwrap-node.result = grind (arith, c.new.ensures, c.unwrap-node.ensures) in
    let more = kept-more c.args.world.now.states c.loop-before.nodes.items c.in_ok-kept_by.field-0 c.loop-before.before c.unwrap-node.result number
    (omega (arith, count, c.loop-before.invariant.end, c.loop-before-test.true)) c.loop-before.invariant.kept (grind (arith, c.in_ok-kept_by.ensures, c.vector.ensures.vector)) in
    record {
      kept = grind (arith, more, c.in_ok-push.ensures.items);
      end = c.loop-before.invariant.end;
    }

pub returns : goal.returns
returns c =
    let count = count_of_reached c.args.world.now c.setup.ensures.reached in
    let size = length-map c.args.world.now.states node_state_of in
    let all : c.loop-before.before ≡ length (map node_state_of c.args.world.now.states) = omega (arith, size, count, c.loop-before.invariant.end, c.loop-before-test.false, c.loop-before.auto.before-end) in
    c.loop-before.invariant.kept ∙ ap (map kept_of) (ap (λ n. take n (map node_state_of c.args.world.now.states)) all ∙ take-length (map node_state_of c.args.world.now.states))
