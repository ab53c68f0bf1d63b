-- One more lane, of the next node.
use Rattle.std.proofs.Common.{◌≡◌, ◌+◌, ◌++◌, ◌∷◌, [], arith, rules}
use Rattle.bully_film.specs.Lane.{row_before}
use Rattle.bully_film.specs.Scene.{lane_of}
use Rattle.bully_film.proofs.StretchLemmas.{lanes-more}
use Rattle.bully_film.proofs.whole.lanes.Goals as goal

pub loop-before-preserved : goal.loop-before-preserved
loop-before-preserved c =
    let number : c.unwrap-node.result ≡ c.loop-before.before + 1 = grind (arith, c.new.ensures, c.unwrap-node.ensures) in
    let all : c.push.new.self.items ≡ c.loop-before.lanes.items ++ c.in_ok-lane.lane ∷ [] = c.in_ok-push.ensures.items in
    record {
      lanes = λ window trace is.
          rw all (lanes-more (λ i. lane_of trace.setup is.before i is.shown) (row_before c.args.finished.now.scenes.items) 1 c.unwrap-node.result c.loop-before.lanes.items c.in_ok-lane.lane
          (omega (arith, number, c.loop-before.invariant.count)) (c.loop-before.invariant.lanes window trace is) (c.in_ok-lane.ensures window trace is));
      count = search rules;
      end = c.loop-before.invariant.end;
    }
