use Rattle.std.proofs.Common.{arith}
use Rattle.std.proofs.lemmas.Grind.{common_steps}
use Rattle.bully_table.proofs.PieceLemmas.{split-last, split-next}
use Rattle.bully_table.proofs.pieces.Pieces.next.Goals as goal
use Rattle.bully_table.proofs.pieces.Pieces.next.Goals.{then-is_empty, else-is_empty}

pub returns : goal.returns
returns c =
    let text = c.in-Some.rest.now in
    let piece = c.split_at.result.0.now in
    let tail = c.split_at.result.1.now in
    let end = c.bytes_before_space.result in
    elim c.if-is_empty.branch [
      | then-is_empty w ↦ grind (arith, w.self-is, c.self.view_is, split-last text piece tail end c.bytes_before_space.ensures.value c.split_at.ensures.front c.split_at.ensures.back (grind (arith, common_steps)))
      | else-is_empty w ↦ grind (arith, w.self-is, c.self.view_is, split-next text piece tail end c.bytes_before_space.ensures.value c.split_at.ensures.front c.split_at.ensures.back (grind (arith, common_steps)))
    ]
