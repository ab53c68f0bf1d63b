use Rattle.std.proofs.Common.{◌≡◌, All, vec_len}
use Rattle.left_right.specs.Sides.{view}
use Rattle.bully_watch.specs.CopyRule.{prefix_of}
use Rattle.bully_watch.proofs.publisher.enroll.Given as goal

abbrev pub invariant-loop-number : goal.invariant-loop-number
invariant-loop-number l = record {
  shown : l.writer.desk.shown ≡ l.fn.writer.desk.shown;
  log : l.writer.log ≡ l.fn.writer.log;
  behind : l.writer.behind ≡ l.fn.writer.behind;
  knowledge : view l.writer.desk.place ≡ view l.fn.writer.desk.place;
  count : vec_len l.observers ≡ l._number;
  all : All (λ o. o ≡ prefix_of (view l.fn.writer.desk.place)) l.observers.items;
}
