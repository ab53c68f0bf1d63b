use Rattle.std.proofs.Common.{◌≡◌, ◌≤◌, ◌-◌, ◌++◌, drop, take, length}
use Rattle.left_right.specs.Sides.{view}
use Rattle.bully_watch.proofs.publisher.take_in.Given as goal

abbrev pub invariant-loop-next : goal.invariant-loop-next
invariant-loop-next l = (l.fn.count ≤ l.next) × (l.next ≤ length l.entries) × (l.writer.desk ≡ l.initial.writer.desk) × ((view l.writer.desk.place).seen ++ drop l.writer.behind l.writer.log.items ≡ take l.next l.entries)

abbrev pub decreases-loop-next : goal.decreases-loop-next
decreases-loop-next l = length l.entries - l.next
