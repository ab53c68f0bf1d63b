use Rattle.bully_picture.proofs.WrittenLemmas.{extends-then, extends-written, gains-later, has-written, writes-then}
use Rattle.bully_picture.proofs.lanes.push_name.Goals as goal

pub returns : goal.returns
returns c =
    gains-later (extends-then (extends-written c.push_node.ensures) (extends-then (extends-written c.push_start.ensures) (extends-written c.push.ensures)))
    (has-written (writes-then (writes-then c.push_node-2.ensures c.push_escaped.ensures.escaped) c.push-2.ensures))
