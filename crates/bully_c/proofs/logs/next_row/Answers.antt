use Rattle.std.proofs.Common.{None, Some, rules, string_bytes}
use Rattle.bully_replica.specs.Next.{IsNext}
use Rattle.bully_c.specs.Replicas.{HasNode}
use Rattle.bully_c.proofs.LogRowLemmas.{next-as, next-err, next-ok}
use Rattle.bully_c.proofs.logs.next_row.Goals as goal

pub returns-in-Ok-Some-clause-ok : goal.returns-in-Ok-Some-clause-ok
returns-in-Ok-Some-clause-ok c =
    let f = c.args.learned.now in
    let has : HasNode f c.args.node = search rules in
    let next : IsNext f.replica c.args.node (Some c.in-Ok-Some.event) = next-as c.replica-replica.result.now f.replica c.in_ok-node.node c.args.node _ _ c.replica-replica.ensures c.in_ok-node.ensures.ok.0 c.in-Ok-Some.field-0-is c.in-Ok-Some.ensures.next in
    next-ok string_bytes f c.args.node c.in-Ok-Some.event c.allowed_row.result has next c.allowed_row.ensures.ok

pub returns-in-Ok-Some-clause-err : goal.returns-in-Ok-Some-clause-err
returns-in-Ok-Some-clause-err c =
    let f = c.args.learned.now in
    let has : HasNode f c.args.node = search rules in
    let next : IsNext f.replica c.args.node (Some c.in-Ok-Some.event) = next-as c.replica-replica.result.now f.replica c.in_ok-node.node c.args.node _ _ c.replica-replica.ensures c.in_ok-node.ensures.ok.0 c.in-Ok-Some.field-0-is c.in-Ok-Some.ensures.next in
    next-err f c.args.node c.in-Ok-Some.event c.allowed_row.result has next c.allowed_row.ensures.err

pub returns-in-Ok-None-clause-ok : goal.returns-in-Ok-None-clause-ok
returns-in-Ok-None-clause-ok c =
    let f = c.args.learned.now in
    let has : HasNode f c.args.node = search rules in (
      has,
      None,
      next-as c.replica-replica.result.now f.replica c.in_ok-node.node c.args.node _ _ c.replica-replica.ensures c.in_ok-node.ensures.ok.0 c.in-Ok-None.field-0-is c.in-Ok-None.ensures.next,
      c.new.ensures.bytes,
    )
