use Rattle.std.proofs.Common.{subst}
use Rattle.bully_picture.specs.Title.{size_text}
use Rattle.bully_picture.specs.Written.{Writes}
use Rattle.bully_picture.proofs.TitleLemmas.{size-written}
use Rattle.bully_picture.proofs.WrittenLemmas.{writes-as, writes-then}
use Rattle.bully_picture.proofs.page.push_size.Goals as goal

pub returns : goal.returns
returns c =
    let written : Writes c.args.picture.now c.push.new.self (size_text c.nodes.result c.partitions.result) =
    writes-as (size-written c.nodes.result c.partitions.result) (writes-then (writes-then c.push_counted.ensures c.push_counted-2.ensures) c.push.ensures) in
    subst (λ n. Writes c.args.picture.now c.push.new.self (size_text n c.args.setup.now.partitions)) c.nodes.ensures.nodes
    (subst (λ n. Writes c.args.picture.now c.push.new.self (size_text c.nodes.result n)) c.partitions.ensures.partitions written)
