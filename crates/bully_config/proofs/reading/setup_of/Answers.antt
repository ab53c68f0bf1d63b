use Rattle.std.proofs.Common.{arith, refl, rules}
use Rattle.toml.specs.View.{table_view}
use Rattle.bully_base.proofs.SetupLemmas.{weighted-made}
use Rattle.bully_base.specs.declared.TheConstants.{NODES_MAX, PARTITIONS_MAX, EVENTS_MAX}
use Rattle.bully_config.specs.declared.fault.Key.{Key}
use Rattle.bully_config.proofs.FaultLemmas.{number_within}
use Rattle.bully_config.proofs.FactLemmas.{facts, weights_there}
use Rattle.bully_config.proofs.WeightLemmas.{setup-told, weights-fit, weights-read, weights-short, weights-slice}
use Rattle.bully_config.proofs.reading.setup_of.Goals as goal

pub unwrap-nodes-requires : goal.unwrap-nodes-requires
unwrap-nodes-requires c = rw (c.number_at.ensures, c.from.ensures) (facts (table_view c.args.document.now) c.requires).nodes

pub unwrap-partitions-requires : goal.unwrap-partitions-requires
unwrap-partitions-requires c = rw (c.number_at-2.ensures, c.from-2.ensures) (facts (table_view c.args.document.now) c.requires).partitions

pub unwrap-events_max-requires : goal.unwrap-events_max-requires
unwrap-events_max-requires c = rw c.number_at-3.ensures (facts (table_view c.args.document.now) c.requires).events

pub overflow_cast-nodes : goal.overflow_cast-nodes
overflow_cast-nodes c =
    let (low, high) = number_within Key.Nodes NODES_MAX c.unwrap-nodes.result (table_view c.args.document.now) (search rules) in
    omega (arith, high)

pub overflow_cast-partitions : goal.overflow_cast-partitions
overflow_cast-partitions c =
    let (low, high) = number_within Key.Partitions PARTITIONS_MAX c.unwrap-partitions.result (table_view c.args.document.now) (search rules) in
    omega (arith, high)

pub slice_bounds-weights-end : goal.slice_bounds-weights-end
slice_bounds-weights-end c =
    let ms = table_view c.args.document.now in
    let nodes = number_within Key.Nodes NODES_MAX c.unwrap-nodes.result ms (search rules) in
    let are = weights_there c.unwrap-nodes.result ms c.requires (search rules) in
    let few = weights-short c.unwrap-nodes.result NODES_MAX ms c.items_at.result.now nodes.1 are c.items_at.ensures in
    weights-slice c.unwrap-nodes.result NODES_MAX c.items_at.result.now c.read_weights-all.result nodes.1 few c.read_weights-all.ensures

pub slice_bounds-all-end : goal.slice_bounds-all-end
slice_bounds-all-end c =
    let (low, high) = number_within Key.Nodes NODES_MAX c.unwrap-nodes.result (table_view c.args.document.now) (search rules) in
    omega (arith, high)

pub read_weights-all-requires : goal.read_weights-all-requires
read_weights-all-requires c =
    let ms = table_view c.args.document.now in
    let nodes = number_within Key.Nodes NODES_MAX c.unwrap-nodes.result ms (search rules) in
    weights-short c.unwrap-nodes.result NODES_MAX ms c.items_at.result.now nodes.1 (weights_there c.unwrap-nodes.result ms c.requires (search rules)) c.items_at.ensures

pub unwrap-requires : goal.unwrap-requires
unwrap-requires c =
    let ms = table_view c.args.document.now in
    let nodes = number_within Key.Nodes NODES_MAX c.unwrap-nodes.result ms (search rules) in
    let are = weights_there c.unwrap-nodes.result ms c.requires (search rules) in
    let weights = weights-read c.unwrap-nodes.result NODES_MAX ms c.items_at.result.now c.read_weights-all.result _ nodes.1 are c.items_at.ensures c.read_weights-all.ensures refl in
    weighted-made c.weighted.result c.unwrap-nodes.result c.unwrap-partitions.result c.unwrap-events_max.result _
    c.weighted.ensures.bad_nodes c.weighted.ensures.bad_partitions c.weighted.ensures.bad_limit c.weighted.ensures.bad_weights nodes
    (number_within Key.Partitions PARTITIONS_MAX c.unwrap-partitions.result ms (search rules))
    (number_within Key.Events EVENTS_MAX c.unwrap-events_max.result ms (search rules))
    (rw weights (weights-fit c.unwrap-nodes.result ms are))

pub returns : goal.returns
returns c =
    let ms = table_view c.args.document.now in
    let nodes = number_within Key.Nodes NODES_MAX c.unwrap-nodes.result ms (search rules) in
    let are = weights_there c.unwrap-nodes.result ms c.requires (search rules) in
    let weights = weights-read c.unwrap-nodes.result NODES_MAX ms c.items_at.result.now c.read_weights-all.result _ nodes.1 are c.items_at.ensures c.read_weights-all.ensures refl in
    setup-told ms c.weighted.result c.unwrap.result c.unwrap-nodes.result c.unwrap-partitions.result c.unwrap-events_max.result c.keeps_at-keeps.result _
    c.unwrap.ensures c.weighted.ensures.numbers (search rules) (search rules) (search rules) c.keeps_at-keeps.ensures weights
