-- Each part is within its range, so that the setup is made of them.
use Rattle.std.proofs.Common.{◌≡◌, ◌∙◌, Some, arith, rules}
use Rattle.bully_base.proofs.SetupLemmas.{weighted-made}
use Rattle.bully_base.specs.declared.TheConstants.{NODES_MAX, PARTITIONS_MAX, EVENTS_MAX}
use Rattle.bully_table.specs.Numeral.{number_of}
use Rattle.bully_rows.specs.Headers.{node_in, partitions_in, weights_in}
use Rattle.bully_rows.specs.declared.header.Version.{Version}
use Rattle.bully_rows.specs.Words.{keeps_named}
use Rattle.bully_rows.proofs.HeaderLemmas.{made-told, told-within, weighted-told, weights-within}
use Rattle.bully_rows.proofs.header.weighted_in.Goals as goal

pub returns : goal.returns
returns c =
    let n = c.in_ok-nodes.nodes in
    let p = c.in_ok-partitions.partitions in
    let k = c.in_ok-keeps.keeps in
    let ws = c.read_weights.new.weights in
    let at_n : node_in Version.Two c.args.nodes.now ≡ Some n = (search rules) in
    let at_p : partitions_in Version.Two c.args.partitions.now ≡ Some p = (search rules) in
    let at_k : keeps_named c.args.keeps.now ≡ Some k = (search rules) in
    let at_w : weights_in n c.args.weights.now ≡ Some ws = (search rules) in
    let made = weighted-made c.weighted.result n p EVENTS_MAX ws c.weighted.ensures.bad_nodes c.weighted.ensures.bad_partitions c.weighted.ensures.bad_limit c.weighted.ensures.bad_weights
    (told-within NODES_MAX (number_of c.args.nodes.now) n at_n) (told-within PARTITIONS_MAX (number_of c.args.partitions.now) p at_p) (omega arith, omega arith) (weights-within n c.args.weights.now ws at_w) in
    weighted-told c.args.nodes.now c.args.partitions.now c.args.weights.now c.args.keeps.now n p ws k c.ok.result at_n at_p at_w at_k
    (c.ok.ensures.value ∙ made-told c.weighted.result _ made c.weighted.ensures.numbers)
