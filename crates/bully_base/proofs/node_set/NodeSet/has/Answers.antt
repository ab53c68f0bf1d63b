use Rattle.std.proofs.Common.{◌≢◌, ◌↔◌, arith, Contains, slice_index_or}
use Rattle.std.specs.Int.RustNames.{bit_and}
use Rattle.std.proofs.lemmas.Bool.Decides.{nat_tests}
use Rattle.bully_base.proofs.RowLemmas.{has-step}
use Rattle.bully_base.proofs.node_set.NodeSet.has.Goals as goal

pub returns : goal.returns
returns c =
    let has : (bit_and (slice_index_or c.self.inside.words c.place_of.result 0) c.bit_of.result ≢ 0) ↔ Contains c.args.self.now c.args.node =
    rw (← c.self.view_is) (has-step c.self.inside.words c.args.node c.place_of.result c.bit_of.result c.self.invariant.1 c.bit_of.ensures.within c.place_of.ensures.place c.bit_of.ensures.bit) in
    ((λ t. has.0 (grind (arith, nat_tests, t))), (λ h. grind (arith, nat_tests, has.1 h)))
