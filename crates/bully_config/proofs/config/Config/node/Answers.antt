use Rattle.std.proofs.Common.{◌∙◌, sym, ap, arith, option_map, ◌+◌, string_bytes}
use Rattle.std.proofs.lemmas.List.{length-map}
use Rattle.bully_base.specs.Setup.{IsNodeNumber}
use Rattle.bully_config.proofs.NameLemmas.{node_of_index, some_made}
use Rattle.bully_config.proofs.config.Config.node.Goals as goal

pub returns-in_err-index : goal.returns-in_err-index
returns-in_err-index c =
    let told = node_of_index c.args.name.now c.self.inside.names.keys in
    let none = sym c.get_index_of.ensures.index ∙ c.in_err-index.was in
    rw (← c.self.view_is) (c.from_residual.ensures ∙ sym (told ∙ ap (option_map (λ k. k + 1)) none))

pub returns : goal.returns
returns c =
    let told = node_of_index c.args.name.now c.self.inside.names.keys in
    let some = sym c.get_index_of.ensures.index ∙ c.in_ok-index.was in
    let long = length-map c.self.inside.names.keys (λ s. string_bytes s) in
    let made : IsNodeNumber (c.in_ok-index.index + 1) =
    (omega arith, omega (arith, long, c.in_ok-index.ensures.within, c.self.invariant.names, c.self.invariant.setup.nodes.1)) in
    rw (← c.self.view_is) (some_made c.new.result (IsNodeNumber (c.in_ok-index.index + 1)) (c.in_ok-index.index + 1) c.new.ensures made ∙ sym (told ∙ ap (option_map (λ k. k + 1)) some))
