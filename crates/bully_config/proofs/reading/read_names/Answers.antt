use Rattle.std.proofs.Common.{◌≡◌, ◌∙◌, sym, arith, map, get_or, [], string_bytes}
use Rattle.toml.specs.View.{view}
use Rattle.bully_config.specs.Values.{names_of}
use Rattle.bully_config.proofs.NameLemmas.{names_step, name_told, names_long}
use Rattle.bully_config.proofs.reading.read_names.Goals as goal

pub loop-item-preserved : goal.loop-item-preserved
loop-item-preserved c =
    let names = names_of (map view c.args.items.now) in
    let told : string_bytes c.in_ok-from_str.field-0 ≡ get_or names c.loop-item.item-index [] =
    c.in_ok-from_str.ensures.ok ∙ c.text_of.ensures ∙ sym (name_told c.args.items.now c.loop-item.item-index c.item-item.result c.loop-item-test.true c.item-item.is) in
    rw c.in_ok-insert.ensures.keys (names_step c.loop-item.names.keys c.in_ok-from_str.field-0 names c.loop-item.item-index c.requires (omega (arith, c.loop-item-test.true, names_long c.args.items.now)) c.loop-item.invariant told)
