use Rattle.std.proofs.Common.{◌∙◌, sym, ap, arith, map, length}
use Rattle.toml.specs.View.{view, table_view}
use Rattle.bully_config.proofs.FactLemmas.{configured_as, facts, number_there, same_parts}
use Rattle.bully_config.proofs.NameLemmas.{names_long}
use Rattle.bully_config.specs.Values.{names_of}
use Rattle.bully_config.specs.declared.fault.Key.{Key}
use Rattle.bully_base.specs.declared.TheConstants.{NODES_MAX}
use Rattle.bully_config.proofs.reading.config_of.Goals as goal

pub from_parts-requires : goal.from_parts-requires
from_parts-requires c = configured_as (table_view c.args.document.now) _ c.requires
    (same_parts (table_view c.args.document.now) c.setup_of-setup.result c.unwrap-turns.result c.unwrap-period.result _ _ (map view c.items_at-names.result.now) (map view c.items_at.result.now)
    c.setup_of-setup.ensures (sym c.number_at.ensures ∙ c.unwrap-turns.ensures) (sym c.period_at.ensures ∙ c.unwrap-period.ensures) c.items_at-names.ensures c.items_at.ensures c.in_ok-names.ensures c.in_ok-faults.ensures)

pub unwrap-turns-requires : goal.unwrap-turns-requires
unwrap-turns-requires c = rw c.number_at.ensures (facts (table_view c.args.document.now) c.requires).turns

pub unwrap-period-requires : goal.unwrap-period-requires
unwrap-period-requires c = rw c.period_at.ensures (facts (table_view c.args.document.now) c.requires).period

pub read_faults-requires : goal.read_faults-requires
read_faults-requires c =
    let f = facts (table_view c.args.document.now) c.requires in
    let (low, high) = number_there Key.Nodes NODES_MAX (table_view c.args.document.now) f.nodes in
    omega (arith, high, f.names, ap (λ vs. length (names_of vs)) c.items_at-names.ensures, names_long c.items_at-names.result.now)

pub read_names-requires : goal.read_names-requires
read_names-requires c = rw c.items_at-names.ensures (facts (table_view c.args.document.now) c.requires).distinct
