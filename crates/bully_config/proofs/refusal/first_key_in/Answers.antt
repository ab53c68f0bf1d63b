use Rattle.std.proofs.Common.{◌≡◌, ◌∙◌, ◌+◌, ◌∷◌, Some, None, true, false, arith, drop, map, sym, ap, refl}
use Rattle.std.proofs.lemmas.Fn.{says_at}
use Rattle.std.specs.Option.{is_some}
use Rattle.toml.specs.Data.{as_table}
use Rattle.toml.specs.View.{table_view, view}
use Rattle.bully_config.specs.Refusals.{first_in}
use Rattle.bully_config.proofs.ItemLemmas.{found-first, items_next, no-table-first, passed-first}
use Rattle.bully_config.proofs.refusal.first_key_in.Goals as goal
use Rattle.bully_config.proofs.refusal.first_key_in.Goals.{in-Some+else-is_some, in_default}

pub returns-then-is_some : goal.returns-then-is_some
returns-then-is_some g c = λ fault computes.
    let told = computes c.in-Some.fault.now c.find-found.result (says_at g.F.Fn c.find-found.ensures refl) in
    let table : as_table (view c.item-item.result) ≡ Some (table_view c.in-Some.fault.now) = grind (arith, c.as_table.ensures, c.in-Some.is) in
    let there : is_some c.find-found.result ≡ true = grind (arith, c.is_some.ensures, c.if-is_some.true) in
    let item = items_next c.args.faults.now c.loop-item.item-index c.item-item.result c.loop-item-test.true c.item-item.is in
    sym (found-first fault (view c.item-item.result) (map view (drop (c.loop-item.item-index + 1) c.args.faults.now)) _ _ table told there)
    ∙ ap (first_in fault) (sym item) ∙ c.loop-item.invariant fault computes

pub loop-item-preserved : goal.loop-item-preserved
loop-item-preserved g c = λ fault computes.
    let rest = map view (drop (c.loop-item.item-index + 1) c.args.faults.now) in
    let item = items_next c.args.faults.now c.loop-item.item-index c.item-item.result c.loop-item-test.true c.item-item.is in
    let passed : first_in fault (view c.item-item.result ∷ rest) ≡ first_in fault rest = elim c.match-as_table.branch [
      | in-Some+else-is_some w ↦
          let told = computes w.in-Some.fault.now w.find-found.result (says_at g.F.Fn w.find-found.ensures refl) in
          let table : as_table (view c.item-item.result) ≡ Some (table_view w.in-Some.fault.now) = grind (arith, c.as_table.ensures, w.in-Some.is) in
          let there : is_some w.find-found.result ≡ false = grind (arith, w.is_some.ensures, w.if-is_some.false) in
          passed-first fault (view c.item-item.result) rest _ _ table told there
      | in_default w ↦
          let none : as_table (view c.item-item.result) ≡ None = grind (arith, c.as_table.ensures, w.in_default.is) in
          no-table-first fault (view c.item-item.result) rest none
    ] in
    sym passed ∙ ap (first_in fault) (sym item) ∙ c.loop-item.invariant fault computes
