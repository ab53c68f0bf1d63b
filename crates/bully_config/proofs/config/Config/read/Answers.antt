use Rattle.std.proofs.Common.{◌∙◌, sym, arith}
use Rattle.toml.specs.View.{table_view}
use Rattle.bully_config.proofs.FactLemmas.{not_blank, told_of_document, all_told}
use Rattle.bully_config.proofs.config.Config.read.Goals as goal

pub returns-in_err-config_of-clause-memory : goal.returns-in_err-config_of-clause-memory
returns-in_err-config_of-clause-memory c _ blank =
    not_blank c.args.text.now (table_view c.in_ok-document.document) c.in_ok-document.ensures.ok (sym c.first_refusal.ensures ∙ c.in_default.is) blank

pub returns-clause-whole : goal.returns-clause-whole
returns-clause-whole c = (
  table_view c.in_ok-document.document,
  c.in_ok-document.ensures.ok,
  rw c.in_ok-config_of.ensures (all_told (table_view c.in_ok-document.document) (sym c.first_refusal.ensures ∙ c.in_default.is)),
)

pub returns-in-Some-clause-toml : goal.returns-in-Some-clause-toml
returns-in-Some-clause-toml c e =
    absurd ((told_of_document (table_view c.in_ok-document.document) c.in-Some.fault (sym c.first_refusal.ensures ∙ c.in-Some.is)).0 (grind (arith, e)))

pub returns-in-Some-clause-memory : goal.returns-in-Some-clause-memory
returns-in-Some-clause-memory c e =
    absurd ((told_of_document (table_view c.in_ok-document.document) c.in-Some.fault (sym c.first_refusal.ensures ∙ c.in-Some.is)).1 (grind (arith, e)))
