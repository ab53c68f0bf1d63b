use Rattle.toml.specs.View.{table_view}
use Rattle.bully_draft.specs.declared.config.ConfigSheet.{ConfigSheet}
use Rattle.bully_draft.proofs.ConfigLemmas.{told-of-document, told-of-toml}
use Rattle.bully_draft.proofs.config.explain_config.Goals as goal

pub returns-in-Ok-clause-told : goal.returns-in-Ok-clause-told
returns-in-Ok-clause-told c =
    told-of-document (λ (s : ConfigSheet). s.told) c.args.text.now (table_view c.in-Ok.document) c.document_sheet.result c.in-Ok.ensures.ok c.document_sheet.ensures.told

pub returns-in-Err-clause-told : goal.returns-in-Err-clause-told
returns-in-Err-clause-told c =
    told-of-toml (λ (s : ConfigSheet). s.told) c.args.text.now c.in-Err.error c.toml_sheet.result c.in-Err.ensures.refused c.toml_sheet.ensures.told c.toml_sheet.ensures.form
