use Rattle.std.proofs.Common.{◌≡◌, inl, Ok, string_bytes, subst}
use Rattle.std.proofs.lemmas.Result.{IfOk-at_ok}
use Rattle.bully_config.specs.Answers.{answer_of}
use Rattle.bully_config.specs.Configuration.{Configuration}
use Rattle.bully_draft.specs.declared.config.ConfigSheet.{ConfigSheet}
use Rattle.bully_draft.specs.ConfigTold.{IsConfigText, IsConfigTold}
use Rattle.bully.proofs.ExplainLemmas.{config-answer, free-answer}
use Rattle.bully.proofs.explaining.explain_text.Goals as goal

pub returns-in-None-clause-answer : goal.returns-in-None-clause-answer
returns-in-None-clause-answer g c = λ utf8.
    let told = IfOk-at_ok (λ (s : ConfigSheet). IsConfigTold c.args.text.now s.told) c.in-Ok.is c.explain_config.ensures.told in
    let lines = IfOk-at_ok (λ (s : ConfigSheet). IsConfigText s.told (string_bytes s.text)) c.in-Ok.is c.explain_config.ensures.lines in
    let (config, reads) : (config : Configuration) × (answer_of c.args.text.now ≡ Ok config) = rw c.in-None.is at told in
    free-answer g.E.Write.contents c.args.text.now config c.as_str.result.now _ _ _ _ c.write_sheet.result (inl (utf8, reads)) (subst (λ told. IsConfigText told c.as_str.result.now) c.in-None.is (rw c.as_str.ensures.value lines)) c.write_sheet.ensures

pub returns-in-Ok-clause-answer : goal.returns-in-Ok-clause-answer
returns-in-Ok-clause-answer g c = λ utf8.
    let told = IfOk-at_ok (λ (s : ConfigSheet). IsConfigTold c.args.text.now s.told) c.in-Ok.is c.explain_config.ensures.told in
    let lines = IfOk-at_ok (λ (s : ConfigSheet). IsConfigText s.told (string_bytes s.text)) c.in-Ok.is c.explain_config.ensures.lines in
    config-answer c.args.text.now c.in-Some.fault c.as_str-in-Some.result.now _ _ _ c.answer_fault_of.result (inl (utf8, rw c.in-Some.is at told))
    (subst (λ told. IsConfigText told c.as_str-in-Some.result.now) c.in-Some.is (rw c.as_str-in-Some.ensures.value lines)) c.answer_fault_of.ensures
