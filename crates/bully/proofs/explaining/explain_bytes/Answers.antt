use Rattle.std.proofs.Common.{ℕ, List, inr, refl, sym, subst, codes}
use Rattle.std.specs.Str.{IsUtf8}
use Rattle.bully_config.specs.declared.fault.ConfigFault.{ConfigFault}
use Rattle.bully.specs.ExplainAnswer.{IsConfigExplainAnswer}
use Rattle.bully.proofs.ExplainLemmas.{config-answer, no-text-line}
use Rattle.bully.proofs.explaining.explain_bytes.Goals as goal

pub returns-in-Ok-clause-answer : goal.returns-in-Ok-clause-answer
returns-in-Ok-clause-answer g c =
    let (same, utf8) = c.in-Ok.ensures.cases in
    subst (λ (bytes : List ℕ). IsConfigExplainAnswer bytes (g.W.Write.contents c.args.output.now) (g.W.Write.contents c.explain_text.new.output)
    (g.E.Write.contents c.args.errors.now) (g.E.Write.contents c.explain_text.new.errors) c.explain_text.result)
    same (c.explain_text.ensures.answer (subst IsUtf8 (sym same) utf8))

pub returns-in-Err-clause-answer : goal.returns-in-Err-clause-answer
returns-in-Err-clause-answer g c =
    config-answer c.args.bytes.now ConfigFault.Toml (codes "Toml: the file isn't UTF-8 text\n") _ _ _ c.answer_fault_of.result
    (inr (c.in-Err.ensures.cases.0, refl)) no-text-line c.answer_fault_of.ensures
