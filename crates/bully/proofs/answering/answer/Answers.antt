use Rattle.std.proofs.Common.{◌⊎◌, inl, inr, None, Some, ap, sym, subst, map, codes}
use Rattle.clap.specs.Words.{fault_of}
use Rattle.bully_cli.specs.Words.{Asked, ParsesAs, checking, program, texts_of}
use Rattle.bully.specs.Inputs.{bounded_in}
use Rattle.bully.specs.declared.telling.Stop.{Stop}
use Rattle.bully.proofs.KnownBytesLemmas.{keeps-same}
use Rattle.bully.proofs.AskedLemmas.{answers-same, short-from}
use Rattle.bully_cli.proofs.WordsLemmas.{check-parses, mistake-kind, help-kind}
use Rattle.bully.proofs.answering.answer.Goals as goal

-- a stop at a write is a stop
some_stop : {A : Type 0} {B : Type 0} {C : Stop → Type 0} → A ⊎ (B × C Stop.Write) → A ⊎ (B × (stop : Stop) × C stop)
some_stop (inl shown) = inl shown
some_stop (inr (stopped, told)) = inr (stopped, Stop.Write, told)

-- what `check` alone asks for
abbrev alone : Asked
alone = checking None (Some (codes "false"))

pub returns-in-Err-clause-asked : goal.returns-in-Err-clause-asked
returns-in-Err-clause-asked g c = λ what parses.
    let stopped = c.answer_words.ensures.memory (c.in-Err.ensures.parsed what parses) in
    short-from _ _ _ _ _ (keeps-same _ _ (ap g.W.Write.contents stopped.1), stopped.2, stopped.0) _ what (bounded_in (g.R.Read.remaining c.args.input))

pub returns-in-Err-clause-check : goal.returns-in-Err-clause-check
returns-in-Err-clause-check g c = λ only.
    let stopped = c.answer_words.ensures.memory (c.in-Err.ensures.parsed alone (subst (λ words. ParsesAs words alone) (sym only) check-parses)) in
    short-from _ _ _ _ _ (keeps-same _ _ (ap g.W.Write.contents stopped.1), stopped.2, stopped.0) (λ _. ⊥) alone (bounded_in (g.R.Read.remaining c.args.input))

pub returns-in-Err-clause-mistake : goal.returns-in-Err-clause-mistake
returns-in-Err-clause-mistake g c = λ mistake.
    c.answer_words.ensures.mistake (mistake-kind (fault_of program (map g.S.AsStr.text c.args.words.now)) c.in-Err.error mistake c.in-Err.ensures.fault)

pub returns-in-Err-clause-help : goal.returns-in-Err-clause-help
returns-in-Err-clause-help g c = λ help.
    elim (help-kind (fault_of program (map g.S.AsStr.text c.args.words.now)) c.in-Err.error help c.in-Err.ensures.fault) [
      | inl memory ↦ (let stopped = c.answer_words.ensures.memory memory in inr (stopped.0, Stop.OutOfMemory, stopped.2))
      | inr shown ↦ some_stop (c.answer_words.ensures.help shown)
    ]

pub returns-in-Ok-clause-asked : goal.returns-in-Ok-clause-asked
returns-in-Ok-clause-asked g c = λ what parses.
    answers-same _ (texts_of c.in-Ok.action) what _ _ _ _ _ _ (c.in-Ok.ensures.parsed what parses) c.act.ensures.answer

pub returns-in-Ok-clause-check : goal.returns-in-Ok-clause-check
returns-in-Ok-clause-check g c = λ only.
    answers-same _ (texts_of c.in-Ok.action) alone _ _ _ _ _ _ (c.in-Ok.ensures.parsed alone (subst (λ words. ParsesAs words alone) (sym only) check-parses)) c.act.ensures.answer
