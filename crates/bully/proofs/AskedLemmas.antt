-- From what an action asks for to what the words ask for, and where the trace stands.
use Rattle.std.proofs.Common.{◌≡◌, ◌⊎◌, inl, inr, ℕ, Bool, true, false, List, [], Option, Some, None, arith, refl, subst}
use Rattle.std.specs.Prelude.{IfSome, MatchOption, is_some}
use Rattle.std.specs.Io.KnownBytes.{Appends, Keeps}
use Rattle.bully_cli.specs.Shells.{shell_named}
use Rattle.bully_cli.specs.declared.shells.Shell.{Shell}
use Rattle.bully_cli.specs.Words.{Asked, annotating, checking, completing, drawing, explaining, following, planning, playing, running, upgrading}
use Rattle.bully.specs.Answer.{IsBadWord, IsCheckAnswer, IsShort, KnownBytes, is_given}
use Rattle.bully.specs.BadWords.{shell_line}
use Rattle.bully.specs.AskedAnswer.{IsAnswerFrom, IsAnswerTo, IsUnopened, path_asked}
use Rattle.bully.specs.ConfigAnswer.{IsStopped}
use Rattle.bully.specs.ExplainAnswer.{IsConfigExplained, IsExplainAnswer}
use Rattle.bully.specs.declared.telling.Stop.{Stop}
use Rattle.bully.proofs.AnnotateLemmas.{kept-alone, none-annotated}
use Rattle.bully.proofs.AnswerLemmas.{none-upgraded, stop-case}
use Rattle.bully.proofs.DrawLemmas.{short-answer}
use Rattle.bully.proofs.ExplainLemmas.{unparsed-answer}

-- an answer to one is an answer to the other, where both ask for the same
pub answers-same : (Opens : KnownBytes → Type 0) (one other : Asked) (input output output' errors errors' : KnownBytes) (status : ℕ) → one ≡ other
    → IsAnswerFrom Opens one input output output' errors errors' status → IsAnswerFrom Opens other input output output' errors errors' status
answers-same Opens one other input output output' errors errors' status same answered = subst (λ asked. IsAnswerFrom Opens asked input output output' errors errors' status) same answered

module _ (Opens : KnownBytes → Type 0) (what : Asked) (output output' errors errors' : KnownBytes) (status : ℕ) where
  -- the trace stands on the input
  pub from-input : (input : KnownBytes) → path_asked what ≡ None → IsAnswerTo what input output output' errors errors' status → IsAnswerFrom Opens what input output output' errors errors' status
  from-input input none answered = rw none answered

  -- which can't be opened
  pub unopened : (input : KnownBytes) (path : List ℕ) → path_asked what ≡ Some path → Keeps output output' → IsUnopened path errors errors' status
      → IsAnswerFrom Opens what input output output' errors errors' status
  unopened input path some kept told = rw some (inl (kept, told))

-- the words of `explain`, of a trace of which so much is given
pub explained-to : (file config json : Option (List ℕ)) (given known output output' errors errors' : KnownBytes) (status : ℕ) → given ≡ known
    → MatchOption config (IfSome given (λ bytes. IsExplainAnswer (is_given json) bytes output output' errors errors' status)) (λ _. IsConfigExplained (is_some file) (is_given json) output output' errors errors' status)
    → IsAnswerTo (explaining file config json) known output output' errors errors' status
explained-to file None json given known output output' errors errors' status same answered =
    subst (λ known. IfSome known (λ bytes. IsExplainAnswer (is_given json) bytes output output' errors errors' status)) same answered
explained-to file (Some path) json given known output output' errors errors' status same answered = answered

-- ---- there is no memory for the words

module _ (output output' errors errors' : KnownBytes) (status : ℕ) (short : IsShort output output' errors errors' status) where
  no-write : Stop.OutOfMemory ≡ Stop.Write → ⊥
  no-write e = absurd (grind (arith, e))

  stopped : IsStopped output output' errors errors' status
  stopped = (Stop.OutOfMemory, (λ _. short.0), short.1, short.2)

  short-check : (is_json : Bool) (input : KnownBytes) → IfSome input (λ bytes. IsCheckAnswer is_json bytes output output' errors errors' status)
  short-check is_json None = tt
  short-check true (Some bytes) = inr (inr (Stop.OutOfMemory, (λ _. short.0), (λ e. absurd (no-write e)), short.1, short.2))
  short-check false (Some bytes) = inr (inr (Stop.OutOfMemory, (λ _. short.0), (λ e. absurd (no-write e)), short.1, short.2))

  short-config : (is_file is_json : Bool) → IsConfigExplained is_file is_json output output' errors errors' status
  short-config true is_json = inr short
  short-config false true = inr short
  short-config false false = ([], inr (inr stopped))

  short-shell : (named : Option Shell) → MatchOption named (IsBadWord shell_line output output' errors errors' status ⊎ IsShort output output' errors errors' status)
      (λ shell. ((text : List ℕ) × Appends output output' text × Keeps errors errors' × (status ≡ 0)) ⊎ IsStopped output output' errors errors' status)
  short-shell None = inr short
  short-shell (Some it) = inr stopped

  short-to : (what : Asked) (input : KnownBytes) → IsAnswerTo what input output output' errors errors' status
  short-to (checking file json) input = short-check (is_given json) input
  short-to (explaining file None json) input = unparsed-answer input (is_given json) output output' errors errors' status short.0 (short.2, short.1)
  short-to (explaining file (Some path) json) input = short-config (is_some file) (is_given json)
  short-to (following file json) None = tt
  short-to (following file json) (Some bytes) = inr (inr (Stop.OutOfMemory, short.1, short.2))
  short-to (upgrading file) input =
      none-upgraded input output output' errors errors' status (stop-case input Stop.OutOfMemory output output' errors errors' status (λ _. short.0) (λ e. absurd (no-write e)) (short.2, short.1))
  short-to (annotating file) input =
      none-annotated input output output' errors errors' status (stop-case input Stop.OutOfMemory output output' errors errors' status (λ _. short.0) (λ e. absurd (no-write e)) (short.2, short.1))
      (kept-alone input output output' short.0)
  short-to (drawing words) input = short-answer input words output output' errors errors' status short
  short-to (playing path) input = ([], inr (inr stopped))
  short-to (running path) input = ([], inr (inr (inr stopped)))
  short-to (planning path members old json) input = ([], inr (inr stopped))
  short-to (completing shell) input = short-shell (shell_named shell)

  pub short-from : (Opens : KnownBytes → Type 0) (what : Asked) (input : KnownBytes) → IsAnswerFrom Opens what input output output' errors errors' status
  short-from Opens what input = by_path (path_asked what) refl
    where
      by_path : (path : Option (List ℕ)) → path_asked what ≡ path → IsAnswerFrom Opens what input output output' errors errors' status
      by_path None is = from-input Opens what output output' errors errors' status input is (short-to what input)
      by_path (Some path) is = unopened Opens what output output' errors errors' status input path is short.0 (short.2, inr short.1)
