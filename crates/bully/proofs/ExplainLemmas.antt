-- From what `explain` of bully_explain ensures to what the program answers.
use Rattle.std.proofs.Common.{◌≡◌, ◌≢◌, ◌⊎◌, ◌++◌, inl, inr, ℕ, Bool, true, false, List, [], ◌∷◌, codes, subst, Some, None, Ok, Err, refl, ap, arith}
use Rattle.std.specs.Prelude.{IfSome}
use Rattle.std.specs.Str.{IsUtf8, chars}
use Rattle.std.specs.Io.KnownBytes.{Appends, Keeps}
use Rattle.bully_world.specs.State.{world_of}
use Rattle.bully_rows.specs.declared.trace.TraceCause.{TraceCause}
use Rattle.bully_rows.specs.declared.trace.TraceFault.{TraceFault}
use Rattle.bully_trace.specs.declared.verdict.Verdict.{Verdict}
use Rattle.bully_rows.specs.RecordsLeft.{EndsReading}
use Rattle.bully_rows.specs.Rows.{OfTrace, is_of_form}
use Rattle.bully_config.specs.Configuration.{Configuration}
use Rattle.bully_config.specs.declared.fault.ConfigFault.{ConfigFault}
use Rattle.bully_account.specs.declared.showing.NodeSheet.{NodeSheet}
use Rattle.bully_draft.specs.ConfigTold.{IsConfigText}
use Rattle.bully_explain.specs.SheetText.{IsFormText, IsSheet}
use Rattle.bully_draft.specs.Shown.{AllPlain, shown}
use Rattle.bully_draft.proofs.ShownLemmas.{shown-plain}
use Rattle.bully.specs.Answer.{KnownBytes, Tells, row_line, stop_line, stop_of, verdict_status}
use Rattle.bully.specs.ConfigAnswer.{IsStopped}
use Rattle.bully.specs.ExplainAnswer.{IsConfigExplainAnswer, IsExplainAnswer, sheet_told}
use Rattle.bully.specs.RefusalText.{refusal_line}
use Rattle.bully.specs.Wanted.{ReadsAs}
use Rattle.bully.specs.declared.refusals.Refusal.{Refusal}
use Rattle.bully.specs.declared.telling.Stop.{Stop}
use Rattle.bully.proofs.KnownBytesLemmas.{keeps-refl, keeps-same}

-- the sheet of the verdict was written
pub explained-answer : {E : Type 0} (contents : E → KnownBytes) (remaining : KnownBytes) (is_json : Bool) (verdict : Verdict) (sheets : List NodeSheet) (sheet : List ℕ) (output output' : KnownBytes)
    (errors errors' : E) (status : ℕ)
    → OfTrace remaining (IsSheet verdict sheets sheet)
    → (((status ≡ verdict_status verdict) × Appends output output' (sheet_told is_json verdict sheet) × (errors' ≡ errors)) ⊎ IsStopped output output' (contents errors) (contents errors') status)
    → IfSome remaining (λ bytes. IsExplainAnswer is_json bytes output output' (contents errors) (contents errors') status)
explained-answer contents None is_json verdict sheets sheet output output' errors errors' status explained written = tt
explained-answer contents (Some bytes) is_json verdict sheets sheet output output' errors errors' status (trace, is, e) (inl (done, appended, same)) =
    inl (trace, verdict, world_of e.explains.world, sheet, is, e.explains.judged, e.begins, appended, keeps-same _ _ (ap contents same), done)
explained-answer contents (Some bytes) is_json verdict sheets sheet output output' errors errors' status (trace, is, e) (inr (stop, kept, told, stopped)) =
    inr (inr (stop, kept, (λ _. rw is refl), told, stopped))

-- the first faulty row was told with its sheet, or there was no memory for that
pub form-answer : (remaining : KnownBytes) (is_json : Bool) (fault : TraceFault) (text : List ℕ) (output errors errors' : KnownBytes) (status : ℕ)
    → EndsReading remaining fault × IsFormText fault text → is_of_form fault.cause ≡ true
    → (((status ≡ 3) × Tells errors errors' (row_line fault ++ text)) ⊎ ((status ≡ 4) × Tells errors errors' (stop_line Stop.OutOfMemory)))
    → IfSome remaining (λ bytes. IsExplainAnswer is_json bytes output output errors errors' status)
form-answer None is_json fault text output errors errors' status ends form told = tt
form-answer (Some bytes) is_json fault text output errors errors' status ends form (inl (done, told)) =
    inr (inl (fault, text, ends.0.first form, ends.1, keeps-same _ _ refl, told, done))
form-answer (Some bytes) is_json fault text output errors errors' status ends form (inr (done, told)) =
    inr (inr (Stop.OutOfMemory, (λ _. keeps-same _ _ refl), (λ e. absurd (grind (arith, e))), told, done))

-- there was no memory for the words
pub unparsed-answer : (remaining : KnownBytes) (is_json : Bool) (output output' errors errors' : KnownBytes) (status : ℕ) → Keeps output output'
    → (status ≡ 4) × Tells errors errors' (stop_line Stop.OutOfMemory) → IfSome remaining (λ bytes. IsExplainAnswer is_json bytes output output' errors errors' status)
unparsed-answer None is_json output output' errors errors' status kept told = tt
unparsed-answer (Some bytes) is_json output output' errors errors' status kept (done, told) =
    inr (inr (Stop.OutOfMemory, (λ _. kept), (λ e. absurd (grind (arith, e))), told, done))

-- nothing was explained: the reader failed, or memory was short
pub untold-answer : (cause : TraceCause) (remaining : KnownBytes) (is_json : Bool) (output errors errors' : KnownBytes) (status : ℕ) → is_of_form cause ≡ false → cause ≢ TraceCause.Write
    → ((stop : Stop) → stop_of cause ≡ Some stop → (status ≡ 4) × Tells errors errors' (stop_line stop))
    → IfSome remaining (λ bytes. IsExplainAnswer is_json bytes output output errors errors' status)
untold-answer cause None is_json output errors errors' status form read other = tt
untold-answer TraceCause.BadHeader (Some bytes) is_json output errors errors' status form read other = absurd (cc form)
untold-answer TraceCause.BadRow (Some bytes) is_json output errors errors' status form read other = absurd (cc form)
untold-answer TraceCause.TooManyRows (Some bytes) is_json output errors errors' status form read other = absurd (cc form)
untold-answer TraceCause.Read (Some bytes) is_json output errors errors' status form read other =
    inr (inr (Stop.Read, (λ _. keeps-refl output), (λ e. absurd (grind (arith, e))), (other Stop.Read refl).1, (other Stop.Read refl).0))
untold-answer TraceCause.Write (Some bytes) is_json output errors errors' status form read other = absurd (read refl)
untold-answer TraceCause.OutOfMemory (Some bytes) is_json output errors errors' status form read other =
    unparsed-answer (Some bytes) is_json output output errors errors' status (keeps-refl output) (other Stop.OutOfMemory refl)

-- ---- the answers to `explain --config`

-- that the configuration has no fault was written
pub free-answer : {E : Type 0} (contents : E → KnownBytes) (bytes : List ℕ) (config : Configuration) (text : List ℕ) (output output' : KnownBytes) (errors errors' : E) (status : ℕ)
    → ReadsAs bytes (Ok config) → IsConfigText None text
    → (((status ≡ 0) × Appends output output' text × (errors' ≡ errors)) ⊎ ((status ≡ 4) × Tells (contents errors) (contents errors') (stop_line Stop.Write)))
    → IsConfigExplainAnswer bytes output output' (contents errors) (contents errors') status
free-answer contents bytes config text output output' errors errors' status reads lines (inl (done, appended, same)) =
    inl (config, text, reads, lines, appended, keeps-same _ _ (ap contents same), done)
free-answer contents bytes config text output output' errors errors' status reads lines (inr (stopped, told)) =
    inr (inr (Stop.Write, (λ other. absurd (other refl)), told, stopped))

-- memory was short
pub short-answer : (bytes : List ℕ) (output errors errors' : KnownBytes) (status : ℕ) → (status ≡ 4) × Tells errors errors' (stop_line Stop.OutOfMemory)
    → IsConfigExplainAnswer bytes output output errors errors' status
short-answer bytes output errors errors' status (done, told) = inr (inr (Stop.OutOfMemory, (λ _. keeps-refl output), told, done))

-- the fault was told with its sheet, or there was no memory for that
pub config-answer : (bytes : List ℕ) (fault : ConfigFault) (text : List ℕ) (output errors errors' : KnownBytes) (status : ℕ) → ReadsAs bytes (Err fault) → IsConfigText (Some fault) text
    → (((status ≡ 3) × Tells errors errors' (refusal_line (Refusal.Config fault) ++ text)) ⊎ ((status ≡ 4) × Tells errors errors' (stop_line Stop.OutOfMemory)))
    → IsConfigExplainAnswer bytes output output errors errors' status
config-answer bytes fault text output errors errors' status reads lines (inl (done, told)) = inr (inl (fault, text, reads, lines, keeps-refl output, told, done))
config-answer bytes fault text output errors errors' status reads lines (inr short) = short-answer bytes output errors errors' status short

-- the sheet of a file that has no text is one line
abbrev no_text : List ℕ
no_text = codes "Toml: the file isn't UTF-8 text"

no-text-shown : shown no_text ≡ no_text
unfolding chars lib.Utf8.encode
no-text-shown = refl

no-text-letters : IsUtf8 no_text
unfolding lib.Utf8.encode
no-text-letters = (no_text, (refl, refl))

pub no-text-line : IsConfigText (Some ConfigFault.Toml) (no_text ++ codes "\n")
no-text-line = record {
  lines = no_text ∷ [];
  plain = (subst (λ t. AllPlain (chars t)) no-text-shown (shown-plain no_text no-text-letters), tt);
  whole = refl;
  one = λ other. absurd (other refl);
  begins = λ other. absurd (other refl);
}
