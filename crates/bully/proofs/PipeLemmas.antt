-- What is written of a lawful trace is found lawful by `check`.
use Rattle.std.proofs.Common.{◌≡◌, ◌∙◌, inl, inr, ℕ, List, length, Option, Some, None, Result, Ok, Err, refl, sym, ap, subst}
use Rattle.std.specs.Io.KnownBytes.{Appends}
use Rattle.bully_base.specs.Setup.{Setup}
use Rattle.bully_calls.specs.declared.event.Event.{Event}
use Rattle.bully_world.specs.World.{World}
use Rattle.bully_rows.specs.ReadBack.{IsTold}
use Rattle.bully_rows.specs.Rows.{records_of, trace_of}
use Rattle.bully_rows.specs.Trace.{Trace}
use Rattle.bully_rows.specs.TraceText.{trace_text}
use Rattle.bully_rows.proofs.ReadBackLemmas.{reads-back}
use Rattle.bully_rows.proofs.ToldTraces.{read-told}
use Rattle.bully_trace.specs.declared.verdict.Verdict.{Verdict}
use Rattle.bully_trace.specs.Verdict.{IsVerdict}
use Rattle.bully_trace.specs.VerdictText.{verdict_text}
use Rattle.bully_trace.proofs.OneVerdictLemmas.{judges-lawful, one-verdict}
use Rattle.bully_annotate.specs.Annotated.{annotated}
use Rattle.bully_annotate.proofs.ToldLemmas.{annotated-told}
use Rattle.bully_config.specs.Answers.{configuration_of, refusal_of}
use Rattle.bully_config.specs.Configuration.{Configuration, IsConfiguration}
use Rattle.bully_config.specs.Values.{values_of}
use Rattle.bully_config.specs.declared.fault.ConfigFault.{ConfigFault}
use Rattle.bully_config.proofs.FactLemmas.{configured}
use Rattle.bully_play.specs.Play.{IsPlay, trace_setup, trace_with}
use Rattle.bully_play.proofs.ToldLemmas.{lawful-told}
use Rattle.toml.specs.Data.{Members}
use Rattle.toml.specs.Parse.{parse_document}
use Rattle.bully.specs.Answer.{verdict_status}
use Rattle.bully.specs.Pipes.{AnnotatedIsLawful, IsCheckedAsLawful, IsCheckedAsPlay, PlayedIsLawful, RunIsLawful}
use Rattle.bully.specs.Wanted.{ReadsAs}

-- ---- a text that means a lawful trace

-- the one verdict on a trace is lawful
judged-lawful : (trace other : Trace) (count : ℕ) (verdict : Verdict) (w v : World) → other ≡ trace → IsVerdict trace (Verdict.Lawful count) w → IsVerdict other verdict v
    → (verdict ≡ Verdict.Lawful count) × (v ≡ w)
judged-lawful trace other count verdict w v same lawful judged = one-verdict trace verdict (Verdict.Lawful count) v w (subst (λ t. IsVerdict t verdict v) same judged) lawful

checked : (bytes : List ℕ) (trace : Trace) (count : ℕ) (w : World) → trace_of (records_of bytes) ≡ Ok trace → IsVerdict trace (Verdict.Lawful count) w → IsCheckedAsLawful bytes trace.setup count w
checked bytes trace count w means lawful output output' errors errors' status (inl (other, verdict, v, reads, judged, text, kept, done)) =
    let same : other ≡ trace = cc (sym reads ∙ means) in
    let one = judged-lawful trace other count verdict w v same lawful judged in
    let told : verdict_text other.setup verdict v ≡ verdict_text trace.setup (Verdict.Lawful count) w = rw same (rw (one.0) (rw (one.1) refl)) in
    inl (subst (Appends output output') told text, kept, done ∙ ap verdict_status one.0)
checked bytes trace count w means lawful output output' errors errors' status (inr (inl (fault, reads, kept, told, done))) = absurd (cc (sym means ∙ reads))
checked bytes trace count w means lawful output output' errors errors' status (inr (inr stopped)) = inr stopped

-- ---- a trace that a text can tell

written-checked : (trace : Trace) (written : List ℕ) (count : ℕ) (w : World) → IsTold trace → IsVerdict trace (Verdict.Lawful count) w → written ≡ trace_text trace → IsCheckedAsLawful written trace.setup count w
written-checked trace written count w told lawful is = checked written trace count w (ap (λ text. trace_of (records_of text)) is ∙ reads-back trace told) lawful

-- ---- plays

within-of : (ms : Members) (refusal : Option ConfigFault) (config : Configuration) → refusal_of ms ≡ refusal
    → ◌≡◌ {A = Result Configuration ConfigFault} (elim refusal [ None ↦ Ok (values_of ms) | Some fault ↦ Err fault ]) (Ok config) → IsConfiguration config
within-of ms None config none is = subst IsConfiguration (cc is) (configured ms none)
within-of ms (Some fault) config some is = absurd (cc is)

document-within : (document : Option Members) (config : Configuration) → ◌≡◌ {A = Result Configuration ConfigFault} (elim document [ None ↦ Err ConfigFault.Toml | Some ms ↦ configuration_of ms ]) (Ok config) → IsConfiguration config
document-within None config is = absurd (cc is)
document-within (Some ms) config is = within-of ms (refusal_of ms) config refl is

-- what is read is within the limits
read-within : (bytes : List ℕ) (config : Configuration) → ReadsAs bytes (Ok config) → IsConfiguration config
read-within bytes config (inl (text, is)) = document-within (parse_document bytes) config is
read-within bytes config (inr (none, is)) = absurd (cc is)

play-checked : (bytes written : List ℕ) (config : Configuration) (events : List Event) → ReadsAs bytes (Ok config) → IsPlay config events
    → written ≡ trace_text (trace_with config.setup events) → IsCheckedAsPlay bytes written
play-checked bytes written config events reads play is =
    let within = (read-within bytes config reads).setup in
    let told = lawful-told config.setup events play.answers play.world within play.lawful in
    let lawful = judges-lawful (trace_with config.setup events).version (trace_setup config.setup) events play.answers play.world play.lawful_in_trace in
    (config, events, play.world, reads, play, written-checked (trace_with config.setup events) written (length events) play.world told lawful is)

pub played-lawful : PlayedIsLawful
played-lawful bytes written errors errors' (inl (config, events, reads, play, scheduled, text, kept, done)) = play-checked bytes written config events reads play text
played-lawful bytes written errors errors' (inr (inl (fault, reads, (kept, told, done)))) = absurd (cc done)
played-lawful bytes written errors errors' (inr (inr (stop, kept, told, done))) = absurd (cc done)

pub run-lawful : RunIsLawful
run-lawful bytes written errors errors' (inl (config, events, reads, play, text, kept, done)) = play-checked bytes written config events reads play text
run-lawful bytes written errors errors' (inr (inl (config, fault, reads, is, kept, told, done))) = absurd (cc done)
run-lawful bytes written errors errors' (inr (inr (inl (fault, reads, (kept, told, done))))) = absurd (cc done)
run-lawful bytes written errors errors' (inr (inr (inr (stop, kept, told, done)))) = absurd (cc done)

-- ---- annotated traces

annotated-checked : (bytes written : List ℕ) (trace : Trace) (count : ℕ) (w : World) → trace_of (records_of bytes) ≡ Ok trace → IsVerdict trace (Verdict.Lawful count) w → IsVerdict (annotated trace) (Verdict.Lawful count) w
    → IsTold (annotated trace) → written ≡ trace_text (annotated trace)
    → (setup : Setup) × (count : ℕ) × (w : World) × IsCheckedAsLawful bytes setup count w × IsCheckedAsLawful written setup count w
annotated-checked bytes written trace count w means lawful same told is =
    (trace.setup, count, w, checked bytes trace count w means lawful, written-checked (annotated trace) written count w told same is)

pub annotated-lawful : AnnotatedIsLawful
annotated-lawful bytes written errors errors' (inl (trace, means, inl (count, w, lawful, same, few, text, kept, done))) =
    annotated-checked bytes written trace count w means lawful same (annotated-told trace count w (read-told (records_of bytes) trace means) lawful few) text
annotated-lawful bytes written errors errors' (inl (trace, means, inr (inl (verdict, w, judged, other, kept, told, done)))) = absurd (cc done)
annotated-lawful bytes written errors errors' (inl (trace, means, inr (inr (count, w, lawful, long, kept, told, done)))) = absurd (cc done)
annotated-lawful bytes written errors errors' (inr (inl (fault, reads, kept, told, done), alone)) = absurd (cc done)
annotated-lawful bytes written errors errors' (inr (inr (stop, kept, stopped, told, done), alone)) = absurd (cc done)
