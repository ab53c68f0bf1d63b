-- From what `follow` of bully_follow ensures to what the program answers.
use Rattle.std.proofs.Common.{◌≡◌, ◌⊎◌, inl, inr, ℕ, Some, None, refl}
use Rattle.std.specs.Prelude.{IfSome, IsTrue}
use Rattle.bully_rows.specs.declared.trace.TraceCause.{TraceCause}
use Rattle.bully_rows.specs.declared.trace.TraceFault.{TraceFault}
use Rattle.bully_rows.specs.Rows.{IsOfWriting, is_of_form}
use Rattle.bully_trace.specs.declared.verdict.Verdict.{Verdict}
use Rattle.bully_follow.specs.Followed.{IsFollowedAs, IsFollowFault}
use Rattle.bully.specs.Answer.{KnownBytes, Tells, row_line, stop_line, stop_of, verdict_status}
use Rattle.bully.specs.FollowAnswer.{IsFollowAnswer}
use Rattle.bully.specs.declared.telling.Stop.{Stop}
use Rattle.bully.proofs.KnownBytesLemmas.{keeps-refl}

pub followed-answer : (known errors : KnownBytes) (verdict : Verdict) (status : ℕ) → IsFollowedAs known verdict → status ≡ verdict_status verdict → IfSome known (λ bytes. IsFollowAnswer bytes errors errors status)
followed-answer None errors verdict status followed done = tt
followed-answer (Some bytes) errors verdict status followed done = inl (verdict, followed, keeps-refl errors, done)

-- a fault of form was told, or there was no memory for its line
form-told : (known errors errors' : KnownBytes) (fault : TraceFault) (status : ℕ) → IsFollowFault known fault → (IsTrue (is_of_form fault.cause)) → (IsOfWriting fault → ⊥)
    → (((status ≡ 3) × Tells errors errors' (row_line fault)) ⊎ ((status ≡ 4) × Tells errors errors' (stop_line Stop.OutOfMemory)))
    → IfSome known (λ bytes. IsFollowAnswer bytes errors errors' status)
form-told None errors errors' fault status ends form other told = tt
form-told (Some bytes) errors errors' fault status (inr writing) form other told = absurd (other writing)
form-told (Some bytes) errors errors' fault status (inl ends) form other (inl (done, line)) = inr (inl (fault, ends.first form, line, done))
form-told (Some bytes) errors errors' fault status (inl ends) form other (inr (done, line)) = inr (inr (Stop.OutOfMemory, line, done))

-- reading, writing or memory failed
stop-told : (known errors errors' : KnownBytes) (stop : Stop) (status : ℕ) → (status ≡ 4) × Tells errors errors' (stop_line stop) → IfSome known (λ bytes. IsFollowAnswer bytes errors errors' status)
stop-told None errors errors' stop status told = tt
stop-told (Some bytes) errors errors' stop status (done, line) = inr (inr (stop, line, done))

not-of-writing : (fault : TraceFault) (cause : TraceCause) → fault.cause ≡ cause → IsTrue (is_of_form cause) → IsOfWriting fault → ⊥
not-of-writing fault TraceCause.BadHeader is form (row, inl write) = absurd (cc (is, write))
not-of-writing fault TraceCause.BadHeader is form (row, inr memory) = absurd (cc (is, memory))
not-of-writing fault TraceCause.BadRow is form (row, inl write) = absurd (cc (is, write))
not-of-writing fault TraceCause.BadRow is form (row, inr memory) = absurd (cc (is, memory))
not-of-writing fault TraceCause.TooManyRows is form (row, inl write) = absurd (cc (is, write))
not-of-writing fault TraceCause.TooManyRows is form (row, inr memory) = absurd (cc (is, memory))
not-of-writing fault TraceCause.Read is form writing = absurd (cc form)
not-of-writing fault TraceCause.Write is form writing = absurd (cc form)
not-of-writing fault TraceCause.OutOfMemory is form writing = absurd (cc form)

pub unfollowed-answer : (cause : TraceCause) (known errors errors' : KnownBytes) (fault : TraceFault) (status : ℕ) → fault.cause ≡ cause → IsFollowFault known fault
    → (stop_of fault.cause ≡ None → ((status ≡ 3) × Tells errors errors' (row_line fault)) ⊎ ((status ≡ 4) × Tells errors errors' (stop_line Stop.OutOfMemory)))
    → ((stop : Stop) → stop_of fault.cause ≡ Some stop → (status ≡ 4) × Tells errors errors' (stop_line stop))
    → IfSome known (λ bytes. IsFollowAnswer bytes errors errors' status)
unfollowed-answer TraceCause.BadHeader known errors errors' fault status is ends form other = form-told known errors errors' fault status ends (rw is refl) (not-of-writing fault TraceCause.BadHeader is refl) (form (rw is refl))
unfollowed-answer TraceCause.BadRow known errors errors' fault status is ends form other = form-told known errors errors' fault status ends (rw is refl) (not-of-writing fault TraceCause.BadRow is refl) (form (rw is refl))
unfollowed-answer TraceCause.TooManyRows known errors errors' fault status is ends form other = form-told known errors errors' fault status ends (rw is refl) (not-of-writing fault TraceCause.TooManyRows is refl) (form (rw is refl))
unfollowed-answer TraceCause.Read known errors errors' fault status is ends form other = stop-told known errors errors' Stop.Read status (other Stop.Read (rw is refl))
unfollowed-answer TraceCause.Write known errors errors' fault status is ends form other = stop-told known errors errors' Stop.Write status (other Stop.Write (rw is refl))
unfollowed-answer TraceCause.OutOfMemory known errors errors' fault status is ends form other = stop-told known errors errors' Stop.OutOfMemory status (other Stop.OutOfMemory (rw is refl))
