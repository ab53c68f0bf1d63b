-- The words of a trace and of a verdict, each once: for reading and for writing. Those of events and refusals stand in
-- bully_calls.
use Rattle.std.specs.Prelude.{ℕ, Bool, true, false, List, [], ◌∷◌, Option, Some, None, codes, if◌then◌else◌}
use Rattle.std.specs.Str.{bytes_eq}
use Rattle.bully_base.specs.declared.node.Status.{Status}
use Rattle.bully_base.specs.declared.node.Status.TheVariants.{Down, Election, Reorganization, Normal}
use Rattle.bully_calls.specs.declared.call.Answer.{Answer}
use Rattle.bully_calls.specs.declared.call.Answer.TheVariants.{Done, Yes, No, Failed, Discarded}
use Rattle.bully_calls.specs.declared.call.CallKind.{CallKind}
use Rattle.bully_calls.specs.declared.call.CallKind.TheVariants.{AreYouUp, AreYouNormal, Halt, NewCoordinator, Ready}

abbrev pub status_word : Status → List ℕ
status_word Down = codes "down"
status_word Election = codes "election"
status_word Reorganization = codes "reorganization"
status_word Normal = codes "normal"

-- whether tasks are kept over a crash, as a header says it
abbrev pub keeps_word : Bool → List ℕ
keeps_word true = codes "keep"
keeps_word false = codes "clear"

abbrev pub call_word : CallKind → List ℕ
call_word AreYouUp = codes "are-you-up"
call_word AreYouNormal = codes "are-you-normal"
call_word Halt = codes "halt"
call_word NewCoordinator = codes "new-coordinator"
call_word Ready = codes "ready"

abbrev pub answer_word : Answer → List ℕ
answer_word Done = codes "done"
answer_word Yes = codes "yes"
answer_word No = codes "no"
answer_word Failed = codes "failed"
answer_word Discarded = codes "discarded"

-- the first of these that has the word
abbrev pub first_named : {A : Type 0} → (A → List ℕ) → List ℕ → List A → Option A
first_named word_of word [] = None
first_named word_of word (x ∷ xs) = if bytes_eq word (word_of x) then Some x else first_named word_of word xs

abbrev pub status_named : List ℕ → Option Status
status_named word = first_named status_word word (Down ∷ Election ∷ Reorganization ∷ Normal ∷ [])

abbrev pub call_named : List ℕ → Option CallKind
call_named word = first_named call_word word (AreYouUp ∷ AreYouNormal ∷ Halt ∷ NewCoordinator ∷ Ready ∷ [])

-- what a call is answered where it runs
abbrev pub reply_named : List ℕ → Option Answer
reply_named word = first_named answer_word word (Done ∷ Yes ∷ No ∷ [])

-- what a call that returns brings
abbrev pub outcome_named : List ℕ → Option Answer
outcome_named word = first_named answer_word word (Failed ∷ Discarded ∷ Done ∷ Yes ∷ No ∷ [])

abbrev pub keeps_named : List ℕ → Option Bool
keeps_named word = first_named keeps_word word (true ∷ false ∷ [])
