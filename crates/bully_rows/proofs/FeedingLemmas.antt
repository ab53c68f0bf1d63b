-- Rows that are taken one by one, up to where that ends.
use Rattle.std.proofs.Common.{◌≡◌, inl, inr, ◌++◌, ◌∙◌, ℕ, zero, suc, true, false, List, [], ◌∷◌, Option, Some, None, Result, Ok, Err, arith, refl, subst, sym, option_map, IfErr, OnOk}
use Rattle.bully_rows.specs.declared.header.Header.{Header}
use Rattle.bully_rows.specs.declared.trace.Row.{Row}
use Rattle.bully_rows.specs.declared.trace.TraceFault.{TraceFault}
use Rattle.bully_rows.specs.RecordsLeft.{EndsReading, IsUnread, ReadSoFar, rows_left}
use Rattle.bully_rows.specs.declared.trace_feeding.BehindHeader.{BehindHeader}
use Rattle.bully_rows.specs.declared.trace_feeding.TraceFeed.{TraceFeed}
use Rattle.bully_rows.specs.Feeding.{AllTaken, AreTakenBy, IsLast, IsNext, IsTakenSoFar, IsTakenToEnd, IsUnreadable, RefusesNext, StopsBehind, StopsNext, TakesNext}
use Rattle.bully_rows.proofs.TraceLemmas.{header-bad, header-missing, header-read, memory-ends, read-bad, read-end, read-more}

-- what each row that is taken keeps holds behind all of them
pub kept-by-all : {S : Type 0} (takes : ReadSoFar → S → S → Type 0) (I : ReadSoFar → S → Type 0)
    → ((reader now : ReadSoFar) (s after : S) → IsNext reader now → takes now s after → I reader s → I now after)
    → (n : ℕ) (reader : ReadSoFar) (s : S) (now : ReadSoFar) (after : S) → AreTakenBy takes n reader s now after → I reader s → I now after
kept-by-all takes I keeps zero reader s now after (same, as_before) is = subst (λ r. I r after) (sym same) (subst (I reader) (sym as_before) is)
kept-by-all takes I keeps (suc n) reader s now after (mid, between, so_far, next, takes_it) is =
    keeps mid now between after next takes_it (kept-by-all takes I keeps n reader s mid between so_far is)

-- the header, or one row more
pub taken-next : {S : Type 0} (P : Header → List Row → S → Type 0)
    (known : Option (List ℕ)) (reader now : ReadSoFar) (before after : Option (BehindHeader S)) → IsNext reader now → TakesNext P now before after
    → IsTakenSoFar P known reader before → IsTakenSoFar P known now after
taken-next P known reader now None None next takes so_far = absurd takes
taken-next P known reader now None (Some b) next (is, begun) unread =
    ([], header-read known reader now true b.header unread next.takes refl next.number is, begun)
taken-next P known reader now (Some b) None next takes so_far = absurd takes
taken-next P known reader now (Some b) (Some after) next (same, row, is, goes_on) (rows, read, taken) = rw same (
  rows ++ row ∷ [],
  read-more known rows (rows_left b.header reader) (rows_left b.header now) true now.fields row read next.takes refl (omega (arith, next.within)) is refl next.number,
  goes_on b.header rows is (omega (arith, read.number, next.number)) taken,
)

-- the end of the text
pub taken-to-end : {S : Type 0} (P : Header → List Row → S → Type 0) (known : Option (List ℕ)) (reader now : ReadSoFar) (s : Option (BehindHeader S)) → IsLast reader now
    → IsTakenSoFar P known reader s → IsTakenToEnd P known (option_map (λ b. b.sink) s)
taken-to-end P known reader now None last unread = header-missing known reader.records now.records false now.fields unread.records last refl
taken-to-end P known reader now (Some b) last (rows, read, taken) =
    (b.header, rows, read-end known rows (rows_left b.header reader) now.records false now.fields read last refl, omega (arith, read.number, read.within), taken)

-- a row that can't be read
pub unreadable-ends : {S : Type 0} (P : Header → List Row → S → Type 0) (known : Option (List ℕ)) (reader : ReadSoFar) (s : Option (BehindHeader S)) (fault : TraceFault)
    → IsUnreadable reader fault → IsTakenSoFar P known reader s → EndsReading known fault
unreadable-ends P known reader None fault is unread = is.first known unread
unreadable-ends P known reader (Some b) fault is (rows, read, taken) = is.later known rows b.header read

-- a row that isn't taken
pub refused-ends : {S : Type 0} (P : Header → List Row → S → Type 0)
    (known : Option (List ℕ)) (reader now : ReadSoFar) (s : Option (BehindHeader S)) (fault : TraceFault) → IsNext reader now → RefusesNext now s fault
    → IsTakenSoFar P known reader s → EndsReading known fault
refused-ends P known reader now None fault next (inl (none, same)) unread =
    rw same (header-bad known reader.records now.records true now.fields unread.records next.takes refl none)
refused-ends P known reader now None fault next (inr same) unread = rw same (memory-ends known)
refused-ends P known reader now (Some b) fault next (inl (none, same)) (rows, read, taken) =
    rw (same, next.number) (read-bad known rows (rows_left b.header reader) now.records true now.fields read next.takes refl (omega (arith, next.within)) none)
refused-ends P known reader now (Some b) fault next (inr same) so_far = rw same (memory-ends known)

-- ---- all of a text

-- what is done with the next row of a text, and why it isn't
abbrev TakesText : {A S : Type 0} → (A → Header → List Row → S → Type 0) → ReadSoFar → TraceFeed A S → TraceFeed A S → Type 0
TakesText P reader before after = (after.start ≡ before.start) × TakesNext (P before.start) reader before.begun after.begun

abbrev RefusesText : {A S : Type 0} → ReadSoFar → TraceFeed A S → TraceFeed A S → TraceFault → Type 0
RefusesText reader before after fault = RefusesNext reader before.begun fault

-- what was read of it was taken, behind this start
abbrev IsTextSoFar : {A S : Type 0} → (A → Header → List Row → S → Type 0) → Option (List ℕ) → A → ReadSoFar → TraceFeed A S → Type 0
IsTextSoFar P known start reader text = (text.start ≡ start) × IsTakenSoFar (P start) known reader text.begun

text-so-far : {A S : Type 0} (P : A → Header → List Row → S → Type 0)
    (known : Option (List ℕ)) (n : ℕ) (reader now : ReadSoFar) (text after : TraceFeed A S) → text.begun ≡ None → IsUnread known reader
    → AreTakenBy (TakesText P) n reader text now after → IsTakenSoFar (P text.start) known now after.begun
text-so-far {A = A} {S = S} P known n reader now text after none unread taken =
    let (same, so_far) = kept-by-all (TakesText P) (IsTextSoFar P known text.start) keeps n reader text now after taken (refl, rw none unread) in
    so_far
  where
    keeps : (reader now : ReadSoFar) (s after : TraceFeed A S) → IsNext reader now → TakesText P now s after
        → IsTextSoFar P known text.start reader s → IsTextSoFar P known text.start now after
    keeps reader now s after next (same, takes) (as_first, so_far) = (
      same ∙ as_first,
      taken-next (P text.start) known reader now s.begun after.begun next (subst (λ start. TakesNext (P start) now s.begun after.begun) as_first takes) so_far,
    )

pub text-to-end : {A S : Type 0} (P : A → Header → List Row → S → Type 0)
    (known : Option (List ℕ)) (reader now : ReadSoFar) (text after : TraceFeed A S) (r : Result (Unit {0}) TraceFault) → text.begun ≡ None → IsUnread known reader
    → OnOk r (AllTaken (TakesText P) reader text now after) → OnOk r (IsTakenToEnd (P text.start) known (option_map (λ b. b.sink) after.begun))
text-to-end P known reader now text after (Ok u) none unread (n, mid, taken, last) =
    taken-to-end (P text.start) known mid now after.begun last (text-so-far P known n reader mid text after none unread taken)
text-to-end P known reader now text after (Err fault) none unread all = tt

pub text-stops : {A S : Type 0} (P : A → Header → List Row → S → Type 0)
    (known : Option (List ℕ)) (reader now : ReadSoFar) (text after : TraceFeed A S) (r : Result (Unit {0}) TraceFault) → text.begun ≡ None → IsUnread known reader
    → IfErr r (StopsBehind (TakesText P) RefusesText (λ fault same. same ≡ fault) reader text now after) → IfErr r (EndsReading known)
text-stops P known reader now text after (Ok u) none unread stops = tt
text-stops P known reader now text after (Err fault) none unread (n, mid, between, taken, stops) =
    by_cause stops (text-so-far P known n reader mid text between none unread taken)
  where
    by_cause : StopsNext RefusesText (λ fault same. same ≡ fault) mid between now after fault → IsTakenSoFar (P text.start) known mid between.begun → EndsReading known fault
    by_cause (inl (read, unreadable, same, unchanged)) so_far = rw same (unreadable-ends (P text.start) known mid between.begun read unreadable so_far)
    by_cause (inr (next, refuses)) so_far = refused-ends (P text.start) known mid now between.begun fault next refuses so_far
