-- A log that is followed by one row more, and why it isn't.
use Rattle.std.proofs.Common.{◌≡◌, ◌≢◌, ◌≤◌, ◌⊎◌, ◌+◌, ◌++◌, ℕ, Bool, true, false, List, [], ◌∷◌, Some, Result, Ok, Err, inl, inr, map, length-append, append_assoc, append-nil, refl, sym, ap, subst, arith, ◌∙◌, IfErr, OnOk}
use Rattle.std.proofs.lemmas.List.{map-append}
use Rattle.bully_base.specs.Setup.{Setup}
use Rattle.bully_replica.specs.RowReplica.{FailsAt, FailsBehind, FailsOutside, Follows, RowReplicaState, FollowsUpTo, Stops, StopsAt, row_in}
use Rattle.bully_replica.specs.Replica.{HasLearned, ReplicaState}
use Rattle.bully_replica.specs.declared.row_replica.LearnFault.{LearnFault}
use Rattle.bully_replica.proofs.LogLemmas.{taken_setup}
use Rattle.bully_rows.specs.Headers.{Record}
use Rattle.bully_rows.specs.RecordsLeft.{IsOutside, ReadSoFar, Takes}
use Rattle.bully_rows.specs.Rows.{row_of, is_of_form}
use Rattle.bully_rows.specs.declared.TheConstants.{ROWS_MAX}
use Rattle.bully_rows.specs.declared.header.Version.{Version}
use Rattle.bully_rows.specs.declared.trace.TraceCause.{TraceCause}
use Rattle.bully_rows.specs.declared.trace.TraceFault.{TraceFault}
use Rattle.bully_rows.specs.Feeding.{AllTaken, AreTakenBy, IsNext, IsUnreadable, StopsBehind, StopsNext}
use Rattle.bully_rows.proofs.FeedingLemmas.{kept-by-all}

-- before any of the records
pub follows_none : (records : List Record) (f : RowReplicaState) → FollowsUpTo records f f records
follows_none records f = record {
  rows = [];
  read = [];
  parts = refl;
  mean = refl;
  counted = omega arith;
  version = refl;
  setup = refl;
  learned = λ earlier has. subst (HasLearned f.replica) (sym (append-nil earlier)) has;
}

same-meaning : (r s : ReplicaState) (fields : Record) → s.version ≡ r.version → s.world.setup ≡ r.world.setup → row_in r fields ≡ row_in s fields
same-meaning r s fields version setup = ap (λ (v : Version). row_of v r.world.setup fields) (sym version) ∙ ap (λ (x : Setup). row_of s.version x fields) (sym setup)

-- one record more
pub follows_more : (records : List Record) (before mid after : RowReplicaState) (fields : Record) (rest : List Record)
    → FollowsUpTo records before mid (fields ∷ rest) → Follows fields mid after → FollowsUpTo records before after rest
follows_more records before mid after fields rest up ((row, told, learns), room, counted) = record {
  rows = up.rows ++ row ∷ [];
  read = up.read ++ fields ∷ [];
  parts = up.parts ∙ sym (append_assoc up.read (fields ∷ []) rest);
  mean = map-append (row_in before.replica) up.read (fields ∷ []) ∙ ap (λ front. front ++ map (row_in before.replica) (fields ∷ [])) up.mean
      ∙ ap (λ q. map Some up.rows ++ q ∷ []) (same-meaning before.replica mid.replica fields up.version up.setup ∙ told) ∙ sym (map-append Some up.rows (row ∷ []));
  counted = omega (arith, counted, up.counted, length-append up.rows (row ∷ []));
  version = learns.version ∙ up.version;
  setup = taken_setup row mid.replica.world after.replica.world learns.taken ∙ up.setup;
  learned = λ earlier has. subst (HasLearned after.replica) (append_assoc earlier up.rows (row ∷ [])) (learns.learned (earlier ++ up.rows) (up.learned earlier has));
}

-- the reader has given as many as a trace has
abbrev pub HasGivenAll : ReadSoFar → LearnFault → Type 0
HasGivenAll reader fault = (fault ≡ LearnFault.Form TraceCause.TooManyRows) × (reader.number ≡ ROWS_MAX + 1)

-- a row that can't be read, or that isn't learned after those so far
pub stops_at : (before after : ReadSoFar) (f : RowReplicaState) (left : List Record) (fault : LearnFault) → before.records ≡ Some left → FailsAt before after f fault
    → StopsAt left f fault ⊎ HasGivenAll before fault
stops_at before after f left fault known (inl (inl read)) = inl (inl read)
stops_at before after f left fault known (inl (inr (inl memory))) = inl (inr (inl memory))
stops_at before after f left fault known (inl (inr (inr many))) = inr many
stops_at before after f left fault known (inr (takes, fails)) = inl (inr (inr (by_left left known)))
  where
    by_left : (left : List Record) → before.records ≡ Some left → (fields : Record) × (rest : List Record) × (left ≡ fields ∷ rest) × FailsBehind fields f fault
    by_left [] none = let found : true ≡ false = rw none at takes in absurd (cc found)
    by_left (first ∷ rest) some =
        let is : (true ≡ true) × (after.fields ≡ first) × (after.records ≡ Some rest) = rw some at takes in
        (first, rest, refl, subst (λ fields. FailsBehind fields f fault) is.1 fails)

-- how far a reader has come, and the replica with it
abbrev pub IsFollowedTo : ReadSoFar → RowReplicaState → ReadSoFar → RowReplicaState → Type 0
IsFollowedTo reader before now f = (records : List Record) → reader.records ≡ Some records → (left : List Record) × (now.records ≡ Some left) × FollowsUpTo records before f left

pub followed_more : (reader mid now : ReadSoFar) (before f after : RowReplicaState) (found : Bool) → found ≡ true → Takes mid.records now.records found now.fields → Follows now.fields f after
    → IsFollowedTo reader before mid f → IsFollowedTo reader before now after
followed_more reader mid now before f after found is takes follows so_far = λ records known.
    let (left, there, up) = so_far records known in
    by_left records left there up
  where
    by_left : (records left : List Record) → mid.records ≡ Some left → FollowsUpTo records before f left → (left : List Record) × (now.records ≡ Some left) × FollowsUpTo records before after left
    by_left records [] none up = let no : found ≡ false = rw none at takes in absurd (cc (is, no))
    by_left records (first ∷ rest) some up =
        let (one, same, left) : (found ≡ true) × (now.fields ≡ first) × (now.records ≡ Some rest) = rw some at takes in
        (rest, left, follows_more records before f after first rest up (subst (λ fields. Follows fields f after) same follows))

-- where nothing is left, all of it is followed
pub followed_all : (reader mid now : ReadSoFar) (before f : RowReplicaState) (found : Bool) → found ≡ false → Takes mid.records now.records found now.fields
    → IsFollowedTo reader before mid f → (records : List Record) → reader.records ≡ Some records → FollowsUpTo records before f []
followed_all reader mid now before f found is takes so_far records known =
    let (left, there, up) = so_far records known in
    by_left left there up
  where
    by_left : (left : List Record) → mid.records ≡ Some left → FollowsUpTo records before f left → FollowsUpTo records before f []
    by_left [] none up = up
    by_left (first ∷ rest) some up =
        let (one, same, left) : (found ≡ true) × (now.fields ≡ first) × (now.records ≡ Some rest) = rw some at takes in
        absurd (cc (is, one))

-- ---- one row, and each of those that are left

-- what is done with a row, why it isn't, and what a fault of the reader is told as
abbrev LearnsRow : ReadSoFar → RowReplicaState → RowReplicaState → Type 0
LearnsRow reader f after = Follows reader.fields f after

abbrev RefusesRow : ReadSoFar → RowReplicaState → RowReplicaState → LearnFault → Type 0
RefusesRow reader f after fault = FailsBehind reader.fields f fault × (after ≡ f)

abbrev TellsForm : TraceFault → LearnFault → Type 0
TellsForm fault told = told ≡ LearnFault.Form fault.cause

outside : (cause : TraceCause) (reader : ReadSoFar) → is_of_form cause ≡ false → cause ≢ TraceCause.Write → FailsOutside reader (LearnFault.Form cause)
outside TraceCause.BadHeader reader form write = absurd (cc form)
outside TraceCause.BadRow reader form write = absurd (cc form)
outside TraceCause.TooManyRows reader form write = absurd (cc form)
outside TraceCause.Read reader form write = inl refl
outside TraceCause.Write reader form write = absurd (write refl)
outside TraceCause.OutOfMemory reader form write = inr (inl refl)

unreadable : (reader : ReadSoFar) (fault : TraceFault) → IsUnreadable reader fault → FailsOutside reader (LearnFault.Form fault.cause)
unreadable reader fault is = by_why is.why
  where
    by_why : IsOutside fault ⊎ ((fault.cause ≡ TraceCause.TooManyRows) × (reader.number ≡ ROWS_MAX + 1)) → FailsOutside reader (LearnFault.Form fault.cause)
    by_why (inl (form, write, memory)) = outside fault.cause reader form write
    by_why (inr (many, number)) = inr (inr (ap LearnFault.Form many, number))

-- why the next row isn't learned
fails : (reader now : ReadSoFar) (f after : RowReplicaState) (fault : LearnFault) → StopsNext RefusesRow TellsForm reader f now after fault → FailsAt reader now f fault
fails reader now f after fault (inl (read, is, same, unchanged)) = rw same (inl (unreadable reader read is))
fails reader now f after fault (inr (next, (refused, unchanged))) = inr (next.takes, refused)

stays : (reader now : ReadSoFar) (f after : RowReplicaState) (fault : LearnFault) → StopsNext RefusesRow TellsForm reader f now after fault → after ≡ f
stays reader now f after fault (inl (read, is, same, unchanged)) = unchanged
stays reader now f after fault (inr (next, (refused, unchanged))) = unchanged

-- how far a reader has come, and the replica with it, each with its count
abbrev IsCountedTo : ReadSoFar → RowReplicaState → ReadSoFar → RowReplicaState → Type 0
IsCountedTo reader before now f = IsFollowedTo reader before now f × (before.rows ≤ f.rows) × (reader.number + f.rows ≡ before.rows + now.number)

counted_to : (n : ℕ) (reader now : ReadSoFar) (before f : RowReplicaState) → AreTakenBy LearnsRow n reader before now f → IsCountedTo reader before now f
counted_to n reader now before f taken =
    kept-by-all LearnsRow (IsCountedTo reader before) keeps n reader before now f taken ((λ records known. (records, known, follows_none records before)), omega arith, omega arith)
  where
    keeps : (mid now : ReadSoFar) (f after : RowReplicaState) → IsNext mid now → LearnsRow now f after → IsCountedTo reader before mid f → IsCountedTo reader before now after
    keeps mid now f after next follows (so_far, more, counted) = (
      followed_more reader mid now before f after true refl next.takes follows so_far,
      omega (arith, more, follows.2),
      omega (arith, counted, follows.2, next.number),
    )

pub all_followed : (r : Result (Unit {0}) LearnFault) (reader now : ReadSoFar) (before f : RowReplicaState) → OnOk r (AllTaken LearnsRow reader before now f)
    → OnOk r ((records : List Record) → reader.records ≡ Some records → FollowsUpTo records before f [])
all_followed (Ok u) reader now before f (n, mid, taken, last) = followed_all reader mid now before f false refl last (counted_to n reader mid before f taken).0
all_followed (Err fault) reader now before f all = tt

pub part_followed : (r : Result (Unit {0}) LearnFault) (reader now : ReadSoFar) (before f : RowReplicaState)
    → IfErr r (StopsBehind LearnsRow RefusesRow TellsForm reader before now f)
    → IfErr r (λ fault. (records : List Record) → reader.records ≡ Some records → (left : List Record) × FollowsUpTo records before f left × Stops reader before left f fault)
part_followed (Ok u) reader now before f part = tt
part_followed (Err fault) reader now before f (n, mid, between, taken, stops) = λ records known.
    let (so_far, more, counted) = counted_to n reader mid before between taken in
    let (left, there, up) = so_far records known in
    let same : f ≡ between = stays mid now between f fault stops in
    rw same (left, up, by_end left counted (stops_at mid now between left fault there (fails mid now between f fault stops)))
  where
    by_end : (left : List Record) → reader.number + between.rows ≡ before.rows + mid.number → StopsAt left between fault ⊎ HasGivenAll mid fault → Stops reader before left between fault
    by_end left counted (inl at) = inl at
    by_end left counted (inr (many, number)) = inr (many, omega (arith, counted, number))

pub rows_grow : (r : Result (Unit {0}) LearnFault) (reader now : ReadSoFar) (before f : RowReplicaState) → OnOk r (AllTaken LearnsRow reader before now f)
    → IfErr r (StopsBehind LearnsRow RefusesRow TellsForm reader before now f) → before.rows ≤ f.rows
rows_grow (Ok u) reader now before f (n, mid, taken, last) part = (counted_to n reader mid before f taken).1
rows_grow (Err fault) reader now before f all (n, mid, between, taken, stops) =
    let same : f ≡ between = stays mid now between f fault stops in
    rw same (counted_to n reader mid before between taken).1

-- the setup stays
setup_to : (n : ℕ) (reader now : ReadSoFar) (before f : RowReplicaState) → AreTakenBy LearnsRow n reader before now f → f.replica.world.setup ≡ before.replica.world.setup
setup_to n reader now before f taken = kept-by-all LearnsRow (λ now f. f.replica.world.setup ≡ before.replica.world.setup) keeps n reader before now f taken refl
  where
    keeps : (mid now : ReadSoFar) (f after : RowReplicaState) → IsNext mid now → LearnsRow now f after → f.replica.world.setup ≡ before.replica.world.setup → after.replica.world.setup ≡ before.replica.world.setup
    keeps mid now f after next ((row, told, learns), room, counted) same = taken_setup row f.replica.world after.replica.world learns.taken ∙ same

pub setup_stays : (r : Result (Unit {0}) LearnFault) (reader now : ReadSoFar) (before f : RowReplicaState) → OnOk r (AllTaken LearnsRow reader before now f)
    → IfErr r (StopsBehind LearnsRow RefusesRow TellsForm reader before now f) → f.replica.world.setup ≡ before.replica.world.setup
setup_stays (Ok u) reader now before f (n, mid, taken, last) part = setup_to n reader mid before f taken
setup_stays (Err fault) reader now before f all (n, mid, between, taken, stops) =
    ap (λ (f : RowReplicaState). f.replica.world.setup) (stays mid now between f fault stops) ∙ setup_to n reader mid before between taken
