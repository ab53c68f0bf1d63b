-- A reader that keeps what it gave last, and the line at which a row of it starts.
use Rattle.std.specs.Prelude.{◌≡◌, ℕ, ◌+◌, ◌-◌, ◌^◌, ◌<◌, ◌≤◌, ◌==◌, ◌&&◌, Bool, not, List, [], ◌∷◌, length, take}
use Rattle.std.specs.Prelude.{slice_index, count_by, get_or, nat_le, if◌then◌else◌}
use Rattle.bully_account.specs.declared.TheConstants.{BYTES_KEPT}
use Rattle.bully_account.specs.declared.tail.TailReader.{TailReader}

-- the reader underneath
abbrev pub source_of : {R : Type 0} → TailReader R → R
source_of tail = tail.reader

-- the bytes that were given last
abbrev pub last_of : {R : Type 0} → TailReader R → List ℕ
last_of tail = take tail.count tail.last

-- how many bytes were given before them, and with them
abbrev pub before_of : {R : Type 0} → TailReader R → ℕ
before_of tail = tail.before

abbrev pub end_of : {R : Type 0} → TailReader R → ℕ
end_of tail = tail.before + tail.count

-- nothing more was given when it was asked for last
abbrev pub is_at_end : {R : Type 0} → TailReader R → Bool
is_at_end tail = tail.is_at_end

-- so many bytes were asked for, and these were given: as many of the first as there is room for are kept, and where
-- they stand; or that there are no more
pub record Notes {R : Type 0} (asked : ℕ) (given : List ℕ) (old new : TailReader R) : Type 0 where
  pub last : 0 < length given → last_of new ≡ take BYTES_KEPT given
  pub before : 0 < length given → end_of old < 2 ^ 64 → before_of new ≡ end_of old
  pub end : 0 < asked → is_at_end new ≡ (length given == 0)

-- the byte before which there are so many others is kept as a line feed that ended a line; where there was nothing
-- more, it was the end of the input that ended the last row
abbrev pub ends_line : {R : Type 0} → TailReader R → ℕ → Bool
ends_line tail place =
    not tail.is_at_end && nat_le tail.before place && (slice_index (last_of tail) (place - tail.before) == 10)

-- how many line feeds there are in a text
abbrev pub feeds : List ℕ → ℕ
feeds text = count_by (λ byte. byte == 10) text

-- and within fields
abbrev pub feeds_within : List (List ℕ) → ℕ
feeds_within [] = 0
feeds_within (field ∷ fields) = feeds field + feeds_within fields

-- the line at which a row starts that ends in this line: less the line feed that ended it, if one did, and those within
-- its fields
abbrev pub start_line : ℕ → Bool → List (List ℕ) → ℕ
start_line line ended fields = line - (if ended then 1 else 0) - feeds_within fields

-- the last of the fields; of none it is empty
abbrev pub last_field : List (List ℕ) → List ℕ
last_field fields = get_or fields (length fields - 1) []
