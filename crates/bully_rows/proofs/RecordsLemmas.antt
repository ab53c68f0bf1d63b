-- The records that a reader still gives, against the reads that it makes.
use Rattle.std.proofs.Common.{◌≡◌, ◌⊎◌, inl, inr, ◌+◌, ◌<◌, ◌∙◌, Bool, true, false, ℕ, zero, suc, List, [], ◌∷◌, length, Option, Some, None, arith, refl, sym, ap, add-one}
use Rattle.std.specs.Option.{option_map}
use Rattle.std.proofs.lemmas.Bool.{cases_Bool}
use Rattle.csv.specs.Machine.{Read, ends_at_end, field_after, fields_after, is_end, next_record, step}
use Rattle.csv.specs.Reading.{Reached, ReadRecord, Ready, default_config, has_failed, reader_trim, records_from, source_of}
use Rattle.csv.specs.declared.parser.Config.{Config}
use Rattle.csv.specs.declared.parser.State.{State}
use Rattle.csv.specs.declared.parser.State.TheVariants as st
use Rattle.csv.specs.declared.reader.Reader.{Reader}
use Rattle.csv.specs.declared.reader.Trim.TheVariants as trim
use Rattle.csv.proofs.ReadFacts.{rows-end, rows-more}
use Rattle.bully_rows.specs.RecordsLeft.{ReadsPlain, Takes, records_left}

-- a record takes at least one byte, or is the last of the text
abbrev Shortens : List ℕ → Read → Type 0
Shortens xs p = (length p.2 < length xs) ⊎ ((p.1 ≡ st.StartRecord) × (p.2 ≡ []))

shortens-more : (c : ℕ) (xs : List ℕ) (p : Read) → Shortens xs p → Shortens (c ∷ xs) p
shortens-more c xs p (inl h) = inl (omega arith)
shortens-more c xs p (inr h) = inr h

next-shortens : (cfg : Config) (s : State) (fields : List (List ℕ)) (field xs : List ℕ) (p : Read) → next_record cfg s fields field xs ≡ Some p → Shortens xs p
unfolding next_record
next-shortens cfg s fields field [] p e = elim (cases_Bool (ends_at_end s)) [
  | inl h ↦ inr (grind (arith, e, h))
  | inr h ↦ absurd (grind (arith, e, h))
]
next-shortens cfg s fields field (c ∷ xs) p e = elim (cases_Bool (is_end (step cfg s c).1)) [
  | inl h ↦ inl (grind (arith, e, h))
  | inr h ↦ shortens-more c xs p (next-shortens cfg (step cfg s c).0 (fields_after (step cfg s c).1 fields field) (field_after (step cfg s c).1 c field) xs p (rw h at e))
]

none-left : (cfg : Config) (n : ℕ) → records_from cfg n st.StartRecord [] ≡ []
unfolding records_from next_record
none-left cfg zero = refl
none-left cfg (suc n) = refl

abbrev SameFuel : Config → ℕ → ℕ → Type 0
SameFuel cfg n m = (s : State) (xs : List ℕ) → length xs < n → length xs < m → records_from cfg n s xs ≡ records_from cfg m s xs

after-fuel : (cfg : Config) (n m : ℕ) (xs : List ℕ) (p : Read) → SameFuel cfg n m → length xs < n + 1 → length xs < m + 1 → Shortens xs p
    → records_from cfg n p.1 p.2 ≡ records_from cfg m p.1 p.2
after-fuel cfg n m xs p same h k (inl l) = same p.1 p.2 (omega arith) (omega arith)
after-fuel cfg n m xs p same h k (inr l) = rw (l.0, l.1) (none-left cfg n ∙ sym (none-left cfg m))

next-fuel : (cfg : Config) (n m : ℕ) (s : State) (xs : List ℕ) (o : Option Read) → SameFuel cfg n m → length xs < n + 1 → length xs < m + 1
    → next_record cfg s [] [] xs ≡ o → records_from cfg (suc n) s xs ≡ records_from cfg (suc m) s xs
unfolding records_from
next-fuel cfg n m s xs None same h k e = rw e refl
next-fuel cfg n m s xs (Some p) same h k e =
    rw e (ap (λ rest. p.0 ∷ rest) (after-fuel cfg n m xs p same h k (next-shortens cfg s [] [] xs p e)))

-- fuel beyond the length of the text changes nothing
enough-fuel : (cfg : Config) (n m : ℕ) → SameFuel cfg n m
enough-fuel cfg zero m s xs h k = absurd (omega arith)
enough-fuel cfg (suc n) zero s xs h k = absurd (omega arith)
enough-fuel cfg (suc n) (suc m) s xs h k = next-fuel cfg n m s xs (next_record cfg s [] [] xs) (enough-fuel cfg n m) (omega arith) (omega arith) refl

-- the records of a text, by its next one
records-first : (cfg : Config) (s : State) (xs : List ℕ) (p : Read) → next_record cfg s [] [] xs ≡ Some p
    → records_from cfg (length xs + 1) s xs ≡ p.0 ∷ records_from cfg (length p.2 + 1) p.1 p.2
unfolding records_from
records-first cfg s xs p e = rw (add-one (length xs), e) (ap (λ rest. p.0 ∷ rest) (short xs p (next-shortens cfg s [] [] xs p e)))
  where
    short : (xs : List ℕ) (p : Read) → Shortens xs p → records_from cfg (length xs) p.1 p.2 ≡ records_from cfg (length p.2 + 1) p.1 p.2
    short xs p (inl l) = enough-fuel cfg (length xs) (length p.2 + 1) p.1 p.2 l (omega arith)
    short xs p (inr l) = rw (l.0, l.1) (none-left cfg (length xs) ∙ sym (none-left cfg 1))

records-none : (cfg : Config) (s : State) (xs : List ℕ) → next_record cfg s [] [] xs ≡ None → records_from cfg (length xs + 1) s xs ≡ []
unfolding records_from
records-none cfg s xs e = rw (add-one (length xs), e) refl

-- the first of the records of a text is the one that a read took
first-taken : (cfg : Config) (s s2 : State) (y z : List ℕ) (fields : List (List ℕ)) (after : Option (List ℕ)) → after ≡ Some z → Reached cfg s y (fields ∷ []) s2 z
    → Takes (Some (records_from cfg (length y + 1) s y)) (option_map (λ bytes. records_from cfg (length bytes + 1) s2 bytes) after) true fields
unfolding Reached
first-taken cfg s s2 y z fields after at_z reached =
    let (p, next, is, end) = reached in
    rw (records-first cfg s y p next, at_z, ← end.0, ← end.1) (refl, is, refl)

at-start : (cfg : Config) (s : State) (y : List ℕ) → Reached cfg s y [] s y
unfolding Reached
at-start cfg s y = (refl, refl)

-- a read of a plain reader takes the first of the records that it still gives, or finds none
pub takes-read : {R : Type 0} (rem : R → Option (List ℕ)) (a b : Reader R) (found : Bool) (fields : List (List ℕ)) → a.config ≡ default_config
    → ReadRecord rem a b found fields → Takes (records_left rem a) (records_left rem b) found fields
takes-read {R = R} rem a b found fields plain r = known (source_of rem a) found refl r
  where
    found-some : (y : List ℕ) → source_of rem a ≡ Some y → ReadRecord rem a b true fields → Takes (Some (records_from default_config (length y + 1) a.state y)) (records_left rem b) true fields
    found-some y e r =
        let m = rows-more rem a b fields default_config a.state y y [] plain e (at-start default_config a.state y) r in
        first-taken default_config a.state b.state y m.0 fields (source_of rem b) m.1 m.2

    found-none : (y : List ℕ) → source_of rem a ≡ Some y → ReadRecord rem a b false fields → Takes (Some (records_from default_config (length y + 1) a.state y)) (records_left rem b) false fields
    found-none y e r = rw (records-none default_config a.state y (rows-end rem a b fields default_config y plain e r)) refl

    known : (o : Option (List ℕ)) (found : Bool) → source_of rem a ≡ o → ReadRecord rem a b found fields
        → Takes (option_map (λ bytes. records_from default_config (length bytes + 1) a.state bytes) o) (records_left rem b) found fields
    known None found e r = tt
    known (Some y) true e r = found-some y e r
    known (Some y) false e r = found-none y e r

-- the same of a reader that reads plainly where no read of it has failed
pub takes-left : {R : Type 0} (rem : R → Option (List ℕ)) (a b : Reader R) (found : Bool) (fields : List (List ℕ)) → ReadsPlain a
    → (reader_trim a ≡ trim.None → Ready a → ReadRecord rem a b found fields) → Takes (records_left rem a) (records_left rem b) found fields
takes-left rem a b found fields plain r = elim (cases_Bool (has_failed a)) [
  | inl failed ↦ rw failed tt
  | inr going ↦ takes-read rem a b found fields (plain going).0 (r (plain going).1 (plain going).2)
]
