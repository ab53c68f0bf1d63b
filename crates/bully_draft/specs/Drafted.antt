-- A text in the making.
use Rattle.std.specs.Prelude.{◌≡◌, ℕ, Bool, false, List, [], ◌++◌, ◌==◌, codes, if◌then◌else◌}
use Rattle.std.specs.Fmt.{decimal}
use Rattle.bully_draft.specs.Shown.{ArePlain, lines_text}

-- the text so far, and whether memory was wanting for any of it
pub record Drafted : Type 0 where
  pub text : List ℕ
  pub has_failed : Bool

-- nothing was appended yet
abbrev pub blank : Drafted
blank = record { text = []; has_failed = false }

-- this was appended to what stood there, unless memory is wanting
pub record Appends (old new : Drafted) (part : List ℕ) : Type 0 where
  pub memory : new.has_failed ≡ false → old.has_failed ≡ false
  pub text : new.has_failed ≡ false → new.text ≡ old.text ++ part

-- lines without controls were appended, unless memory is wanting
pub record AppendsLines (old new : Drafted) : Type 0 where
  pub memory : new.has_failed ≡ false → old.has_failed ≡ false
  pub text : new.has_failed ≡ false → (lines : List (List ℕ)) × ArePlain lines
      × (new.text ≡ old.text ++ lines_text lines)

-- how many things of a kind there are: its word with an `s` after it, but for one of them
abbrev pub count_text : ℕ → List ℕ → List ℕ
count_text count kind = decimal count ++ codes " " ++ kind ++ (if count == 1 then [] else codes "s")
