-- What is written on a paper.
use Rattle.std.specs.Prelude.{◌≡◌, ℕ, ◌-◌, ◌^◌, Bool, false, List, [], ◌++◌, codes}
use Rattle.std.specs.Fmt.{decimal, format_spec, styled_decimal}
use Rattle.bully_picture.specs.Title.{Has}

-- a paper: the text on it, and whether memory was wanting for any of it
pub record Written : Type 0 where
  pub text : List ℕ
  pub has_failed : Bool

-- nothing is written yet
abbrev pub blank : Written
blank = record { text = []; has_failed = false }

-- this was written after what stood there, unless memory is wanting
pub record Writes (old new : Written) (part : List ℕ) : Type 0 where
  pub memory : new.has_failed ≡ false → old.has_failed ≡ false
  pub text : new.has_failed ≡ false → new.text ≡ old.text ++ part

-- something was
pub record Extends (old new : Written) : Type 0 where
  pub memory : new.has_failed ≡ false → old.has_failed ≡ false
  pub text : new.has_failed ≡ false → (part : List ℕ) × (new.text ≡ old.text ++ part)

-- this holds of the text, unless memory is wanting
abbrev pub IsIn : Written → (List ℕ → Type 0) → Type 0
IsIn paper Holds = paper.has_failed ≡ false → Holds paper.text

-- something was written, and this holds of the whole text
pub record Gains (old new : Written) (Holds : List ℕ → Type 0) : Type 0 where
  pub extends : Extends old new
  pub holds : IsIn new Holds

-- memory wasn't wanting, and all that was written stands in this text
abbrev pub IsCopied : Written → List ℕ → Type 0
IsCopied paper text = (paper.has_failed ≡ false) × Has text paper.text

-- a number as `{:>7}` has it: with spaces before it, so that it takes seven columns
abbrev pub right_text : ℕ → List ℕ
right_text number = styled_decimal (format_spec 32 3 0 7 (2 ^ 64 - 1)) number

-- what is written of an attribute that is a number
abbrev pub attribute_text : List ℕ → ℕ → List ℕ
attribute_text name number = codes " " ++ name ++ codes "=\"" ++ decimal number ++ codes "\""
