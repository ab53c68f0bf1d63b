-- What is told of a configuration's text, and the text of its sheet.
use Rattle.std.proofs.Common.{◌≡◌, ◌∙◌, false, ℕ, ◌++◌, List, [], ◌∷◌, Option, Some, None, Result, Ok, Err, IfOk, refl, ap, arith, codes}
use Rattle.std.specs.Str.{chars}
use Rattle.toml.specs.Data.{Members}
use Rattle.toml.specs.Errors.{IsMemory}
use Rattle.toml.specs.Parse.{parse_document}
use Rattle.toml.specs.declared.de.error.Error.{Error}
use Rattle.bully_config.specs.Answers.{refusal_of}
use Rattle.bully_config.specs.Values.{values_of}
use Rattle.bully_config.specs.declared.fault.ConfigFault.{ConfigFault}
use Rattle.bully_draft.specs.ConfigTold.{IsConfigText, IsConfigTold, document_head}
use Rattle.bully_draft.specs.Drafted.{Appends, AppendsLines, Drafted, blank}
use Rattle.bully_draft.specs.Shown.{AllPlain, shown}
use Rattle.bully_draft.proofs.DraftLemmas.{appends_then}

-- the first refusal of a document is told
document-told : (text : List ℕ) (ms : Members) (told : Option ConfigFault) → parse_document text ≡ Some ms → told ≡ refusal_of ms → IsConfigTold text told
document-told text ms None is same = (values_of ms, grind (arith, is, same))
document-told text ms (Some fault) is same = grind (arith, is, same)

pub told-of-document : {A E : Type 0} (told : A → Option ConfigFault) (text : List ℕ) (ms : Members) (r : Result A E)
    → parse_document text ≡ Some ms → IfOk r (λ a. told a ≡ refusal_of ms) → IfOk r (λ a. IsConfigTold text (told a))
told-of-document told text ms (Ok a) is same = document-told text ms (told a) is same
told-of-document told text ms (Err e) is same = tt

-- that a text is no document is told
toml-told : (text : List ℕ) (told : Option ConfigFault) → parse_document text ≡ None → told ≡ Some ConfigFault.Toml → IsConfigTold text told
toml-told text None is same = absurd (cc same)
toml-told text (Some fault) is same = grind (arith, is, same)

pub told-of-toml : {A E : Type 0} (told : A → Option ConfigFault) (text : List ℕ) (error : Error) (r : Result A E)
    → (¬ (IsMemory error) → parse_document text ≡ None) → IfOk r (λ a. told a ≡ Some ConfigFault.Toml) → IfOk r (λ a. ¬ (IsMemory error))
    → IfOk r (λ a. IsConfigTold text (told a))
told-of-toml told text error (Ok a) refused same form = toml-told text (told a) (refused form) same
told-of-toml told text error (Err e) refused same form = tt

-- ---- the text of a sheet

-- a document's is one line, which begins so
pub line-text : {a b c : Drafted} (told : Option ConfigFault) (text rest : List ℕ) → text ≡ shown c.text ++ codes "\n" → AllPlain (chars (shown c.text)) → c.has_failed ≡ false → a ≡ blank
    → Appends a b (document_head told) → Appends b c rest → IsConfigText told text
line-text {a} {b} {c} told text rest is plain good begun head behind = record {
  lines = shown c.text ∷ [];
  plain = (plain, tt);
  whole = is;
  one = λ other. refl;
  begins = λ other. (rest, is ∙ ap (λ t. shown t ++ codes "\n") ((appends_then head behind).text good ∙ ap (λ (d : Drafted). d.text ++ (document_head told ++ rest)) begun));
}

-- that of another text has several
pub toml-text : (told : Option ConfigFault) (draft : Drafted) (text : List ℕ) → told ≡ Some ConfigFault.Toml → AppendsLines blank draft → draft.has_failed ≡ false → text ≡ draft.text
    → IsConfigText told text
toml-text told draft text toml appended good same =
    let (lines, are, is) = appended.text good in
    record { lines = lines; plain = are; whole = same ∙ is; one = λ other. absurd (other toml); begins = λ other. absurd (other toml) }
