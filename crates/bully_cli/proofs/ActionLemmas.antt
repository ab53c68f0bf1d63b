-- From what clap's readers give to what the rows ask for.
use Rattle.std.proofs.Common.{◌≡◌, ◌⊎◌, ◌∙◌, inl, inr, refl, sym, ap, arith, List, Option, Some, None, Result, Ok, Err, IfOk, IfErr, MatchResult, option_map, codes, map}
use Rattle.std.specs.Borrow.{Bor}
use Rattle.clap.specs.Words.{Row, Text, all_of, first_of, first_value, kind_of, matched_of, raw_values, rows_of}
use Rattle.clap.specs.declared.error.Error.{Error}
use Rattle.clap.specs.declared.error.kind.ErrorKind.TheVariants as kind
use Rattle.clap.specs.declared.parser.matches.Found.{Found}
use Rattle.clap.proofs.WalkLemmas.{first_value-rows, raw_values-rows}
use Rattle.bully_cli.specs.declared.action.Action.{Action}
use Rattle.bully_cli.specs.Words.{Asked, asked_in, planning, planning_in, planning_of, text_of, texts_of}

-- a value, and the values, that the readers give
abbrev text_now : Bor Text → Text
text_now s = s.now

abbrev texts_now : Bor (List (Bor Text)) → List Text
texts_now s = map text_now s.now

pub value_is : (f : Found) (id : Text) (r : Option (Bor Text)) → option_map text_now r ≡ first_value f id → first_of id (rows_of f) ≡ option_map text_now r
value_is f id r read = sym (read ∙ first_value-rows f id)

module _ (f : Found) where
  values_are : (id : Text) (r : Option (Bor (List (Bor Text)))) → option_map texts_now r ≡ option_map raw_values (matched_of f id) → all_of id (rows_of f) ≡ option_map texts_now r
  values_are id r read = sym (read ∙ raw_values-rows f id)

  nothing-without : (path old json : Option Text) → planning_of path None old json ≡ None
  nothing-without None old json = refl
  nothing-without (Some path) old json = refl

  -- what the values of CONFIG and MEMBER ask for, with these of the options
  abbrev planning_with : Option Text → Option (List Text) → Option Asked
  planning_with path members = planning_of path members (first_of (codes "old") (rows_of f)) (first_of (codes "json") (rows_of f))

  pub no-config-found : (r : Option (Bor Text)) → text_of r ≡ first_of (codes "CONFIG") (rows_of f) → r ≡ None → None ≡ planning_in (rows_of f)
  no-config-found r read is = sym (ap (λ x. planning_with x (all_of (codes "MEMBER") (rows_of f))) (sym read ∙ ap text_of is))

  pub no-member-found : (r : Option (Bor (List (Bor Text)))) → option_map texts_now r ≡ option_map raw_values (matched_of f (codes "MEMBER")) → r ≡ None → None ≡ planning_in (rows_of f)
  no-member-found r read is =
      sym (ap (λ x. planning_with (first_of (codes "CONFIG") (rows_of f)) x) (values_are _ r read ∙ ap (option_map texts_now) is)
      ∙ nothing-without (first_of (codes "CONFIG") (rows_of f)) (first_of (codes "old") (rows_of f)) (first_of (codes "json") (rows_of f)))

  pub words-found : (r : Option (Bor Text)) (s : Option (Bor (List (Bor Text)))) (path : Bor Text) (members : Bor (List (Bor Text))) (kept : List (Bor Text)) (old json : Option (Bor Text))
      → text_of r ≡ first_of (codes "CONFIG") (rows_of f) → r ≡ Some path
      → option_map texts_now s ≡ option_map raw_values (matched_of f (codes "MEMBER")) → s ≡ Some members
      → kept ≡ members.now
      → text_of old ≡ first_of (codes "old") (rows_of f)
      → text_of json ≡ first_of (codes "json") (rows_of f)
      → Some (planning path.now (map text_now kept) (text_of old) (text_of json)) ≡ planning_in (rows_of f)
  words-found r s path members kept old json read is reads are same olds jsons =
      let config : first_of (codes "CONFIG") (rows_of f) ≡ Some path.now = sym read ∙ ap text_of is in
      let names : all_of (codes "MEMBER") (rows_of f) ≡ Some (map text_now members.now) = values_are _ s reads ∙ ap (option_map texts_now) are in
      ap (λ l. Some (planning path.now (map text_now l) (text_of old) (text_of json))) same
      ∙ sym (ap (λ x. planning_with x (all_of (codes "MEMBER") (rows_of f))) config
      ∙ (ap (λ x. planning_with (Some path.now) x) names
      ∙ (ap (λ x. planning_of (Some path.now) (Some (map text_now members.now)) x (first_of (codes "json") (rows_of f))) (sym olds)
      ∙ ap (λ x. planning_of (Some path.now) (Some (map text_now members.now)) (text_of old) x) (sym jsons))))

-- ---- an answer by what the words ask for

-- the answer is what is asked for, or memory was refused
pub answer-asked : (r : Result Action Error) (x y : Option (Text × List Row)) (what : Asked) → x ≡ y → asked_in y ≡ Some what
    → IfOk r (λ a. asked_in x ≡ Some (texts_of a)) → IfErr r (λ e. (kind_of e ≡ kind.OutOfMemory) ⊎ (asked_in x ≡ None))
    → MatchResult r (λ a. texts_of a ≡ what) (λ e. kind_of e ≡ kind.OutOfMemory)
answer-asked (Ok a) x y what same asked is nothing = some_same (sym is ∙ (ap asked_in same ∙ asked))
  where
    some_same : {A : Type 0} {p q : A} → Some p ≡ Some q → p ≡ q
    some_same e = grind (arith, e)
answer-asked (Err e) x y what same asked is (inl memory) = memory
answer-asked (Err e) x y what same asked is (inr none) =
    let no : None ≡ Some what = sym none ∙ (ap asked_in same ∙ asked) in
    absurd (grind (arith, no))
