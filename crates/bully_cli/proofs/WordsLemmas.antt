-- What the program makes of words that are written out, and of what clap finds in words.
use Rattle.std.proofs.Common.{◌≡◌, ◌≢◌, ◌⊎◌, inl, inr, refl, ap, true, false, not, ◌&&◌, codes, [], ◌∷◌, None, Some, arith}
use Rattle.std.specs.List.{list_all}
use Rattle.std.proofs.lemmas.Grind.{common_steps}
use Rattle.clap.specs.Words.{HasKind, IsAmong, Kinds, kind_of}
use Rattle.clap.specs.declared.error.Error.{Error}
use Rattle.clap.specs.declared.error.kind.ErrorKind.{ErrorKind}
use Rattle.clap.specs.declared.error.kind.ErrorKind.TheVariants as kind
use Rattle.clap.proofs.OnLiterals.{clap_on_literals}
use Rattle.bully_cli.specs.Words.{ParsesAs, checking, is_help, is_filled}

-- the one word `check` asks to judge the input, and for no JSON
pub check-parses : ParsesAs (codes "check" ∷ []) (checking None (Some (codes "false")))
unfolding clap_on_literals
check-parses = record { good = refl; asks = refl }

-- no kind of a list without help is one
among-none : (kinds : Kinds) (k : ErrorKind) → list_all (λ x. not (is_help x)) kinds ≡ true → IsAmong k kinds → is_help k ≡ false
among-none [] k all among = absurd among
among-none (x ∷ xs) k all (inl same) = grind (arith, common_steps, all, same)
among-none (x ∷ xs) k all (inr among) = among-none xs k (grind (arith, common_steps, all)) among

-- each kind of a list of help is one
among-all : (kinds : Kinds) (k : ErrorKind) → list_all is_help kinds ≡ true → IsAmong k kinds → is_help k ≡ true
among-all [] k all among = absurd among
among-all (x ∷ xs) k all (inl same) = grind (arith, common_steps, all, same)
among-all (x ∷ xs) k all (inr among) = among-all xs k (grind (arith, common_steps, all)) among

filled-not-empty : (kinds : Kinds) → is_filled kinds ≡ true → kinds ≢ []
filled-not-empty [] filled = absurd (grind (arith, filled))
filled-not-empty (k ∷ ks) filled = λ e. grind (arith, e)

no-memory-no-help : (k : ErrorKind) → k ≡ kind.OutOfMemory → is_help k ≡ false
no-memory-no-help k e = ap is_help e

-- the error of a mistake is no help
pub mistake-kind : (kinds : Kinds) (e : Error) → is_filled kinds && list_all (λ x. not (is_help x)) kinds ≡ true → (kinds ≢ [] → HasKind kinds e) → is_help (kind_of e) ≡ false
mistake-kind kinds e mistake has =
    let filled : is_filled kinds ≡ true = grind (arith, common_steps, mistake) in
    let all : list_all (λ x. not (is_help x)) kinds ≡ true = grind (arith, common_steps, mistake) in
    elim (has (filled-not-empty kinds filled)) [
      | inl memory ↦ no-memory-no-help (kind_of e) memory
      | inr among ↦ among-none kinds (kind_of e) all among
    ]

-- the error of a request for help is help, or memory was refused
pub help-kind : (kinds : Kinds) (e : Error) → is_filled kinds && list_all is_help kinds ≡ true → (kinds ≢ [] → HasKind kinds e) → (kind_of e ≡ kind.OutOfMemory) ⊎ (is_help (kind_of e) ≡ true)
help-kind kinds e help has =
    let filled : is_filled kinds ≡ true = grind (arith, common_steps, help) in
    let all : list_all is_help kinds ≡ true = grind (arith, common_steps, help) in
    elim (has (filled-not-empty kinds filled)) [
      | inl memory ↦ inl memory
      | inr among ↦ inr (among-all kinds (kind_of e) all among)
    ]
