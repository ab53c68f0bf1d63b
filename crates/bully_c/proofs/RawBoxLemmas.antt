-- A struct that is one pointer, and what a `RawBox` owns. Assumes `Logic`.
--     word_in         its fields are made of nothing
--     raw_box_cases     null and nothing, or a box's block, which may be compared with null
use Rattle.std.proofs.Common.{◌≡◌, ℕ, [], ◌∷◌, refl, List, Option, None, Some}
use seplogic.Ra.Ura.{Ura}
use mir.Raw.{raw as bare}
use base.Fml.{ftrue}
use base.Logic.{via, fst∗, snd∗, never, never_e, guard_i}
use contract.Monad.{fact_use}
use types.Logic.{Logic, sem}
use types.Kit.{Goal, Seq, Step, Item, ‵, given, ◌$◌, drop, use1, learn}
use denote.Memory.{lone}
use denote.RattleType.{RattleType}
use denote.RawPtr.{Ptr, RawPtr, block_ptr, null_ptr, ptr_val, Testable, in_a_block}
use denote.Shadow.{pure_i}
use denote.Struct.Struct.{Struct}
use Rattle.core.specs.Ptr.{points_to}
use Rattle.std.proofs.GlobalToken.{dealloc_token-Testable}
use Rattle.std_alloc.specs.Box.Ownership.{box_owns}
pub use Rattle.core.proofs.atomic.Steps.{Ptr-Good}
pub use Rattle.std_alloc.proofs.RcSteps.{word, word-Good}
use Rattle.bully_c.specs.Ownership.{may_free, raw_box_owns}

-- the fields of a struct that is one pointer
abbrev pub Word : RattleType
Word = Struct (record { name = []; args = []; types = []; fields = RawPtr ∷ [] })

module _ {M : Type 1} {𝓤 : Ura M} {𝓛 : Logic 𝓤} {K : Type 0} {Γ : List (Item 𝓤)} {G : Goal 𝓤 𝓛.H} where
  pub word_in : K → (p : Ptr) → Step K 𝓛 (‵ (Word.own_val (p, tt) (word p ∷ [])) ∷ Γ) G Γ G
  word_in t p = pure_i t (Word.own_val (p, tt) (word p ∷ [])) (λ _. (tt, (tt, tt))) ((ptr_val p ∷ [], tt), (refl, (refl, tt)))

module _ (R : RattleType) {M : Type 1} {𝓤 : Ura M} {𝓛 : Logic 𝓤} {K : Type 0} {Γ : List (Item 𝓤)} {G : Goal 𝓤 𝓛.H} where
  pub raw_box_cases : K → (p : Ptr) (v : Option R.Denot) → (p ≡ null_ptr → v ≡ None → Seq K 𝓛 Γ G)
      → ((b o : ℕ) (x : R.Denot) → p ≡ block_ptr b o → v ≡ Some x → Testable (block_ptr b o) → Seq K 𝓛 (‵ (box_owns may_free R (block_ptr b o) x) ∷ Γ) G) → Seq K 𝓛 (‵ (raw_box_owns R p v) ∷ Γ) G
  raw_box_cases t p (Some x) none some = in_a_block t p (λ q. box_owns may_free R q x) (fst∗ 𝓤 (never 𝓤) (sem 𝓛 (may_free (bare (lone R.mir)) null_ptr))) (λ b o e.
      let q = block_ptr b o in let owned = sem 𝓛 (box_owns may_free R q x) in
      use1 𝓛 (given (Testable q) (‵ (box_owns may_free R q x)))
      (fact_use 𝓤 (Testable q) (via 𝓤 _ (snd∗ 𝓤 (sem 𝓛 (points_to R q x)) (sem 𝓛 (may_free (bare (lone R.mir)) q))) (dealloc_token-Testable 𝓛 _ (bare (lone R.mir)) q)) (guard_i 𝓤 (Testable q) owned)) $
      learn t (λ low. some b o x e refl low))
  raw_box_cases t null_ptr None none some = drop t $ none refl refl
  raw_box_cases t (block_ptr b o) None none some = use1 𝓛 (given ⊥ (‵ ftrue)) (never_e 𝓤 _) $ learn t (λ z. absurd z)
