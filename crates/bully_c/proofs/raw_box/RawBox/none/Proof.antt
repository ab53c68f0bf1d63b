-- `none` is null, which owns nothing.
use Rattle.std.proofs.Common.{[], ◌∷◌, refl, None}
use mir.Syntax.{a_type}
use mir.MapTy.{inst_fn}
use base.Fml.{ftrue, flft}
use types.Kit.{‵, raw, ◌⊛◌, ◌$◌, ◌∵◌, !, qed, move, drop, split, fjoin, suffices, done}
use types.Run.{lit, no_more, and_then, returns, enter}
use types.ByLocal.{alloc_all, pass_all, free_all, look_at, sets}
use types.Part.{agg}
use denote.RawPtr.{null_ptr}
use denote.Param.{layouts}
use denote.Steps.{nothing}
use denote.Triple.Walked.{ends_at, says}
use Rattle.std.proofs.raw_atomic.Walks.{proved}
use Rattle.bully_c.proofs.RawBoxLemmas.{word, word-Good, word_in}
use Rattle.bully_c.specs.contracts.raw_box.RawBox.none as f
use Rattle.bully_c.proofs.raw_box.RawBox.none.Statement.{statement}
use Rattle.bully_c.proofs.raw_box.RawBox.none.Code as code

pub none_spec : {M : Type 1} → statement M
none_spec 𝓤 𝓛 𝓜 𝓡 wired T L =
    let c = f.clauses T 𝓛 𝓜.mem 𝓡.returns in
    let types = layouts (a_type ∷ []) (T, tt) in
    proved 𝓛 (f.ended T) tt c 𝓜 𝓡 tt (f.Key.name types) (inst_fn types code.function) (code.unfolded 𝓤 𝓛.H 𝓜 𝓡 wired (T, tt))
    (λ κs. tt) (λ κs. tt) (λ κs qs bounds a _ are.
    qed 𝓛 (((‵ (flft κs.0 qs.0) ⊛ ‵ ftrue) ⊛ ‵ ftrue) ∷ raw ((c κs a).requires tt) ∷ []) ∵
    enter ! _ _ _ _ _ $ alloc_all ! (λ l. pass_all ! refl tt $
    sets ! (agg ! (and_then ! (lit ! tt) (no_more !))) refl (word-Good [] null_ptr) $
    returns ! (look_at ! 0 refl) $ free_all ! refl $
    suffices ! _ (ends_at 𝓛 (f.ended T) tt c ((κs, qs, bounds, a, tt), tt) (word null_ptr) (record { at = null_ptr; value = None }) tt tt) $ says ! refl $
    move ! (1 ∷ []) $ drop ! $ split ! $ nothing ! $ word_in ! null_ptr $ fjoin ! $ move ! (1 ∷ 2 ∷ 0 ∷ []) $ done !))
