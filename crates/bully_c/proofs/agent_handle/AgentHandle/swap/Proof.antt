-- `swap` exchanges the two pointers, and what they own goes with them.
use Rattle.std.proofs.Common.{List, [], ◌∷◌, refl}
use mir.Syntax.{named}
use mir.Val.{Val}
use base.Fml.{ftrue, flft}
use base.Fraction.{full_share}
use base.Logic.{emp}
use contract.Monad.{fact_i}
use types.Kit.{‵, ◌⊛◌, ◌$◌, ◌∵◌, !, qed, by, move, keep, drop, split, split3, join, fsplit, fsplit3, fjoin, rewrite, suffices, frame, group}
use types.Run.{stop, fld, of_opd, load, no_more, and_then, assigns, returns, enter}
use types.ByLocal.{alloc_all, pass_all, free_all, look_at, get, get_in, through, sets}
use types.Part.{agg, sub, whole, look_in, store_in}
use denote.Exit.{yes}
use denote.RattleType.{RattleType}
use denote.Laws.{shows}
use denote.Memory.{cell_at}
use denote.Ref.{MutRef, mut_vals, mut_Tells}
use denote.Signature.{plain}
use denote.Steps.{nothing, opens, closes, peeks}
use denote.Triple.Walked.{Stays, walk_of, says, stay_ref, stay_dropped, Goes-ref, Goes-dropped, ends_at}
use Rattle.std.proofs.raw_atomic.Walks.{proved}
use Rattle.bully_c.proofs.RawBoxLemmas.{word, word-Good, word_in, Ptr-Good}
use Rattle.bully_c.specs.contracts.raw_box.RawBox as raw_box
use Rattle.bully_c.proofs.raw_box.RawBox.TheLaws as raw_box_laws
use Rattle.bully_c.specs.contracts.held_agent.HeldAgent as held
use Rattle.bully_c.proofs.held_agent.HeldAgent.TheLaws as held_laws
use Rattle.bully_c.specs.contracts.agent_handle.AgentHandle as handle
use Rattle.bully_c.proofs.agent_handle.AgentHandle.TheLaws as handle_laws
use Rattle.bully_c.specs.contracts.agent_handle.AgentHandle.swap as f
use Rattle.bully_c.proofs.agent_handle.AgentHandle.swap.Statement.{statement}
use Rattle.bully_c.proofs.agent_handle.AgentHandle.swap.Code as code

abbrev H : RattleType
H = handle.the_row

abbrev L : RattleType
L = raw_box.the_row held.the_row

abbrev stayed : Stays f.ended.signature.params f.ended.kept
stayed = (stay_ref (0 ∷ []) tt (plain (λ _. H)), (stay_dropped (plain (λ _. L)) yes, tt))

pub swap_spec : {M : Type 1} → statement M
swap_spec 𝓤 𝓛 𝓜 𝓡 wired =
    let c = f.clauses 𝓛 𝓜.mem 𝓡.returns in let W = walk_of 𝓛 f.ended stayed c in
    proved 𝓛 f.ended stayed c 𝓜 𝓡 (Goes-ref 𝓛 1 0 tt (plain (λ _. H)), (Goes-dropped 𝓛 1 (plain (λ _. L)) yes (λ κs x e. refl), tt))
    f.Key.name code.function (code.unfolded 𝓤 𝓛.H 𝓜 𝓡 wired)
    (λ κs. (mut_vals, ((λ l. word l.at ∷ []), tt))) (λ κs. (mut_Tells (named 0) κs.0 H, ((raw_box_laws.lowers held.the_row held_laws.the_row_laws).val_is, tt))) (λ κs qs bounds a _ are.
    let b = a.0.ref_ptr.0 in let o = a.0.ref_ptr.1 in let h = a.0.now in let l = a.1.0 in
    let y : W.Ghost = ((κs, qs, bounds, a, (mut_vals a.0, (word l.at ∷ [], tt))), tt) in
    qed 𝓛 (((‵ (flft κs.0 qs.0) ⊛ ‵ ftrue) ⊛ ‵ ((MutRef (named 0) κs.0 H).own_val a.0 (mut_vals a.0)) ⊛ ‵ (L.own_val l (word l.at ∷ [])) ⊛ ‵ ftrue) ∷ ‵ ftrue ∷ []) ∵
    split ! $ split ! $ move ! (2 ∷ []) $ split3 ! $ move ! (1 ∷ []) $ fsplit ! $ drop ! $ keep ! (1 ∷ 3 ∷ 0 ∷ []) $
    -- [the reference; its token; what `with` owns]
    enter ! _ _ _ _ _ $ alloc_all ! (λ ls. pass_all ! refl ((tt, tt), (word-Good [] l.at, tt)) $
    fsplit3 ! $ move ! (1 ∷ 2 ∷ 3 ∷ []) $ opens ! tt H b o (λ us.
    move ! (1 ∷ []) $ peeks ! H _ (shows 𝓛 H) h us (λ is. fsplit ! $ drop ! $
    rewrite ! 1 (λ (ws : List Val). ‵ (cell_at full_share H.mir ws b o)) (handle_laws.lowers.val_is h us is) refl $
    -- [what the handle owns; its cell; the open borrow, in three entries; the reference's first part; what `with` owns]
    sets ! (of_opd ! (get_in ! (fld ! refl (stop !)) (sub ! 0 refl (whole !)))) refl (Ptr-Good l.at) $
    sets ! (of_opd ! (load ! (through ! refl (fld ! refl (stop !))) (look_in ! 1 (sub ! 0 refl (whole !))))) refl (Ptr-Good h.at) $
    sets ! (of_opd ! (get ! refl)) refl (Ptr-Good h.at) $
    sets ! (of_opd ! (get ! refl)) refl (Ptr-Good l.at) $
    assigns ! (of_opd ! (get ! refl)) (through ! refl (fld ! refl (stop !))) (store_in ! 1 (sub ! 0 refl (whole !)) (Ptr-Good l.at)) $
    sets ! (agg ! (and_then ! (get ! refl) (no_more !))) refl (word-Good [] h.at) $
    word_in ! l.at $ move ! (0 ∷ 7 ∷ []) $ fjoin ! $ move ! (2 ∷ 0 ∷ 3 ∷ 4 ∷ 5 ∷ []) $ closes ! tt H (record { at = l.at; value = l.value }) (word l.at ∷ []) b o $
    -- [two parts of the reference; its token; what the handle owned; the reference's first part]
    returns ! (look_at ! 0 refl) $ free_all ! refl $
    suffices ! _ (ends_at 𝓛 f.ended stayed c y (word h.at) (record { at = h.at; value = h.value }) (record { at = l.at; value = l.value }, (tt, tt)) (tt, (tt, tt))) $
    word_in ! h.at $ move ! (0 ∷ 4 ∷ []) $ fjoin ! $ move ! (4 ∷ 1 ∷ 2 ∷ []) $ group ! 3 $
    nothing ! $ nothing ! $ join ! $ move ! (1 ∷ 0 ∷ []) $ join ! $ nothing ! $ move ! (3 ∷ 0 ∷ []) $ join ! $
    group ! 3 $ frame ! $ says ! refl $ by ! (fact_i 𝓤 _ (emp 𝓤) refl)))))
