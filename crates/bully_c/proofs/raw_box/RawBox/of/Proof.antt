-- `of` hands the box to `into_raw`, and owns what that gives.
use Rattle.std.proofs.Common.{List, [], ◌∷◌, ◌++◌, refl, ap, Some}
use mir.Syntax.{a_type, dcons, dnil}
use mir.Val.{Val}
use mir.MapTy.{inst_fn}
use base.Logic.{SProp, id⊢}
use base.Fml.{ftrue, flft}
use base.Fraction.{full_share}
use prog.Wp.{WpFn}
use contract.Running.{tables}
use contract.Monad.{fact, fact_i}
use contract.BorrowLft.{◌⊑◌, ⊑_static}
use types.Kit.{‵, raw, ◌⊛◌, some, later, prop, ◌$◌, ◌∵◌, !, qed, move, drop, use0, use1, split, split3, join, pick, await, feq_l, fsplit, fjoin, regoal, rewrite, suffices, done}
use types.Run.{of_opd, no_more, and_then, returns, enter}
use types.ByLocal.{alloc_all, pass_all, free_all, look_at, get, sets, lands_as}
use types.Part.{agg}
use denote.Exit.{no}
use denote.RattleType.{RattleType, owns}
use denote.RawPtr.{Ptr, RawPtr}
use denote.Param.{param, layout, bounded}
use denote.Signature.{plain, types_at}
use denote.Steps.{nothing, only}
use denote.Triple.Call.{calls_at}
use denote.Triple.Clauses.{Lasts, lasts}
use denote.Triple.Spec.{triple_of}
use denote.Triple.Table.{framed}
use denote.Triple.Walked.{Stays, stay_dropped, Goes-dropped, walk_of, ends_at, says}
use Rattle.core.proofs.cell.Inside.{one}
use Rattle.std.proofs.raw_atomic.Walks.{proved_at}
use Rattle.std.specs.contracts.alloc.Global as heap
use Rattle.std.proofs.alloc.Global.TheLaws as heap_laws
use Rattle.std.specs.contracts.impls.GlobalAllocator.TheImpl.{ghosts, dict}
use Rattle.std.proofs.impls.GlobalAllocator.TheImpl.Met.{passed}
use Rattle.std_alloc.specs.Box.Ownership.{box_owns}
use Rattle.std_alloc.specs.contracts.boxed.Box as box
use Rattle.std_alloc.proofs.boxed.Box.TheLaws as box_laws
use Rattle.std_alloc.specs.contracts.boxed.Box.into_raw as g
use Rattle.std_alloc.proofs.boxed.Box.into_raw.Met.{met}
use Rattle.bully_c.proofs.Heap.{Heap, heap_told, drops, dropped}
use Rattle.bully_c.proofs.RawBoxLemmas.{word, word-Good, word_in, Ptr-Good}
use Rattle.bully_c.specs.contracts.raw_box.RawBox.of as f
use Rattle.bully_c.proofs.raw_box.RawBox.of.Statement.{statement}
use Rattle.bully_c.proofs.raw_box.RawBox.of.Code as code
use denote.Param.Laws.{param_laws}

pub of_spec : {M : Type 1} → statement M
of_spec {M} 𝓤 𝓛 𝓜 𝓡 wired T L dx glue =
    let H = 𝓛.H in let 𝓣 = tables 𝓤 H 𝓜 𝓡 𝓡.env in let En = f.ended T dx in let c = f.clauses T dx 𝓛 𝓜.mem 𝓡.returns in
    let types = bounded (a_type ∷ []) (T, tt) (dcons dx dnil) in let fn = inst_fn types code.function in
    let B : RattleType = box.the_row (param 0 T) heap.the_row ghosts in
    let hs : Stays En.signature.params En.kept = (stay_dropped (plain (λ _. B)) no, tt) in
    proved_at 𝓛 En hs c 𝓜 𝓡 (Goes-dropped 𝓛 1 (plain (λ _. B)) no (λ κs x e. refl), tt) (f.Key.name types) fn (code.unfolded 𝓤 H 𝓜 𝓡 wired (T, tt) dx) (λ z are.
    let κs = z.0.0 in let qs = z.0.1 in let v = z.0.3.0 in let Post : Val → SProp 𝓤 = (walk_of 𝓛 En hs c).post z in
    let told = one (layout B) z.0.4.0 (((box_laws.the_row_laws (param 0 T) heap.the_row ghosts (param_laws 0 T L) heap_laws.the_row_laws).lawful 𝓛).typed v z.0.4.0 are.0) in let w = told.0 in
    let k = triple_of 𝓛 (g.signature T Heap ghosts dict drops dx) (g.spec T Heap ghosts dict drops dx 𝓛 𝓜.mem 𝓡.returns) in
    let y : k.Ghost = (((κs.0, ([], tt)), (qs.0, (full_share, tt)), tt, (v, tt), (w ∷ [], tt)), tt) in
    qed 𝓛 (((‵ (flft κs.0 qs.0) ⊛ ‵ ftrue) ⊛ ‵ (owns (types_at En.signature.params κs) z.0.3 z.0.4)) ∷ raw ((c κs z.0.3).requires z.1) ∷ []) ∵
    regoal ! (λ (us : List Val). prop (WpFn 𝓤 H 𝓣.C 𝓣.Λ fn us Post)) (λ i. told.1 i ++ []) refl $
    split ! $ split ! $ move ! (2 ∷ []) $ fsplit ! $ rewrite ! 0 (λ (us : List Val). ‵ (B.own_val v us)) told.1 refl $ fjoin ! $
    use0 𝓛 (‵ (flft [] full_share)) (𝓛.lfts.lft-nil full_share) $ move ! (0 ∷ 3 ∷ []) $ join ! $ move ! (2 ∷ 0 ∷ []) $ join ! $ join ! $
    move ! (1 ∷ []) $ use1 𝓛 (raw (fact 𝓤 (κs.0 ⊑ T.lives)) ⊛ ‵ ftrue) (id⊢ 𝓤 _) $ split ! $ use0 𝓛 (raw (fact 𝓤 ([] ⊑ Heap.lives))) (fact_i 𝓤 ([] ⊑ Heap.lives) _ (⊑_static [])) $
    move ! (0 ∷ 2 ∷ []) $ join ! $ move ! (1 ∷ 0 ∷ []) $ join ! $ move ! (1 ∷ 0 ∷ []) $ join ! $ use1 𝓛 (raw (k.pre y)) (id⊢ 𝓤 _) $
    enter ! _ _ _ _ _ $ alloc_all ! (λ l. pass_all ! refl (told.2, tt) $
    sets ! (of_opd ! (get ! refl)) refl told.2 $
    calls_at ! (framed 𝓤 H 𝓜 𝓣) k (met 𝓤 𝓛 𝓜 𝓡 (code.calls-std::boxed::Box::into_raw 𝓡.env wired) T Heap L heap_told ghosts dict drops dx
    (passed 𝓡.env (code.calls-std::impls::GlobalAllocator::allocate 𝓡.env wired) (code.calls-std::impls::GlobalAllocator::deallocate 𝓡.env wired) (code.calls-std::impls::GlobalAllocator::grow 𝓡.env wired) (code.calls-std::impls::GlobalAllocator::shrink 𝓡.env wired) M 𝓤 𝓛 𝓜 𝓡)
    (dropped 𝓡.env (code.calls-bully_c::Destruct++none::drop 𝓡.env wired) M 𝓤 𝓛 𝓜 𝓡) glue) y
    (and_then ! (get ! refl) (no_more !)) (λ u.
    use1 𝓛 (later (some (λ (r : Ptr). ((‵ (flft κs.0 qs.0) ⊛ ‵ (flft [] full_share) ⊛ ‵ ftrue) ⊛ ‵ (RawPtr.own_val r (u ∷ [])))
    ⊛ some (λ (ls : Lasts (g.ended T Heap ghosts dict drops dx) y.0.0 y.0.3). ‵ (lasts (g.ended T Heap ghosts dict drops dx) y.0.0 y.0.3 ls) ⊛ ‵ (box_owns (ghosts.dealloc_token v.alloc) (param 0 T) r v.value))))) (id⊢ 𝓤 _) $
    await ! tt $ pick ! (λ r. split ! $ split ! $ move ! (1 ∷ []) $ feq_l ! (λ is. move ! (1 ∷ []) $ pick ! (λ _. split ! $ drop ! $
    lands_as ! (ap only is) refl (Ptr-Good r) $
    sets ! (agg ! (and_then ! (get ! refl) (no_more !))) refl (word-Good [] r) $
    word_in ! r $ fjoin ! $
    returns ! (look_at ! 0 refl) $ free_all ! refl $
    suffices ! _ (ends_at 𝓛 En hs c z (word r) (record { at = r; value = Some v.value }) (tt, tt) (tt, tt)) $ says ! refl $
    move ! (1 ∷ []) $ split3 ! $ move ! (1 ∷ []) $ drop ! $ join ! $ nothing ! $ nothing ! $ fjoin ! $ move ! (1 ∷ 0 ∷ []) $ done !))))))
