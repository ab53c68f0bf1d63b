-- `into_box` tells null from a block, and hands the block to `from_raw`.
use Rattle.std.proofs.Common.{◌≡◌, List, [], ◌∷◌, ◌++◌, refl, sym, ap, ◌∙◌, lit<, None, Some}
use mir.Syntax.{a_type}
use mir.Val.{Val, vptr, vcons, vnil}
use mir.MapTy.{inst_fn}
use base.Logic.{SProp, id⊢}
use base.Fml.{ftrue, flft}
use base.Fraction.{full_share}
use prog.Wp.{WpFn}
use contract.Running.{tables}
use contract.Monad.{fact, fact_i}
use contract.BorrowLft.{◌⊑◌, ⊑_static}
use types.Kit.{‵, raw, ◌⊛◌, some, later, prop, at_ret, ◌$◌, ◌∵◌, !, qed, move, drop, use0, use1, split, split3, join, pick, await, feq_i, fsplit, fjoin, regoal, rewrite, suffices, done}
use types.Run.{stop, fld, lit, bin, of_opd, no_more, and_then, first, branches, skips, blocks, exec, returns, returns_within, enter}
use types.ByLocal.{alloc_all, pass_all, free_all, look_at, get, get_in, sets, lands_last, env}
use types.Part.{agg, sub, whole}
use types.Match.{live}
use denote.Exit.{no, yes}
use denote.RattleType.{RattleType, owns}
use denote.RawPtr.{Ptr, block_ptr, null_ptr, tests_null}
use denote.Laws.{Is, shows}
use denote.Param.{param, layout, layouts}
use denote.Param.Laws.{param_laws}
use denote.Signature.{plain, type_at, types_at}
use denote.Steps.{nothing, heard, peeks}
use denote.Triple.Call.{calls_at_last}
use denote.Triple.Clauses.{Lasts, lasts}
use denote.Triple.Spec.{triple_of}
use denote.Triple.Table.{framed}
use denote.Triple.Walked.{Stays, stay_dropped, Goes-dropped, walk_of, ends_at, says}
use Rattle.core.proofs.alloc.Shapes.{after}
use Rattle.core.proofs.cell.Inside.{one}
use Rattle.core.proofs.option.Made.{Some-of, none_of}
use Rattle.std.proofs.raw_atomic.Walks.{proved_at}
use Rattle.std.specs.contracts.alloc.Global as heap
use Rattle.std.proofs.alloc.Global.TheLaws as heap_laws
use Rattle.std.specs.contracts.impls.GlobalAllocator.TheImpl.{ghosts, dict}
use Rattle.std.proofs.impls.GlobalAllocator.TheImpl.Met.{passed}
use Rattle.std_alloc.specs.contracts.boxed.Box as box
use Rattle.std_alloc.proofs.boxed.Box.TheLaws as box_laws
use Rattle.std_alloc.proofs.ResultValues.{and_tt}
use Rattle.std_alloc.specs.contracts.boxed.Box.from_raw as g
use Rattle.std_alloc.proofs.boxed.Box.from_raw.Met.{met}
use Rattle.bully_c.proofs.Heap.{Heap, heap_told, drops, dropped}
use Rattle.bully_c.proofs.RawBoxLemmas.{word, word-Good, raw_box_cases, Ptr-Good}
use Rattle.bully_c.specs.contracts.raw_box.RawBox as raw_box
use Rattle.bully_c.proofs.raw_box.RawBox.TheLaws as raw_box_laws
use Rattle.bully_c.specs.contracts.raw_box.RawBox.into_box as f
use Rattle.bully_c.proofs.raw_box.RawBox.into_box.Statement.{statement}
use Rattle.bully_c.proofs.raw_box.RawBox.into_box.Code as code

pub into_box_spec : {M : Type 1} → statement M
into_box_spec {M} 𝓤 𝓛 𝓜 𝓡 wired T L =
    let H = 𝓛.H in let 𝓣 = tables 𝓤 H 𝓜 𝓡 𝓡.env in let En = f.ended T in let c = f.clauses T 𝓛 𝓜.mem 𝓡.returns in
    let types = layouts (a_type ∷ []) (T, tt) in let fn = inst_fn types code.function in let R : RattleType = param 0 T in
    let B : RattleType = box.the_row R heap.the_row ghosts in let LB = box_laws.the_row_laws R heap.the_row ghosts (param_laws 0 T L) heap_laws.the_row_laws in
    let hs : Stays En.signature.params En.kept = (stay_dropped (plain (λ _. raw_box.the_row R)) no, (stay_dropped (plain (λ _. heap.the_row)) yes, tt)) in
    proved_at 𝓛 En hs c 𝓜 𝓡 (Goes-dropped 𝓛 1 (plain (λ _. raw_box.the_row R)) no (λ κs x e. refl), (Goes-dropped 𝓛 1 (plain (λ _. heap.the_row)) yes (λ κs x e. refl), tt))
    (f.Key.name types) fn (code.unfolded 𝓤 H 𝓜 𝓡 wired (T, tt)) (λ z are.
    let κs = z.0.0 in let qs = z.0.1 in let d = z.0.3.0 in let a = z.0.3.1.0 in let Post : Val → SProp 𝓤 = (walk_of 𝓛 En hs c).post z in
    let told = one (layout heap.the_row) z.0.4.1.0 ((heap_laws.the_row_laws.lawful 𝓛).typed a z.0.4.1.0 are.1.0) in let h = told.0 in let Out : RattleType = type_at En.signature.result κs in
    qed 𝓛 (((‵ (flft κs.0 qs.0) ⊛ ‵ ftrue) ⊛ ‵ (owns (types_at En.signature.params κs) z.0.3 z.0.4)) ∷ raw ((c κs z.0.3).requires z.1) ∷ []) ∵
    regoal ! (λ (us : List Val). prop (WpFn 𝓤 H 𝓣.C 𝓣.Λ fn us Post)) (λ i. (raw_box_laws.lowers R (param_laws 0 T L)).val_is d z.0.4.0 are.0 i ++ (told.1 i ++ [])) refl $
    split ! $ move ! (1 ∷ []) $ fsplit ! $ fsplit ! $ drop ! $
    -- [what the pointer owns; the allocator; the token; the `requires`]
    raw_box_cases R ! d.at d.value
    (λ null empty. regoal ! (λ (p : Ptr). prop (WpFn 𝓤 H 𝓣.C 𝓣.Λ fn (word p ∷ h ∷ []) Post)) null refl $
    drop ! $ move ! (1 ∷ []) $ drop ! $
    enter ! _ _ _ _ _ $ alloc_all ! (λ l. pass_all ! refl (word-Good [] null_ptr, (told.2, tt)) $
    sets ! (of_opd ! (get_in ! (fld ! refl (stop !)) (sub ! 0 refl (whole !)))) refl (Ptr-Good null_ptr) $
    sets ! (of_opd ! (get ! refl)) refl (Ptr-Good null_ptr) $
    sets ! (bin ! (get ! refl) (lit ! tt) tt) refl (tt, tt) $
    first ! $ branches ! (get ! refl)
    (λ _. sets ! (agg ! (and_then ! (lit ! tt) (no_more !))) refl (tt, (record { fits = lit< tt }, tt)) $
    returns_within ! Post refl (look_at ! 0 refl) $ free_all ! refl $
    suffices ! _ (ends_at 𝓛 En hs c z (live 0 vnil) None (tt, (tt, tt)) (tt, (tt, tt))) $ says ! empty $
    use0 𝓛 (‵ (Out.own_val None (live 0 vnil ∷ []))) (none_of 𝓛 B) $ nothing ! $ nothing ! $ fjoin ! $ nothing ! $ fjoin ! $ move ! (2 ∷ 0 ∷ []) $ done !)
    (λ wrong. absurd wrong)))
    (λ b o x block full low. regoal ! (λ (p : Ptr). prop (WpFn 𝓤 H 𝓣.C 𝓣.Λ fn (word p ∷ h ∷ []) Post)) block refl $
    let k = triple_of 𝓛 (g.signature T Heap ghosts dict drops) (g.spec T Heap ghosts dict drops 𝓛 𝓜.mem 𝓡.returns) in
    let y : k.Ghost = (((κs.0, ([], tt)), (qs.0, (full_share, tt)), tt, (a, (block_ptr b o, tt)), (h ∷ [], (vptr b o ∷ [], tt))), x) in
    move ! (3 ∷ []) $ use1 𝓛 (raw (fact 𝓤 (κs.0 ⊑ T.lives)) ⊛ ‵ ftrue) (id⊢ 𝓤 _) $ split ! $ move ! (1 ∷ []) $ drop ! $
    use0 𝓛 (raw (fact 𝓤 ([] ⊑ Heap.lives))) (fact_i 𝓤 ([] ⊑ Heap.lives) _ (⊑_static [])) $ move ! (0 ∷ 2 ∷ []) $ join ! $ move ! (1 ∷ 0 ∷ []) $ join ! $
    -- [the callee's `requires`; the allocator; the token]
    move ! (1 ∷ []) $ fsplit ! $ rewrite ! 0 (λ (us : List Val). ‵ (heap.the_row.own_val a us)) told.1 refl $
    feq_i ! (List Val) (vptr b o ∷ []) (vptr b o ∷ []) refl $ move ! (0 ∷ 2 ∷ []) $ fjoin ! $ move ! (1 ∷ 0 ∷ []) $ fjoin ! $
    move ! (2 ∷ []) $ split ! $ use0 𝓛 (‵ (flft [] full_share)) (𝓛.lfts.lft-nil full_share) $ move ! (0 ∷ 2 ∷ []) $ join ! $ move ! (1 ∷ 0 ∷ []) $ join ! $
    join ! $ join ! $ use1 𝓛 (raw (k.pre y)) (id⊢ 𝓤 _) $
    enter ! _ _ _ _ _ $ alloc_all ! (λ l. pass_all ! refl (word-Good [] (block_ptr b o), (told.2, tt)) $ let Ev = env fn.locals l in
    sets ! (of_opd ! (get_in ! (fld ! refl (stop !)) (sub ! 0 refl (whole !)))) refl (tt, tt) $
    sets ! (of_opd ! (get ! refl)) refl (tt, tt) $
    sets ! (bin ! (get ! refl) (lit ! tt) (tests_null (block_ptr b o) low)) refl (tt, tt) $
    first ! $ branches ! (get ! refl) (λ wrong. absurd wrong) (λ _. skips ! $ exec ! 𝓣.C 𝓣.Λ Ev (after 4 fn.body) (at_ret Ev Post) $
    first ! $ blocks ! $ sets ! (of_opd ! (get ! refl)) refl told.2 $ sets ! (of_opd ! (get ! refl)) refl (tt, tt) $
    calls_at_last ! (framed 𝓤 H 𝓜 𝓣) k (met 𝓤 𝓛 𝓜 𝓡 (code.calls-std::boxed::Box::from_raw 𝓡.env wired) T Heap L heap_told ghosts dict drops
    (passed 𝓡.env (code.calls-std::impls::GlobalAllocator::allocate 𝓡.env wired) (code.calls-std::impls::GlobalAllocator::deallocate 𝓡.env wired) (code.calls-std::impls::GlobalAllocator::grow 𝓡.env wired) (code.calls-std::impls::GlobalAllocator::shrink 𝓡.env wired) M 𝓤 𝓛 𝓜 𝓡)
    (dropped 𝓡.env (code.calls-bully_c::Destruct++none::drop 𝓡.env wired) M 𝓤 𝓛 𝓜 𝓡)) y
    (and_then ! (get ! refl) (and_then ! (get ! refl) (no_more !))) (λ u.
    use1 𝓛 (later (some (λ (r : B.Denot). ((‵ (flft κs.0 qs.0) ⊛ ‵ (flft [] full_share) ⊛ ‵ ftrue) ⊛ ‵ (B.own_val r (u ∷ [])))
    ⊛ some (λ (ls : Lasts (g.ended T Heap ghosts dict drops) y.0.0 y.0.3). ‵ (lasts (g.ended T Heap ghosts dict drops) y.0.0 y.0.3 ls) ⊛ (raw (fact 𝓤 (r.value ≡ x)) ⊛ raw (fact 𝓤 (r.alloc ≡ a))))))) (id⊢ 𝓤 _) $
    await ! tt $ pick ! (λ r. split ! $ move ! (1 ∷ []) $ pick ! (λ _. split3 ! $ drop ! $ heard ! (r.value ≡ x) (λ same. drop ! $ split ! $ move ! (1 ∷ []) $
    peeks ! B (Is B) (shows 𝓛 B) r (u ∷ []) (λ is. let good = ((LB.lawful 𝓛).typed r (u ∷ []) is).0 in
    lands_last ! refl good $ exec ! 𝓣.C 𝓣.Λ Ev (after 5 fn.body) (at_ret Ev Post) $
    sets ! (of_opd ! (get ! refl)) refl good $
    sets ! (agg ! (and_then ! (lit ! tt) (and_then ! (get ! refl) (no_more !)))) refl (and_tt _ good.0, (record { fits = lit< tt }, (good.1, tt))) $
    returns ! (look_at ! 0 refl) $ free_all ! refl $
    suffices ! _ (ends_at 𝓛 En hs c z (live 1 (vcons u vnil)) (Some r) (tt, (tt, tt)) (tt, (tt, tt))) $ says ! (full ∙ ap Some (sym same)) $
    use1 𝓛 (‵ (Out.own_val (Some r) (live 1 (vcons u vnil) ∷ []))) (Some-of 𝓛 B r u) $ move ! (1 ∷ []) $ split3 ! $ move ! (1 ∷ []) $ drop ! $ join ! $
    nothing ! $ nothing ! $ fjoin ! $ nothing ! $ fjoin ! $ move ! (1 ∷ 0 ∷ []) $ done !)))))))))
