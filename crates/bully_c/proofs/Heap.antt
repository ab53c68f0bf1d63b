-- `Global` as a call of a box's function is given it. Assumes nothing.
use Rattle.std.proofs.Common.{[], ◌∷◌, refl}
use mir.Syntax.{Dict, impl, tcons, tnil, dnil}
use mir.Raw.{raw as bare}
use denote.Exit.{no}
use denote.RattleType.{RattleType}
use denote.Param.{arg, layout}
use denote.Param.Laws.{Laws, arg_laws}
use denote.Param.Glue.{Bound}
use denote.Param.NoDrop.{glues}
use prog.Routine.{Env}
use prog.Wired.{Wired}
use Rattle.std.specs.contracts.alloc.Global as heap
use Rattle.std.proofs.alloc.Global.TheLaws as heap_laws
use Rattle.bully_c.proofs.Destruct++none.drop.Code as nothing

abbrev pub Heap : RattleType
Heap = arg (bare (layout heap.the_row)) no heap.the_row

abbrev pub heap_told : Laws Heap
heap_told = arg_laws (bare (layout heap.the_row)) no heap.the_row heap_laws.the_row_laws refl

-- the table by which it is dropped
abbrev pub drops : Dict
drops = impl ("bully_c::Destruct++none::drop" ∷ []) (tcons (layout Heap) tnil) dnil

pub dropped : (γ : Env) → Wired γ nothing.code → Bound γ Heap drops
unfolding nothing.code
dropped γ wired = glues "bully_c::Destruct++none::drop" γ wired Heap heap_told
