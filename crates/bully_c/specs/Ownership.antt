-- What a pointer to a box owns. Assumes nothing: these are definitions.
use Rattle.std.specs.Prelude.{Option, None, Some}
use base.Fml.{Fml, ftrue, ffalse}
use mir.Syntax.{Ty}
use denote.RattleType.{RattleType}
use denote.RawPtr.{Ptr, block_ptr, null_ptr}
use Rattle.std.specs.contracts.impls.GlobalAllocator.TheImpl.{ghosts}
use Rattle.std_alloc.specs.Box.Ownership.{box_owns}

-- the right to give a block back to the C library's heap, which is one for all handles to it
abbrev pub may_free : Ty → Ptr → Fml
may_free = ghosts.dealloc_token (record { memory = record { seal = tt } })

-- null where there is no value, and else a box of the value
abbrev pub raw_box_owns : (R : RattleType) → Ptr → Option R.Denot → Fml
raw_box_owns R p (Some x) = box_owns may_free R p x
raw_box_owns R null_ptr None = ftrue
raw_box_owns R (block_ptr b o) None = ffalse
