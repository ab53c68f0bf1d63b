-- What an agent's call answers, as what is kept behind a handle tells it, and an export.
use Rattle.std.proofs.Common.{◌≡◌, ℕ, Option, Some, subst, sym}
use Rattle.bully_c.specs.Exports.{AtOpen, AtOpenOf}
use Rattle.bully_c.specs.declared.held_agent.HeldAgent.{HeldAgent}

-- what holds of what an open handle has holds at it
pub at-open-of : (H : Type 0) (Holds : H → ℕ → H → Type 0) (old new : Option H) (held lent after : H) (status : ℕ) → old ≡ Some held → lent ≡ held → new ≡ Some after
    → Holds lent status after → AtOpenOf H Holds old status new
at-open-of H Holds old new held lent after status is same put holds =
    subst (λ (o : Option H). AtOpenOf H Holds o status new) (sym is) (after, put, subst (λ (h : H). Holds h status after) same holds)

-- and at that of an agent
pub at-open : (Holds : HeldAgent → ℕ → HeldAgent → Type 0) (old new : Option HeldAgent) (held lent after : HeldAgent) (status : ℕ) → old ≡ Some held → lent ≡ held → new ≡ Some after
    → Holds lent status after → AtOpen Holds old status new
at-open = at-open-of HeldAgent
