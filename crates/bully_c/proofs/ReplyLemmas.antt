-- The line of a reply.
use Rattle.std.proofs.Common.{◌≡◌, ℕ, ◌≤◌, List, length, subst}
use Rattle.bully_c.specs.Arguments.{IsCopied}
use Rattle.bully_c.specs.declared.status.TheConstants.{OK}

-- where there is room for the text, it is copied
pub copied-as : (text line before after : List ℕ) (status count : ℕ) → text ≡ line → length text ≤ length before → IsCopied text before status after count
    → (status ≡ OK) × IsCopied line before OK after count
copied-as text line before after status count is low copied =
    let (ok, written) = copied.fits low in
    (ok, subst (λ (s : ℕ). IsCopied line before s after count) ok (subst (λ (t : List ℕ). IsCopied t before status after count) is copied))
