-- Who took in nothing took in a beginning of every history.
use Rattle.std.proofs.Common.{◌≡◌, List, [], refl, sym, subst}
use mathlib.Core.List.{IsPrefix}
use Rattle.bully_watch.specs.declared.entry.Entry.{Entry}

pub prefix_of_none : (taken entries : List Entry) → taken ≡ [] → IsPrefix taken entries
prefix_of_none taken entries none = subst (λ l. IsPrefix l entries) (sym none) (entries, refl)
