-- When two sets of nodes are the same.
use Rattle.std.specs.Prelude.{ℕ, List, Bool, ◌==◌}
use Rattle.std.specs.Cmp.{IsEquivalence, on_equiv, nat_eq_equiv}
use Rattle.bully_base.specs.NodeSet.{word_of}

abbrev pub same_set : List ℕ → List ℕ → Bool
same_set a b = word_of a == word_of b

pub same_set_equiv : IsEquivalence same_set
same_set_equiv = on_equiv word_of nat_eq_equiv
