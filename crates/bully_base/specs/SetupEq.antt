-- When two setups are the same.
use Rattle.std.specs.Prelude.{Bool, ◌&&◌, ◌==◌, bytes_eq}
use Rattle.std.specs.Bool.{beq}
use Rattle.std.specs.Cmp.{IsEquivalence, and_equiv, on_equiv, nat_eq_equiv, bool_eq_equiv}
use Rattle.std.specs.Cmp.Lexicographic.{nat_list_eq_equiv}
use Rattle.bully_base.specs.Setup.{Setup, Limits, limits_of}

abbrev pub same_limits : Limits → Limits → Bool
same_limits a b = (a.nodes == b.nodes) && ((a.partitions == b.partitions) && (a.events_max == b.events_max))

abbrev pub same_setup : Setup → Setup → Bool
same_setup a b = (same_limits (limits_of a) (limits_of b) && beq a.keeps b.keeps) && bytes_eq a.weights b.weights

same_limits_equiv : IsEquivalence same_limits
same_limits_equiv = and_equiv (on_equiv (λ l. l.nodes) nat_eq_equiv)
    (and_equiv (on_equiv (λ l. l.partitions) nat_eq_equiv) (on_equiv (λ l. l.events_max) nat_eq_equiv))

pub same_setup_equiv : IsEquivalence same_setup
same_setup_equiv = and_equiv (and_equiv (on_equiv limits_of same_limits_equiv) (on_equiv (λ s. s.keeps) bool_eq_equiv))
    (on_equiv (λ s. s.weights) nat_list_eq_equiv)
