-- A setup that is kept in no more memory than it needs.
use Rattle.std.specs.Prelude.{ℕ, Bool, true, false, List}
use Rattle.bully_base.specs.Setup.{Setup, Limits, even_setup, setup_of}

-- with its weights, and without them where it is even
abbrev pub kept_setup : Limits → Bool → Bool → List ℕ → Setup
kept_setup limits keeps true weights = even_setup limits.nodes limits.partitions limits.events_max
kept_setup limits keeps false weights = setup_of limits keeps weights
