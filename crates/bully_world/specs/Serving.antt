-- Whom a node serves.
use Rattle.std.specs.Prelude.{◌≡◌, ◌⊎◌, ℕ, true, false}
use Rattle.bully_world.specs.Cause.{is_down_at}
use Rattle.bully_world.specs.State.{WorldState, world_of, waits_for, NobodyWaits, NobodyWaitsBelow}

-- the caller's call is the one to be served by node i: that isn't Down, the call waits for it, and no lower caller's
-- does
pub record IsServed (w : WorldState) (i caller : ℕ) : Type 0 where
  pub up : is_down_at (world_of w) i ≡ false
  pub waits : waits_for w caller i ≡ true
  pub lowest : NobodyWaitsBelow w i caller

-- there is none: node i is Down, or no call waits for it
abbrev pub NoneServed : WorldState → ℕ → Type 0
NoneServed w i = (is_down_at (world_of w) i ≡ true) ⊎ NobodyWaits w i
