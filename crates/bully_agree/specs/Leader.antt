-- Who leads in a world.
use Rattle.std.specs.Prelude.{◌≡◌, ◌≢◌, ℕ, Option, Some, None}
use Rattle.bully_base.specs.declared.node.Status.TheVariants.{Normal}
use Rattle.bully_world.specs.World.{World, vector}

-- node c leads: some node is Normal, and each that is has c as its coordinator
pub record Leads (w : World) (c : ℕ) : Type 0 where
  pub followed : (i : ℕ) × ((vector w i).status ≡ Normal)
  pub coordinator : (i : ℕ) → (vector w i).status ≡ Normal → (vector w i).coordinator ≡ Some c

abbrev pub NobodyNormal : World → Type 0
NobodyNormal w = (i : ℕ) → (vector w i).status ≢ Normal

-- it leads, and nobody does where no node is Normal
abbrev pub IsLeader : World → Option ℕ → Type 0
IsLeader w (Some c) = Leads w c
IsLeader w None = NobodyNormal w
