-- What a node's slot holds, and the pending call that it stands for.
use Rattle.std.specs.Prelude.{◌≡◌, ◌≢◌, ℕ, ◌==◌, Bool, false, not, length, List, Option, Some, None, option_map}
use Rattle.std.specs.Prelude.{option_and_then}
use Rattle.std.specs.Option.{option_map_or}
use Rattle.bully_calls.specs.declared.call.Call.{Call}
use Rattle.bully_calls.specs.declared.call.CallKind.TheVariants.{Ready}
use Rattle.bully_calls.specs.declared.call.Phase.{Phase}
use Rattle.bully_calls.specs.declared.call.Tag.{Tag}
use Rattle.bully_calls.specs.declared.call.Outcome.{Outcome}
use Rattle.bully_calls.specs.Pending.{Pending, outcome_of}

-- a call in a slot, with the tag of its caller
pub record SlotCall : Type 0 where
  pub tag : Tag
  pub call : Call
  pub phase : Phase
  pub table : Option (List ℕ)

-- a slot: the call in it, if any, and of how many partitions a table fits in
pub record Slot : Type 0 where
  pub content : Option SlotCall
  pub room : ℕ

abbrev pub phased : Phase → SlotCall → SlotCall
phased f p = record p { phase = f }

-- the call is live while its caller has the generation of the tag
abbrev pub pending_of : ℕ → SlotCall → Pending
pending_of generation p =
    record { call = p.call; table = p.table; phase = p.phase; is_live = p.tag.generation == generation }

-- a slot as its caller's generation has it
abbrev pub pending_in : ℕ → Slot → Option Pending
pending_in generation s = option_map (pending_of generation) s.content

-- a table goes with a Ready and with no other call
abbrev pub CarriesFor : Call → Option (List ℕ) → ℕ → Type 0
CarriesFor call None room = call.kind ≢ Ready
CarriesFor call (Some table) room = (call.kind ≡ Ready) × (length table ≡ room)

-- there is a call in the slot, in a phase that passes the test
abbrev pub holds_call : (Phase → Bool) → Slot → Bool
holds_call test s = option_map_or (λ p. test p.phase) s.content false

-- the outcome of a call that ran or failed
abbrev pub outcome_in : Slot → Option Outcome
outcome_in s = option_and_then (λ p. outcome_of p.phase) s.content

-- the call in the slot is of another generation of its caller
abbrev pub is_orphan : ℕ → Slot → Bool
is_orphan generation s = option_map_or (λ p. not (p.tag.generation == generation)) s.content false
