-- A list of events that is lawful with some bound on events is so with each larger one: no step reads the bound. What a step
-- reads of a setup is the same in both: the numbers of nodes and partitions, the weights, and for a crash and a recovery
-- whether tasks are kept.
use Rattle.std.proofs.Common.{◌≡◌, ℕ, zero, suc, ◌≤◌, List, [], ◌∷◌, Option, Bool, true, false, arith, refl}
use Rattle.bully_base.specs.Setup.{Setup}
use Rattle.bully_calls.specs.declared.call.Answer.{Answer}
use Rattle.bully_calls.specs.declared.call.Outcome.{Outcome}
use Rattle.bully_steps.specs.declared.point.Point.{Point}
use Rattle.bully_steps.specs.declared.point.Point.TheVariants.{Idle, Asking, Halting, Announcing, Planning, Readying, Checking, Inquiring}
use Rattle.bully_steps.specs.NextPoint.{next_point}
use Rattle.bully_steps.specs.Point.{offered}
use Rattle.bully_table.specs.Balance.{IsBalanced, base_of, total_weight}
use Rattle.bully_calls.specs.declared.event.Event.{Event}
use Rattle.bully_world.specs.Lawful.{LeadTo, IsLawful}
use Rattle.bully_world.specs.Step.{Step, Returns, Proceeds}
use Rattle.bully_world.specs.World.{World, first_world}

-- the setup with another bound
abbrev bounded_by : Setup → ℕ → Setup
bounded_by setup most = record setup { events_max = most }

offered-bound : (setup : Setup) (most : ℕ) (coordinator : Option ℕ) (p : Point) → offered (bounded_by setup most) coordinator p ≡ offered setup coordinator p
offered-bound setup most coordinator Idle = refl
offered-bound setup most coordinator (Asking k) = refl
offered-bound setup most coordinator (Halting zero) = refl
offered-bound setup most coordinator (Halting (suc k)) = refl
offered-bound setup most coordinator (Announcing []) = refl
offered-bound setup most coordinator (Announcing (k ∷ rest)) = refl
offered-bound setup most coordinator Planning = refl
offered-bound setup most coordinator (Readying []) = refl
offered-bound setup most coordinator (Readying (k ∷ rest)) = refl
offered-bound setup most coordinator (Checking k) = refl
offered-bound setup most coordinator Inquiring = grind arith

next_point-bound : (setup : Setup) (most i : ℕ) (up : List ℕ) (p : Point) (o : Outcome) → next_point (bounded_by setup most) i up p o ≡ next_point setup i up p o
next_point-bound setup most i up p o = grind arith

proceeds-bound : (setup : Setup) (most : ℕ) (w : World) (i : ℕ) (o : Outcome) (w' : World) → Proceeds setup w i o w' → Proceeds (bounded_by setup most) w i o w'
proceeds-bound setup most w i o w' s = grind (arith, s, next_point-bound)

returns-bound : (setup : Setup) (most : ℕ) (w : World) (i : ℕ) (live : Bool) (o : Outcome) (w' : World) (a : Answer) → Returns setup w i live o w' a → Returns (bounded_by setup most) w i live o w' a
returns-bound setup most w i true o w' a s = (proceeds-bound setup most w i o w' s.0, s.1)
returns-bound setup most w i false o w' a s = s

base-bound : (setup : Setup) (most : ℕ) (members : List ℕ) (m : ℕ) → base_of (bounded_by setup most) members m ≡ base_of setup members m
unfolding base_of total_weight
base-bound setup most members m = refl

balanced-bound : (setup : Setup) (most : ℕ) (table members : List ℕ) → IsBalanced setup table members → IsBalanced (bounded_by setup most) table members
balanced-bound setup most table members is = record {
  owned = is.owned;
  fair = λ m x. rw (base-bound setup most members m) (is.fair m x);
}

-- no step reads the bound
step-bound : (setup : Setup) (most : ℕ) (w : World) (e : Event) (w' : World) (a : Answer) → Step setup w e w' a → Step (bounded_by setup most) w e w' a
step-bound setup most w (Event.Start i) w' a s = grind (arith, s, offered-bound)
step-bound setup most w (Event.Return i) w' a s = (s.0, s.1, s.2, s.3, returns-bound setup most w i s.0.is_live s.1 w' a s.4)
step-bound setup most w (Event.Move i) w' a s = grind (arith, s, offered-bound, proceeds-bound)
step-bound setup most w (Event.Plan i table) w' a s = (s.0, s.1, s.2, balanced-bound setup most table _ s.3, s.4, s.5)
step-bound setup most w e w' a s = s

lead-bound : (setup : Setup) (most : ℕ) (w : World) (events : List Event) (answers : List Answer) (w' : World) → LeadTo setup w events answers w' → LeadTo (bounded_by setup most) w events answers w'
lead-bound setup most w [] [] w' l = l
lead-bound setup most w (e ∷ events) (a ∷ answers) w' l = (l.0, step-bound setup most w e l.0 a l.1, lead-bound setup most l.0 events answers w' l.2)
lead-bound setup most w [] (a ∷ answers) w' l = elim l [ ]
lead-bound setup most w (e ∷ events) [] w' l = elim l [ ]

-- with a larger bound the list is lawful too
pub lawful-bound : (setup : Setup) (most : ℕ) (events : List Event) (answers : List Answer) (w : World) → setup.events_max ≤ most → IsLawful setup events answers w → IsLawful (bounded_by setup most) events answers w
lawful-bound setup most events answers w l is = record {
  leads = lead-bound setup most (first_world setup) events answers w is.leads;
  bounded = omega (arith, is.bounded, l);
}
