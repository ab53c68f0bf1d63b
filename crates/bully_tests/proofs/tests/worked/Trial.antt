-- A list that was tried whole is lawful.
use Rattle.std.proofs.Common.{◌≡◌, ℕ, ◌≤◌, true, List, length, Some, None, arith, refl, nat_le, is_some}
use Rattle.std.proofs.lemmas.Bool.{and_parts}
use Rattle.std.proofs.lemmas.Bool.Decides.{nat_tests}
use Rattle.bully_base.specs.Setup.{Setup}
use Rattle.bully_calls.specs.declared.event.Event.{Event}
use Rattle.bully_world.specs.Lawful.{IsLawful}
use Rattle.bully_world.specs.StepOf.{StepsResult, steps_of}
use Rattle.bully_world.specs.World.{first_world}
use Rattle.bully_world.proofs.StepOfLemmas.{computed_leads}
use Rattle.bully_tests.specs.Trial.{is_lawful, end_of, answers_of, last_world, all_answers}

whole : (o : StepsResult) → is_some o ≡ true → o ≡ Some (end_of o, answers_of o)
whole None e = grind (arith, e)
whole (Some r) e = refl

-- a list that passes the test is lawful
pub lawful_by : (setup : Setup) (events : List Event) → is_lawful setup events ≡ true → IsLawful setup events (all_answers setup events) (last_world setup events)
lawful_by setup events e =
    let parts = and_parts (is_some (steps_of setup events)) (nat_le (length events) setup.events_max) e in
    record {
      leads = computed_leads setup (first_world setup) events _ (whole (steps_of setup events) parts.0);
      bounded = at_numbers (length events) setup.events_max parts.1;
    }
  where
    at_numbers : (m n : ℕ) → nat_le m n ≡ true → m ≤ n
    at_numbers m n q = grind (arith, nat_tests)
