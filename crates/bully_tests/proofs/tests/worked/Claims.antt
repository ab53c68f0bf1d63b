-- What a computation tells of a list of events.
use Rattle.std.proofs.Common.{◌≡◌, ℕ, ◌≤◌, Bool, true, false, List, [], ◌∷◌, length, Option, Some, None, arith, refl, subst, ◌+◌, zero, suc, ◌&&◌, nat_le, is_some, is_none, min, take, slice_get, length-take}
use Rattle.std.specs.Option.{option_map_or}
use Rattle.std.proofs.lemmas.Bool.{and_parts}
use Rattle.std.proofs.lemmas.Bool.Decides.{nat_tests}
use Rattle.bully_base.specs.Setup.{Setup}
use Rattle.bully_calls.specs.declared.call.Answer.{Answer}
use Rattle.bully_calls.specs.declared.event.Event.{Event}
use Rattle.bully_calls.specs.declared.event.Refused.{Refused}
use Rattle.bully_world.specs.Cause.{cause}
use Rattle.bully_world.specs.Lawful.{LeadTo}
use Rattle.bully_world.specs.World.{World, first_world}
use Rattle.bully_tests.specs.Claims.{PrintedNode, ShowsAs, After, NoneIsRefused, EndsAs, IsRefusedAt, IsAnsweredAt, Goes}
use Rattle.bully_tests.specs.Trial.{is_lawful, last_world, all_answers, passes_from, passes}
use Rattle.bully_world.specs.StepOf.{StepResult, step_of, steps_of}
use Rattle.bully_world.proofs.StepOfLemmas.{computed_steps}
use Rattle.bully_tests.proofs.tests.worked.Trial.{lawful_by}

-- behind the first k, the next event isn't refused
abbrev Unrefused : Setup → World → ℕ → List Event → ℕ → Event → Type 0
Unrefused setup w count events k e =
    (answers : List Answer) × (v : World) × LeadTo setup w (take k events) answers v × (cause setup v (count + k) e ≡ None)

unrefused_first : (setup : Setup) (w : World) (count : ℕ) (x e : Event) → is_none (cause setup w count x) ≡ true → Some x ≡ Some e → cause setup w (count + 0) e ≡ None
unrefused_first setup w count x e p g = grind (arith, none (cause setup w count x) p, g)
  where
    none : (o : Option Refused) → is_none o ≡ true → o ≡ None
    none o q = grind (arith, q)

unrefused_rest : (setup : Setup) (w : World) (count : ℕ) (x : Event) (events : List Event) (k : ℕ) (e : Event) (t : StepResult) → step_of setup w x ≡ t → option_map_or (λ r. passes_from setup r.0 (count + 1) events) t false ≡ true → ((v : World) → passes_from setup v (count + 1) events ≡ true → Unrefused setup v (count + 1) events k e) → Unrefused setup w count (x ∷ events) (suc k) e
unrefused_rest setup w count x events k e None q h more = grind (arith, h)
unrefused_rest setup w count x events k e (Some t) q h more =
    let rest = more t.0 h in
    (t.1 ∷ rest.0, rest.1, (t.0, computed_steps setup w x t.0 t.1 q, rest.2), further rest.1 rest.3)
  where
    further : (v : World) → cause setup v (count + 1 + k) e ≡ None → cause setup v (count + suc k) e ≡ None
    further v c = subst (λ n. cause setup v n e ≡ None) (omega arith) c

unrefused_from : (setup : Setup) (w : World) (count : ℕ) (events : List Event) (k : ℕ) (e : Event) → passes_from setup w count events ≡ true → slice_get events k ≡ Some e → Unrefused setup w count events k e
unrefused_from setup w count [] k e p g = absurd (apart g)
  where
    apart : None ≡ Some e → ⊥
    apart h = cc
unrefused_from setup w count (x ∷ events) zero e p g =
    ([], w, refl, unrefused_first setup w count x e (and_parts (is_none (cause setup w count x)) (option_map_or (λ t. passes_from setup t.0 (count + 1) events) (step_of setup w x) false) p).0 g)
unrefused_from setup w count (x ∷ events) (suc k) e p g =
    unrefused_rest setup w count x events k e (step_of setup w x) refl
    (and_parts (is_none (cause setup w count x)) (option_map_or (λ t. passes_from setup t.0 (count + 1) events) (step_of setup w x) false) p).1
    (λ v h. unrefused_from setup v (count + 1) events k e h g)

-- none of the events of a list that passes the test is refused
pub unrefused : (setup : Setup) (events : List Event) → passes setup events ≡ true → nat_le (length events) setup.events_max ≡ true → NoneIsRefused setup events
unrefused setup events p l k e g =
    let r = unrefused_from setup (first_world setup) 0 events k e p g in
    (r.0, r.1, record { leads = r.2; bounded = shorter (length-take k events) }, at_k r.1 r.3)
  where
    at_k : (v : World) → cause setup v (0 + k) e ≡ None → cause setup v k e ≡ None
    at_k v c = subst (λ n. cause setup v n e ≡ None) (omega arith) c

    at_numbers : (m n : ℕ) → nat_le m n ≡ true → m ≤ n
    at_numbers m n q = grind (arith, nat_tests)

    shorter : length (take k events) ≡ min k (length events) → length (take k events) ≤ setup.events_max
    shorter q = grind (arith, q, at_numbers (length events) setup.events_max l)

-- the claims on a list, each from a computation
pub after : (setup : Setup) (events : List Event) (k : ℕ) (P : World → Type 0) → is_lawful setup (take k events) ≡ true → P (last_world setup (take k events)) → After setup events k P
after setup events k P l h = (all_answers setup (take k events), last_world setup (take k events), lawful_by setup (take k events) l, h)

pub ends : (setup : Setup) (events : List Event) (rows : List PrintedNode) → is_lawful setup events ≡ true → passes setup events ≡ true → ShowsAs (last_world setup events) rows → EndsAs setup events (length events) rows
ends setup events rows l p s =
    (refl, unrefused setup events p (and_parts (is_some (steps_of setup events)) (nat_le (length events) setup.events_max) l).1, all_answers setup events, last_world setup events, lawful_by setup events l, s)

pub refused_at : (setup : Setup) (events : List Event) (k : ℕ) (e : Event) (refused : Refused) → slice_get events k ≡ Some e → is_lawful setup (take k events) ≡ true → cause setup (last_world setup (take k events)) k e ≡ Some refused → IsRefusedAt setup events k refused
refused_at setup events k e refused g l c = (e, g, after setup events k (λ w. cause setup w k e ≡ Some refused) l c)

pub answered_at : (setup : Setup) (events : List Event) (k : ℕ) (a : Answer) → is_lawful setup (take (k + 1) events) ≡ true → slice_get (all_answers setup (take (k + 1) events)) k ≡ Some a → IsAnsweredAt setup events k a
answered_at setup events k a l g = (all_answers setup (take (k + 1) events), last_world setup (take (k + 1) events), lawful_by setup (take (k + 1) events) l, g)

abbrev pub all_lawful : {A : Type 0} → Setup → List Event → List (ℕ × A) → Bool
all_lawful setup events [] = true
all_lawful setup events (stop ∷ stops) = is_lawful setup (take stop.0 events) && all_lawful setup events stops

abbrev pub Seen : {A : Type 0} → Setup → List Event → (World → A) → List (ℕ × A) → Type 0
Seen setup events f [] = Unit {0}
Seen setup events f (stop ∷ stops) = (f (last_world setup (take stop.0 events)) ≡ stop.1) × Seen setup events f stops

pub goes : {A : Type 0} (setup : Setup) (events : List Event) (f : World → A) (stops : List (ℕ × A)) → all_lawful setup events stops ≡ true → Seen setup events f stops → Goes setup events f stops
goes setup events f [] l h = tt
goes setup events f (stop ∷ stops) l h =
    let parts = and_parts (is_lawful setup (take stop.0 events)) (all_lawful setup events stops) l in
    (after setup events stop.0 (λ w. f w ≡ stop.1) parts.0 h.0, goes setup events f stops parts.1 h.1)
