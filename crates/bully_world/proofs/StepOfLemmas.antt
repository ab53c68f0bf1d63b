-- The function that computes a step computes exactly it, so a step has one outcome and a list leads to one world.
use Rattle.std.proofs.Common.{◌≡◌, List, [], ◌∷◌, Option, Some, None, arith, refl, sym, ◌∙◌, subst, ap, option_map, option_and_then}
use Rattle.bully_base.specs.Setup.{Setup}
use Rattle.bully_calls.specs.declared.call.Answer.{Answer}
use Rattle.bully_calls.specs.declared.event.Event.{Event}
use Rattle.bully_world.specs.Lawful.{LeadTo}
use Rattle.bully_world.specs.Step.{Step}
use Rattle.bully_world.specs.StepOf.{StepResult, StepsResult, step_of, steps_from, answered_first, StepIsComputed, LeadIsComputed, StepIsOne, LawfulIsOne}
use Rattle.bully_world.specs.World.{World, first_world}
use Rattle.bully_world.proofs.Events.{event_laws}

-- what is computed is a step
pub computed_steps : (setup : Setup) (w : World) (e : Event) (w' : World) (a : Answer) → step_of setup w e ≡ Some (w', a) → Step setup w e w' a
computed_steps setup w e w' a = ((event_laws setup e).computed w w' a).0

-- the first event and the others, where all of them are possible
parted : (t : StepResult) (f : World → StepsResult) (r : World × List Answer) → option_and_then (λ x. option_map (answered_first x.1) (f x.0)) t ≡ Some r → (x : World × Answer) × (rest : World × List Answer) × (t ≡ Some x) × (f x.0 ≡ Some rest) × (answered_first x.1 rest ≡ r)
parted None f r e = absurd (apart e)
  where
    apart : None ≡ Some r → ⊥
    apart p = cc
parted (Some x) f r e = by_rest (f x.0) refl e
  where
    by_rest : (o : StepsResult) → f x.0 ≡ o → option_map (answered_first x.1) o ≡ Some r → (y : World × Answer) × (rest : World × List Answer) × (Some x ≡ Some y) × (f y.0 ≡ Some rest) × (answered_first y.1 rest ≡ r)
    by_rest None p q = absurd (apart q)
      where
        apart : None ≡ Some r → ⊥
        apart h = cc
    by_rest (Some rest) p q = (x, rest, refl, p, grind (arith, q))

pub computed_leads : (setup : Setup) (w : World) (events : List Event) (r : World × List Answer) → steps_from setup w events ≡ Some r → LeadTo setup w events r.1 r.0
computed_leads setup w [] r e = grind (arith, e)
computed_leads setup w (e ∷ events) r t =
    let p = parted (step_of setup w e) (λ x. steps_from setup x events) r t in
    joined p.0 p.1 p.4 (computed_steps setup w e p.0.0 p.0.1 p.2) (computed_leads setup p.0.0 events p.1 p.3)
  where
    joined : (x : World × Answer) (rest : World × List Answer) → answered_first x.1 rest ≡ r → Step setup w e x.0 x.1 → LeadTo setup x.0 events rest.1 rest.0 → LeadTo setup w (e ∷ events) r.1 r.0
    joined x rest q s l = subst (λ y. LeadTo setup w (e ∷ events) y.1 y.0) q (x.0, s, l)

-- and each step is computed
pub steps_computed : (setup : Setup) (w : World) (e : Event) (w' : World) (a : Answer) → Step setup w e w' a → step_of setup w e ≡ Some (w', a)
steps_computed setup w e w' a = ((event_laws setup e).computed w w' a).1

joined_first : (x : World × Answer) (rest : World × List Answer) (t : StepResult) (f : World → StepsResult) → t ≡ Some x → f x.0 ≡ Some rest → option_and_then (λ y. option_map (answered_first y.1) (f y.0)) t ≡ Some (answered_first x.1 rest)
joined_first x rest t f e g = ap (option_and_then (λ y. option_map (answered_first y.1) (f y.0))) e ∙ ap (option_map (answered_first x.1)) g

pub leads_computed : (setup : Setup) (w : World) (events : List Event) (answers : List Answer) (w' : World) → LeadTo setup w events answers w' → steps_from setup w events ≡ Some (w', answers)
leads_computed setup w [] [] w' l = ap (λ v. Some (v, [])) (sym l)
leads_computed setup w [] (a ∷ answers) w' l = absurd l
leads_computed setup w (e ∷ events) [] w' l = absurd l
leads_computed setup w (e ∷ events) (a ∷ answers) w' l =
    joined_first (l.0, a) (w', answers) (step_of setup w e) (λ v. steps_from setup v events) (steps_computed setup w e l.0 a l.1) (leads_computed setup l.0 events answers w' l.2)

pub step_is_computed : StepIsComputed
step_is_computed setup w e w' a = (computed_steps setup w e w' a, steps_computed setup w e w' a)

pub lead_is_computed : LeadIsComputed
lead_is_computed setup w events answers w' = (computed_leads setup w events (w', answers), leads_computed setup w events answers w')

one_pair : {A B : Type 0} (x y : A) (a b : B) → ◌≡◌ {A = Option (A × B)} (Some (x, a)) (Some (y, b)) → (y ≡ x) × (b ≡ a)
one_pair x y a b e = (grind (arith, e), grind (arith, e))

pub step_is_one : StepIsOne
step_is_one setup w e w' w'' a b s t = one_pair w' w'' a b (sym (steps_computed setup w e w' a s) ∙ steps_computed setup w e w'' b t)

-- a list leads to one world, with one list of answers
pub lead_one : (setup : Setup) (w : World) (events : List Event) (answers1 answers2 : List Answer) (w1 w2 : World) → LeadTo setup w events answers1 w1 → LeadTo setup w events answers2 w2 → (w1 ≡ w2) × (answers1 ≡ answers2)
lead_one setup w events answers1 answers2 w1 w2 l k = one_pair w2 w1 answers2 answers1 (sym (leads_computed setup w events answers2 w2 k) ∙ leads_computed setup w events answers1 w1 l)

pub lawful_is_one : LawfulIsOne
lawful_is_one setup events answers others w v s t = lead_one setup (first_world setup) events others answers v w t.leads s.leads
