-- What is left of a list, with the call at hand, decides whether the list is whole.
use Rattle.std.proofs.Common.{◌≡◌, ◌+◌, ◌++◌, inl, inr, ℕ, suc, Bool, true, false, List, [], ◌∷◌, Some, None, take, drop, length, append_assoc, refl, sym, ap, subst, ◌∙◌, ◌&&◌, ◌==◌, slice_get, if◌then◌else◌, eq-eqb, append-nil}
use Rattle.std.proofs.Math.Seq.{take-length}
use Rattle.std.proofs.lemmas.Option.{slice_get_within}
use Rattle.bully_calls.specs.declared.event.Event.{Event}
use Rattle.bully_agree.specs.Progress.{may_stand, progress_after}
use Rattle.bully_agree.specs.WholeCalls.{BreaksAt, MayGoOn, is_whole, settles, gives_back}
use Rattle.bully_agree.specs.declared.whole_calls.Progress.{Progress}
use Rattle.bully_agree.specs.declared.whole_calls.Progress.TheVariants.{Between, Started, Over}
use Rattle.bully_agree.proofs.RunLemmas.{part, take-more}

abbrev pub is_between : Progress → Bool
is_between Between = true
is_between (Started i) = false
is_between (Over i) = false

-- the events make the call at hand whole, and go on as a whole-call list
abbrev pub is_whole_from : Progress → List Event → Bool
is_whole_from progress [] = is_between progress
is_whole_from progress (e ∷ events) = may_stand progress e && is_whole_from (progress_after progress e) events

and-false : (b : Bool) → (b && false) ≡ false
and-false true = refl
and-false false = refl

-- between two calls, what is left is a list of its own
pub whole-between : (events : List Event) → is_whole events ≡ is_whole_from Between events
whole-between [] = refl
whole-between (Event.Start i ∷ []) = refl
whole-between (Event.Start i ∷ e ∷ []) = sym (and-false (settles i e))
whole-between (Event.Start i ∷ e ∷ f ∷ events) = ap (λ b. settles i e && (gives_back i f && b)) (whole-between events)
whole-between (Event.Run i ∷ events) = refl
whole-between (Event.Lose i ∷ events) = refl
whole-between (Event.Return i ∷ events) = refl
whole-between (e ∷ events) = whole-between events

-- the events so far led to this progress
pub record LedTo (events : List Event) (progress : Progress) : Type 0 where
  pub rest : (rest : List Event) → is_whole (events ++ rest) ≡ is_whole_from progress rest

-- the call at hand can be made whole
pub goes_on : (events : List Event) (progress : Progress) → LedTo events progress → MayGoOn events
goes_on events Between led = ([], led.rest [])
goes_on events (Started i) led =
    let same : (i == i) ≡ true = eq-eqb i i refl in
    (Event.Run i ∷ Event.Return i ∷ [], led.rest (Event.Run i ∷ Event.Return i ∷ []) ∙ rw same refl)
goes_on events (Over i) led = (Event.Return i ∷ [], led.rest (Event.Return i ∷ []) ∙ rw (eq-eqb i i refl) refl)

next : (events : List Event) (k : ℕ) (e : Event) (progress : Progress) → slice_get events k ≡ Some e → LedTo (take k events) progress → (rest : List Event)
    → is_whole (take (k + 1) events ++ rest) ≡ (may_stand progress e && is_whole_from (progress_after progress e) rest)
next events k e progress there led rest =
    ap (λ xs. is_whole (xs ++ rest)) (take-more events k e there) ∙ ap is_whole (append_assoc (take k events) (e ∷ []) rest) ∙ led.rest (e ∷ rest)

-- an event that may stand here
pub whole-next : (events : List Event) (k : ℕ) (e : Event) (progress after : Progress) → slice_get events k ≡ Some e → LedTo (take k events) progress
    → Some after ≡ (if may_stand progress e then Some (progress_after progress e) else None) → LedTo (take (k + 1) events) after
whole-next events k e progress after there led is = by_test (may_stand progress e) refl is
  where
    by_test : (b : Bool) → may_stand progress e ≡ b → Some after ≡ (if b then Some (progress_after progress e) else None) → LedTo (take (k + 1) events) after
    by_test true test is =
        let same : after ≡ progress_after progress e = cc is in
        record { rest = λ rest. next events k e progress there led rest ∙ ap (λ b. b && is_whole_from (progress_after progress e) rest) test ∙ ap (λ s. is_whole_from s rest) (sym same) }
    by_test false test is = absurd (cc is)

-- an event that may not
pub whole-breaks : (events : List Event) (k : ℕ) (e : Event) (progress : Progress) → slice_get events k ≡ Some e → LedTo (take k events) progress
    → None ≡ (if may_stand progress e then Some (progress_after progress e) else None) → BreaksAt events k × (is_whole events ≡ false)
whole-breaks events k e progress there led is = by_test (may_stand progress e) refl is
  where
    by_test : (b : Bool) → may_stand progress e ≡ b → None ≡ (if b then Some (progress_after progress e) else None) → BreaksAt events k × (is_whole events ≡ false)
    by_test true test is = absurd (cc is)
    by_test false test is =
        let broken : (rest : List Event) → is_whole (take (k + 1) events ++ rest) ≡ false = λ rest. next events k e progress there led rest ∙ ap (λ b. b && is_whole_from (progress_after progress e) rest) test in
        let all : is_whole events ≡ false = ap is_whole (part events k e there) ∙ led.rest (e ∷ drop (suc k) events) ∙ ap (λ b. b && is_whole_from (progress_after progress e) (drop (suc k) events)) test in
        ((goes_on (take k events) progress led, inl (slice_get_within events k e there, λ on. absurd (cc (on.1, broken on.0)))), all)

whole-end : (events : List Event) (progress : Progress) → LedTo (take (length events) events) progress → is_whole events ≡ is_between progress
whole-end events progress led = ap is_whole (sym (append-nil events) ∙ ap (λ xs. xs ++ []) (sym (take-length events))) ∙ led.rest []

-- the end of the list, between two calls
pub whole-ends : (events : List Event) (k : ℕ) (progress : Progress) → k ≡ length events → LedTo (take k events) progress → progress ≡ Between → is_whole events ≡ true
whole-ends events k progress end led is = whole-end events progress (subst (λ n. LedTo (take n events) progress) end led) ∙ ap is_between is

-- the end of the list, in the middle of a call
pub whole-cut : (events : List Event) (k : ℕ) (progress : Progress) → k ≡ length events → LedTo (take k events) progress → is_between progress ≡ false → BreaksAt events (length events) × (is_whole events ≡ false)
whole-cut events k progress end led is =
    let here = subst (λ n. LedTo (take n events) progress) end led in
    let cut : is_whole events ≡ false = whole-end events progress here ∙ is in
    ((goes_on (take (length events) events) progress here, inr (refl, cut)), cut)

pub not_between : (progress : Progress) → (progress ≡ Between → ⊥) → is_between progress ≡ false
not_between Between other = absurd (other refl)
not_between (Started i) other = refl
not_between (Over i) other = refl
