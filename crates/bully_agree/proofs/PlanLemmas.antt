-- The last plan of a list, found from the front.
use Rattle.std.proofs.Common.{◌≡◌, ◌+◌, ◌≤◌, ◌++◌, ◌⊎◌, inl, inr, ℕ, false, List, [], ◌∷◌, Option, Some, None, length, length-append, add-zero, arith, refl, sym, ap, ◌∙◌}
use Rattle.std.proofs.lemmas.Bool.{or_parts}
use Rattle.bully_calls.specs.declared.event.Event.{Event}
use Rattle.bully_agree.specs.Fencing.{is_plan, has_plan, Planned, IsLastPlan, plan_then, IsLast}

-- the last plan behind the events, where there were so many before and this was the last one of those
abbrev pub last_of : ℕ → Option Planned → List Event → Option Planned
last_of count last [] = last
last_of count last (e ∷ events) = last_of (count + 1) (plan_then count last e) events

plan_stays : (count : ℕ) (last : Option Planned) (e : Event) → is_plan e ≡ false → plan_then count last e ≡ last
plan_stays count last (Event.Plan i table) other = absurd (cc)
plan_stays count last e other = refl

-- without a plan the last one stays
stays : (count : ℕ) (last : Option Planned) (events : List Event) → has_plan events ≡ false → last_of count last events ≡ last
stays count last [] none = refl
stays count last (e ∷ events) none =
    let apart = or_parts (is_plan e) (has_plan events) none in
    stays (count + 1) (plan_then count last e) events apart.1 ∙ plan_stays count last e apart.0

-- one list, then another
pub last_append : (count : ℕ) (last : Option Planned) (xs ys : List Event) → last_of count last (xs ++ ys) ≡ last_of (count + length xs) (last_of count last xs) ys
last_append count last [] ys = ap (λ n. last_of n last ys) (sym (add-zero count))
last_append count last (x ∷ xs) ys =
    let same : count + 1 + length xs ≡ count + length (x ∷ xs) = omega arith in
    last_append (count + 1) (plan_then count last x) xs ys ∙ ap (λ n. last_of n (last_of (count + 1) (plan_then count last x) xs) ys) same

-- what was said to be the last plan is found
pub last_is : (events : List Event) (p : Planned) → IsLastPlan events p → last_of 0 None events ≡ Some p
last_is events p is =
    let whole = ap (last_of 0 None) is.parts in
    let parted = last_append 0 None is.before (Event.Plan p.planner p.table ∷ is.after) in
    let behind = stays (0 + length is.before + 1) (Some (record { planner = p.planner; table = p.table; token = 0 + length is.before + 1 })) is.after is.last in
    let same : 0 + length is.before + 1 ≡ p.token = omega (arith, is.counted) in
    whole ∙ parted ∙ behind ∙ ap (λ n. Some (record { planner = p.planner; table = p.table; token = n })) same

-- the last plan of the events, which follow so many others
pub record IsLastFrom (count : ℕ) (events : List Event) (p : Planned) : Type 0 where
  pub before : List Event
  pub after : List Event
  pub parts : events ≡ before ++ Event.Plan p.planner p.table ∷ after
  pub last : has_plan after ≡ false
  pub counted : p.token ≡ count + length before + 1

-- there is none, or it is found
abbrev pub Found : ℕ → Option Planned → List Event → Type 0
Found count last events =
    ((has_plan events ≡ false) × (last_of count last events ≡ last))
    ⊎ ((p : Planned) × IsLastFrom count events p × (last_of count last events ≡ Some p))

found_first : (count : ℕ) (last : Option Planned) (e : Event) (events : List Event) → has_plan events ≡ false → last_of count last (e ∷ events) ≡ plan_then count last e → Found count last (e ∷ events)
found_first count last (Event.Plan i table) events none same =
    inr (record { planner = i; table = table; token = count + 1 }, record { before = []; after = events; parts = refl; last = none; counted = omega arith }, same)
found_first count last e events none same = inl (none, same)

found_later : (count : ℕ) (last : Option Planned) (e : Event) (events : List Event) → Found (count + 1) (plan_then count last e) events → Found count last (e ∷ events)
found_later count last e events (inl (none, same)) = found_first count last e events none same
found_later count last e events (inr (p, is, same)) =
    inr (p, record { before = e ∷ is.before; after = is.after; parts = ap (λ xs. e ∷ xs) is.parts; last = is.last; counted = omega (arith, is.counted) }, same)

pub found : (count : ℕ) (last : Option Planned) (events : List Event) → Found count last events
found count last [] = inl (refl, refl)
found count last (e ∷ events) = found_later count last e events (found (count + 1) (plan_then count last e) events)

-- what is found is the last plan
pub is_last : (events : List Event) (p : Planned) → last_of 0 None events ≡ Some p → IsLastPlan events p
is_last events p is = by_case (found 0 None events)
  where
    by_case : Found 0 None events → IsLastPlan events p
    by_case (inl (none, same)) = absurd (cc)
    by_case (inr (q, from, same)) =
        let e : q ≡ p = cc in
        let last : IsLastPlan events q = record { before = from.before; after = from.after; parts = from.parts; last = from.last; counted = omega (arith, from.counted) } in
        rw e at last

-- there is one last plan
pub one_last : (events : List Event) (p q : Planned) → IsLastPlan events p → IsLastPlan events q → p ≡ q
one_last events p q a b =
    let e = last_is events p a in
    let f = last_is events q b in
    cc

-- no token is above the number of events
pub token_within : (events : List Event) (p : Planned) → IsLastPlan events p → p.token ≤ length events
token_within events p is =
    let whole : length events ≡ length is.before + length (Event.Plan p.planner p.table ∷ is.after) = ap length is.parts ∙ length-append is.before (Event.Plan p.planner p.table ∷ is.after) in
    omega (arith, whole, is.counted)

-- with more events the token is no lower, and with the same token it is the same plan
pub tokens_rise : (events more : List Event) (p q : Planned) → IsLastPlan events p → IsLastPlan (events ++ more) q → (p.token ≤ q.token) × (p.token ≡ q.token → p ≡ q)
tokens_rise events more p q a b = by_case (found (0 + length events) (Some p) more)
  where
    at_end : last_of (0 + length events) (Some p) more ≡ Some q
    at_end = sym (ap (λ last. last_of (0 + length events) last more) (last_is events p a)) ∙ sym (last_append 0 None events more) ∙ last_is (events ++ more) q b

    by_case : Found (0 + length events) (Some p) more → (p.token ≤ q.token) × (p.token ≡ q.token → p ≡ q)
    by_case (inl (none, same)) =
        let e : p ≡ q = cc at_end in
        (omega (arith, ap (λ x. x.token) e), λ _. e)
    by_case (inr (r, from, same)) =
        let e : r ≡ q = cc at_end in
        let later : r.token ≡ 0 + length events + length from.before + 1 = from.counted in
        let above = token_within events p a in
        let alike : r.token ≡ q.token = ap (λ x. x.token) e in
        (omega (arith, later, above, alike), λ t. absurd (omega (arith, later, above, alike, t)))

-- the last plan, or none, is what is found
pub last_found : (events : List Event) (last : Option Planned) → IsLast events last → last_of 0 None events ≡ last
last_found events None is = stays 0 None events is
last_found events (Some p) is = last_is events p is

pub found_last : (events : List Event) (last : Option Planned) → last_of 0 None events ≡ last → IsLast events last
found_last events (Some p) is = is_last events p is
found_last events None is = by_case (found 0 None events)
  where
    by_case : Found 0 None events → has_plan events ≡ false
    by_case (inl (none, same)) = none
    by_case (inr (q, from, same)) = absurd (cc)

-- one event more
pub last_then : (events : List Event) (last : Option Planned) (e : Event) → IsLast events last → IsLast (events ++ e ∷ []) (plan_then (length events) last e)
last_then events last e is =
    let whole = last_append 0 None events (e ∷ []) in
    let count : 0 + length events ≡ length events = omega arith in
    let behind : plan_then (0 + length events) (last_of 0 None events) e ≡ plan_then (length events) last e =
    ap (λ n. plan_then n (last_of 0 None events) e) count ∙ ap (λ l. plan_then (length events) l e) (last_found events last is) in
    found_last (events ++ e ∷ []) (plan_then (length events) last e) (whole ∙ behind)
