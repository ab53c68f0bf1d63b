-- A process's member changes by the calls on it alone.
use Rattle.std.proofs.Common.{◌≡◌, ◌==◌, ◌++◌, ◌∷◌, [], ℕ, Bool, true, false, List, Option, Some, None, cond, if◌then◌else◌, ◌⊎◌, inl, inr, arith, refl, sym, ap, subst, ◌∙◌}
use Rattle.std.proofs.lemmas.Bool.Decides.{nat_tests}
use Rattle.bully_member.specs.Member.{MemberState, new_member}
use Rattle.bully_round.specs.From.{HasMember, call_on, calls_on}
use Rattle.bully_run.specs.Calls.{Call, Lives, Made, Next, Takes, made_in, with_made}
use Rattle.bully_run.specs.Run.{Done, Ends, Expires, Goes, Happening, Happens, Process, Run, RunsBy, Sent, Starts, Told, id_of, sent_by, session_by, store_by, store_started, store_told, with_member}
use Rattle.bully_work.specs.Store.{Store, stops}

-- p's member after this happening: it was called so, or is the same
abbrev IsCalled : Run → ℕ → MemberState → List Call → MemberState → Type 0
IsCalled R p m calls next = HasMember R p next × (((calls ≡ []) × (next ≡ m)) ⊎ ((call : Call) × (calls ≡ call ∷ []) × Takes m call next))

member_of : (name : ℕ) (m : MemberState) (q : Process) → q ≡ record { name = name; member = m } → q.member ≡ m
member_of name m q is = ap (λ (x : Process). x.member) is

pub one_process : (there : Option Process) (a b : Process) → there ≡ Some a → there ≡ Some b → a ≡ b
one_process there a b one other = cc (one, other)

module _ (R : Run) (p : ℕ) (m : MemberState) (at : HasMember R p m) where
  -- process r's member is this then
  moved : (r i : ℕ) (after : MemberState) (s : Store) (more : List Sent) (calls : List Call) (q : Process) → R.processes r ≡ Some q → (q.member ≡ m → ((calls ≡ []) × (after ≡ m)) ⊎ ((call : Call) × (calls ≡ call ∷ []) × Takes m call after))
      → (next : MemberState) × IsCalled (with_member R r i after s more) p m (if p == r then calls else []) next
  moved r i after s more calls q there becomes = by_test (p == r) refl
    where
      by_test : (b : Bool) → (p == r) ≡ b → (next : MemberState) × IsCalled (with_member R r i after s more) p m (if b then calls else []) next
      by_test true is =
          let same : p ≡ r = grind (arith, nat_tests, is) in
          let this : q ≡ record { name = at.name; member = m } = one_process (R.processes r) q (record { name = at.name; member = m }) there (sym (ap R.processes same) ∙ at.there) in
          (after, (record { name = i; there = ap (λ b. cond b (Some (record { name = i; member = after })) (R.processes p)) is }, becomes (member_of at.name m q this)))
      by_test false is = (m, (record { name = at.name; there = ap (λ b. cond b (Some (record { name = i; member = after })) (R.processes p)) is ∙ at.there }, inl (refl, refl)))

  -- one that hasn't started is another one
  others : (r i : ℕ) (after : MemberState) (s : Store) (more : List Sent) → R.processes r ≡ None → (next : MemberState) × IsCalled (with_member R r i after s more) p m [] next
  others r i after s more unborn = by_test (p == r) refl
    where
      by_test : (b : Bool) → (p == r) ≡ b → (next : MemberState) × IsCalled (with_member R r i after s more) p m [] next
      by_test true is =
          let same : p ≡ r = grind (arith, nat_tests, is) in
          let none = sym (ap R.processes same) ∙ at.there in
          absurd (cc (unborn, none))
      by_test false is = (m, (record { name = at.name; there = ap (λ b. cond b (Some (record { name = i; member = after })) (R.processes p)) is ∙ at.there }, inl (refl, refl)))

  abbrev Leads : Happening → Run → Type 0
  Leads h R' = (next : MemberState) × IsCalled R' p m (call_on p h) next

  next_called : (h : Happening) (R' : Run) → Happens R h R' → Leads h R'
  next_called (Starts r name header terms ttl) R' (unborn, is, same) = subst (Leads (Starts r name header terms ttl)) (sym same) (others r name (new_member header terms r ttl) (store_started R.store name r terms) [] unborn)
  next_called (Goes r now next deed) R' (q, after, there, goes, may, same) = subst (Leads (Goes r now next deed)) (sym same)
      (moved r q.name after (store_by R.store q.name q.member next deed) (sent_by q.name q.member next deed) (Next now next ∷ []) q there (λ is. inr (Next now next, refl, subst (λ (x : MemberState). Takes x (Next now next) after) is goes)))
  next_called (Told r call) R' (q, after, there, takes, may, same) = subst (Leads (Told r call)) (sym same)
      (moved r q.name after (store_told R.store q.name q.member call) [] (call ∷ []) q there (λ is. inr (call, refl, subst (λ (x : MemberState). Takes x call after) is takes)))
  next_called (Ends r number left) R' (q, there, low, may, same) = subst (Leads (Ends r number left)) (sym same)
      (if_none (p == r) (moved r q.name q.member (stops R.store q.name (id_of (session_by r number)) left) [] [] q there (λ is. inl (refl, is))))
    where
      if_none : {R' : Run} (b : Bool) → (next : MemberState) × IsCalled R' p m (if b then [] else []) next → (next : MemberState) × IsCalled R' p m [] next
      if_none true is = is
      if_none false is = is
  next_called (Done x) R' (has, s, is, same) = subst (Leads (Done x)) (sym same) (m, (record { name = at.name; there = at.there }, inl (refl, refl)))
  next_called (Expires i) R' same = subst (Leads (Expires i)) (sym same) (m, (record { name = at.name; there = at.there }, inl (refl, refl)))

lives_on : (p : ℕ) (calls rest : List Call) (m next after : MemberState) (made : List Made) → ((calls ≡ []) × (next ≡ m)) ⊎ ((call : Call) × (calls ≡ call ∷ []) × Takes m call next)
    → ((others : List Made) → (all : List Made) × Lives next others rest after all) → (all : List Made) × Lives m made (calls ++ rest) after all
lives_on p calls rest m next after made (inl (none, same)) more =
    subst (λ (xs : List Call). (all : List Made) × Lives m made (xs ++ rest) after all) (sym none) (subst (λ (x : MemberState). (all : List Made) × Lives x made rest after all) same (more made))
lives_on p calls rest m next after made (inr (call, one, takes)) more =
    let (all, lives) = more (with_made made (made_in m call)) in
    subst (λ (xs : List Call). (all : List Made) × Lives m made (xs ++ rest) after all) (sym one) (all, (next, takes, lives))

all_called : (happenings : List Happening) (R R' : Run) (p : ℕ) (m : MemberState) → RunsBy R happenings R' → HasMember R p m
    → (after : MemberState) × HasMember R' p after × ((made : List Made) → (all : List Made) × Lives m made (calls_on p happenings) after all)
all_called [] R R' p m is at = (m, subst (λ (x : Run). HasMember x p m) (sym is) at, λ made. (made, (refl, refl)))
all_called (h ∷ happenings) R R' p m (mid, happens, runs) at =
    let (next, (there, by)) = next_called R p m at h mid happens in
    let (after, last, lives) = all_called happenings mid R' p next runs there in
    (after, last, λ made. lives_on p (call_on p h) (calls_on p happenings) m next after made by lives)

pub called_lem : (happenings : List Happening) (R R' : Run) (p : ℕ) (m : MemberState) → RunsBy R happenings R' → HasMember R p m
    → (after : MemberState) × (all : List Made) × HasMember R' p after × Lives m [] (calls_on p happenings) after all
called_lem happenings R R' p m runs at = let (after, last, lives) = all_called happenings R R' p m runs at in let (all, by) = lives [] in (after, all, last, by)
