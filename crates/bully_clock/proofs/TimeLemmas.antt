-- As long as a lease is sure by its member's clock, no clock of the store has counted a ttl since it was granted.
use Rattle.std.proofs.Common.{◌≡◌, ◌≤◌, ◌<◌, ◌+◌, ◌-◌, ◌*◌, ◌/◌, ◌^◌, inl, inr, ℕ, true, false, Contains, arith, refl, sym, ap, subst, ◌∙◌}
use Rattle.std.proofs.lemmas.Bool.Decides.{nat_tests}
use Rattle.bully_clock.proofs.StoreLemmas.{IsKept, Left, WasOver}
use Rattle.bully_clock.specs.Timed.{Clocks, Grant, IsCounted, IsGone, IsNoFaster, IsNoSlower, IsSteady, KeepsUp, TimedRun}
use Rattle.bully_member.specs.Times.{sure, sure_for}
use Rattle.bully_member.specs.declared.values.SessionId.{SessionId}
use Rattle.bully_member.specs.declared.values.SessionState.{SessionState}
use Rattle.bully_run.proofs.FrameLemmas.{ids_apart}
use Rattle.bully_run.specs.Run.{SentRelease, id_of, session_by}
use Rattle.bully_work.specs.Store.{IsLive}

-- what is sure, and `late` more, is less than the clock counts while a ttl is over by the store's
short : (ttl late own : ℕ) → own < sure_for ttl + late → 4 * ttl + 5 * late ≤ 5 * own → ⊥
short ttl late own less more = omega (arith, less, more)

-- the lease wasn't over: its own clock has counted too little since it was asked for
not_over : (C : Clocks) (p k late now t moment : ℕ) (g : Grant) → IsSteady C p late → now ≤ t → moment ≤ g.at → C.own p t - C.own p moment < sure_for (C.ttl p) + late → k < 2 ^ 64 → g.session ≡ id_of (session_by p k) → WasOver C now g → ⊥
not_over C p k late now t moment g steady later before less low own over = short (C.ttl p) late (C.own p over.to - C.own p over.since) within long
  where
    long : 4 * C.ttl p + 5 * late ≤ 5 * (C.own p over.to - C.own p over.since)
    long = steady.keeps over.clock over.since over.to over.before (over.ttl p k low own)

    within : C.own p over.to - C.own p over.since < sure_for (C.ttl p) + late
    within =
        let past = over.past in
        let after = over.after in
        let first : C.own p moment ≤ C.own p over.since = steady.onward moment over.since (omega (arith, before, after)) in
        let last : C.own p over.to ≤ C.own p t = steady.onward over.to t (omega (arith, past, later)) in
        omega (arith, less, first, last)

-- so it has its lease, if no release was sent
pub lease_kept : (C : Clocks) (T : TimedRun) (p i k late t since : ℕ) → IsSteady C p late → T.now ≤ t → k < 2 ^ 64 → ((g : Grant) → Contains T.grants g → IsKept C T.now T.gone T.run.store T.run.sent g) → T.gone p ≡ false
    → (Contains T.run.sent (SentRelease i (id_of (session_by p k))) → ⊥) → IsCounted C T p i (session_by p k) since → C.own p t - since < sure_for (C.ttl p) + late → IsLive T.run.store i (id_of (session_by p k))
lease_kept C T p i k late t since steady later low kept alive held counted less = by_cases (kept g counted.done).left
  where
    g : Grant
    g = counted.grant

    here : IsLive T.run.store g.name g.session → IsLive T.run.store i (id_of (session_by p k))
    here live = subst (λ j. IsLive T.run.store j (id_of (session_by p k))) counted.name (subst (λ n. IsLive T.run.store g.name n) counted.own live)

    not_gone : IsGone T.gone g.session → ⊥
    not_gone is =
        let same : is.process ≡ p = (ids_apart is.process p is.number k is.low low (sym is.own ∙ counted.own)).0 in
        let both : true ≡ false = sym is.over ∙ (ap T.gone same ∙ alive) in
        absurd (cc both)

    by_cases : Left C T.now T.gone T.run.store T.run.sent g → IsLive T.run.store i (id_of (session_by p k))
    by_cases (inl live) = here live
    by_cases (inr (inl over)) = absurd (not_over C p k late T.now t counted.moment g steady later counted.before (subst (λ x. C.own p t - x < sure_for (C.ttl p) + late) counted.shows less) low counted.own over)
    by_cases (inr (inr (inr is))) = absurd (not_gone is)
    by_cases (inr (inr (inl released))) = absurd (held (subst (λ j. Contains T.run.sent (SentRelease j (id_of (session_by p k)))) counted.name (subst (λ n. Contains T.run.sent (SentRelease g.name n)) counted.own released)))

-- What is sure.

pub record IsSure (state : SessionState) (ttl now : ℕ) : Type 0 where
  pub session : SessionId
  pub since : ℕ
  pub live : state ≡ SessionState.Live session since
  pub within : now - since < sure_for ttl

pub is_sure : (state : SessionState) (ttl now : ℕ) → sure state ttl now ≡ true → IsSure state ttl now
is_sure SessionState.Absent ttl now is = absurd (cc is)
is_sure (SessionState.Unknown session) ttl now is = absurd (cc is)
is_sure (SessionState.Live session since) ttl now is = record { session = session; since = since; live = refl; within = grind (arith, nat_tests, is) }

-- Clocks that run at nearly the rate of true time.
pub rates_lem : (C : Clocks) (p : ℕ) → ((o : ℕ) → IsNoFaster 9 (C.ender o)) → IsNoSlower 9 (C.own p) → KeepsUp C p 0
rates_lem C p fast slow o s t order over = let few = fast o s t order in let many = slow s t order in omega (arith, few, many, over)

pub spare_lem : (C : Clocks) (p : ℕ) → ((o : ℕ) → IsNoFaster 20 (C.ender o)) → IsNoSlower 20 (C.own p) → KeepsUp C p (C.ttl p / 10)
spare_lem C p fast slow o s t order over = let few = fast o s t order in let many = slow s t order in omega (arith, few, many, over)

pub one_clock_lem : (C : Clocks) (p : ℕ) → ((o t : ℕ) → C.ender o t ≡ C.own p t) → KeepsUp C p (C.ttl p / 5)
one_clock_lem C p same o s t order over = let first = same o s in let last = same o t in omega (arith, first, last, over)
