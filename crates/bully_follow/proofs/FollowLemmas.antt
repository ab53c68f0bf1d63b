-- A text whose rows are followed one by one, up to where that ends.
use Rattle.std.proofs.Common.{◌≡◌, ◌∙◌, inl, inr, ℕ, true, List, Option, Some, None, Result, Ok, Err, refl, subst, sym}
use Rattle.std.specs.Prelude.{IfErr, OnOk, option_map}
use Rattle.bully_base.specs.Setup.{Setup}
use Rattle.bully_rows.specs.declared.header.Header.{Header}
use Rattle.bully_rows.specs.declared.trace.Row.{Row}
use Rattle.bully_rows.specs.declared.trace_feeding.BehindHeader.{BehindHeader}
use Rattle.bully_rows.specs.RecordsLeft.{IsUnread, ReadSoFar, rows_left}
use Rattle.bully_rows.specs.Feeding.{AllTaken, AreTakenBy, IsNext, IsTakenSoFar, StopsBehind, StopsNext}
use Rattle.bully_rows.proofs.FeedingLemmas.{kept-by-all, refused-ends, taken-next, taken-to-end, unreadable-ends}
use Rattle.bully_account.specs.Accounts.{AccountState}
use Rattle.bully_follow.specs.declared.following.Stop.{Stop}
use Rattle.bully_follow.specs.declared.followed.Followed.{Followed}
use Rattle.bully_follow.specs.Followed.{AreJudgedAs, HasFollowed, IsEnded, IsFollowFault, IsFollowedAs, Refuses, TakesFollowed, fault_in}
use Rattle.bully_trace.specs.declared.verdict.Verdict.{Verdict}
use Rattle.bully_trace.specs.Judging.{HasJudged}
use Rattle.bully_trace.specs.OneRow.{decides}
use Rattle.bully_trace.specs.Verdict.{IsJudged}
use Rattle.bully_world.specs.State.{world_of}
use Rattle.bully_world.specs.World.{first_world}

takes-some : (reader : ReadSoFar) (before : Option (BehindHeader Followed)) → TakesFollowed reader before None → ⊥
takes-some reader None takes = takes
takes-some reader (Some b) takes = takes

-- what follows the rows of a text, where that was begun
abbrev pub followed_in : Option (BehindHeader Followed) → Option Followed
followed_in = option_map (λ b. b.sink)

decided-ended : (known : Option (List ℕ)) (now : ReadSoFar) (before after : Option (BehindHeader Followed)) (verdict : Verdict) → TakesFollowed now before after → decides verdict now.number ≡ true
    → ((b : BehindHeader Followed) (header : Header) (rows : List Row) → after ≡ Some b → HasFollowed header rows b.sink → AreJudgedAs header rows verdict)
    → IsTakenSoFar HasFollowed known now after → IsEnded known (Err (Stop.Decided verdict)) (followed_in after)
decided-ended known now before None verdict takes decides-it judged so_far = absurd (takes-some now before takes)
decided-ended known now before (Some b) verdict takes decides-it judged (rows, read, taken) =
    (refl, rows_left b.header now, rows, read, judged b b.header rows refl taken, decides-it)

module _ {S : Type 0} (of : S → Option (BehindHeader Followed)) where
  abbrev Takes : ReadSoFar → S → S → Type 0
  Takes reader before after = TakesFollowed reader (of before) (of after)

  abbrev RefusesAt : ReadSoFar → S → S → Stop → Type 0
  RefusesAt reader before after stop = Refuses reader (of before) (of after) stop

  followed-so-far : (known : Option (List ℕ)) (n : ℕ) (reader now : ReadSoFar) (s after : S) → of s ≡ None → IsUnread known reader → AreTakenBy Takes n reader s now after
      → IsTakenSoFar HasFollowed known now (of after)
  followed-so-far known n reader now s after none unread taken =
      kept-by-all Takes (λ r x. IsTakenSoFar HasFollowed known r (of x))
      (λ r r' x y next takes so_far. taken-next HasFollowed known r r' (of x) (of y) next takes so_far)
      n reader s now after taken (subst (IsTakenSoFar HasFollowed known reader) (sym none) unread)

  -- a row that isn't taken, or behind which nothing more is
  refused-ended : (known : Option (List ℕ)) (reader now : ReadSoFar) (s after : S) (stop : Stop) → IsNext reader now → RefusesAt now s after stop
      → IsTakenSoFar HasFollowed known reader (of s) → IsEnded known (Err stop) (followed_in (of after))
  refused-ended known reader now s after (Stop.Fault fault) next (inl refuses) so_far =
      inl (refused-ends HasFollowed known reader now (of s) fault next refuses so_far)
  refused-ended known reader now s after (Stop.Fault fault) next (inr writing) so_far = inr writing
  refused-ended known reader now s after (Stop.Decided verdict) next (takes, decides-it, judged) so_far =
      decided-ended known now (of s) (of after) verdict takes decides-it judged
      (taken-next HasFollowed known reader now (of s) (of after) next takes so_far)

  pub all-ended : (known : Option (List ℕ)) (reader now : ReadSoFar) (s after : S) (r : Result (Unit {0}) Stop) → of s ≡ None → IsUnread known reader
      → OnOk r (AllTaken Takes reader s now after) → IfErr r (StopsBehind Takes RefusesAt (λ fault stop. stop ≡ Stop.Fault fault) reader s now after) → IsEnded known r (followed_in (of after))
  all-ended known reader now s after (Ok u) none unread (n, mid, taken, last) stops =
      taken-to-end HasFollowed known mid now (of after) last (followed-so-far known n reader mid s after none unread taken)
  all-ended known reader now s after (Err stop) none unread all (n, mid, between, taken, stops) =
      by_cause stops (followed-so-far known n reader mid s between none unread taken)
    where
      by_cause : StopsNext RefusesAt (λ fault stop. stop ≡ Stop.Fault fault) mid between now after stop → IsTakenSoFar HasFollowed known mid (of between) → IsEnded known (Err stop) (followed_in (of after))
      by_cause (inl (fault, unreadable, same, unchanged)) so_far =
          subst (λ s. IsEnded known (Err s) (followed_in (of after))) (sym same) (inl (unreadable-ends HasFollowed known mid (of between) fault unreadable so_far))
      by_cause (inr (next, refuses)) so_far = refused-ended known mid now between after stop next refuses so_far

-- where nothing was begun, a fault is told
pub none-ended : (known : Option (List ℕ)) (r : Result (Unit {0}) Stop) → IsEnded known r None → IsFollowFault known (fault_in r)
none-ended known (Ok u) ends = inl ends
none-ended known (Err (Stop.Decided verdict)) (some, left, rows, read, told, other) = absurd (cc some)
none-ended known (Err (Stop.Fault fault)) ends = ends

-- ---- the verdict

-- what the account's verdict says of all rows that were taken
abbrev JudgesAll : AccountState → Verdict → Type 0
JudgesAll account verdict =
    (setup : Setup) (rows : List Row) → HasJudged setup rows account.judge → IsJudged setup (first_world setup) 0 2 rows verdict (world_of account.judge.world)

pub judged-behind : (behind : Option (BehindHeader Followed)) (seen : BehindHeader Followed) (verdict : Verdict) → behind ≡ Some seen → JudgesAll seen.sink.account verdict
    → (b : BehindHeader Followed) (header : Header) (rows : List Row) → behind ≡ Some b → HasFollowed header rows b.sink → AreJudgedAs header rows verdict
judged-behind behind seen verdict here judged b header rows is taken =
    let same : seen ≡ b = cc (sym here ∙ is) in
    let all : JudgesAll b.sink.account verdict = subst (λ (x : BehindHeader Followed). JudgesAll x.sink.account verdict) same judged in
    (world_of b.sink.account.judge.world, all header.setup rows taken.0.judged)

pub followed-all : (known : Option (List ℕ)) (account : AccountState) (followed : Followed) (verdict : Verdict) → followed.account ≡ account → IsEnded known (Ok tt) (Some followed) → JudgesAll account verdict
    → IsFollowedAs known verdict
followed-all known account followed verdict same (header, rows, trace, within, taken) judged =
    inl (header, rows, trace, (world_of account.judge.world, judged header.setup rows (subst (λ (a : AccountState). HasJudged header.setup rows a.judge) same taken.0.judged)))

pub followed-part : (known : Option (List ℕ)) (followed : Option Followed) (verdict : Verdict) → IsEnded known (Err (Stop.Decided verdict)) followed → IsFollowedAs known verdict
followed-part known followed verdict (some, left, rows, read, told, other) = inr (left, rows, read, told, other)
