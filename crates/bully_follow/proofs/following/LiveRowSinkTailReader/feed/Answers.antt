use Rattle.std.proofs.Common.{◌≡◌, ◌∙◌, true, subst, sym}
use Rattle.bully_trace.specs.OneRow.{decides}
use Rattle.bully_follow.proofs.FollowLemmas.{judged-behind}
use Rattle.bully_follow.proofs.following.LiveRowSinkTailReader.feed.Goals as goal

pub returns-then-decides-clause-refuses : goal.returns-then-decides-clause-refuses
returns-then-decides-clause-refuses g c = (
  c.in_ok-feed.ensures.takes.1,
  subst (λ n. decides c.verdict-verdict.result n ≡ true) c.number-row.ensures (sym c.decides.ensures ∙ c.if-decides.true),
  judged-behind c.feed.new.self.begun c.in-Some.begun c.verdict-verdict.result c.in-Some.is c.verdict-verdict.ensures,
)
