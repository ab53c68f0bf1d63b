use Rattle.std.proofs.Common.{subst, Some, Err}
use Rattle.bully_follow.specs.declared.following.Stop.{Stop}
use Rattle.bully_follow.specs.Followed.{IsEnded}
use Rattle.bully_follow.proofs.FollowLemmas.{followed-all, followed-part}
use Rattle.bully_follow.proofs.following.finish.Goals as goal
use Rattle.bully_follow.proofs.following.finish.Goals.{in-Ok, in-Err+in-Decided}

pub returns-clause-verdict : goal.returns-clause-verdict
returns-clause-verdict g c = λ known followed same ended.
    elim c.match-ended.branch [
      | in-Ok w ↦ rw w.verdict-is (followed-all known c.args.account.now followed w.verdict-verdict.result same (subst (λ e. IsEnded known e (Some followed)) w.in-Ok.is ended) w.verdict-verdict.ensures)
      | in-Err+in-Decided w ↦ rw w.verdict-is (followed-part known (Some followed) w.in-Decided.verdict
          (subst (λ (s : Stop). IsEnded known (Err s) (Some followed)) w.in-Decided.is (subst (λ e. IsEnded known e (Some followed)) w.in-Err.is ended)))
    ]
