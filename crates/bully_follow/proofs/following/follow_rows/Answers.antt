use Rattle.std.proofs.Common.{Some, refl, subst}
use Rattle.bully_follow.specs.Followed.{IsEnded}
use Rattle.bully_follow.proofs.FollowLemmas.{all-ended, none-ended, followed_in}
use Rattle.bully_follow.proofs.following.follow_rows.Goals as goal

pub returns-in-Some-clause-verdict : goal.returns-in-Some-clause-verdict
returns-in-Some-clause-verdict g c = λ known unread.
    let ended = all-ended (λ l. l.text.begun) known c.args.rows.now c.feed_each-ended.new.rows c.args.live.now c.feed_each-ended.new.sink c.feed_each-ended.result c.requires unread
    c.feed_each-ended.ensures.all c.feed_each-ended.ensures.part in
    c.finish.ensures.verdict known c.in-Some.begun.sink refl (subst (λ b. IsEnded known c.feed_each-ended.result (followed_in b)) c.in-Some.is ended)

pub returns-in-Some-clause-fault : goal.returns-in-Some-clause-fault
returns-in-Some-clause-fault g c = λ known unread.
    let ended = all-ended (λ l. l.text.begun) known c.args.rows.now c.feed_each-ended.new.rows c.args.live.now c.feed_each-ended.new.sink c.feed_each-ended.result c.requires unread
    c.feed_each-ended.ensures.all c.feed_each-ended.ensures.part in
    c.finish.ensures.fault known (Some c.in-Some.begun.sink) (subst (λ b. IsEnded known c.feed_each-ended.result (followed_in b)) c.in-Some.is ended)

pub returns-in-None-clause-fault : goal.returns-in-None-clause-fault
returns-in-None-clause-fault g c = λ known unread.
    let ended = all-ended (λ l. l.text.begun) known c.args.rows.now c.feed_each-ended.new.rows c.args.live.now c.feed_each-ended.new.sink c.feed_each-ended.result c.requires unread
    c.feed_each-ended.ensures.all c.feed_each-ended.ensures.part in
    rw c.fault_of.ensures (none-ended known c.feed_each-ended.result (subst (λ b. IsEnded known c.feed_each-ended.result (followed_in b)) c.in-None.is ended))
