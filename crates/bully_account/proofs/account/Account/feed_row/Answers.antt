use Rattle.std.proofs.Common.{◌≡◌, ◌∙◌, ◌+◌, length, sym, subst, rules}
use Rattle.bully_account.specs.Accounts.{AccountState, HasTaken}
use Rattle.bully_account.proofs.AccountLemmas.{going-more, stopped-more}
use Rattle.bully_account.proofs.account.Account.feed_row.Goals as goal
use Rattle.bully_account.proofs.account.Account.feed_row.Goals.{in-Event+in-Plan-1, in-Event+in-Recover-1, in-Whole-1, in-Detailed-1}

pub returns-then-is_some-clause-taken : goal.returns-then-is_some-clause-taken
returns-then-is_some-clause-taken g c = λ setup before place taken.
    let here = subst (λ (a : AccountState). HasTaken setup before a) (sym c.self.view_is) taken in
    let at : length before + 2 ≡ c.number-number.result = place ∙ sym c.number-number.ensures in
    stopped-more before c.args.row setup c.args.rows.now.number c.self.inside.judge c.feed_row.new.self c.self.inside.stop c.keep.new.stop c.self.inside.memories.nodes.items place
    here (c.feed_row.ensures.judged setup before at here.judged) c.keep.ensures.kept c.keep.ensures.other

pub returns-else-is_some-clause-taken : goal.returns-else-is_some-clause-taken
returns-else-is_some-clause-taken g c = λ setup before place taken.
    let here = subst (λ (a : AccountState). HasTaken setup before a) (sym c.self.view_is) taken in
    let at : length before + 2 ≡ c.number-number.result = place ∙ sym c.number-number.ensures in
    let row = c.args.row in
    let after = going-more before row setup c.number-number.result c.self.inside.judge c.feed_row.new.self c.self.inside.stop
    c.self.inside.memories.nodes.items c.feed_row-else-is_some.new.self.nodes.items c.moves_of-moves.result at
    here c.self.invariant.stops c.feed_row.ensures.taken (search rules) (c.feed_row.ensures.judged setup before at here.judged)
    (search rules) (search rules) in
    elim c.match-row.branch [ in-Event+in-Plan-1 w ↦ rw w.self-is after | in-Event+in-Recover-1 w ↦ rw w.self-is after | in-Whole-1 w ↦ rw w.self-is after | in-Detailed-1 w ↦ rw w.self-is after ]
