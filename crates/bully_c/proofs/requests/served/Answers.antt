use Rattle.std.proofs.Common.{◌≡◌, ◌∙◌, ◌≤◌, List, ℕ, Ok, ap, arith, inl, inr, length, refl, subst, sym}
use Rattle.bully_base.specs.Setup.{Setup}
use Rattle.bully_calls.specs.declared.call.Answer.{Answer}
use Rattle.bully_handlers.specs.Handler.{reply}
use Rattle.bully_lines.specs.Texts.{reply_text}
use Rattle.bully_c.specs.Exports.{IsRequestLine, RefusesRequestLine, answer_line}
use Rattle.bully_c.proofs.ReplyLemmas.{copied-as}
use Rattle.bully_c.proofs.requests.served.Goals as goal

pub returns-in-Err : goal.returns-in-Err
returns-in-Err c =
    inl (record { why = inr (inr (subst (λ (s : Setup). RefusesRequestLine s c.args.line.now c.in-Err.status) c.setup.ensures.setup c.in-Err.ensures.err, refl)) }, refl, refl)

pub returns-in-Ok-serve : goal.returns-in-Ok-serve
returns-in-Ok-serve c =
    let request = c.in-Ok.request in let told = c.in-Ok-serve.field-0 in let room = c.args.reply.now in
    let answer : c.reply-answer.result ≡ reply request.call.kind c.args.held.now.agent.node_state.vector.vector = grind (arith, c.reply-answer.ensures, c.vector.ensures.vector) in
    let line : c.deref.result.now ≡ reply_text told =
    c.deref.ensures ∙ (c.in-Ok-reply_line.ensures
    ∙ (ap (λ (a : Answer). reply_text (record { caller = request.caller; number = request.number; answer = a })) answer ∙ sym (ap reply_text c.in-Ok-serve.ensures.0.answered))) in
    let fits : length c.deref.result.now ≤ length room = grind (arith, c.if-reply-len.false, c.len.ensures, c.deref.ensures) in
    let (ok, copied) = copied-as c.deref.result.now (reply_text told) room c.copy_text.new.room c.copy_text.result c.copy_text.new.length line fits c.copy_text.ensures in
    let asked = subst (λ (s : Setup). IsRequestLine s c.args.line.now request) c.setup.ensures.setup c.in-Ok.ensures.ok in
    let answered : c.deref.result.now ≡ answer_line c.args.held.now request = line ∙ ap reply_text c.in-Ok-serve.ensures.0.answered in
    let room_is : length (answer_line c.args.held.now request) ≤ length room = subst (λ (t : List ℕ). length t ≤ length room) answered fits in
    inr (request, asked, room_is, Ok told, ok, c.in-Ok-serve.ensures, copied)
