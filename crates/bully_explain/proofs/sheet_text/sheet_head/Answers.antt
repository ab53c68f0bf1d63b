use Rattle.std.proofs.Common.{arith, string_bytes}
use Rattle.bully_explain.proofs.SheetLemmas.{sheet_whole}
use Rattle.bully_explain.proofs.sheet_text.sheet_head.Goals as goal

pub returns : goal.returns
returns c =
    sheet_whole (λ text. string_bytes text) c.args.account.now c.verdict.result _ c.new-text.result c.push_head.new.text c.finish.result c.new-text.ensures c.verdict.ensures c.stop.ensures.stops
    c.push_head.ensures
    (grind (arith, c.world.ensures, c.stop.ensures.kept)) c.finish.ensures.whole c.finish.ensures.text
