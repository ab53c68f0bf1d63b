use Rattle.std.proofs.Common.{◌≡◌, ◌+◌, [], ◌∷◌, length-append, arith}
use Rattle.bully_account.proofs.ShownLemmas.{shows-more}
use Rattle.bully_account.proofs.showing.push_sheets.Goals as goal

pub loop-before-preserved : goal.loop-before-preserved
loop-before-preserved c =
    let sheets = c.loop-before.sheets.items in
    let sheet = c.in_ok-node_sheet.field-0 in
    let number : c.unwrap-node.result ≡ c.loop-before.before + 1 = grind (arith, c.new.ensures, c.unwrap-node.ensures) in
    let one = length-append sheets (sheet ∷ []) in
    rw c.in_ok-push.ensures.items (record {
      count = omega (arith, one, c.loop-before.invariant.count);
      shown = shows-more c.args.world.now 1 c.unwrap-node.result sheets sheet (omega (arith, number, c.loop-before.invariant.count)) c.loop-before.invariant.shown c.in_ok-node_sheet.ensures;
      end = c.loop-before.invariant.end;
    })
