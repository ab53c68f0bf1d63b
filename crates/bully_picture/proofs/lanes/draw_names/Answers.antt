use Rattle.std.proofs.Common.{◌≡◌, ◌+◌, arith}
use Rattle.std.specs.Prelude.{nat_le, option_map, slice_get}
use Rattle.bully_picture.specs.declared.layout.TheConstants.{WORDS_MIN}
use Rattle.bully_picture.proofs.DrawnLemmas.{names-more}
use Rattle.bully_picture.proofs.lanes.draw_names.Goals as goal

pub loop-before-preserved : goal.loop-before-preserved
loop-before-preserved c =
    let number : c.unwrap-node.result ≡ c.loop-before.before + 1 = grind (arith, c.new.ensures, c.unwrap-node.ensures) in
    record {
      names = names-more (nat_le WORDS_MIN c.args.layout.now.lane) (λ i. option_map (λ s. s.now) (slice_get c.args.names.now i)) c.loop-before.before c.unwrap-node.result
          (option_map (λ s. s.now) c.name_at.result) c.loop-before.paper c.draw_name.new.paper number c.name_at.ensures c.loop-before.invariant.names c.draw_name.ensures;
      end = c.loop-before.invariant.end;
    }

pub returns : goal.returns
returns c = λ good. (nat_le WORDS_MIN c.args.layout.now.lane, λ i low. c.loop-before.invariant.names good i (omega arith))
