use Rattle.std.proofs.Common.{◌++◌, subst}
use Rattle.bully_picture.specs.Told.{back_text, front_text, names_text}
use Rattle.bully_picture.specs.Written.{Writes}
use Rattle.bully_picture.proofs.WrittenLemmas.{writes-as, writes-then}
use Rattle.bully_picture.proofs.columns.push_heads.Goals as goal

pub returns : goal.returns
returns c =
    let nodes = c.args.nodes in
    subst (λ form. Writes c.args.lines.now c.push-2.new.self (front_text form ++ names_text form nodes ++ back_text form)) c.of-form.ensures
    (writes-then (writes-then (writes-as c.front.ensures c.push.ensures) c.push_names.ensures) (writes-as c.back.ensures c.push-2.ensures))
