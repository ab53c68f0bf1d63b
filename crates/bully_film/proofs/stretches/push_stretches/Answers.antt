-- A row goes on with the stretch, or begins another one.
use Rattle.std.proofs.Common.{◌≢◌, arith}
use Rattle.bully_film.proofs.StretchLemmas.{IsWhole, begins, ends, goes-on, starts}
use Rattle.bully_film.proofs.stretches.push_stretches.Given.{Over}
use Rattle.bully_film.proofs.stretches.push_stretches.Goals as goal
use Rattle.bully_film.proofs.stretches.push_stretches.Goals.{In_ok-push-2, then-not-is_same+in_ok-push, else-not-is_same}

pub loop-snapshot-init : goal.loop-snapshot-init
loop-snapshot-init g c = rw c.requires.empty (starts g.T.Seen.seen c.args.first c.args.start c.args.rest.now)

pub loop-snapshot-preserved : goal.loop-snapshot-preserved
loop-snapshot-preserved g c =
    elim c.if-not-is_same.branch [
      | then-not-is_same+in_ok-push w ↦
          let other : c.loop-snapshot.seen ≢ c.seen_in-next.result = λ same. grind (arith, w.if-not-is_same.true, c.is_same.ensures.1 same) in
          rw (w.stretches-is, w.from-is, w.seen-is)
          (begins g.T.Seen.seen c.args.first c.loop-snapshot.stretches.items _ _ c.loop-snapshot.from c.loop-snapshot.row c.loop-snapshot.seen c.seen_in-next.result c.args.start c.args.rest.now c.loop-snapshot.snapshot-index c.snapshot-item.result
          c.seen_in-next.ensures other w.new.ensures w.in_ok-push.ensures.items c.loop-snapshot-test.true c.snapshot-item.is c.loop-snapshot.invariant)
      | else-not-is_same w ↦
          rw (w.stretches-is, w.from-is, w.seen-is)
          (goes-on g.T.Seen.seen c.args.first c.loop-snapshot.stretches.items c.loop-snapshot.from c.loop-snapshot.row c.loop-snapshot.seen c.seen_in-next.result c.args.start c.args.rest.now c.loop-snapshot.snapshot-index c.snapshot-item.result
          c.seen_in-next.ensures (c.is_same.ensures.0 w.if-not-is_same.false) c.loop-snapshot-test.true c.snapshot-item.is c.loop-snapshot.invariant)
    ]

whole : (g : Over) (c : In_ok-push-2 g) → IsWhole g.T.Seen.seen c.args.first c.push-2.new.self.items c.args.start c.args.rest.now
whole g c =
    ends g.T.Seen.seen c.args.first c.loop-snapshot.stretches.items _ _ c.loop-snapshot.from c.loop-snapshot.row c.loop-snapshot.seen c.args.start c.args.rest.now c.loop-snapshot.snapshot-index
    c.new-2.ensures c.in_ok-push-2.ensures.items (omega (arith, c.loop-snapshot-test.false, c.loop-snapshot.auto.snapshot-index-end)) c.loop-snapshot.invariant

pub returns-clause-spread : goal.returns-clause-spread
returns-clause-spread g c = (whole g c).spread

pub returns-clause-joined : goal.returns-clause-joined
returns-clause-joined g c = (whole g c).joined

pub returns-clause-apart : goal.returns-clause-apart
returns-clause-apart g c = (whole g c).apart
