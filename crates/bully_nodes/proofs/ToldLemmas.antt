-- The trace of a history is one that a text can tell.
use Rattle.std.proofs.Common.{◌≡◌, map, subst, sym}
use Rattle.bully_base.specs.Setup.{IsSetup}
use Rattle.bully_group.specs.Locked.{ClosedState, IsClosed}
use Rattle.bully_play.specs.Play.{trace_with}
use Rattle.bully_play.proofs.ToldLemmas.{lawful-told}
use Rattle.bully_rows.specs.ReadBack.{IsTold}
use Rattle.bully_rows.specs.Trace.{Trace}
use Rattle.bully_watch.specs.History.{answer_of, event_of}

pub history-told : (c : ClosedState) (trace : Trace) → IsSetup c.view.setup → IsClosed c → trace ≡ trace_with c.view.setup (map event_of c.history) → IsTold trace
history-told c trace within closed same =
    subst IsTold (sym same) (lawful-told c.view.setup (map event_of c.history) (map answer_of c.history) closed.world within closed.history.lawful)
