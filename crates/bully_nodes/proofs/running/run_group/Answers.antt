use Rattle.bully_nodes.proofs.RunLemmas.{seats_play}
use Rattle.bully_nodes.proofs.running.run_group.Goals as goal

pub returns-in-Ok-finish-clause-play : goal.returns-in-Ok-finish-clause-play
returns-in-Ok-finish-clause-play g c =
    rw c.in-Ok-finish.ensures.history (seats_play c.args.config.now c.close-2.result g.L.Naming.publisher g.L.Ledger.parts c.in-Ok-run_jobs.back.0.items c.setup.ensures.within.setup (rw c.requires.setup c.close-2.ensures) (rw c.requires.faults c.in-Ok-run_jobs.ensures.due) c.in-Ok-finish.ensures.once)
