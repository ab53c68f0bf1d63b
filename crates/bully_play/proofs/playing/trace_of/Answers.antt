use Rattle.std.proofs.Common.{◌≡◌, ◌+◌, List, ◌++◌, arith, rules, subst, ℕ, map, take, drop, length}
use Rattle.bully_play.proofs.RecordingLemmas.{recorded_trace}
use Rattle.bully_play.proofs.RoundLemmas.{rounds_next, put_back}
use Rattle.bully_play.proofs.ToldLemmas.{play-told}
use Rattle.bully_play.specs.Turns.{IsRound, Rounds, first_recording, idle_first}
use Rattle.bully_steps.specs.declared.procedure.Procedure.{Procedure}
use Rattle.bully_steps.specs.Procedure.{state_of}
use Rattle.bully_play.proofs.playing.trace_of.Goals as goal

pub loop-before-preserved : goal.loop-before-preserved
loop-before-preserved c =
    let setup = c.args.config.now.setup in
    let new : List Procedure = c.take_round.new.procedures in
    let items : take c.loop-before.procedures.len (new ++ drop (length new) c.loop-before.procedures.items) ≡ new = put_back _ new c.loop-before.procedures.items (search rules) (search rules) in
    let round : IsRound c.args.config.now.faults c.args.config.now.period (c.loop-before.before + 1) c.loop-before.recording (map state_of c.loop-before.procedures.items) c.take_round.new.recording (map state_of new)
    = rw (← c.deref_mut.ensures.value) c.in_ok-take_round.ensures.round in
    record {
      rounds = rw items (rounds_next c.args.config.now.faults c.args.config.now.period c.loop-before.before (first_recording setup) c.loop-before.recording _ (idle_first setup setup.nodes) _ _ c.loop-before.invariant.rounds round);
      left = c.in_ok-take_round.ensures.left;
      recorded = c.in_ok-take_round.ensures.recorded;
      setups = rw items c.in_ok-take_round.ensures.setups;
      end = c.loop-before.invariant.end;
    }

pub returns-clause-played : goal.returns-clause-played
returns-clause-played c =
    let setup = c.args.config.now.setup in
    let last_states = map state_of c.loop-before.procedures.items in
    let all : c.loop-before.before ≡ c.args.config.now.turns = grind (arith, c.loop-before-test.false, c.loop-before.auto.before-end, c.turns-before-end.ensures.turns) in
    recorded_trace c.args.config.now c.loop-before.recording last_states c.into_trace.result c.turns-before-end.ensures.within.setup
    (subst (λ (n : ℕ). Rounds c.args.config.now.faults c.args.config.now.period n 1 (first_recording setup) (idle_first setup setup.nodes) c.loop-before.recording last_states) all c.loop-before.invariant.rounds)
    c.loop-before.invariant.recorded c.into_trace.ensures

pub returns-clause-told : goal.returns-clause-told
returns-clause-told c =
    let (events, play, scheduled, same) = returns-clause-played c in
    play-told c.args.config.now events c.into_trace.result c.turns-before-end.ensures.within.setup play same
