-- Round by round, and in a round node by node.
use Rattle.std.proofs.Common.{◌≡◌, ℕ, zero, suc, ◌+◌, ◌≤◌, List, [], ◌∷◌, ◌++◌, ◌∙◌, length, map, take, drop, arith, refl, sym, ap, subst}
use Rattle.std.proofs.lemmas.List.{map-append}
use Rattle.std.proofs.lemmas.Grind.{common_steps}
use Rattle.bully_base.specs.Setup.{Setup}
use Rattle.bully_config.specs.declared.config.Fault.{Fault}
use Rattle.bully_play.specs.Recording.{RecordingState}
use Rattle.bully_play.specs.Turns.{TakeTurns, IsRound, Rounds, idle_at, idle_first}
use Rattle.bully_steps.specs.declared.procedure.Procedure.{Procedure}
use Rattle.bully_steps.specs.ProcedureState.{ProcedureState}
use Rattle.bully_steps.specs.Procedure.{state_of}

-- all turns are taken
pub turns_all : (period number place : ℕ) (ps : List Procedure) (hs : List ProcedureState) (start last : RecordingState) → length ps ≤ place
    → ((after : RecordingState) (hs' : List ProcedureState) → TakeTurns period number last (map state_of (drop place ps)) after hs' → TakeTurns period number start hs after (map state_of (take place ps) ++ hs'))
    → TakeTurns period number start hs last (map state_of ps)
turns_all period number place ps hs start last past so_far =
    let none : drop place ps ≡ [] = grind (arith, common_steps, past) in
    let all : map state_of (take place ps) ++ [] ≡ map state_of ps = grind (arith, common_steps, past) in
    subst (λ (hs' : List ProcedureState). TakeTurns period number start hs last hs') all
    (so_far last [] (subst (λ (qs : List Procedure). TakeTurns period number last (map state_of qs) last []) (sym none) (refl, refl)))

rounds_more : (faults : List Fault) (period so_far number last : ℕ) (start before after : RecordingState) (hs mids hs' : List ProcedureState) → number + so_far ≡ last → Rounds faults period so_far number start hs before mids → IsRound faults period last before mids after hs'
    → Rounds faults period (suc so_far) number start hs after hs'
rounds_more faults period zero number last start before after hs mids hs' e rounds round =
    let now : last ≡ number = omega (arith, e) in
    (after, hs', subst (λ (n : ℕ). IsRound faults period n start hs after hs') now (rw (← rounds.0, ← rounds.1) round), (refl, refl))
rounds_more faults period (suc n) number last start before after hs mids hs' e rounds round =
    (rounds.0, rounds.1, rounds.2, rounds_more faults period n (number + 1) last rounds.0 before after rounds.1 mids hs' (omega (arith, e)) rounds.3 round)

-- a round more
pub rounds_next : (faults : List Fault) (period so_far : ℕ) (start before after : RecordingState) (hs mids hs' : List ProcedureState) → Rounds faults period so_far 1 start hs before mids → IsRound faults period (so_far + 1) before mids after hs'
    → Rounds faults period (so_far + 1) 1 start hs after hs'
rounds_next faults period so_far start before after hs mids hs' rounds round =
    let more : suc so_far ≡ so_far + 1 = omega arith in
    subst (λ (n : ℕ). Rounds faults period n 1 start hs after hs') more (rounds_more faults period so_far 1 (so_far + 1) start before after hs mids hs' (omega arith) rounds round)

-- one more procedure that a node holds at first
pub idle_more : (setup : Setup) (n : ℕ) (ps : List Procedure) (p : Procedure) → map state_of ps ≡ idle_first setup n → state_of p ≡ idle_at setup (n + 1)
    → map state_of (ps ++ p ∷ []) ≡ idle_first setup (n + 1)
idle_more setup n ps p all one =
    let more : suc n ≡ n + 1 = omega arith in
    subst (λ (m : ℕ). map state_of (ps ++ p ∷ []) ≡ idle_first setup m) more
    (map-append state_of ps (p ∷ []) ∙ ap (λ hs. hs ++ state_of p ∷ []) all ∙ ap (λ h. idle_first setup n ++ h ∷ []) one)

-- a whole list, put back into the memory that it was lent from
pub put_back : (len : ℕ) (xs ys : List Procedure) → length xs ≡ length ys → length ys ≡ len → take len (xs ++ drop (length xs) ys) ≡ xs
put_back len xs ys e f = grind (arith, common_steps, e, f)
