-- The scripts, computed. Where a table is planned, the bases of its members are, too.
use Rattle.std.proofs.Common.{◌≡◌, ℕ, [], ◌∷◌, true, false, Option, Some, None, arith, refl}
use Rattle.bully_base.specs.declared.node.Status.TheVariants.{Election, Normal}
use Rattle.bully_table.specs.Balance.{base_of, total_weight}
use Rattle.bully_calls.specs.declared.call.Answer.{Answer}
use Rattle.bully_calls.specs.declared.call.Phase.{Phase}
use Rattle.bully_calls.specs.declared.event.Refused.{Refused}
use Rattle.bully_world.specs.World.{point}
use Rattle.bully_tests.specs.Claims.{EndsAs, IsRefusedAt, IsAnsweredAt, After, Goes, Saw, shown_at, call_at, phase_at}
use Rattle.bully_tests.specs.Scripts.{trace_setup, weighted_setup, down, alone, alone_shown, alone_crashed, alone_back, kept_shown, kept_back_shown, cleared_back_shown, others_down, node_3_alone, others_down_points, all_up, all_up_with, all_normal, all_up_calls, by_weight, by_number, by_weight_shown, coordinator_crashed, coordinator_crashed_shown, coordinator_crashed_points, recovered_twice, reply_lost, reply_lost_unbalanced, orphan_halt, orphan_halt_shown, orphan_halt_late, orphan_halt_points, orphan_ready, orphan_ready_points, orphan_ready_returned, orphan_ready_shown, orphan_ready_dropped, orphan_ready_dropped_calls, orphan_ready_dropped_shown, dropped_live, dropped_nothing, dropped_down, late_failure, late_failure_points, announced_too_late, announced_too_late_shown, announced_too_late_node}
use Rattle.bully_tests.proofs.tests.worked.Claims.{after, ends, refused_at, answered_at, goes}

pub header_alone : EndsAs (trace_setup 2 1) [] 0 (down ∷ down ∷ [])
header_alone = ends (trace_setup 2 1) [] _ refl refl refl

pub alone_ends : EndsAs (trace_setup 1 2) alone 6 alone_shown
unfolding base_of total_weight
alone_ends = ends (trace_setup 1 2) alone _ refl refl refl

pub kept_ends : EndsAs (weighted_setup 1 2 (1 ∷ []) true) alone_crashed 7 kept_shown
unfolding base_of total_weight
kept_ends = ends (weighted_setup 1 2 (1 ∷ []) true) alone_crashed _ refl refl refl

pub kept_back_ends : EndsAs (weighted_setup 1 2 (1 ∷ []) true) alone_back 8 kept_back_shown
unfolding base_of total_weight
kept_back_ends = ends (weighted_setup 1 2 (1 ∷ []) true) alone_back _ refl refl refl

pub cleared_ends : EndsAs (trace_setup 1 2) alone_crashed 7 (down ∷ [])
unfolding base_of total_weight
cleared_ends = ends (trace_setup 1 2) alone_crashed _ refl refl refl

pub cleared_back_ends : EndsAs (trace_setup 1 2) alone_back 8 cleared_back_shown
unfolding base_of total_weight
cleared_back_ends = ends (trace_setup 1 2) alone_back _ refl refl refl

pub others_down_ends : EndsAs (trace_setup 3 3) others_down 12 node_3_alone
unfolding base_of total_weight
others_down_ends = ends (trace_setup 3 3) others_down _ refl refl refl

pub others_down_goes : Goes (trace_setup 3 3) others_down (λ w. point w 3) others_down_points
unfolding base_of total_weight
others_down_goes =
    goes (trace_setup 3 3) others_down (λ w. point w 3) others_down_points refl
    (refl, (refl, (refl, (refl, (refl, (refl, (refl, (refl, tt))))))))

pub all_up_ends : EndsAs (trace_setup 3 3) all_up 26 all_normal
unfolding base_of total_weight
all_up_ends = ends (trace_setup 3 3) all_up _ refl refl refl

pub all_up_goes : Goes (trace_setup 3 3) all_up (λ w. call_at w 3) all_up_calls
unfolding base_of total_weight
all_up_goes =
    goes (trace_setup 3 3) all_up (λ w. call_at w 3) all_up_calls refl (refl, (refl, (refl, (refl, (refl, (refl, tt))))))

pub by_weight_ends : EndsAs (weighted_setup 3 7 (1 ∷ 2 ∷ 1 ∷ []) false) (all_up_with by_weight) 26 by_weight_shown
unfolding base_of total_weight
by_weight_ends = ends (weighted_setup 3 7 (1 ∷ 2 ∷ 1 ∷ []) false) (all_up_with by_weight) _ refl refl refl

pub by_weight_refused : IsRefusedAt (weighted_setup 3 7 (1 ∷ 2 ∷ 1 ∷ []) false) (all_up_with by_number) 18 Refused.BadTable
unfolding base_of total_weight
by_weight_refused = refused_at (weighted_setup 3 7 (1 ∷ 2 ∷ 1 ∷ []) false) (all_up_with by_number) 18 _ Refused.BadTable refl refl refl

pub by_number_refused : IsRefusedAt (trace_setup 3 7) (all_up_with by_weight) 18 Refused.BadTable
unfolding base_of total_weight
by_number_refused = refused_at (trace_setup 3 7) (all_up_with by_weight) 18 _ Refused.BadTable refl refl refl

pub all_up_saw : After (trace_setup 3 3) all_up 26 (λ w. Saw (trace_setup 3 3) w 2 Normal (Some 3))
unfolding base_of total_weight
all_up_saw = after (trace_setup 3 3) all_up 26 (λ w. Saw (trace_setup 3 3) w 2 Normal (Some 3)) refl ((omega arith, omega arith), refl, refl)

pub all_up_differs : After (trace_setup 3 3) all_up 26 (λ w. ¬ Saw (trace_setup 3 3) w 2 Normal (Some 2))
unfolding base_of total_weight
all_up_differs = after (trace_setup 3 3) all_up 26 (λ w. ¬ Saw (trace_setup 3 3) w 2 Normal (Some 2)) refl (λ s. apart s.2)
  where
    apart : ◌≡◌ {A = Option ℕ} (Some 3) (Some 2) → ⊥
    apart e = grind (arith, e)

pub coordinator_crashed_ends : EndsAs (trace_setup 3 3) coordinator_crashed 34 coordinator_crashed_shown
unfolding base_of total_weight
coordinator_crashed_ends = ends (trace_setup 3 3) coordinator_crashed _ refl refl refl

pub coordinator_crashed_goes : Goes (trace_setup 3 3) coordinator_crashed (λ w. point w 1) coordinator_crashed_points
unfolding base_of total_weight
coordinator_crashed_goes =
    goes (trace_setup 3 3) coordinator_crashed (λ w. point w 1) coordinator_crashed_points refl (refl, (refl, (refl, tt)))

pub recovered_twice_refused : IsRefusedAt (trace_setup 1 1) recovered_twice 1 Refused.IsUp
recovered_twice_refused = refused_at (trace_setup 1 1) recovered_twice 1 _ Refused.IsUp refl refl refl

pub reply_lost_ends : EndsAs (trace_setup 3 3) reply_lost 15 node_3_alone
unfolding base_of total_weight
reply_lost_ends = ends (trace_setup 3 3) reply_lost _ refl refl refl

pub reply_lost_refused : IsRefusedAt (trace_setup 3 3) reply_lost_unbalanced 13 Refused.BadTable
reply_lost_refused = refused_at (trace_setup 3 3) reply_lost_unbalanced 13 _ Refused.BadTable refl refl refl

pub orphan_halt_ends : EndsAs (trace_setup 3 3) orphan_halt 38 orphan_halt_shown
unfolding base_of total_weight
orphan_halt_ends = ends (trace_setup 3 3) orphan_halt _ refl refl refl

pub orphan_halt_node : Goes (trace_setup 3 3) orphan_halt (λ w. shown_at w 1) orphan_halt_late
unfolding base_of total_weight
orphan_halt_node =
    goes (trace_setup 3 3) orphan_halt (λ w. shown_at w 1) orphan_halt_late refl (refl, (refl, (refl, (refl, tt))))

pub orphan_halt_discarded : IsAnsweredAt (trace_setup 3 3) orphan_halt 16 Answer.Discarded
orphan_halt_discarded = answered_at (trace_setup 3 3) orphan_halt 16 Answer.Discarded refl refl

pub orphan_halt_saw : After (trace_setup 3 3) orphan_halt 33 (λ w. Saw (trace_setup 3 3) w 1 Election None)
unfolding base_of total_weight
orphan_halt_saw = after (trace_setup 3 3) orphan_halt 33 (λ w. Saw (trace_setup 3 3) w 1 Election None) refl ((omega arith, omega arith), refl, refl)

pub orphan_halt_no : IsAnsweredAt (trace_setup 3 3) orphan_halt 35 Answer.No
unfolding base_of total_weight
orphan_halt_no = answered_at (trace_setup 3 3) orphan_halt 35 Answer.No refl refl

pub orphan_halt_goes : Goes (trace_setup 3 3) orphan_halt (λ w. point w 3) orphan_halt_points
unfolding base_of total_weight
orphan_halt_goes = goes (trace_setup 3 3) orphan_halt (λ w. point w 3) orphan_halt_points refl (refl, (refl, tt))

pub orphan_ready_refused : IsRefusedAt (trace_setup 3 2) orphan_ready 22 Refused.SlotBusy
unfolding base_of total_weight
orphan_ready_refused = refused_at (trace_setup 3 2) orphan_ready 22 _ Refused.SlotBusy refl refl refl

pub orphan_ready_goes : Goes (trace_setup 3 2) orphan_ready (λ w. point w 2) orphan_ready_points
unfolding base_of total_weight
orphan_ready_goes = goes (trace_setup 3 2) orphan_ready (λ w. point w 2) orphan_ready_points refl (refl, (refl, (refl, tt)))

pub orphan_ready_ends : EndsAs (trace_setup 3 2) orphan_ready_returned 25 orphan_ready_shown
unfolding base_of total_weight
orphan_ready_ends = ends (trace_setup 3 2) orphan_ready_returned _ refl refl refl

pub orphan_ready_dropped_ends : EndsAs (trace_setup 3 2) orphan_ready_dropped 24 orphan_ready_dropped_shown
unfolding base_of total_weight
orphan_ready_dropped_ends = ends (trace_setup 3 2) orphan_ready_dropped _ refl refl refl

pub orphan_ready_dropped_goes : Goes (trace_setup 3 2) orphan_ready_dropped (λ w. call_at w 2) orphan_ready_dropped_calls
unfolding base_of total_weight
orphan_ready_dropped_goes =
    goes (trace_setup 3 2) orphan_ready_dropped (λ w. call_at w 2) orphan_ready_dropped_calls refl (refl, (refl, (refl, tt)))

pub orphan_ready_dropped_discarded : IsAnsweredAt (trace_setup 3 2) orphan_ready_dropped 22 Answer.Discarded
unfolding base_of total_weight
orphan_ready_dropped_discarded = answered_at (trace_setup 3 2) orphan_ready_dropped 22 Answer.Discarded refl refl

pub dropped_live_refused : IsRefusedAt (trace_setup 2 1) dropped_live 2 Refused.NotOrphan
dropped_live_refused = refused_at (trace_setup 2 1) dropped_live 2 _ Refused.NotOrphan refl refl refl

pub dropped_nothing_refused : IsRefusedAt (trace_setup 2 1) dropped_nothing 1 Refused.NoCall
dropped_nothing_refused = refused_at (trace_setup 2 1) dropped_nothing 1 _ Refused.NoCall refl refl refl

pub dropped_down_refused : IsRefusedAt (trace_setup 2 1) dropped_down 0 Refused.IsDown
dropped_down_refused = refused_at (trace_setup 2 1) dropped_down 0 _ Refused.IsDown refl refl refl

pub late_failure_refused : IsRefusedAt (trace_setup 3 1) late_failure 10 Refused.NoStep
late_failure_refused = refused_at (trace_setup 3 1) late_failure 10 _ Refused.NoStep refl refl refl

pub late_failure_failed : After (trace_setup 3 1) late_failure 3 (λ w. phase_at w 2 ≡ Some Phase.Failed)
late_failure_failed = after (trace_setup 3 1) late_failure 3 (λ w. phase_at w 2 ≡ Some Phase.Failed) refl refl

pub late_failure_discarded : IsAnsweredAt (trace_setup 3 1) late_failure 9 Answer.Discarded
late_failure_discarded = answered_at (trace_setup 3 1) late_failure 9 Answer.Discarded refl refl

pub late_failure_goes : Goes (trace_setup 3 1) late_failure (λ w. point w 2) late_failure_points
late_failure_goes =
    goes (trace_setup 3 1) late_failure (λ w. point w 2) late_failure_points refl (refl, (refl, (refl, (refl, tt))))

pub announced_too_late_ends : EndsAs (trace_setup 3 2) announced_too_late 21 announced_too_late_shown
announced_too_late_ends = ends (trace_setup 3 2) announced_too_late _ refl refl refl

pub announced_too_late_goes : Goes (trace_setup 3 2) announced_too_late (λ w. shown_at w 1) announced_too_late_node
announced_too_late_goes =
    goes (trace_setup 3 2) announced_too_late (λ w. shown_at w 1) announced_too_late_node refl (refl, (refl, (refl, tt)))

pub announced_too_late_saw : After (trace_setup 3 2) announced_too_late 20 (λ w. Saw (trace_setup 3 2) w 1 Election None)
announced_too_late_saw = after (trace_setup 3 2) announced_too_late 20 (λ w. Saw (trace_setup 3 2) w 1 Election None) refl ((omega arith, omega arith), refl, refl)
