-- Each clause is a computed script.
use Rattle.bully_tests.proofs.tests.worked.Scripts as scripts
use Rattle.bully_world.proofs.StepOfLemmas.{lawful_is_one}
use Rattle.bully_tests.proofs.tests.worked.worked_scripts.Goals as goal

pub returns-clause-one_world : goal.returns-clause-one_world
returns-clause-one_world c = lawful_is_one

pub returns-clause-header_alone : goal.returns-clause-header_alone
returns-clause-header_alone c = scripts.header_alone

pub returns-clause-alone_ends : goal.returns-clause-alone_ends
returns-clause-alone_ends c = scripts.alone_ends

pub returns-clause-kept_ends : goal.returns-clause-kept_ends
returns-clause-kept_ends c = scripts.kept_ends

pub returns-clause-kept_back_ends : goal.returns-clause-kept_back_ends
returns-clause-kept_back_ends c = scripts.kept_back_ends

pub returns-clause-cleared_ends : goal.returns-clause-cleared_ends
returns-clause-cleared_ends c = scripts.cleared_ends

pub returns-clause-cleared_back_ends : goal.returns-clause-cleared_back_ends
returns-clause-cleared_back_ends c = scripts.cleared_back_ends

pub returns-clause-others_down_ends : goal.returns-clause-others_down_ends
returns-clause-others_down_ends c = scripts.others_down_ends

pub returns-clause-others_down_goes : goal.returns-clause-others_down_goes
returns-clause-others_down_goes c = scripts.others_down_goes

pub returns-clause-all_up_ends : goal.returns-clause-all_up_ends
returns-clause-all_up_ends c = scripts.all_up_ends

pub returns-clause-all_up_goes : goal.returns-clause-all_up_goes
returns-clause-all_up_goes c = scripts.all_up_goes

pub returns-clause-by_weight_ends : goal.returns-clause-by_weight_ends
returns-clause-by_weight_ends c = scripts.by_weight_ends

pub returns-clause-by_weight_refused : goal.returns-clause-by_weight_refused
returns-clause-by_weight_refused c = scripts.by_weight_refused

pub returns-clause-by_number_refused : goal.returns-clause-by_number_refused
returns-clause-by_number_refused c = scripts.by_number_refused

pub returns-clause-all_up_saw : goal.returns-clause-all_up_saw
returns-clause-all_up_saw c = scripts.all_up_saw

pub returns-clause-all_up_differs : goal.returns-clause-all_up_differs
returns-clause-all_up_differs c = scripts.all_up_differs

pub returns-clause-coordinator_crashed_ends : goal.returns-clause-coordinator_crashed_ends
returns-clause-coordinator_crashed_ends c = scripts.coordinator_crashed_ends

pub returns-clause-coordinator_crashed_goes : goal.returns-clause-coordinator_crashed_goes
returns-clause-coordinator_crashed_goes c = scripts.coordinator_crashed_goes

pub returns-clause-recovered_twice_refused : goal.returns-clause-recovered_twice_refused
returns-clause-recovered_twice_refused c = scripts.recovered_twice_refused

pub returns-clause-reply_lost_ends : goal.returns-clause-reply_lost_ends
returns-clause-reply_lost_ends c = scripts.reply_lost_ends

pub returns-clause-reply_lost_refused : goal.returns-clause-reply_lost_refused
returns-clause-reply_lost_refused c = scripts.reply_lost_refused

pub returns-clause-orphan_halt_ends : goal.returns-clause-orphan_halt_ends
returns-clause-orphan_halt_ends c = scripts.orphan_halt_ends

pub returns-clause-orphan_halt_node : goal.returns-clause-orphan_halt_node
returns-clause-orphan_halt_node c = scripts.orphan_halt_node

pub returns-clause-orphan_halt_discarded : goal.returns-clause-orphan_halt_discarded
returns-clause-orphan_halt_discarded c = scripts.orphan_halt_discarded

pub returns-clause-orphan_halt_saw : goal.returns-clause-orphan_halt_saw
returns-clause-orphan_halt_saw c = scripts.orphan_halt_saw

pub returns-clause-orphan_halt_no : goal.returns-clause-orphan_halt_no
returns-clause-orphan_halt_no c = scripts.orphan_halt_no

pub returns-clause-orphan_halt_goes : goal.returns-clause-orphan_halt_goes
returns-clause-orphan_halt_goes c = scripts.orphan_halt_goes

pub returns-clause-orphan_ready_refused : goal.returns-clause-orphan_ready_refused
returns-clause-orphan_ready_refused c = scripts.orphan_ready_refused

pub returns-clause-orphan_ready_goes : goal.returns-clause-orphan_ready_goes
returns-clause-orphan_ready_goes c = scripts.orphan_ready_goes

pub returns-clause-orphan_ready_ends : goal.returns-clause-orphan_ready_ends
returns-clause-orphan_ready_ends c = scripts.orphan_ready_ends

pub returns-clause-orphan_ready_dropped_ends : goal.returns-clause-orphan_ready_dropped_ends
returns-clause-orphan_ready_dropped_ends c = scripts.orphan_ready_dropped_ends

pub returns-clause-orphan_ready_dropped_goes : goal.returns-clause-orphan_ready_dropped_goes
returns-clause-orphan_ready_dropped_goes c = scripts.orphan_ready_dropped_goes

pub returns-clause-orphan_ready_dropped_discarded : goal.returns-clause-orphan_ready_dropped_discarded
returns-clause-orphan_ready_dropped_discarded c = scripts.orphan_ready_dropped_discarded

pub returns-clause-dropped_live_refused : goal.returns-clause-dropped_live_refused
returns-clause-dropped_live_refused c = scripts.dropped_live_refused

pub returns-clause-dropped_nothing_refused : goal.returns-clause-dropped_nothing_refused
returns-clause-dropped_nothing_refused c = scripts.dropped_nothing_refused

pub returns-clause-dropped_down_refused : goal.returns-clause-dropped_down_refused
returns-clause-dropped_down_refused c = scripts.dropped_down_refused

pub returns-clause-late_failure_refused : goal.returns-clause-late_failure_refused
returns-clause-late_failure_refused c = scripts.late_failure_refused

pub returns-clause-late_failure_failed : goal.returns-clause-late_failure_failed
returns-clause-late_failure_failed c = scripts.late_failure_failed

pub returns-clause-late_failure_discarded : goal.returns-clause-late_failure_discarded
returns-clause-late_failure_discarded c = scripts.late_failure_discarded

pub returns-clause-late_failure_goes : goal.returns-clause-late_failure_goes
returns-clause-late_failure_goes c = scripts.late_failure_goes

pub returns-clause-announced_too_late_ends : goal.returns-clause-announced_too_late_ends
returns-clause-announced_too_late_ends c = scripts.announced_too_late_ends

pub returns-clause-announced_too_late_goes : goal.returns-clause-announced_too_late_goes
returns-clause-announced_too_late_goes c = scripts.announced_too_late_goes

pub returns-clause-announced_too_late_saw : goal.returns-clause-announced_too_late_saw
returns-clause-announced_too_late_saw c = scripts.announced_too_late_saw
