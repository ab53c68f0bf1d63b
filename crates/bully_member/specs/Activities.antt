-- What a member's process does on each partition.
use Rattle.std.specs.Prelude.{◌==◌, if◌then◌else◌, ℕ, suc, Bool, true, false, List, [], ◌∷◌, Option, slice_get}
use Rattle.std.specs.List.{list_all, list_any}
use Rattle.std.specs.Option.{option_map_or}
use Rattle.bully_member.specs.declared.values.Activity.{Activity}
use Rattle.bully_member.specs.declared.values.Work.{Work}
use Rattle.bully_rebalance.specs.Leaving.{is_left}

abbrev pub is_idle : Activity → Bool
is_idle Activity.Idle = true
is_idle activity = false

abbrev pub is_working : Activity → Bool
is_working Activity.Working = true
is_working activity = false

abbrev pub is_stopping : Activity → Bool
is_stopping Activity.Stopping = true
is_stopping activity = false

-- whether it works on nothing. It works on a partition that it was asked to stop, until it has reported that the work
-- has ended
abbrev pub all_idle : List Activity → Bool
all_idle works = list_all is_idle works

abbrev pub any_working : List Activity → Bool
any_working works = list_any is_working works

abbrev pub any_stopping : List Activity → Bool
any_stopping works = list_any is_stopping works

-- whether it works on partition k, and wasn't asked to stop that
abbrev pub works_at : List Activity → ℕ → Bool
works_at works k = option_map_or is_working (slice_get works k) false

-- the partitions on which it works, in rising order, if the first one of the list is k
abbrev pub busy_from : ℕ → List Activity → List ℕ
busy_from k [] = []
busy_from k (a ∷ works) = if is_idle a then busy_from (suc k) works else k ∷ busy_from (suc k) works

abbrev pub busy : List Activity → List ℕ
busy works = busy_from 0 works

-- the state of the work over all partitions, by its token and whether it ended by itself
abbrev pub work_of : List Activity → (token : ℕ) → (is_lost : Bool) → Work
work_of works token is_lost =
    if all_idle works then Work.Idle else
    if is_lost then Work.Lost token else
    if any_stopping works then Work.Stopping token else
    Work.Working token

-- each activity after a change, which depends on the partition's number and on what the activity was
abbrev pub changed_from : (ℕ → Activity → Activity) → ℕ → List Activity → List Activity
changed_from change k [] = []
changed_from change k (a ∷ works) = change k a ∷ changed_from change (suc k) works

abbrev pub changed : (ℕ → Activity → Activity) → List Activity → List Activity
changed change works = changed_from change 0 works

-- its work on partition k after an order to stop all that this table, if there is one, doesn't leave the node
abbrev pub stop_at : Option (List ℕ) → (node k : ℕ) → Activity → Activity
stop_at table node k Activity.Working = if is_left table node k then Activity.Working else Activity.Stopping
stop_at table node k activity = activity

-- ... after an order to work on all that this table, if there is one, gives the node
abbrev pub begin_at : Option (List ℕ) → (node k : ℕ) → Activity → Activity
begin_at table node k activity = if is_left table node k then Activity.Working else activity

-- ... after all work has ended
abbrev pub end_at : ℕ → Activity → Activity
end_at k activity = Activity.Idle

-- ... after the work on partition `ended` has ended
abbrev pub ended_at : (ended k : ℕ) → Activity → Activity
ended_at ended k activity = if k == ended then Activity.Idle else activity
