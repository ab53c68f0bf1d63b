-- Durations that depend on the ttl, in whole nanoseconds, rounded down.
use Rattle.std.specs.Prelude.{◌-◌, ◌/◌, ◌*◌, ℕ, Bool, false, Option, Some, None, nat_lt, max, min, if◌then◌else◌}
use Rattle.bully_member.specs.declared.values.SessionState.{SessionState}

-- how much is left now of a time of this length that started at `begun`
abbrev pub left : (now length begun : ℕ) → ℕ
left now length begun = length - (now - begun)

-- After its last renewal was asked for, a lease is sure for the ttl less the margin, a fifth of it. bully_clock proves
-- that the store keeps it for so long (leases_last), from clocks and from what the store does.
abbrev pub sure_for : ℕ → ℕ
sure_for ttl = ttl - ttl / 5

abbrev pub sure : SessionState → (ttl now : ℕ) → Bool
sure (SessionState.Live session since) ttl now = nat_lt (now - since) (sure_for ttl)
sure session ttl now = false

-- how long until the lease must be renewed: a quarter of the ttl
abbrev pub renewal_left : SessionState → (ttl now : ℕ) → ℕ
renewal_left (SessionState.Live session since) ttl now = left now (ttl / 4) since
renewal_left session ttl now = ttl

-- how long until the member asks again after a request that wasn't answered: a twentieth of the ttl
abbrev pub pause_left : Option ℕ → (ttl now : ℕ) → ℕ
pause_left None ttl now = 0
pause_left (Some paused) ttl now = left now (ttl / 20) paused

-- how long until it is the turn of a node with this many higher live nodes: a fifth of the ttl for each, after the last
-- change
abbrev pub turn_left : (above ttl now last_change : ℕ) → ℕ
turn_left above ttl now last_change = left now (ttl / 5 * above) last_change

-- for how long a new session whose node is Down in the log must stay until it is admitted: a hundredth of the ttl; or,
-- if another one was first seen for its node within the 60 ttl before, four times the stay of that one, up to ten ttl
abbrev pub first_stay : ℕ → ℕ
first_stay ttl = ttl / 100

abbrev pub longer_stay : (stay ttl : ℕ) → ℕ
longer_stay stay ttl = min stay (ttl * 5 / 2) * 4

abbrev pub remembered_for : ℕ → ℕ
remembered_for ttl = ttl * 60

-- How long it backs off while nothing may be asked for.

-- for how long the lease is still sure
abbrev pub sure_left : SessionState → (ttl now : ℕ) → ℕ
sure_left (SessionState.Live session since) ttl now = left now (sure_for ttl) since
sure_left session ttl now = 0

-- while some work stops: until both the next renewal is due and a pause is over; while it works elsewhere, no longer
-- than its lease is sure
abbrev pub stopping_backoff : (is_working : Bool) → SessionState → (ttl now : ℕ) → Option ℕ → ℕ
stopping_backoff is_working session ttl now paused =
    let backoff = max (renewal_left session ttl now) (pause_left paused ttl now) in
    if is_working then min backoff (sure_left session ttl now) else backoff

-- while a request isn't answered yet: a ttl; while it works, as long as its lease is sure
abbrev pub awaiting_backoff : (is_working : Bool) → SessionState → (ttl now : ℕ) → ℕ
awaiting_backoff is_working session ttl now = if is_working then sure_left session ttl now else ttl

-- after a request that wasn't answered: until the pause is over; while it works, no longer than its lease is sure
abbrev pub paused_backoff : (is_working : Bool) → SessionState → (ttl now : ℕ) → Option ℕ → ℕ
paused_backoff is_working session ttl now paused =
    if is_working then min (pause_left paused ttl now) (sure_left session ttl now) else pause_left paused ttl now
