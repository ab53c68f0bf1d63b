-- What a member starts with.
use Rattle.std.specs.Prelude.{◌≡◌, ◌*◌, ℕ, Bool, false, List, Option, Some, None, length, nat_lt, ◌==◌, not, ◌||◌}
use Rattle.std.specs.Prelude.{if◌then◌else◌}
use Rattle.bully_base.specs.Setup.{Setup}
use Rattle.bully_member.specs.declared.opening.MemberFault.{MemberFault}
use Rattle.bully_member.specs.declared.opening.Terms.{Terms}
use Rattle.bully_member.specs.declared.opening.TheConstants.{REBALANCE_MAX, TTL_MIN, TTL_MAX}

-- whether an old table, if there is one, has another number of partitions
abbrev pub is_other_length : Option (List ℕ) → ℕ → Bool
is_other_length None partitions = false
is_other_length (Some table) partitions = not (length table == partitions)

-- the first fault of what an epoch is for a member of a group with this setup
abbrev pub terms_fault : Setup → Terms → Option MemberFault
terms_fault setup t =
    if nat_lt setup.nodes t.node then Some MemberFault.BadNode else
    if is_other_length t.old setup.partitions then Some MemberFault.TableLength else
    if nat_lt t.rows_max (2 * REBALANCE_MAX * setup.nodes) || nat_lt setup.events_max t.rows_max
    then Some MemberFault.BadRowsMax else
    None

abbrev pub or_else : Option MemberFault → Option MemberFault → Option MemberFault
or_else None other = other
or_else (Some fault) other = Some fault

-- ... or of its ttl
abbrev pub member_fault : Setup → Terms → (ttl : ℕ) → Option MemberFault
member_fault setup t ttl =
    or_else (terms_fault setup t) (if nat_lt ttl TTL_MIN || nat_lt TTL_MAX ttl then Some MemberFault.BadTtl else None)

-- a member is refused for its first fault, or if it has none because an allocation failed
abbrev pub RefusesMember : Option MemberFault → MemberFault → Type 0
RefusesMember None why = why ≡ MemberFault.OutOfMemory
RefusesMember (Some fault) why = why ≡ fault
