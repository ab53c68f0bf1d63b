-- Why a member stops its work on a partition.
use Rattle.std.specs.Prelude.{◌≡◌, ◌⊎◌, ℕ, Bool, true, false}
use Rattle.bully_member.specs.Due.{goes_on, goes_on_by, last_table, token_now}
use Rattle.bully_member.specs.Member.{Foresees, MemberState, is_closing, is_in_group, replica_of}
use Rattle.bully_rebalance.specs.Leaving.{is_given, is_left}
use Rattle.bully_rebalance.specs.Rebalancing.{table_before}
use Rattle.bully_table.specs.Planning.{planned}

-- why it stops its work on partition k: it may go on with nothing, since its lease isn't sure, it ends, its epoch is
-- over, or its work ended by itself; the group is stable, and its node owns nothing by a plan after all that it has
-- promised, or in an eager group not by the token by which it works; the group is stable, and the last plan doesn't
-- give its node the partition; or the group isn't, and no table is coming that does
abbrev pub StopsFor : MemberState → (now : ℕ) → (is_stable : Bool) → (k : ℕ) → Type 0
StopsFor m now is_stable k =
    (goes_on m now ≡ false)
    ⊎ ((is_stable ≡ true) × (goes_on_by m (token_now m) ≡ false))
    ⊎ ((is_stable ≡ true) × (is_left (last_table m) m.terms.node k ≡ false))
    ⊎ ((is_stable ≡ false) × (is_left m.coming m.terms.node k ≡ false))

-- a member of a cooperative group whose epoch goes on: it goes on, too, its lease is sure, its node was admitted at its
-- last snapshot, and since then it has learned nothing
pub record GoesOnWorking (m : MemberState) (now : ℕ) : Type 0 where
  pub cooperative : m.terms.is_cooperative ≡ true
  pub open_end : is_closing m ≡ false
  pub goes : goes_on m now ≡ true
  pub admitted : is_in_group m m.terms.node ≡ true
  pub foresees : Foresees m

-- a change takes partition k from its node: in a stable group the last plan did so, or else the rebalance that would be
-- appended now does
abbrev pub IsTaken : MemberState → (is_stable : Bool) → (k : ℕ) → Type 0
IsTaken m true k = is_left (last_table m) m.terms.node k ≡ false
IsTaken m false k = is_given (planned (replica_of m).world.setup (table_before (replica_of m).last m.terms.old) m.group)
    m.terms.node k ≡ false
