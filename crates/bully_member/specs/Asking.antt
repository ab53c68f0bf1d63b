-- What a member is to a store of bully_work.
use Rattle.std.specs.Prelude.{◌≡◌, ◌⊎◌, ℕ, Bool, true, false, Contains, Option, Some, None}
use Rattle.bully_member.specs.Activities.{busy}
use Rattle.bully_member.specs.Member.{MemberState, replica_of}
use Rattle.bully_member.specs.declared.values.Ending.{Ending}
use Rattle.bully_member.specs.declared.values.Lease.{Lease}
use Rattle.bully_rebalance.specs.Acting.{ActsBy as Acts}
use Rattle.bully_work.specs.Store.{Lease as Held, Promised, Store, current}

-- the member's process acts for name i by this session: it knows what the session has learned of the member's epoch,
-- how far it has promised, and on which partitions it works
abbrev pub ActsBy : MemberState → Store → ℕ → ℕ → Type 0
ActsBy m s i n = Acts (replica_of m) m.terms.epoch m.terms.node m.promised (busy m.works) s i n

-- what it promises for this offset: to keep what it works on
abbrev pub promise_of : MemberState → ℕ → Promised
promise_of m offset = record { epoch = m.terms.epoch; offset = offset; kept = busy m.works }

-- the member knows this lease of the store: as that of its own node, with the promise that it has made; or as one that
-- its last snapshot found
pub record IsOwn (m : MemberState) (node : ℕ) (here : Held) : Type 0 where
  pub same : m.terms.node ≡ node
  pub epoch : here.promised.epoch ≡ m.own.epoch
  pub offset : here.promised.offset ≡ m.own.offset
  pub kept : m.is_exact ≡ true → here.promised.kept ≡ busy m.works

pub record IsOther (m : MemberState) (node : ℕ) (here : Held) : Type 0 where
  pub lease : Lease
  pub found : Contains m.leases lease
  pub same : lease.node ≡ node
  pub apart : (lease.node ≡ m.terms.node) → ⊥
  pub epoch : here.promised.epoch ≡ lease.promise.epoch
  pub offset : here.promised.offset ≡ lease.promise.offset
  pub kept : here.promised.kept ≡ lease.kept

abbrev pub Knows : MemberState → ℕ → Held → Type 0
Knows m node here = IsOwn m node here ⊎ IsOther m node here

-- a writer may call a name silent only in a cooperative group, only if it doesn't end, and only if its change doesn't
-- affect the name's node
abbrev pub MayBeSilent : MemberState → (is_cooperative : Bool) → Option Ending → ℕ → Type 0
MayBeSilent m true None node = Contains m.affected node → ⊥
MayBeSilent m is_cooperative ending node = ⊥

-- which names it may list as seen: those of affected nodes; if it ends, any
abbrev pub IsAsked : MemberState → Option Ending → ℕ → Type 0
IsAsked m None node = Contains m.affected node
IsAsked m (Some ending) node = Unit {0}

-- a writer names these: as silent only such, and as seen only leases that the member knows
pub record Names (m : MemberState) (s : Store) (silent : ℕ → Bool) (seen : ℕ → Option Held) : Type 0 where
  pub spared : (i : ℕ) → silent i ≡ true → MayBeSilent m m.terms.is_cooperative m.ending ((current s).number i)
  pub asked : (i : ℕ) (here : Held) → silent i ≡ false → seen i ≡ Some here → IsAsked m m.ending ((current s).number i)
  pub known : (i : ℕ) (here : Held) → silent i ≡ false → seen i ≡ Some here → Knows m ((current s).number i) here
