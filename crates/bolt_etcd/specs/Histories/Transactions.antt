-- What etcd writes: transactions, one after another from an empty store on, and the revisions that they make. The first transaction has number 2,
-- and each later one the next number. Each of its writes makes a revision: they have the numbers 0, 1, 2 and so on.
use Rattle.std.specs.Prelude.{ℕ, ◌+◌, ◌-◌, Bool, true, false, List, [], ◌∷◌, ◌++◌, take, Option, Some, None, if◌then◌else◌, ◌≡◌, ◌↔◌}
use Rattle.bolt_lemmas.specs.Order.{Rises}
use Rattle.bolt_check.specs.Keys.{Key}
use Rattle.bolt_etcd.specs.{Store.Newest.is_named, Wire.Records.RecordView, Wire.Records.empty, Wire.RevisionKeys.spelling}
use Rattle.bolt_etcd.specs.{Wire.Revisions.RevisionView, declared.wire.revision_key.RevisionKey.RevisionKey}
use Rattle.std.specs.List.{Contains}
use Rattle.bolt_etcd.specs.{Wire.Revisions.name_of}
use Rattle.bolt_etcd.specs.Store.Orders.{name_cmp}

pub data Write : Type 0 where
  Put : (name value : List ℕ) → (lease : ℕ) → Write
  Delete : (name : List ℕ) → Write

abbrev pub Transaction : Type 0
Transaction = List Write

-- what each name holds: the revision that put it there, or nothing
abbrev pub State : Type 0
State = Key → Option RevisionView

abbrev pub nothing : State
nothing name = None

-- what a name holds once a revision of it is written
abbrev pub live_of : RevisionView → Option RevisionView
live_of r = if r.key.deleted then None else Some r

abbrev pub after : RevisionView → State → State
after r state name = if is_named name r then live_of r else state name

abbrev pub after_all : List RevisionView → State → State
after_all [] state = state
after_all (r ∷ rs) state = after_all rs (after r state)

-- A put of a name that holds nothing creates it, with version 1. Another put keeps the transaction that created it, and has the next version.
abbrev pub created_by : ℕ → Option RevisionView → ℕ
created_by main None = main
created_by main (Some before) = before.content.created

abbrev pub version_after : Option RevisionView → ℕ
version_after None = 1
version_after (Some before) = before.content.version + 1

-- the record of a write in transaction `main`. A deletion has a name alone
abbrev pub record_by : State → (main : ℕ) → Write → RecordView
record_by state main (Put name value lease) = record {
  name = name;
  created = created_by main (state name);
  modified = main;
  version = version_after (state name);
  value = value;
  lease = lease;
}
record_by state main (Delete name) = record empty { name = name }

abbrev pub deletes : Write → Bool
deletes (Put name value lease) = false
deletes (Delete name) = true

-- a revision under the spelling of its key
abbrev pub revision_under : RevisionKey → RecordView → RevisionView
revision_under k content = record { stored_key = spelling k; key = k; content = content }

-- the revision of a write, which is number `sub` of transaction `main`
abbrev pub revision_by : State → (main sub : ℕ) → Write → RevisionView
revision_by state main sub w = revision_under (record { main = main; sub = sub; deleted = deletes w }) (record_by state main w)

-- the revisions of a transaction's writes, from number `sub` on
abbrev pub written : State → (main sub : ℕ) → List Write → List RevisionView
written state main sub [] = []
written state main sub (w ∷ ws) =
    let r = revision_by state main sub w in
    r ∷ written (after r state) main (sub + 1) ws

-- the revisions of transactions, the first of which has number `main`
abbrev pub history_from : State → (main : ℕ) → List Transaction → List RevisionView
history_from state main [] = []
history_from state main (t ∷ later) =
    let rs = written state main 0 t in
    rs ++ history_from (after_all rs state) (main + 1) later

abbrev pub history : List Transaction → List RevisionView
history ts = history_from nothing 2 ts

-- what each name holds after all transactions
abbrev pub state_after : List Transaction → State
state_after ts = after_all (history ts) nothing

-- what each name holds after transaction `at`; 2 is the first of them
abbrev pub state_at : (at : ℕ) → List Transaction → State
state_at at ts = state_after (take (at - 1) ts)

-- ---- what the names hold, as a list

-- exactly the revisions of a state, by rising name
pub record AreOfState (state : State) (rs : List RevisionView) : Type 0 where
  pub rises : Rises name_cmp rs
  pub exact : (r : RevisionView) → Contains rs r ↔ (state (name_of r) ≡ Some r)
