-- Which transactions etcd can do, one after another, from an empty store on.
use Rattle.std.specs.Prelude.{◌<◌, ◌+◌, ℕ, IsSome, List, [], ◌∷◌, length}
use Rattle.std.specs.List.{Contains}
use Rattle.bolt_etcd.specs.Histories.Transactions.{Delete, Put, State, Transaction, Write, after, after_all, history, nothing, revision_by, written}
use Rattle.bolt_etcd.specs.{Wire.RevisionKeys.IsSpelled, Wire.Revisions.RevisionView}

-- a name is deleted only if it is there
abbrev pub CanWrite : State → Write → Type 0
CanWrite state (Put name value lease) = Unit {0}
CanWrite state (Delete name) = IsSome (state name)

abbrev pub CanWriteAll : State → (main sub : ℕ) → List Write → Type 0
CanWriteAll state main sub [] = Unit {0}
CanWriteAll state main sub (w ∷ ws) = CanWrite state w × CanWriteAll (after (revision_by state main sub w) state) main (sub + 1) ws

-- etcd can do these transactions from number `main` on. A transaction without writes gets no number, so none is empty
abbrev pub CanFollow : State → (main : ℕ) → List Transaction → Type 0
CanFollow state main [] = Unit {0}
CanFollow state main (t ∷ later) = (0 < length t) × CanWriteAll state main 0 t × CanFollow (after_all (written state main 0 t) state) (main + 1) later

-- etcd can do the transactions, and all their numbers are below 2^63
pub record ArePossible (ts : List Transaction) : Type 0 where
  pub allowed : CanFollow nothing 2 ts
  pub fits : (r : RevisionView) → Contains (history ts) r → IsSpelled r.key
