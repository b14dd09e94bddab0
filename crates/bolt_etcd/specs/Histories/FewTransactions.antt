-- A few transactions, as an example: two names are put, and one is deleted and put again.
use Rattle.std.specs.Prelude.{ℕ, false, true, List, [], ◌∷◌, codes}
use Rattle.bolt_etcd.specs.{Histories.Transactions.Delete, Histories.Transactions.Put, Histories.Transactions.Transaction}
use Rattle.bolt_etcd.specs.{Histories.Transactions.revision_under, Wire.Records.empty, Wire.Revisions.RevisionView}

abbrev pub few_transactions : List Transaction
few_transactions =
    (Put (codes "a") (codes "red") 0 ∷ Put (codes "b") (codes "blue") 26 ∷ [])
    ∷ (Delete (codes "a") ∷ [])
    ∷ (Put (codes "b") (codes "green") 0 ∷ Put (codes "a") (codes "white") 0 ∷ [])
    ∷ []

-- a put's revision
abbrev pub put_at : (main sub created version : ℕ) (name value : List ℕ) (lease : ℕ) → RevisionView
put_at main sub created version name value lease =
    revision_under (record { main = main; sub = sub; deleted = false })
    (record { name = name; created = created; modified = main; version = version; value = value; lease = lease })

abbrev pub first_a : RevisionView
first_a = put_at 2 0 2 1 (codes "a") (codes "red") 0

abbrev pub first_b : RevisionView
first_b = put_at 2 1 2 1 (codes "b") (codes "blue") 26

abbrev pub deletion_of_a : RevisionView
deletion_of_a = revision_under (record { main = 3; sub = 0; deleted = true }) (record empty { name = codes "a" })

abbrev pub second_b : RevisionView
second_b = put_at 4 0 2 2 (codes "b") (codes "green") 0

abbrev pub second_a : RevisionView
second_a = put_at 4 1 4 1 (codes "a") (codes "white") 0
