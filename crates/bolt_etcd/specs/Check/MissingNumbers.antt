-- Revisions that are missing by their numbers. After a compaction every later transaction is there, each has the next number, and its
-- revisions have the numbers 0, 1, 2 and so on. Revisions are looked at in the order of their keys.
use Rattle.std.specs.Prelude.{ℕ, ◌+◌, ◌-◌, Bool, List, [], ◌∷◌, ◌++◌, filter, map, max, nat_lt, ◌==◌, Option, Some, None, if◌then◌else◌}
use Rattle.std.specs.Option.{option_to_list}
use Rattle.bolt_etcd.specs.{Wire.Revisions.RevisionView, declared.check.missing.Missing.Missing, declared.wire.revision_key.RevisionKey.RevisionKey}
use Rattle.bolt_etcd.specs.declared.check.missing.Missing.TheVariants.{Revisions, Transactions}

-- the transactions after one and before the next that is there
abbrev pub transactions_between : ℕ → ℕ → Option Missing
transactions_between before main = if nat_lt (before + 1) main then Some (Transactions (before + 1) (main - 1)) else None

-- the revisions of a transaction from one on and below the next that is there
abbrev pub revisions_between : ℕ → ℕ → ℕ → Option Missing
revisions_between main from sub = if nat_lt from sub then Some (Revisions main from (sub - 1)) else None

-- what is missing before a key, if `main` is the last transaction before it, and `sub` the number of the next revision there
unfoldable pub missing_before : ℕ → ℕ → RevisionKey → List Missing
missing_before main sub k =
    if k.main == main then option_to_list (revisions_between main sub k.sub)
    else option_to_list (transactions_between main k.main) ++ option_to_list (revisions_between k.main 0 k.sub)

abbrev pub missing_after : ℕ → ℕ → List RevisionKey → List Missing
missing_after main sub [] = []
missing_after main sub (k ∷ ks) = missing_before main sub k ++ missing_after k.main (k.sub + 1) ks

-- whether a revision is of a later transaction than the compaction, and the keys of those that are
abbrev pub is_of_later : ℕ → RevisionView → Bool
is_of_later compacted r = nat_lt compacted r.key.main

abbrev pub keys_above : ℕ → List RevisionView → List RevisionKey
keys_above compacted rs = map (λ (r : RevisionView). r.key) (filter (is_of_later compacted) rs)

-- the numbers that are missing after a compaction; transaction 2 is the first that there can be
abbrev pub missing_numbers : ℕ → List RevisionView → List Missing
missing_numbers compacted rs = missing_after (max compacted 1) 0 (keys_above compacted rs)
