use Rattle.std.proofs.Common.{List, ℕ, drop, map}
use Rattle.std.specs.Borrow.{Bor}
use Rattle.bolt_etcd.specs.{Store.StoreBuckets.ForStore, Check.StoreFaults.missing_bucket_lines}
use Rattle.bolt_etcd.proofs.ListedTexts.{Listed}
use Rattle.bolt_etcd.proofs.check.store_faults.put_missing_buckets.Given as goal

-- the lines of the names that are ahead are still to be written, and the others were counted
abbrev pub invariant-rest : goal.invariant-rest
invariant-rest g l =
    ForStore l.fn.root (λ store. Listed g.S.Sink l.initial.sink l.sink (missing_bucket_lines store (map (λ (name : Bor (List ℕ)). name.now) l.names))
    (missing_bucket_lines store (map (λ (name : Bor (List ℕ)). name.now) (drop l.name-index l.names))) l.number)
