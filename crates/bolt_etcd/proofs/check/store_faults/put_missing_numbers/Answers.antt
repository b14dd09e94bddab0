use Rattle.std.proofs.Common.{◌≡◌, length, map}
use Rattle.std.proofs.lemmas.Result.{IfOk-weaker}
use Rattle.bolt_check.specs.Counts.{counted}
use Rattle.bolt_etcd.specs.{Check.CheckLines.missing_line, Private.MissingLeft.missing_left, Check.MissingNumbers.missing_numbers}
use Rattle.bolt_etcd.specs.{Wire.Numbered.numbered}
use Rattle.bolt_etcd.proofs.RevisionSteps.{over_all}
use Rattle.bolt_etcd.proofs.check.store_faults.put_missing_numbers.Goals as goal

pub returns-in-Some-clause-number : goal.returns-in-Some-clause-number
returns-in-Some-clause-number g c = rw c.in-Some.is (IfOk-weaker c.put_all_missing.result _ _
    (λ n counts entries are.
    over_all c.args.keys.now _ _ (missing_left c.of.result) (λ es. missing_numbers c.in-Some.compacted (numbered es))
    (λ ms. n ≡ counted 0 (length (map missing_line ms)))
    c.of.ensures.checked c.of.ensures.start c.of.ensures.all counts entries are) c.put_all_missing.ensures.number)
