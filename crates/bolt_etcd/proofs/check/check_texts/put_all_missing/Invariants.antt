use Rattle.std.proofs.Common.{◌≡◌, map}
use Rattle.bolt_etcd.specs.{Check.CheckLines.missing_line, Private.MissingLeft.ForMissing, Private.MissingLeft.missing_checked}
use Rattle.bolt_etcd.specs.{Private.MissingLeft.missing_left, Private.MissingLeft.missing_number, Private.MissingLeft.missing_start}
use Rattle.bolt_etcd.proofs.ListedTexts.{Listed}
use Rattle.bolt_etcd.proofs.check.check_texts.put_all_missing.Given as goal

-- the lines of those that are ahead are still to be written, and the others were counted
abbrev pub invariant-rest : goal.invariant-rest
invariant-rest g l = record {
  checked : missing_checked l.pass ≡ missing_checked l.fn.pass;
  start : missing_start l.pass ≡ missing_start l.fn.pass;
  listed : ForMissing l.fn.pass
      (λ entries.
      Listed g.S.Sink l.initial.sink l.sink (map missing_line (missing_left l.fn.pass entries)) (map missing_line (missing_left l.pass entries)) l.number);
}

abbrev pub decreases-rest : goal.decreases-rest
decreases-rest g l = missing_number l.pass
