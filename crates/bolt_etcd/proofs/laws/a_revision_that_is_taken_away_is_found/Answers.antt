use Rattle.bolt_etcd.proofs.{TakenAway.reported_by_number, TakenAway.reported_by_transaction, TakenNames.fault_found}
use Rattle.bolt_etcd.proofs.laws.a_revision_that_is_taken_away_is_found.Goals as goal

pub returns : goal.returns
returns c = record {
  by_number = λ ts compacted keeps r later left possible is. reported_by_number compacted ts keeps possible r left is later;
  by_transaction = λ ts compacted keeps r later left possible is. reported_by_transaction compacted ts keeps possible r left is later;
  by_name = λ ts compacted keeps possible compaction r next left by_name is sorted shown granted.
      fault_found compacted ts keeps possible compaction r next left is shown granted by_name sorted;
}
