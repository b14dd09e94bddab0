use Rattle.std.proofs.{Common.arith, Common.refl, lemmas.List.Elements.All-contains, lemmas.List.Elements.All-from_recursion}
use Rattle.std.specs.List.{All}
use Rattle.bolt_etcd.specs.{Histories.Transactions.history, Store.Newest.newest, Wire.RevisionKeys.IsSpelled, Wire.RevisionKeys.spelling}
use Rattle.bolt_etcd.specs.{Wire.Revisions.RevisionView, Histories.Possible.ArePossible, Histories.FewTransactions.few_transactions}
use Rattle.bolt_etcd.proofs.laws.an_example_of_transactions.Goals as goal

are_spelled : All (λ (r : RevisionView). IsSpelled r.key) (history few_transactions)
are_spelled = All-from_recursion (λ (r : RevisionView). IsSpelled r.key) (history few_transactions) (omega arith)

are_possible : ArePossible few_transactions
are_possible = record {
  allowed = (omega arith, (tt, (tt, tt)), (omega arith, (refl, tt), (omega arith, (tt, (tt, tt)), tt)));
  fits = λ r has. All-contains (λ (x : RevisionView). IsSpelled x.key) (history few_transactions) r are_spelled has;
}

pub returns : goal.returns
unfolding newest spelling
returns c = record { possible = are_possible; writes = refl; live_of = refl; kept_by_old = refl; kept_by_new = refl }
