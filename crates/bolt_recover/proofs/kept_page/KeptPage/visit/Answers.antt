use Rattle.bolt_recover.proofs.Words.{counted_none, passed_on}
use Rattle.bolt_recover.proofs.kept_page.KeptPage.visit.Goals as goal

pub returns-in_err-visit-in-Page-clause-found : goal.returns-in_err-visit-in-Page-clause-found
returns-in_err-visit-in-Page-clause-found c = rw c.in-Page.is (passed_on _ _ _ c.in_err-visit-in-Page.ensures.found c.from_residual.ensures.1)

pub returns-in_err-test-in-Bucket-clause-visited : goal.returns-in_err-test-in-Bucket-clause-visited
returns-in_err-test-in-Bucket-clause-visited c = rw c.in-Bucket.is (counted_none c.args.claims.now)

pub returns-in_ok-test-in-Bucket-clause-visited : goal.returns-in_ok-test-in-Bucket-clause-visited
returns-in_ok-test-in-Bucket-clause-visited c = rw c.in-Bucket.is (counted_none c.args.claims.now)
