use Rattle.bolt_format.specs.ShownGoodPages.{shown}
use Rattle.bolt_format.proofs.PageLaws.{length-shown_branches, length-shown_leaves}
use Rattle.bolt_format.proofs.good_page.Page.count.Goals as goal

pub returns-clause-branches : goal.returns-clause-branches
unfolding shown
returns-clause-branches c is = length-shown_branches c.args.self.now is

pub returns-clause-leaves : goal.returns-clause-leaves
unfolding shown
returns-clause-leaves c is = length-shown_leaves c.args.self.now is
