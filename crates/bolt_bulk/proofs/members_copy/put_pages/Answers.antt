-- The writer that is made has written none of the pages, and its sink is the one that is given.
use Rattle.std.proofs.Common.{rules}
use Rattle.bolt_bulk.proofs.{PassEnds.ends_to}
use Rattle.bolt_bulk.proofs.members_copy.put_pages.Goals as goal

pub returns-clause-pages : goal.returns-clause-pages
returns-clause-pages g c = λ which whole is fit.
    let same = c.put_members.ensures.same.sink in
    ends_to (search (rules, same)) (c.put_members.ensures.pages which whole is fit)
