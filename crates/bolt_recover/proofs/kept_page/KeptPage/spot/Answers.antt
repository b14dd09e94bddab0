use Rattle.std.proofs.Common.{arith}
use Rattle.bolt_recover.proofs.Leading.{leads_to}
use Rattle.bolt_recover.proofs.kept_page.KeptPage.spot.Goals as goal

pub returns-in-Page : goal.returns-in-Page
returns-in-Page c = grind (arith, leads_to, c.in-Page.is, c.requires.below, c.step.ensures.leads, c.step.ensures.inner)
