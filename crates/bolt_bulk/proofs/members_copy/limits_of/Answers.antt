-- Each row of the plain layout may have any number of runs.
use Rattle.std.proofs.Common.{arith, subst, sym}
use Rattle.bolt_tree.specs.Tree.{tree_of}
use Rattle.bolt_layout.specs.declared.Layout.{Layout}
use Rattle.bolt_bulk.specs.Private.{FitLimits, limits_with}
use Rattle.bolt_bulk.proofs.Openings.{fit_plain}
use Rattle.bolt_bulk.proofs.members_copy.limits_of.Goals as goal

pub returns-in-Plain : goal.returns-in-Plain
returns-in-Plain g c = record {
  fit =
      λ whole is.
      subst (λ (which : Layout). FitLimits which (tree_of (g.M.Members.listing whole)) c.args.blueprint.now.page_size (limits_with c.none.result))
      (sym c.in-Plain.is)
      (fit_plain c.args.blueprint.now.page_size c.none.result (tree_of (g.M.Members.listing whole)) c.none.ensures);
  large = tt;
  again = grind arith;
}
