-- The plain layout is never 28 times larger than the balanced one, so a pass over it that finds no room notes that neither has any.
use Rattle.std.proofs.Common.{ℕ, refl, ap, subst, arith}
use Rattle.std.proofs.lemmas.Result.{err_from_is_err_and}
use Rattle.bolt_tree.specs.Tree.{tree_of}
use Rattle.bolt_layout.specs.{Layout.layout_high_water, declared.Layout.TheVariants.Balanced, declared.Layout.TheVariants.Plain}
use Rattle.bolt_bulk.specs.Private.{FitLimits, limits_with, stopped_by}
use Rattle.bolt_bulk.proofs.{FileLayouts.balanced_too_large, Openings.fit_plain, members_copy.balanced_limits.Goals.After-noting_setup_of-setup}
use Rattle.bolt_bulk.proofs.members_copy.balanced_limits.Goals as goal

-- no limits are right for the plain layout
none_fit : (g : _) (c : After-noting_setup_of-setup g) (whole : g.M.Members.Whole)
    → FitLimits Plain (tree_of (g.M.Members.listing whole)) c.noting_setup_of-setup.result.page_size (limits_with c.none-none.result)
none_fit g c whole = fit_plain c.noting_setup_of-setup.result.page_size c.none-none.result (tree_of (g.M.Members.listing whole)) c.none-none.ensures

pub pass_over-requires : goal.pass_over-requires
pass_over-requires g c κs = (
  (refl, tt),
  (c.noting_setup_of-setup.ensures.room, (c.requires, (Plain, λ whole is. none_fit g (goal.at.pass_over-requires g c).After-noting_setup_of-setup whole))),
)

pub returns-in_err-ended : goal.returns-in_err-ended
returns-in_err-ended g c =
    let (_, is, e_is) = err_from_is_err_and c.from_residual.result c.from_residual.ensures.1 in
    rw (is, e_is) (record {
      fit = tt;
      large = λ large whole reads.
          let ends = c.in_err-ended.ensures.ends Plain whole reads (none_fit g (goal.at.returns-in_err-ended g c).After-noting_setup_of-setup whole) in
          let above = ends.large (ap stopped_by large) in
          let size = ap (λ (n : ℕ). layout_high_water Plain n (tree_of (g.M.Members.listing whole))) c.noting_setup_of-setup.ensures.page_size in
          let high_water = c.noting_setup_of-setup.ensures.greatest_high_water in
          let one = c.requires.one whole reads in
          balanced_too_large c.args.blueprint.now.page_size (g.M.Members.listing whole) _ c.args.blueprint.now.accepted one (omega arith)
          (c.a_listing_has_one_layout.ensures.length Balanced (g.M.Members.listing whole) one);
      again = tt;
    })

pub returns : goal.returns
returns g c = record {
  fit = λ whole is.
      let ends = c.in_ok-ended.ensures.ends Plain whole is (none_fit g (goal.at.returns g c).After-noting_setup_of-setup whole) in
      subst (λ (n : ℕ). FitLimits Balanced (tree_of (g.M.Members.listing whole)) n (limits_with c.in_ok-ended.ended.noted))
      c.noting_setup_of-setup.ensures.page_size (ends.noted refl refl);
  large = tt;
  again = c.in_ok-ended.ensures.again;
}
