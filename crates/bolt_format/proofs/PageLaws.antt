-- What holds of every page that a program has, for the crates above.
use Rattle.std.proofs.Common.{◌≡◌, ◌∙◌, ap, length}
use Rattle.bolt_format.specs.{Pages.shown_branches, Pages.shown_leaves, ShownGoodPages.shown, declared.header.Kind.Kind, declared.good_page.Page.Page}
use Rattle.bolt_format.specs.declared.header.Kind.TheVariants as kind
use Rattle.bolt_format.proofs.GoodPages.{length-branch_elements, length-leaf_elements}

-- a branch shows as many elements as its count says
pub length-shown_branches : (page : Page) → (shown page).kind ≡ kind.Branch → length (shown page).branches ≡ (shown page).count
unfolding shown
length-shown_branches page is = ap (λ (k : Kind). length (shown_branches k page.count page.span.now)) is ∙ length-branch_elements page.span.now page.count

-- and so does a leaf
pub length-shown_leaves : (page : Page) → (shown page).kind ≡ kind.Leaf → length (shown page).leaves ≡ (shown page).count
unfolding shown
length-shown_leaves page is = ap (λ (k : Kind). length (shown_leaves k page.count page.span.now)) is ∙ length-leaf_elements page.span.now page.count
