-- What the laws say of a listing of one tree holds where it is only known to be one.
use Rattle.std.proofs.Common.{List, subst}
use Rattle.std.proofs.{Math.Logic.∥∥₁_elim, Math.Logic.∥∥₁_map, Props.props}
use Rattle.std.specs.Prelude.{◌≤◌}
use Rattle.bolt_tree.specs.{Listing.Member, Tree.tree_of}
use Rattle.bolt_layout.specs.{Held.most_held, Layout.layout_held}
use Rattle.bolt_bulk.proofs.laws.a_listing_has_one_layout.Goals as goal

pub returns-clause-length : goal.returns-clause-length
returns-clause-length c =
    λ which listing one.
    ∥∥₁_elim one (Prim.hlevel props) (λ is. c.layout_has_length.ensures which c.args.page_size (tree_of listing) c.args.sequence c.requires is.storable)

pub returns-clause-accepted : goal.returns-clause-accepted
returns-clause-accepted c =
    λ which listing one short.
    ∥∥₁_map one (λ is. c.a_copy_lists_the_same.ensures which listing c.args.page_size c.args.sequence is c.requires c.fits.ensures short)

pub returns-clause-held : goal.returns-clause-held
returns-clause-held c =
    λ which listing one short.
    ∥∥₁_elim one (Prim.hlevel props) (λ is. c.held_is_small.ensures which c.args.page_size (tree_of listing) c.args.sequence c.requires is.storable short)

pub returns-clause-bounded : goal.returns-clause-bounded
returns-clause-bounded c = λ which listing one short. ∥∥₁_elim one (Prim.hlevel props) (λ is.
    subst (λ (ms : List Member). layout_held which c.args.page_size (tree_of listing) ≤ most_held c.args.page_size ms) is.lists
    (c.held_is_bounded.ensures which c.args.page_size (tree_of listing) c.args.sequence c.requires is.storable short))

pub returns-clause-prefixes : goal.returns-clause-prefixes
returns-clause-prefixes c = λ which listing one short.
    ∥∥₁_map one (λ is.
    c.prefixes_are_refused.ensures which c.args.page_size (tree_of listing) c.args.sequence
    (record { size = c.requires; storable = is.storable; sequence_fits = c.fits.ensures }) short)
