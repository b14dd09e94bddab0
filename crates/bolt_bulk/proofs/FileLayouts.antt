-- What the laws say of the layout of a checked file. That its trees are sound is known without a witness, and so is what follows from it.
use Rattle.std.proofs.Common.{◌≡◌, ◌≢◌, ◌<◌, ◌≤◌, ◌+◌, ◌*◌, ◌/◌, ℕ, List, [], length, refl, subst, arith}
use Rattle.std.proofs.{Math.Logic.∥∥₁_elim, Math.Logic.∥∥₁_map, Math.Nat.div-lt_iff_lt-mul, Math.Nat.div-mul-le_self, Math.Nat.mul-le-mul_right}
use Rattle.std.proofs.{Props.props}
use Rattle.std.specs.List.{AllByRecursion}
use Rattle.bolt_format.specs.Metas.{IsPageSize}
use Rattle.bolt_tree.specs.{Listing.Member, Tree.Tree, Tree.listing_of, Tree.tree_of}
use Rattle.bolt_bulk.specs.{Compacting.too_many, Private.HasMemberLengths}
use Rattle.bolt_layout.specs.{Copies.IsOfOneTree, Layout.layout_high_water, declared.Layout.TheVariants.Balanced, declared.Layout.TheVariants.Plain}
use Rattle.bolt_layout.specs.{Items.root_of}
use Rattle.bolt_format.proofs.Exports.{size_bounds}
use Rattle.bolt_bulk.proofs.PassEnds.{members_fit}
use Rattle.bolt_layout.proofs.Exports.{plain_not_much_larger}

-- it has a byte
pub some_bytes : (bytes : List ℕ) (high_water page_size : ℕ) → length bytes ≡ (3 + high_water) * page_size → IsPageSize page_size → bytes ≢ []
some_bytes bytes high_water page_size long size none = grind (arith, size_bounds, mul-le-mul_right)

-- What the pass over a file asks of its listing, and what its end is of the layout.
members_same : (a b : List Member) → ∥ a ≡ b ∥₁ → a ≡ b
members_same a b known = ∥∥₁_elim known (hlevel props) (λ same. same)

pub listing_is_back : (listing : List Member) → ∥ IsOfOneTree listing ∥₁ → listing_of (tree_of listing) ≡ listing
listing_is_back listing one = members_same (listing_of (tree_of listing)) listing (∥∥₁_map one (λ is. is.lists))

pub listing_fits : (listing : List Member) → ∥ IsOfOneTree listing ∥₁ → ∥ AllByRecursion HasMemberLengths listing ∥₁
listing_fits listing one = ∥∥₁_map one (λ is. subst (AllByRecursion HasMemberLengths) is.lists (members_fit [] (tree_of listing) is.storable.lengths))

-- a high-water mark above the highest one is that of a layout that is too large,
pub too_large : (page_size greatest_high_water high_water bytes : ℕ) → 1 ≤ page_size → greatest_high_water ≡ 9223372036854775807 / page_size
    → greatest_high_water < high_water → bytes ≡ high_water * page_size → too_many ≤ bytes
too_large page_size greatest_high_water high_water bytes low mark_is above bytes_are =
    omega (arith, (div-lt_iff_lt-mul {k = page_size} {x = 9223372036854775807} {y = high_water} low).0 (omega arith))

-- and one within it is not
pub within_mark : (page_size greatest_high_water high_water bytes : ℕ) → greatest_high_water ≡ 9223372036854775807 / page_size
    → high_water ≤ greatest_high_water → bytes ≡ high_water * page_size → bytes < too_many
within_mark page_size greatest_high_water high_water bytes mark_is within bytes_are = grind (arith, div-mul-le_self, mul-le-mul_right)

-- The balanced layout is too large if the plain one is beyond 28 times the highest mark.
pub balanced_too_large : (page_size : ℕ) (listing : List Member) (bytes : ℕ) → IsPageSize page_size → ∥ IsOfOneTree listing ∥₁
    → 28 * (9223372036854775807 / page_size) < layout_high_water Plain page_size (tree_of listing)
    → bytes ≡ layout_high_water Balanced page_size (tree_of listing) * page_size → too_many ≤ bytes
balanced_too_large page_size listing bytes size one above bytes_are =
    let tree : Tree = tree_of listing in
    let low = (size_bounds page_size size).0 in
    let times : (root_of Plain page_size tree).numbers ≤ 28 * (root_of Balanced page_size tree).numbers =
    ∥∥₁_elim one (hlevel props) (λ is. plain_not_much_larger page_size tree size is.storable) in
    too_large page_size (9223372036854775807 / page_size) (layout_high_water Balanced page_size tree) bytes (omega arith) refl (omega arith) bytes_are
