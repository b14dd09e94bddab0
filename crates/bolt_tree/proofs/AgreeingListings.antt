-- Two files that agree under a meta list the same. For the crates above.
use Rattle.std.proofs.Common.{arith, ◌≡◌, ◌∙◌, ◌↔◌, ℕ, List, Option, Some, ap₂, sym}
use Rattle.std.proofs.Math.Path.{fun_ext}
use Rattle.std.specs.List.{Contains}
use Rattle.bolt_format.specs.{Elements.LeafElement, Pages.PageView, Pages.page_at, declared.meta.Meta.Meta}
use Rattle.bolt_format.specs.declared.header.Kind.TheVariants as kind
use Rattle.bolt_check.specs.{Nodes.Nodes, Nodes.node_at, Shape.leads}
use Rattle.bolt_check.proofs.Exports.{Agree, same_nodes, same_pages}
use Rattle.bolt_tree.specs.{Entries.IsEntry, Entries.Inline_page, Entries.Root_page, Entries.Start, Listing.IsListing, Listing.Member}

-- the entries of a bucket, by what pages are and show
abbrev entry_by : Nodes → (ℕ → Option PageView) → Start → LeafElement → Type 0
entry_by nodes pages (Root_page root) e =
    (address : List ℕ) × (n : ℕ) × (leads nodes (Some root) address ≡ Some n)
    × ((view : PageView) × (pages n ≡ Some view) × (view.kind ≡ kind.Leaf) × Contains view.leaves e)
entry_by nodes pages (Inline_page elements) e = Contains elements e

by_pages : (file : List ℕ) (meta : Meta) (bucket : Start)
    → ◌≡◌ {A = LeafElement → Type 0} (IsEntry file meta bucket) (entry_by (node_at file meta) (page_at file meta) bucket)
by_pages file meta bucket = grind arith

module _ (file other : List ℕ) (meta : Meta) (agree : Agree file other meta) where
  same_entries : ◌≡◌ {A = Start → LeafElement → Type 0} (IsEntry other meta) (IsEntry file meta)
  same_entries =
      fun_ext (by_pages other meta) ∙ ap₂ entry_by (same_nodes file other meta agree) (same_pages file other meta agree) ∙ sym (fun_ext (by_pages file meta))

  pub listing_along : (listing : List Member) → IsListing file meta listing ↔ IsListing other meta listing
  listing_along listing = grind (arith, same_entries)
