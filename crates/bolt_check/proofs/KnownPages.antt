-- A page that a way leads to is a branch or a leaf.
use Rattle.std.proofs.Common.{arith, ◌≡◌, ◌∙◌, ℕ, List, Option, None, Some, true, false, refl, sym}
use Rattle.std.specs.Option.{IfNone}
use Rattle.std.specs.Prelude.{IfSome, IsSome}
use Rattle.bolt_format.specs.{TreePages.is_tree_kind, TreePages.shown_page, declared.header.Kind.Kind}
use Rattle.bolt_check.proofs.{Words.Meta, Words.node_at, Words.page_at, Words.PageView, Words.TreePage, TourSums.enough_node, TreePages.node_is}
use Rattle.bolt_check.specs.Subtrees.{Enough}
use Rattle.bolt_format.specs.declared.header.Kind.TheVariants as kind

module _ (file : List ℕ) (meta : Meta) (n : ℕ) (view : PageView) (at : page_at file meta n ≡ Some view) where
  no_meta : (k : ℕ) → Enough (node_at file meta) k n → view.kind ≡ kind.Meta → ⊥
  no_meta k h is = let (node, page) = enough_node (node_at file meta) k n h in let e = sym page ∙ node_is file meta n view kind.Meta at is in cc

  no_freelist : (k : ℕ) → Enough (node_at file meta) k n → view.kind ≡ kind.Freelist → ⊥
  no_freelist k h is = let (node, page) = enough_node (node_at file meta) k n h in let e = sym page ∙ node_is file meta n view kind.Freelist at is in cc

  -- so it is a branch or a leaf
  tree_kind_by : (k : ℕ) (l : Kind) → Enough (node_at file meta) k n → view.kind ≡ l → is_tree_kind l ≡ true
  tree_kind_by k l h is = grind (arith, no_meta, no_freelist)

  pub is_tree : (k : ℕ) → Enough (node_at file meta) k n → is_tree_kind view.kind ≡ true
  is_tree k h = tree_kind_by k view.kind h refl

-- an opened page that is known to be a branch or a leaf, and what it shows
pub some_tree : (o : Option TreePage) (k : Kind) → is_tree_kind k ≡ true → IfNone o (is_tree_kind k ≡ false) → IsSome o
some_tree None k is not = absurd (cc)
some_tree (Some page) k is not = refl

pub opened_as : (o : Option TreePage) (page branch : TreePage) (view : PageView) → o ≡ Some page → page ≡ branch
    → IfSome o (λ (p : TreePage). shown_page p ≡ view) → shown_page branch ≡ view
opened_as o page branch view of is shows = rw (← is) (rw of at shows)
