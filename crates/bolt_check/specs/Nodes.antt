-- What the rules of soundness see of a page: a branch or a leaf with its entries, or why it is none. docs/SOUND.md, "Structure".
use Rattle.std.specs.Prelude.{◌≤◌, ℕ, ◌+◌, Bool, true, false, List, [], map, Option, Some, None, Result, Ok, Err}
use Rattle.bolt_format.specs.{Elements.BranchElement, Elements.LeafElement, Elements.head_root, Elements.inline_elements, Elements.inline_number}
use Rattle.bolt_format.specs.{Gaps.GapView, Gaps.inline_gap, Pages.PageView, Pages.page_at, Pages.page_fault}
use Rattle.bolt_format.specs.{declared.meta.Meta.Meta, declared.header.Kind.Kind, declared.page_fault.TheConstants.PageFault.PAGE_KIND}
use Rattle.bolt_format.specs.declared.header.Kind.TheVariants as kind

-- The page of an inline bucket: the page number in its header, its keys, and its first gap, if it has one.
pub record InlinePage : Type 0 where
  pub number : ℕ
  pub keys : List (List ℕ)
  pub gap : Option GapView

-- An entry leads to a page. If the page is 0 and the entry is a bucket, it leads to an inline bucket with this page.
pub record Entry : Type 0 where
  pub key : List ℕ
  pub child : ℕ
  pub is_bucket : Bool
  pub inner : InlinePage

pub record Node : Type 0 where
  pub is_leaf : Bool
  pub overflow : ℕ
  pub entries : List Entry

abbrev pub no_page : InlinePage
no_page = record { number = 0; keys = []; gap = None }

abbrev pub branch_entry : BranchElement → Entry
branch_entry e = record { key = e.key; child = e.child; is_bucket = false; inner = no_page }

-- the page in the value of an inline bucket
abbrev pub inline_page : List ℕ → InlinePage
inline_page value = record {
  number = inline_number value;
  keys = map (λ (inner : LeafElement). inner.key) (inline_elements value);
  gap = inline_gap value;
}

abbrev pub leaf_entry : LeafElement → Entry
leaf_entry e = record {
  key = e.key;
  child = head_root e.value;
  is_bucket = e.is_bucket;
  inner = inline_page e.value;
}

-- A node by its page's number, or the number of its first fault.
abbrev pub Nodes : Type 0
Nodes = ℕ → Result Node ℕ

abbrev pub node_of : Kind → PageView → Result Node ℕ
node_of kind.Branch view = Ok (record { is_leaf = false; overflow = view.overflow; entries = map branch_entry view.branches })
node_of kind.Leaf view = Ok (record { is_leaf = true; overflow = view.overflow; entries = map leaf_entry view.leaves })
node_of kind.Meta view = Err PAGE_KIND
node_of kind.Freelist view = Err PAGE_KIND

abbrev pub node_seen : Option PageView → Option ℕ → Result Node ℕ
node_seen (Some view) fault = node_of view.kind view
node_seen None (Some fault) = Err fault
node_seen None None = Err PAGE_KIND

-- the first fault of the page, or that it is neither a branch nor a leaf
unfoldable pub node_at : List ℕ → Meta → Nodes
node_at file meta n = node_seen (page_at file meta n) (page_fault file meta n)

-- page n lies in the span of the node with this number
abbrev pub IsInSpan : Node → ℕ → ℕ → Type 0
IsInSpan node number n = (number ≤ n) × (n ≤ number + node.overflow)
