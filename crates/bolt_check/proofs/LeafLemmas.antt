-- Leaves by themselves, and what is listed as free.
use Rattle.std.proofs.Common.{◌≡◌, ◌≢◌, ◌∙◌, ◌==◌, ◌<◌, ℕ, true, false, not, List, [], length, Result, Ok, refl, sym, ap, subst, arith}
use Rattle.std.specs.Prelude.{IsTrue, nat_lt}
use Rattle.bolt_check.proofs.Words.{At_page, Entry, HasRoom, ltb-true, Meta, nat_tests, Node, node_at, Nodes, PagePasses, PageUse, root_spot, SpanAt}
use Rattle.bolt_check.proofs.Words.{leaf_entry, shown_node}
use Rattle.bolt_check.proofs.HighWaterLemmas.{node_within}
use Rattle.bolt_format.specs.{TreePages.leaves_on, declared.tree_page.BranchPage.BranchPage, declared.tree_page.LeafPage.LeafPage}
use Rattle.bolt_format.specs.declared.tree_page.TreePage.TheVariants.{Branch, Leaf}
use Rattle.std.proofs.lemmas.List.{length-map, nil_from_length}
use Rattle.bolt_check.specs.{LoneLeaves.IsLoneLeaf, Private.LeafTests.IsFilledLeaf}

-- a filled leaf at which the tests find nothing
pub filled_lone : (nodes : Nodes) (before : ℕ → Type 0) (n : ℕ) → IsFilledLeaf (nodes n) → PagePasses nodes before (root_spot n)
    → IsLoneLeaf nodes before n
filled_lone nodes before n (node, is, leaf, some) passes =
    let one : Ok node ≡ Ok passes.node = sym is ∙ passes.page in
    let same : node ≡ passes.node = cc in
    record { passes = passes; leaf = subst (λ (x : Node). IsTrue x.is_leaf) same leaf; some = subst (λ (x : Node). x.entries ≢ []) same some }

-- it doesn't matter how it is said which pages were claimed before
pub lone_same : (nodes : Nodes) (a b : ℕ → Type 0) (n : ℕ) → ((k : ℕ) → b k → a k) → IsLoneLeaf nodes a n → IsLoneLeaf nodes b n
lone_same nodes a b n from lone = record {
  passes = record {
    node = lone.passes.node;
    early = lone.passes.early;
    page = lone.passes.page;
    free = λ k inside was. lone.passes.free k inside (from k was);
    content = lone.passes.content;
  };
  leaf = lone.leaf;
  some = lone.some;
}

-- its first page lies in its span, and was not claimed before
pub lone_span : (nodes : Nodes) (before : ℕ → Type 0) (n : ℕ) → IsLoneLeaf nodes before n → SpanAt nodes (At_page (root_spot n)) n
lone_span nodes before n lone = rw lone.passes.page (omega arith, omega arith)

pub lone_free : (nodes : Nodes) (before : ℕ → Type 0) (n : ℕ) → IsLoneLeaf nodes before n → before n → ⊥
lone_free nodes before n lone was = lone.passes.free n (omega arith, omega arith) was

-- a table has room for a good page
pub node_in_table : (file : List ℕ) (meta : Meta) (table : List PageUse) (n : ℕ) (node : Node) → HasRoom file meta table
    → node_at file meta n ≡ Ok node → n < length table
node_in_table file meta table n node room is = grind (arith, node_within file meta n node is)

-- how often a page is listed
pub none_listed : (t : ℕ) → not (t == 0) ≡ false → t ≡ 0
none_listed t e = grind (arith, nat_tests)

pub listed_none : (t : ℕ) → t ≡ 0 → not (t == 0) ≡ false
listed_none t e = grind (arith, nat_tests)

-- a list with an element
pub some_entries : (entries : List Entry) (count : ℕ) → count ≡ length entries → nat_lt 0 count ≡ true → entries ≢ []
some_entries entries count is more none = omega (arith, ltb-true 0 count more, is ∙ ap length none)

-- a page of the code that is a leaf and has an element, and one that is a branch
pub leaf_filled : (seen : Result Node ℕ) (page : LeafPage) → seen ≡ Ok (shown_node (Leaf page)) → nat_lt 0 (length (leaves_on page)) ≡ true
    → IsFilledLeaf seen
unfolding shown_node
leaf_filled seen page is more =
    (shown_node (Leaf page), is, refl, some_entries _ (length (leaves_on page)) (sym (length-map (leaves_on page) leaf_entry)) more)

pub leaf_empty : (seen : Result Node ℕ) (page : LeafPage) → seen ≡ Ok (shown_node (Leaf page)) → nat_lt 0 (length (leaves_on page)) ≡ false
    → IsFilledLeaf seen → ⊥
unfolding shown_node
leaf_empty seen page is none (node, of, leaf, some) = grind (arith, nat_tests, nil_from_length)

pub branch_unfilled : (seen : Result Node ℕ) (page : BranchPage) → seen ≡ Ok (shown_node (Branch page)) → IsFilledLeaf seen → ⊥
unfolding shown_node
branch_unfilled seen page is (node, of, leaf, some) = grind arith
