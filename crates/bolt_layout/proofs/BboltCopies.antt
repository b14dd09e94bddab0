-- Bbolt can write into the balanced layout of a listing without a value in the root bucket or under a key that is too large, and fails on branches of
-- one child alone of the plain one.
use Rattle.std.proofs.Common.{◌≡◌, ◌∙◌, ◌<◌, ◌≤◌, ◌^◌, ℕ, true, false, List, [], ◌∷◌, ◌++◌, Option, Some, ap, inl, inr, length, refl, subst, sym}
use Rattle.std.proofs.Common.{arith}
use Rattle.bolt_layout.proofs.Words.{AllByRecursion, At_page, Balanced, Contains, Contains-append_left, Contains-append_right, contains_head}
use Rattle.bolt_layout.proofs.Words.{contains_tail, end, IsAsked, IsEntry, IsTreeOf, items_of, Key, Layout, layout_high_water, layout_meta, layout_of}
use Rattle.bolt_layout.proofs.Words.{layout_pages, layout_root, listing_below, Member, Meta, node_at, page_at, PageSpot, PageView, Path, Placed}
use Rattle.bolt_layout.proofs.Words.{Plain, reached, Root_page, root_of, root_over, size_bounds, Spot, Tree, tree_of, with_bucket, with_value}
use Rattle.bolt_layout.proofs.{BboltWays.all_lone, BboltWays.none_found, BboltWays.not_lone, BboltWays.only_found, BboltWays.what_is_brought}
use Rattle.bolt_layout.proofs.{EvenPages.IsEven, EvenPages.IsNeat, EvenPages.IsNeatElement, EvenPages.over_even, EvenTrees.tree_neat}
use Rattle.bolt_layout.proofs.{EvenWays.IsEvenSpot, EvenWays.IsNeatSpot, EvenWays.even_by, LaidPages.AreNodes, PlacedWays.IsPlaced}
use Rattle.bolt_layout.proofs.{PlacedWays.placed_way}
use Rattle.bolt_layout.proofs.{Soundness.IsLaidOut, Soundness.IsSoundLayout, Soundness.PassingIsSound, Soundness.laid_out, Soundness.layout_sound}
use Rattle.bolt_layout.proofs.{Soundness.nodes_shown, SoundCopies.layout_tree}
use Rattle.bolt_layout.proofs.{SpanLemmas.IsShown, TreeItems.root_stands, TreeItems.tree_items, TwoChildren.layout_twos}
use Rattle.bolt_layout.specs.{ForBbolt.HasShortKeys, ForBbolt.HoldsBuckets, ForBbolt.IsForBbolt, ForBbolt.IsOfLayout, ForBbolt.IsOneChild}
use Rattle.bolt_layout.specs.{Copies.IsOfOneTree, Layout.HasTwoIfBranch}
use Rattle.bolt_check.proofs.Exports.{branch_node}
use Rattle.bolt_check.specs.{BboltFindings.AreBboltFindings, BboltFindings.has_one_child, BboltFindings.is_too_large, BboltFindings.leaves_at}
use Rattle.bolt_check.specs.{Findings.finding, declared.finding.Finding.Finding}
use Rattle.bolt_check.specs.declared.finding.TheConstants.Finding.{LARGE_KEY, ONE_CHILD, ROOT_VALUE}
use Rattle.bolt_format.specs.declared.header.Kind.TheVariants as kind
use Rattle.bolt_tree.specs.Entries.{Value}

-- ---- what is known of the pages that were placed

same_view : (a b : PageView) → ◌≡◌ {A = Option PageView} (Some a) (Some b) → a ≡ b
same_view a b e = cc

placed_of : (P : Placed → Type 0) (file : List ℕ) (meta : Meta) (pages : List Placed)
    → AllByRecursion (λ (p : Placed). IsShown file meta p.number p.view) pages → AllByRecursion P pages
    → (n : ℕ) (view : PageView) → IsPlaced pages n → page_at file meta n ≡ Some view → (p : Placed) × P p × (p.view ≡ view)
placed_of P file meta [] shown all n view placed at = absurd placed
placed_of P file meta (p ∷ pages) shown all n view (inl here) at = (p, all.0, same_view p.view view (sym shown.0.shows ∙ (ap (page_at file meta) here ∙ at)))
placed_of P file meta (p ∷ pages) shown all n view (inr later) at = placed_of P file meta pages shown.1 all.1 n view later at

-- ---- of a tree

module _ (passing : PassingIsSound) (which : Layout) (page_size : ℕ) (tree : Tree) (sequence : ℕ) (asked : IsAsked page_size tree sequence)
    (small : length (layout_of which page_size tree sequence) < 2 ^ 63) where
  abbrev file : List ℕ
  file = layout_of which page_size tree sequence

  abbrev meta : Meta
  meta = layout_meta which page_size tree sequence 1

  abbrev pages : List Placed
  pages = layout_pages which page_size tree

  laid : IsLaidOut which page_size tree sequence
  laid = laid_out which page_size tree sequence asked.size asked.storable asked.sequence_fits small

  pub sound : IsSoundLayout which page_size tree sequence
  sound = layout_sound passing which page_size tree sequence asked.size laid

  nodes : AreNodes (node_at file meta) pages
  nodes = nodes_shown file meta pages sound.shown

  pub placed : (way : List ℕ) (t : PageSpot) → reached (node_at file meta) meta.root way ≡ Some (At_page t) → IsPlaced pages t.number
  placed = placed_way (node_at file meta) (reached (node_at file meta) meta.root) 3 (layout_high_water which page_size tree) sound.part pages laid.row nodes

  -- its pages are even
  pages_even : (height : ℕ) × (height ≤ 63) × IsEven (node_at file meta) height meta.root × AllByRecursion (IsNeat (node_at file meta)) pages
  unfolding root_of
  pages_even =
      let bounds = size_bounds page_size asked.size in
      let room = sound.room in
      let items = items_of which page_size tree in
      let lengths = asked.storable.lengths in
      let rises = asked.storable.rising_inside in
      let all = tree_items which page_size (omega arith) (omega arith) tree lengths rises in
      let neat = tree_neat which page_size (omega arith) (omega arith) tree lengths rises in
      let (height, low, over) = root_stands which page_size items (omega arith) all in
      let (even, each) = over_even (node_at file meta) page_size height (root_over which page_size items) items over neat 3 (omega arith) (omega arith) nodes in
      (height, low (omega arith), even, each)

  neat_spot : (way : List ℕ) (t : Spot) → reached (node_at file meta) meta.root way ≡ Some t → IsNeatSpot file meta t
  neat_spot way t e = record {
    good = λ s is. (sound.trees.good way s (e ∙ ap Some is)).1;
    neat = λ s view is at leaf.
        let (height, low, even, each) = pages_even in
        let (p, neat, same) = placed_of (IsNeat (node_at file meta)) file meta pages sound.shown each s.number view (placed way s (e ∙ ap Some is)) at in
        subst (λ (v : PageView). AllByRecursion (IsNeatElement (node_at file meta)) v.leaves) same (neat (ap (λ (v : PageView). v.kind) same ∙ leaf));
  }

  pub even_spot : (way : List ℕ) (t : Spot) → reached (node_at file meta) meta.root way ≡ Some t
      → IsEvenSpot (node_at file meta) (leaves_at (node_at file meta) meta.root way (Some t)) t
  even_spot = let (height, low, even, each) = pages_even in even_by file meta height low even neat_spot

  of_tree : IsTreeOf (IsEntry file meta) (Root_page meta.root) tree
  of_tree = layout_tree which page_size tree sequence asked.size asked.storable sound

  -- branches of one child alone are found
  pub tree_lone : HasShortKeys tree → HoldsBuckets tree → (findings : List Finding) → AreBboltFindings (node_at file meta) meta.root findings
      → AllByRecursion IsOneChild findings
  tree_lone short holds findings are =
      subst (AllByRecursion IsOneChild) (sym (only_found file meta sound.trees tree of_tree short holds even_spot findings are))
      (all_lone (node_at file meta) (reached (node_at file meta) meta.root) are.tour)

  -- each of these holds of what is found
  tree_brought : (P : Finding → Type 0) → ((page : ℕ) → P (finding ROOT_VALUE page)) → ((page : ℕ) → P (finding LARGE_KEY page))
      → ((way : List ℕ) (s : PageSpot) (view : PageView) → reached (node_at file meta) meta.root way ≡ Some (At_page s)
      → page_at file meta s.number ≡ Some view → view.kind ≡ kind.Branch
      → has_one_child (branch_node view) ≡ true → P (finding ONE_CHILD s.number))
      → (findings : List Finding) → AreBboltFindings (node_at file meta) meta.root findings → AllByRecursion P findings
  tree_brought = what_is_brought file meta sound.trees even_spot

-- branches have two children in a balanced layout
module _ (passing : PassingIsSound) (page_size : ℕ) (tree : Tree) (sequence : ℕ) (asked : IsAsked page_size tree sequence)
    (small : length (layout_of Balanced page_size tree sequence) < 2 ^ 63) where
  two_on_branches : (way : List ℕ) (s : PageSpot) (view : PageView)
      → reached (node_at (layout_of Balanced page_size tree sequence) (layout_meta Balanced page_size tree sequence 1))
      (layout_root Balanced page_size tree) way ≡ Some (At_page s)
      → page_at (layout_of Balanced page_size tree sequence) (layout_meta Balanced page_size tree sequence 1) s.number ≡ Some view → view.kind ≡ kind.Branch
      → 2 ≤ length view.branches
  two_on_branches way s view e at branch =
      let file = layout_of Balanced page_size tree sequence in
      let meta = layout_meta Balanced page_size tree sequence 1 in
      let sound : IsSoundLayout Balanced page_size tree sequence = sound passing Balanced page_size tree sequence asked small in
      let (p, two, same) = placed_of HasTwoIfBranch file meta (layout_pages Balanced page_size tree) sound.shown (layout_twos page_size tree) s.number view
      (placed passing Balanced page_size tree sequence asked small way s e) at in
      subst (λ (v : PageView). 2 ≤ length v.branches) same (two (ap (λ (v : PageView). v.kind) same ∙ branch))

-- what is found in a layout, its listing brings; or it is a branch of one child of a plain one
pub layout_brought : (passing : PassingIsSound) (which : Layout) (page_size : ℕ) (tree : Tree) (sequence : ℕ) (asked : IsAsked page_size tree sequence)
    (small : length (layout_of which page_size tree sequence) < 2 ^ 63) → (findings : List Finding)
    → AreBboltFindings (node_at (layout_of which page_size tree sequence) (layout_meta which page_size tree sequence 1))
    (layout_root which page_size tree) findings
    → AllByRecursion (IsOfLayout which) findings
layout_brought passing Plain page_size tree sequence asked small =
    tree_brought passing Plain page_size tree sequence asked small (IsOfLayout Plain) (λ page. inr (inl refl)) (λ page. inr (inr refl))
    (λ way s view e at branch one. inl refl)
layout_brought passing Balanced page_size tree sequence asked small =
    tree_brought passing Balanced page_size tree sequence asked small (IsOfLayout Balanced) (λ page. inl refl) (λ page. inr refl) (λ way s view e at branch one.
    let two = not_lone view (two_on_branches passing page_size tree sequence asked small way s view e at branch) in absurd (cc))

-- and none in a balanced layout
tree_for_bbolt : (passing : PassingIsSound) (page_size : ℕ) (tree : Tree) (sequence : ℕ) (asked : IsAsked page_size tree sequence)
    (small : length (layout_of Balanced page_size tree sequence) < 2 ^ 63) → HasShortKeys tree → HoldsBuckets tree → (findings : List Finding)
    → AreBboltFindings (node_at (layout_of Balanced page_size tree sequence) (layout_meta Balanced page_size tree sequence 1))
    (layout_root Balanced page_size tree) findings → findings ≡ []
tree_for_bbolt passing page_size tree sequence asked small short holds findings are =
    let file = layout_of Balanced page_size tree sequence in
    let meta = layout_meta Balanced page_size tree sequence 1 in
    let sound : IsSoundLayout Balanced page_size tree sequence = sound passing Balanced page_size tree sequence asked small in
    none_found file meta sound.trees tree (of_tree passing Balanced page_size tree sequence asked small) short holds
    (even_spot passing Balanced page_size tree sequence asked small)
    (two_on_branches passing page_size tree sequence asked small) findings are

pub balanced_for_bbolt : (passing : PassingIsSound) (which : Layout) → which ≡ Balanced
    → (page_size : ℕ) (tree : Tree) (sequence : ℕ) (asked : IsAsked page_size tree sequence)
    (small : length (layout_of which page_size tree sequence) < 2 ^ 63) → HasShortKeys tree → HoldsBuckets tree → (findings : List Finding)
    → AreBboltFindings (node_at (layout_of which page_size tree sequence) (layout_meta which page_size tree sequence 1)) (layout_root which page_size tree)
    findings → findings ≡ []
balanced_for_bbolt passing Balanced is page_size tree sequence asked small = tree_for_bbolt passing page_size tree sequence asked small
balanced_for_bbolt passing Plain is page_size tree sequence asked small = absurd (cc)

-- ---- what holds of a listing holds of its tree

keys_of_tree : (path : Path) (tree : Tree)
    → ((p : Path) (key : Key) (value : List ℕ) → Contains (listing_below path tree) (p ++ key ∷ [], Value value) → is_too_large key ≡ false)
    → HasShortKeys tree
keys_of_tree path end short = tt
keys_of_tree path (with_value key value after) short = (
  short path key value (contains_head _ _),
  keys_of_tree path after (λ p k v has. short p k v (contains_tail _ _ _ has)),
)
keys_of_tree path (with_bucket key sequence inside after) short =
    let below = listing_below (path ++ key ∷ []) inside in
    let rest = listing_below path after in (
      keys_of_tree (path ++ key ∷ []) inside (λ p k v has. short p k v (contains_tail _ _ _ (Contains-append_left below rest (p ++ k ∷ [], Value v) has))),
      keys_of_tree path after (λ p k v has. short p k v (contains_tail _ _ _ (Contains-append_right below rest (p ++ k ∷ [], Value v) has))),
    )

buckets_of_tree : (tree : Tree) → ((key value : List ℕ) → Contains (listing_below [] tree) (key ∷ [], Value value) → ⊥) → HoldsBuckets tree
buckets_of_tree end none = tt
buckets_of_tree (with_value key value after) none = none key value (contains_head _ _)
buckets_of_tree (with_bucket key sequence inside after) none =
    buckets_of_tree after
    (λ k v has. none k v (contains_tail _ _ _ (Contains-append_right (listing_below (key ∷ []) inside) (listing_below [] after) (k ∷ [], Value v) has)))

module _ (listing : List Member) (one : IsOfOneTree listing) (for_bbolt : IsForBbolt listing) where
  there : (m : Member) → Contains (listing_below [] (tree_of listing)) m → Contains listing m
  there m has = subst (λ (l : List Member). Contains l m) one.lists has

  pub listing_short : HasShortKeys (tree_of listing)
  listing_short = keys_of_tree [] (tree_of listing) (λ p key value has. for_bbolt.short p key value (there (p ++ key ∷ [], Value value) has))

  pub listing_holds : HoldsBuckets (tree_of listing)
  listing_holds = buckets_of_tree (tree_of listing) (λ key value has. for_bbolt.inner key value (there (key ∷ [], Value value) has))
