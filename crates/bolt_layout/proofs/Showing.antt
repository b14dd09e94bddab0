-- The pages of a tree show it: the entries of each bucket are its items' elements.
use Rattle.std.proofs.Common.{◌≡◌, ◌∙◌, ℕ, ◌+◌, ◌^◌, ◌<◌, ◌≤◌, ◌==◌, Bool, true, false, List, [], ◌∷◌, refl, sym, ap, subst, inl, inr, arith}
use Rattle.bolt_lemmas.proofs.Exports.{all_weaker, less_of}
use Rattle.bolt_layout.proofs.Words.{AllByRecursion, append-nil, bucket_item, contains_cases, contains_none, elements_of, eq-eqb, HasLengths}
use Rattle.bolt_layout.proofs.Words.{head_bytes, head_root, head_sequence, head_written, holds_bucket, inline_elements, Inline_page, inline_value}
use Rattle.bolt_layout.proofs.Words.{is_inline, IsBelow, IsEntry, IsTreeOf, items_of, Key, key_cmp, keys_in, Laid, largest_page, Layout, LeafElement}
use Rattle.bolt_layout.proofs.Words.{Less, Meta, ne_eqb, Rises, RisesInside, root_over, Root_page, Start, start_of, stored_bucket, Tree, with_bucket}
use Rattle.bolt_layout.proofs.Words.{with_value}
use Rattle.bolt_layout.proofs.{Holding.AreOf, Holding.ArePages, Holding.Holds, Holding.over_holds, KeyLaws.IsBelowItem, KeyLaws.ItemsRise}
use Rattle.bolt_layout.proofs.{LaidItems.IsItem, LaidPages.limit}
use Rattle.bolt_layout.proofs.{OverRows.HasShortKey, OverRows.IsAtMost, OverRows.root_is_over, TreeItems.inline_read, TreeItems.root_page}
use Rattle.bolt_layout.proofs.{TreeItems.tree_items, TreeItems.tree_rise}
use Rattle.bolt_tree.specs.{Entries.AreEntries, Entries.entry_cmp, Tree.Shows}

module _ (file : List ℕ) (meta : Meta) where
  -- Elements of items whose keys rise, rise.
  below_of : (page_size : ℕ) (x : Laid LeafElement) (e : LeafElement) → e.key ≡ x.key → (es : List LeafElement) (items : List (Laid LeafElement))
      → AreOf file meta es items
      → AllByRecursion (IsItem page_size) items → AllByRecursion (IsBelowItem x) items → IsBelow entry_cmp e es
  below_of page_size x e same (g ∷ es) (item ∷ items) are all below f has =
      elim (contains_cases g f es has) [
        | inl here ↦
            let (n, some, room, is, shown) = are.0 in
            let first : IsItem page_size item = all.0 in
            let key : g.key ≡ item.key = ap (λ (y : LeafElement). y.key) is ∙ first.key n in
            let less : key_cmp x.key item.key ≡ Less = less_of (key_cmp x.key item.key) below.0 in
            ap (λ (y : LeafElement). key_cmp e.key y.key) (sym here) ∙ (ap (λ (k : Key). key_cmp k g.key) same ∙ (ap (λ (k : Key). key_cmp x.key k) key ∙ less))
        | inr later ↦ below_of page_size x e same es items are.1 all.1 below.1 f later
      ]
  below_of page_size x e same es items are all below f has = grind (arith, contains_none)

  rises_of : (page_size : ℕ) (es : List LeafElement) (items : List (Laid LeafElement)) → AreOf file meta es items
      → AllByRecursion (IsItem page_size) items → ItemsRise items
      → Rises entry_cmp es
  rises_of page_size (e ∷ es) (item ∷ items) are all rise = grind (arith, below_of, rises_of page_size es items are.1 all.1 rise.1)
  rises_of page_size es items are all rise = grind arith

  -- so they are the entries of a bucket whose root page stands over the items
  held_entries : (page_size here : ℕ) (items : List (Laid LeafElement)) (held : Holds file meta here items) → AllByRecursion (IsItem page_size) items
      → ItemsRise items
      → AreEntries (IsEntry file meta) (Root_page here) held.es
  held_entries page_size here items held all rise = grind (arith, rises_of)

  -- What an element of a bucket shows.
  abbrev pub ShowsBucket : Key → ℕ → Tree → LeafElement → Type 0
  ShowsBucket key sequence inside e =
      (e.is_bucket ≡ true) × (e.key ≡ key) × (head_sequence e.value ≡ sequence)
      × ((own : List LeafElement) × AreEntries (IsEntry file meta) (start_of e.value) own × Shows (IsEntry file meta) inside own)

  -- An inline bucket.
  flat_shows : (which : Layout) (page_size : ℕ) (tree : Tree) → holds_bucket tree ≡ false → (n : ℕ)
      → Shows (IsEntry file meta) tree (elements_of (items_of which page_size tree) n)
  flat_shows which page_size (with_value key value after) none n = (refl, refl, refl, flat_shows which page_size after none (n + 0))
  flat_shows which page_size tree none n = grind arith

  inline_start : (value : List ℕ) (es : List LeafElement) → head_root value ≡ 0 → inline_elements value ≡ es → start_of value ≡ Inline_page es
  inline_start value es h same = let z : (head_root value == 0) ≡ true = eq-eqb (head_root value) 0 h in rw z (ap Inline_page same)

  flat_below : (page_size : ℕ) (x : Laid LeafElement) (e : LeafElement) → e.key ≡ x.key → (items : List (Laid LeafElement))
      → AllByRecursion (IsItem page_size) items
      → AllByRecursion (IsBelowItem x) items → (n : ℕ) → IsBelow entry_cmp e (elements_of items n)
  flat_below page_size x e same [] all below n f has = absurd (contains_none f has)
  flat_below page_size x e same (item ∷ items) all below n f has =
      elim (contains_cases (item.element n) f (elements_of items (n + item.numbers)) has) [
        | inl here ↦
            let first : IsItem page_size item = all.0 in
            let less : key_cmp x.key item.key ≡ Less = less_of (key_cmp x.key item.key) below.0 in
            ap (λ (y : LeafElement). key_cmp e.key y.key) (sym here)
            ∙ (ap (λ (k : Key). key_cmp k (item.element n).key) same ∙ (ap (λ (k : Key). key_cmp x.key k) (first.key n) ∙ less))
        | inr later ↦ flat_below page_size x e same items all.1 below.1 (n + item.numbers) f later
      ]

  flat_rises : (page_size : ℕ) (items : List (Laid LeafElement)) → AllByRecursion (IsItem page_size) items → ItemsRise items → (n : ℕ)
      → Rises entry_cmp (elements_of items n)
  flat_rises page_size [] all rise n = tt
  flat_rises page_size (item ∷ items) all rise n =
      let first : IsItem page_size item = all.0 in (
        flat_below page_size item (item.element n) (first.key n) items all.1 rise.0 (n + item.numbers),
        flat_rises page_size items all.1 rise.1 (n + item.numbers),
      )

  inline_shows : (which : Layout) (page_size sequence : ℕ) (key : Key) (inside : Tree) (e : LeafElement) → page_size ≤ largest_page
      → sequence < 256 ^ 8 → HasLengths inside
      → AllByRecursion (IsItem page_size) (items_of which page_size inside) → ItemsRise (items_of which page_size inside)
      → is_inline page_size inside (items_of which page_size inside) ≡ true
      → e ≡ record { key = key; value = inline_value sequence (elements_of (items_of which page_size inside) 0); is_bucket = true }
      → ShowsBucket key sequence inside e
  inline_shows which page_size sequence key inside e small sized lengths all rise inline same =
      let es : List LeafElement = elements_of (items_of which page_size inside) 0 in
      let value : List ℕ = inline_value sequence es in
      let read = inline_read which page_size sequence inside small sized lengths all inline in
      grind (arith, flat_rises, inline_start, flat_shows)

  -- A bucket with a root page.
  root_start : (value : List ℕ) (root : ℕ) → head_root value ≡ root → 1 ≤ root → start_of value ≡ Root_page root
  root_start value root h some = let z : (head_root value == 0) ≡ false = ne_eqb (head_root value) 0 (λ e. omega arith) in rw z (ap Root_page h)

  -- the entries under the root page over a row of items
  pub root_holds : (which : Layout) (page_size n : ℕ) (items : List (Laid LeafElement)) → page_size ≤ largest_page
      → AllByRecursion (IsItem page_size) items
      → 1 ≤ n → n + (root_over which page_size items).numbers ≤ limit → ArePages file meta ((root_over which page_size items).pages n)
      → Holds file meta ((root_over which page_size items).element n).child items
  root_holds which page_size n items small all some room shown =
      let keys = all_weaker (IsItem page_size) HasShortKey (λ item i. i.short) items all in
      let sizes = all_weaker (IsItem page_size) (IsAtMost 0xFFFFFFEF) (λ item i. i.most) items all in
      let (height, low, over) = root_is_over which page_size items (omega arith) keys sizes in
      over_holds file meta page_size height (root_over which page_size items) items over n some room shown

  root_shows : (which : Layout) (page_size sequence n : ℕ) (key : Key) (inside : Tree) (items : List (Laid LeafElement)) (e : LeafElement)
      → 0 < page_size → page_size ≤ largest_page → sequence < 256 ^ 8
      → AllByRecursion (IsItem page_size) items → ItemsRise items
      → ((es : List LeafElement) → AreOf file meta es items → Shows (IsEntry file meta) inside es)
      → 1 ≤ n → n + (root_over which page_size items).numbers ≤ limit → ArePages file meta ((root_over which page_size items).pages n)
      → e ≡ (bucket_item key sequence (root_over which page_size items)).element n → ShowsBucket key sequence inside e
  root_shows which page_size sequence n key inside items e sized small narrow all rise ih some room shown same =
      let root = root_over which page_size items in
      let (height, low, page) = root_page which page_size items sized small all rise in
      let child : ℕ = (root.element n).child in
      let value : List ℕ = head_bytes child sequence in
      let head = head_written value [] child sequence (sym (append-nil value)) (omega arith) narrow in
      let held = root_holds which page_size n items small all some room shown in
      let there = subst (λ (s : Start). AreEntries (IsEntry file meta) s held.es) (sym (root_start value child head.root (omega arith)))
      (held_entries page_size child items held all rise) in
      subst (ShowsBucket key sequence inside) (sym same) (refl, refl, head.sequence, (held.es, there, ih held.es held.are))

  stored_shows : (which : Layout) (page_size sequence n : ℕ) (key : Key) (inside : Tree) (e : LeafElement) → 0 < page_size → page_size ≤ largest_page
      → sequence < 256 ^ 8 → HasLengths inside
      → AllByRecursion (IsItem page_size) (items_of which page_size inside) → ItemsRise (items_of which page_size inside)
      → ((es : List LeafElement) → AreOf file meta es (items_of which page_size inside) → Shows (IsEntry file meta) inside es)
      → (b : Bool) → is_inline page_size inside (items_of which page_size inside) ≡ b
      → 1 ≤ n → n + (stored_bucket which page_size key sequence inside (items_of which page_size inside)).numbers ≤ limit
      → ArePages file meta ((stored_bucket which page_size key sequence inside (items_of which page_size inside)).pages n)
      → e ≡ (stored_bucket which page_size key sequence inside (items_of which page_size inside)).element n → ShowsBucket key sequence inside e
  stored_shows which page_size sequence n key inside e sized small narrow lengths all rise ih true inline some room shown same =
      inline_shows which page_size sequence key inside e small narrow lengths all rise inline (rw inline at same)
  stored_shows which page_size sequence n key inside e sized small narrow lengths all rise ih false inline some room shown same =
      root_shows which page_size sequence n key inside (items_of which page_size inside) e sized small narrow all rise ih some (rw inline at room)
      (rw inline at shown) (rw inline at same)

  -- the elements of a tree's items show it
  pub tree_shows : (which : Layout) (page_size : ℕ) → 0 < page_size → page_size ≤ largest_page → (tree : Tree) → HasLengths tree → RisesInside tree
      → (es : List LeafElement) → AreOf file meta es (items_of which page_size tree) → Shows (IsEntry file meta) tree es
  tree_shows which page_size sized small (with_value key value after) lengths rises (e ∷ es) h =
      grind (arith, tree_shows which page_size sized small after lengths.2 rises es h.1)
  tree_shows which page_size sized small (with_bucket key sequence inside after) lengths rises (e ∷ es) h =
      let (n, some, room, same, shown) = h.0 in
      let all = tree_items which page_size sized small inside lengths.2 rises.1 in
      let rise = tree_rise which page_size inside rises.0 in
      let (bucket, named, counted, inner) = stored_shows which page_size sequence n key inside e sized small lengths.1 lengths.2 all rise
      (tree_shows which page_size sized small inside lengths.2 rises.1) (is_inline page_size inside (items_of which page_size inside)) refl some room
      shown same in
      (bucket, named, counted, inner, tree_shows which page_size sized small after lengths.3 rises.2 es h.1)
  tree_shows which page_size sized small tree lengths rises es h = grind arith

  -- and so the tree is that of the bucket over its items
  pub root_tree : (which : Layout) (page_size n : ℕ) (tree : Tree) → 0 < page_size → page_size ≤ largest_page → HasLengths tree
      → Rises key_cmp (keys_in tree) → RisesInside tree
      → 1 ≤ n → n + (root_over which page_size (items_of which page_size tree)).numbers ≤ limit
      → ArePages file meta ((root_over which page_size (items_of which page_size tree)).pages n)
      → IsTreeOf (IsEntry file meta) (Root_page ((root_over which page_size (items_of which page_size tree)).element n).child) tree
  root_tree which page_size n tree sized small lengths rising inside some room shown =
      let items = items_of which page_size tree in
      let all = tree_items which page_size sized small tree lengths inside in
      let held = root_holds which page_size n items small all some room shown in (
        held.es,
        held_entries page_size ((root_over which page_size items).element n).child items held all (tree_rise which page_size tree rising),
        tree_shows which page_size sized small tree lengths inside held.es held.are,
      )
