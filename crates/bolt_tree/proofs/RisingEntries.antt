-- The entries of a bucket in order are the elements along its tour, and there is one such list.
use Rattle.std.proofs.Common.{rules, ◌≡◌, ℕ, List, [], ◌∷◌, ◌++◌, Some, slice_get, map, refl, sym, ap, ◌∙◌, subst, arith, inl, inr, eq-eqb, eqb}
use Rattle.bolt_lemmas.proofs.Exports.{contains_from_has, flat_has, has_at, has_flat, has_from_contains, one_list, rises_flat, rises_from_gets, rises_weaker}
use Rattle.bolt_lemmas.specs.Lists.{Has, RisesBy}
use Rattle.bolt_lemmas.specs.Order as order
use Rattle.bolt_tree.proofs.Words.{AreEntries, Contains, HasSoundTrees, Inline_page, IsEntry, IsHome, IsStart, KeysRise, LeafElement, Meta, Root_page}
use Rattle.bolt_tree.proofs.Words.{Start, TourPage, content_at, tour_elements, entry_cmp, head_root, inline_elements, inline_page, inline_reached}
use Rattle.bolt_tree.proofs.Words.{leads, less_of, lt_strict, node_at, node_is, option_map, pages_at, slice_get-map}
use Rattle.bolt_format.specs.declared.header.Kind.TheVariants as kind
use Rattle.bolt_tree.proofs.TourLemmas.{IsApart, IsBelowElement, entries_shown, leaf_of, led_tour, page_rises, tour_led, tour_rises}
use Rattle.bolt_tree.proofs.{WayPages.content_is, BucketWays.none_inside}

-- a page of a bucket: its elements rise, and it is their home
pub record IsVisit (file : List ℕ) (meta : Meta) (start : Start) (v : TourPage) : Type 0 where
  pub rises : RisesBy IsBelowElement v.entries
  pub home : (x : LeafElement) → Has v.entries x → IsHome file meta start x v.address

-- an entry is one of the page at its home
entry_from : (file : List ℕ) (meta : Meta) (start : Start) (x : LeafElement) (address : List ℕ) → IsHome file meta start x address
    → IsEntry file meta start x
entry_from file meta start x address h = grind arith

pub entry_home : (file : List ℕ) (meta : Meta) (start : Start) (x : LeafElement) → IsEntry file meta start x
    → (address : List ℕ) × IsHome file meta start x address
entry_home file meta start x has = grind arith

-- rising entries, by their keys
rises_order : (xs : List LeafElement) → RisesBy IsBelowElement xs → order.Rises entry_cmp xs
rises_order [] a = tt
rises_order (x ∷ xs) a = (λ y c. less_of (entry_cmp x y) (a.0 y (has_from_contains xs y c)), rises_order xs a.1)

pub rises_back : (xs : List LeafElement) → order.Rises entry_cmp xs → RisesBy IsBelowElement xs
rises_back [] a = tt
rises_back (x ∷ xs) a = (λ y h. rw (a.0 y (contains_from_has xs y h)) refl, rises_back xs a.1)

module _ (file : List ℕ) (meta : Meta) (trees : HasSoundTrees file meta) where
  -- the keys of an inline bucket rise
  inline_keys : (elements : List LeafElement) → IsStart file meta (Inline_page elements) → KeysRise (map (λ (x : LeafElement). x.key) elements)
  inline_keys elements (n, depth, e, on, (view, at, leaf, has), bucket, start) =
      let i = has_at view.leaves e (has_from_contains view.leaves e has) in
      let inline = none_inside file meta e.value elements (eqb (head_root e.value) 0) refl start in
      let led =
      inline_reached file meta n depth i.0 view e on (node_is file meta n view kind.Leaf at leaf) i.1 bucket (eq-eqb (head_root e.value) 0 inline.0) in
      let rises : KeysRise (map (λ (x : LeafElement). x.key) (inline_elements e.value)) =
      trees.rising_inline (on.way ++ i.0 ∷ []) on.spot.number (inline_page e.value) led in
      subst (λ (es : List LeafElement). KeysRise (map (λ (x : LeafElement). x.key) es)) inline.1 rises

  inline_rises : (elements : List LeafElement) → IsStart file meta (Inline_page elements) → RisesBy IsBelowElement elements
  inline_rises elements is =
      let key : (k : ℕ) (x : LeafElement) → slice_get elements k ≡ Some x → slice_get (map (λ (y : LeafElement). y.key) elements) k ≡ Some x.key =
      λ k x s. slice_get-map (λ (y : LeafElement). y.key) elements k ∙ ap (option_map (λ (y : LeafElement). y.key)) s in
      rises_from_gets IsBelowElement elements (λ i j a b lt g h. inline_keys elements is i j a.key b.key lt (key i a g) (key j b h))

  pub visit_is : (start : Start) (v : TourPage) → IsStart file meta start → Has (pages_at file meta start) v → IsVisit file meta start v
  visit_is (Root_page number) v is h =
      let r = tour_led file meta trees 63 number 1 [] v is (omega arith) h in record {
        rises = page_rises file meta trees r.page r.depth v.entries r.on r.shown;
        home = λ x k.
            let leaf = leaf_of file meta trees r.page r.depth v.entries x r.on r.shown k in (
              r.page,
              ap (λ (a : List ℕ). leads (node_at file meta) (Some number) a) r.from ∙ r.led,
              (leaf.view, leaf.at, leaf.is, subst (λ (es : List LeafElement). Contains es x) (sym leaf.leaves) (contains_from_has v.entries x k)),
            );
      }
  visit_is (Inline_page elements) v is (inl e) = grind (arith, inline_rises, contains_from_has)
  visit_is (Inline_page elements) v is (inr x) = absurd x

  pub start_rises : (start : Start) → IsStart file meta start → RisesBy IsApart (pages_at file meta start)
  start_rises (Root_page number) is = tour_rises file meta trees 63 number 1 [] is (omega arith)
  start_rises (Inline_page elements) is = (λ y h. absurd h, tt)

  pub elements_rise : (start : Start) → IsStart file meta start → RisesBy IsBelowElement (tour_elements (pages_at file meta start))
  elements_rise start is = rises_flat IsBelowElement (λ (v : TourPage). v.entries) (pages_at file meta start) (λ v h. (visit_is start v is h).rises)
      (rises_weaker IsApart (λ v w. (a b : LeafElement) → Has v.entries a → Has w.entries b → IsBelowElement a b) (pages_at file meta start)
      (λ v w a. a.keys) (start_rises start is))

  -- what is on the tour is an entry of the bucket
  pub is_entry : (start : Start) (x : LeafElement) → IsStart file meta start → Has (tour_elements (pages_at file meta start)) x
      → IsEntry file meta start x
  is_entry start x is h =
      let r = flat_has (λ (v : TourPage). v.entries) (pages_at file meta start) x h in
      entry_from file meta start x r.0.address ((visit_is start r.0 is r.1).home x r.2)

  -- the page at the home of an entry is on the tour
  pub home_visited : (start : Start) (address : List ℕ) (x : LeafElement) → IsStart file meta start → IsHome file meta start x address
      → (entries : List LeafElement) × Has (pages_at file meta start) (record { address = address; entries = entries }) × Has entries x
  home_visited (Root_page number) address x is (n, led, (view, at, leaf, has)) =
      let r = led_tour file meta trees 63 number 1 [] address n is (omega arith) led in
      let same : entries_shown (content_at file meta n) ≡ view.leaves = ap entries_shown (content_is file meta n view kind.Leaf at leaf) in (
        view.leaves,
        subst (λ (es : List LeafElement). Has (pages_at file meta (Root_page number)) (record { address = address; entries = es })) same r,
        has_from_contains view.leaves x has,
      )
  home_visited (Inline_page elements) address x is (empty, has) = (elements, inl (rw empty refl), has_from_contains elements x has)

  pub entry_visited : (start : Start) (x : LeafElement) → IsStart file meta start → IsEntry file meta start x
      → Has (tour_elements (pages_at file meta start)) x
  entry_visited start x is e = grind (arith, entry_home, home_visited, has_flat)

  -- the entries in order
  pub tour_entries : (start : Start) → IsStart file meta start → AreEntries (IsEntry file meta) start (tour_elements (pages_at file meta start))
  tour_entries start is = search (rules, rises_order, elements_rise, is_entry, has_from_contains, contains_from_has, entry_visited)

  pub entries_exist : (start : Start) → IsStart file meta start → (entries : List LeafElement) × AreEntries (IsEntry file meta) start entries
  entries_exist start is = (tour_elements (pages_at file meta start), tour_entries start is)

below_strict : (a b : LeafElement) → IsBelowElement a b → IsBelowElement b a → ⊥
below_strict a b h k = lt_strict a.key b.key h k

pub entries_once : (file : List ℕ) (meta : Meta) (start : Start) (a b : List LeafElement) → AreEntries (IsEntry file meta) start a
    → AreEntries (IsEntry file meta) start b → a ≡ b
entries_once file meta start a b s t = one_list IsBelowElement below_strict a b (rises_back a s.rises) (rises_back b t.rises)
    (λ x h. has_from_contains b x ((t.exact x).1 ((s.exact x).0 (contains_from_has a x h))))
    (λ x h. has_from_contains a x ((s.exact x).1 ((t.exact x).0 (contains_from_has b x h))))
