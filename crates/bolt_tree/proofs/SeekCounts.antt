-- A number of pages that a seek opens: no more than the way down and the gap before the entry that it comes to. For every entry on a page after
-- the nearest leaf is not below the key, so the page of the entry before is not after that leaf.
use Rattle.std.proofs.Common.{◌≡◌, ℕ, zero, suc, ◌+◌, ◌-◌, ◌≤◌, ◌<◌, inl, inr, true, false, not, List, [], ◌∷◌, Some, None, Option, slice_get, length}
use Rattle.std.proofs.Common.{refl, sym, ap, ◌∙◌, subst, arith}
use Rattle.bolt_lemmas.proofs.Exports.{at_has, contains_from_has, get_exists, has_cut, has_from_contains, map_has}
use Rattle.bolt_lemmas.specs.Lists.{Has}
use Rattle.bolt_tree.proofs.Words.{AreEntriesOf, Before, BranchElement, BucketView, HasCount, HasSoundTrees, Inline_page, IsEntry, IsGap, IsHome}
use Rattle.bolt_tree.proofs.Words.{IsNear, IsNearFrom, IsNearest, IsOnWay, IsPagesUpTo, IsSeekCount, IsSeekPage, IsSoundBucket, IsStart, Key}
use Rattle.bolt_tree.proofs.Words.{LeafElement, Meta, Root_page, Start, TourPage, branch_step, cases_lt, content_at, key_lt, leads, leads_child}
use Rattle.bolt_tree.proofs.Words.{leaf_ends, least_from, node_at, node_is, on_address, on_child, tour_pages_in, prefix_len-le-length}
use Rattle.bolt_format.specs.declared.header.Kind.TheVariants as kind
use Rattle.bolt_tree.proofs.{SeekLemmas.not_below, TourLemmas.IsUnder, TourLemmas.entries_shown, TourLemmas.under_child, WayPages.content_is}
use Rattle.bolt_tree.proofs.CountLemmas.{Cut, IsAt, address_of, address_visited, after_exact, all_exact, apart, cut_size, entry_at, exact_count}
use Rattle.bolt_tree.proofs.CountLemmas.{exact_is, its_home, seek_exact, upto_is}
use Rattle.bolt_tree.proofs.{GapLemmas.at_place, NearestLeaf.near_exists, NearestLeaf.one_near, EntryOrder.before_least}

module _ (file : List ℕ) (meta : Meta) (trees : HasSoundTrees file meta) where
  -- the elements of a branch behind the nearest one are above the key
  above_nearest : (elements : List BranchElement) (key : Key) (i j : ℕ) (d : BranchElement) → IsNearest elements key i → i < j
      → slice_get elements j ≡ Some d → key_lt key d.key ≡ true
  above_nearest elements key i j d h l g = grind arith

  -- an entry at an address after the nearest one is not below the key
  after_near_from : (near a : List ℕ) (number depth page : ℕ) (key : Key) (x : LeafElement) → IsOnWay file meta number depth
      → IsNearFrom file meta number key near
      → leads (node_at file meta) (Some number) a ≡ Some page → Has (entries_shown (content_at file meta page)) x → Before near a → key_lt x.key key ≡ false
  after_near_from near [] number depth page key x on down led has after = absurd after
  after_near_from [] (j ∷ rest) number depth page key x on (view, at, leaf) led has after =
      absurd (leaf_ends (node_at file meta) number j page view rest (node_is file meta number view kind.Leaf at leaf) led)
  after_near_from (i ∷ near) (j ∷ rest) number depth page key x on (view, e, at, branch, nearest, g, down) led has (inl lt) =
      let node = node_is file meta number view kind.Branch at branch in
      let d = branch_step (node_at file meta) number j page view rest node led in
      let below : leads (node_at file meta) (Some d.0.child) rest ≡ Some page = sym (leads_child file meta number j view d.0 rest node d.1) ∙ led in
      let there = on_address file meta trees d.0.child (suc depth) page rest (on_child file meta number depth j view d.0 on node d.1) below in
      let v : TourPage = record { address = rest; entries = entries_shown (content_at file meta page) } in
      let under : IsUnder file meta d.0.child [] v =
      record { rest = rest; page = page; depth = there.0; from = refl; led = below; shown = refl; on = there.1 } in
      not_below x.key d.0.key key (under_child file meta trees number depth j [] view d.0 v x on node d.1 under has).0
      (above_nearest view.branches key i j d.0 nearest lt d.1)
  after_near_from (i ∷ near) (j ∷ rest) number depth page key x on (view, e, at, branch, nearest, g, down) led has (inr (same, after)) =
      let node = node_is file meta number view kind.Branch at branch in
      let here : slice_get view.branches j ≡ Some e = ap (slice_get view.branches) (sym same) ∙ g in
      after_near_from near rest e.child (suc depth) page key x (on_child file meta number depth j view e on node here) down
      (sym (leads_child file meta number j view e rest node here) ∙ led) has after

  after_near : (start : Start) (key : Key) (near a : List ℕ) (x : LeafElement) → IsStart file meta start → IsNear file meta start key near
      → IsHome file meta start x a → Before near a → key_lt x.key key ≡ false
  after_near (Root_page root) key near a x is down (n, led, (view, at, leaf, has)) after =
      after_near_from near a root 1 n key x is down led
      (subst (λ (es : List LeafElement). Has es x) (sym (ap entries_shown (content_is file meta n view kind.Leaf at leaf)))
      (has_from_contains view.leaves x has)) after
  after_near (Inline_page elements) key near a x is down (empty, has) after = absurd (subst (Before near) empty after)

module _ (b : BucketView) (s : IsSoundBucket b) (key : Key) where
  -- the page of the nearest leaf
  near_cut : (c : Cut (tour_pages_in b)) × IsNear b.file b.meta b.start key c.page.address × (1 + length c.page.address ≤ 64)
  near_cut =
      let near = near_exists b.file b.meta s.trees b.start key s.start in
      let r = map_has address_of (tour_pages_in b) near.0 (address_visited b.file b.meta s.trees b.start near.0 s.start near.2) in
      let c = has_cut (tour_pages_in b) r.0 r.1 in (
        record { left = c.0; page = r.0; right = c.1; whole = c.2 },
        subst (IsNear b.file b.meta b.start key) (sym r.2) near.1,
        subst (λ (a : List ℕ). 1 + length a ≤ 64) (sym r.2) near.3,
      )

  -- how many pages lie after it, up to that of an entry
  seek_pages : (c : Cut (tour_pages_in b)) (o : Option LeafElement) → ((x : LeafElement) → o ≡ Some x → IsEntry b.file b.meta b.start x)
      → (m : ℕ) × HasCount (IsSeekPage b.file b.meta b.start c.page.address o) m
  seek_pages c None entry = (length c.right, exact_count (after_exact b s c))
  seek_pages c (Some x) entry = let at = entry_at b s x (entry x refl) in (length c.right - length at.cut.right, exact_count (seek_exact b s c x at))

  module _ (entries : List LeafElement) (sorted : AreEntriesOf b entries) where
    pub seek_counted : (n : ℕ) × IsSeekCount b.file b.meta b.start entries key n
    seek_counted =
        let near = near_cut in
        let m =
        seek_pages near.0 (slice_get entries (least_from key entries))
        (λ x g. (sorted.exact x).0 (contains_from_has entries x (at_has entries (least_from key entries) x g))) in (
          1 + length near.0.page.address + m.0,
          record { near = near.0.page.address; down = near.1; further = m.0; counted = m.1; sum = refl {a = 1 + length near.0.page.address + m.0} },
        )

    module _ (c : Cut (tour_pages_in b)) (near : IsNear b.file b.meta b.start key c.page.address) where
      -- the page of an entry below the key is not after the nearest leaf
      not_after : (e : LeafElement) (at : IsAt b e) → key_lt e.key key ≡ true → length at.cut.left ≤ length c.left
      not_after e at less = elim (cases_lt (length c.left) (length at.cut.left)) [
        | inr le ↦ le
        | inl lt ↦ (
            let more =
            after_near b.file b.meta s.trees b.start key c.page.address at.cut.page.address e s.start near (its_home b s at.cut e at.has)
            (apart b s c at.cut lt).addresses in
            absurd (cc))
      ]

      -- the further pages end before, or with, the page that the seek comes to
      further_within : (o : Option LeafElement) (m up : ℕ) (i : ℕ) → slice_get entries i ≡ o
          → HasCount (IsSeekPage b.file b.meta b.start c.page.address o) m → IsPagesUpTo b.file b.meta b.start o up → m ≤ up - suc (length c.left)
      further_within None m up i g count upto = omega (arith, exact_is (after_exact b s c) count, exact_is (all_exact b s) upto, cut_size c)
      further_within (Some e) m up i g count upto =
          let at = at_place b s entries sorted i e g in
          omega (arith, exact_is (seek_exact b s c e at) count, upto_is b s at.cut e up at.has upto, sym (cut_size c) ∙ cut_size at.cut)

      further_at : (i m g : ℕ) → i ≡ least_from key entries → HasCount (IsSeekPage b.file b.meta b.start c.page.address (slice_get entries i)) m
          → IsGap b.file b.meta b.start entries i g → m ≤ g
      further_at zero m g same count gap = let h = further_within (slice_get entries 0) m g 0 refl count gap in omega (arith, h)
      further_at (suc i) m g same count (here, before, up, down, is_gap) =
          let within = prefix_len-le-length (λ (e : LeafElement). not (not (key_lt e.key key))) entries in
          let e = get_exists entries i (omega (arith, same, within)) in
          let at = at_place b s entries sorted i e.0 e.1 in
          let one = upto_is b s at.cut e.0 before at.has (subst (λ (o : Option LeafElement). IsPagesUpTo b.file b.meta b.start o before) e.1 down) in
          let less = not_after e.0 at (before_least key entries i e.0 (omega (arith, same)) e.1) in
          omega (arith, further_within (slice_get entries (suc i)) m here (suc i) refl count up, one, less, is_gap)

    pub seek_bounded : (n gap : ℕ) → IsSeekCount b.file b.meta b.start entries key n
        → IsGap b.file b.meta b.start entries (least_from key entries) gap → n ≤ 64 + gap
    seek_bounded n gap count is_gap =
        let near = near_cut in
        let same : count.near ≡ near.0.page.address = one_near b.file b.meta b.start key count.near near.0.page.address count.down near.1 in
        let further = further_at near.0 near.1 (least_from key entries) count.further gap refl
        (subst (λ (a : List ℕ). HasCount (IsSeekPage b.file b.meta b.start a (slice_get entries (least_from key entries))) count.further) same
        count.counted) is_gap in
        omega (arith, further, near.2, ap length same, count.sum)
