-- Buckets nest only finitely deep: each has a root page of its own, and the pages are so many. So each has the tree that is computed.
-- Rests on the shape of a sound file: two ways to one page are one.
use Rattle.std.proofs.Common.{◌≡◌, ◌∙◌, ◌≤◌, ◌<◌, Bool, true, false, not, ℕ, zero, suc, eqb, eq-eqb, eqb-true, List, [], ◌∷◌, ◌++◌, length, filter}
use Rattle.std.proofs.Common.{Option, Some, refl, sym, ap, subst, arith, length-append}
use Rattle.std.proofs.lemmas.List.FromFn.{get_or-range_with_len, length-range_with_len}
use Rattle.std.proofs.lemmas.Bool.{ne_eqb, not_from_false}
use Rattle.bolt_lemmas.proofs.Exports.{contains_head, contains_tail, filter_less, kept}
use Rattle.bolt_tree.proofs.Words.{At_page, Contains, HasSoundTrees, Inline_page, IsEntry, IsStart, IsTreeOf, LeafElement, Meta, PageSpot, Root_page}
use Rattle.bolt_tree.proofs.Words.{Shows, ShowsEntry, Spot, Start, Tree, file_entries, file_tree, follow, follow_append, head_root, head_sequence}
use Rattle.bolt_tree.proofs.Words.{if◌then◌else◌, inline_elements, node_at, one_way, range_with_len, reached, root_spot, start_of, tree_with}
use Rattle.bolt_tree.proofs.Words.{tree_within, with_bucket, with_value}
use Rattle.bolt_tree.proofs.{BucketWays.at_root, BucketWays.bucket_way, BucketWays.flat, BucketWays.in_itself, BucketWays.root_starts}
use Rattle.bolt_tree.proofs.BucketWays.{starts_named}
use Rattle.bolt_tree.proofs.RisingEntries.{tour_entries}

-- Numbers without one of them.
abbrev without : ℕ → List ℕ → List ℕ
without n ns = filter (λ m. not (eqb m n)) ns

no_longer : (w v : List ℕ) (i : ℕ) (x : List ℕ) → w ≡ (w ++ (v ++ i ∷ [])) ++ x → ⊥
no_longer w v i x e = grind (arith, length-append (w ++ (v ++ i ∷ [])) x, length-append w (v ++ i ∷ []), length-append v (i ∷ []))

module _ (Own : Start → LeafElement → Type 0) (inside : Start → Tree) where
  shows_with : (e : LeafElement) (entries : List LeafElement) (b : Bool) → e.is_bucket ≡ b → Shows Own (tree_with inside entries) entries
      → (e.is_bucket ≡ true → IsTreeOf Own (start_of e.value) (inside (start_of e.value)))
      → Shows Own (if b then with_bucket e.key (head_sequence e.value) (inside (start_of e.value)) (tree_with inside entries)
      else with_value e.key e.value (tree_with inside entries)) (e ∷ entries)
  shows_with e entries b h shows each = grind arith

  pub list_shows : (entries : List LeafElement)
      → ((e : LeafElement) → Contains entries e → e.is_bucket ≡ true → IsTreeOf Own (start_of e.value) (inside (start_of e.value)))
      → Shows Own (tree_with inside entries) entries
  list_shows [] each = tt
  list_shows (e ∷ entries) each =
      shows_with e entries e.is_bucket refl (list_shows entries (λ f h b. each f (contains_tail e f entries h) b)) (λ b. each e (contains_head e entries) b)

same_number : (m : ℕ) → not (eqb m m) ≡ false
same_number m = ap not (eq-eqb m m refl)

module _ (file : List ℕ) (meta : Meta) (trees : HasSoundTrees file meta) where
  abbrev Own : Start → LeafElement → Type 0
  Own = IsEntry file meta

  abbrev tree : ℕ → Start → Tree
  tree n bucket = tree_within (file_entries file meta) n bucket

  -- the tree of an inline bucket, in which there is none
  flat_tree : (k n : ℕ) (e : LeafElement) → ShowsEntry file meta n e → e.is_bucket ≡ true → head_root e.value ≡ 0
      → IsStart file meta (Inline_page (inline_elements e.value))
      → IsTreeOf Own (Inline_page (inline_elements e.value)) (tree (suc k) (Inline_page (inline_elements e.value)))
  flat_tree k n e shows b root start =
      let bucket : Start = Inline_page (inline_elements e.value) in
      let are = tour_entries file meta trees bucket start in (
        file_entries file meta bucket,
        are,
        list_shows Own (tree k) (file_entries file meta bucket) (λ f h fb. absurd (let none = flat file meta n e f shows b root ((are.exact f).0 h) in cc)),
      )

  -- the tree of a bucket below which only so many pages lie
  pub tree_from : (n : ℕ) (pages : List ℕ) → length pages ≤ n → (w : List ℕ) (s : PageSpot)
      → reached (node_at file meta) meta.root w ≡ Some (At_page s)
      → IsStart file meta (Root_page s.number)
      → ((x : List ℕ) (t : PageSpot) → follow (node_at file meta) (Some (At_page s)) x ≡ Some (At_page t) → Contains pages t.number)
      → IsTreeOf Own (Root_page s.number) (tree (suc n) (Root_page s.number))
  tree_from zero pages few w s at start all_in =
      let (k, below, is) = all_in [] s refl in absurd (omega arith)
  tree_from (suc n) pages few w s at start all_in =
      let entries = file_entries file meta (Root_page s.number) in
      let are = tour_entries file meta trees (Root_page s.number) start in
      let fewer : length (without s.number pages) < length pages =
      filter_less (λ m. not (eqb m s.number)) pages s.number (all_in [] s refl) (same_number s.number) in
      let inside : (e : LeafElement) → Contains entries e → e.is_bucket ≡ true → IsTreeOf Own (start_of e.value) (tree (suc n) (start_of e.value)) = λ e h b.
      let is = (are.exact e).0 h in
      let begins : IsStart file meta (start_of e.value) =
      starts_named file meta (Root_page s.number) (e.key ∷ []) (start_of e.value) start (e, is, refl, b, refl) in
      let by : (r : Bool) → eqb (head_root e.value) 0 ≡ r → IsTreeOf Own (start_of e.value) (tree (suc n) (start_of e.value)) = λ r.
      elim r as (λ r. eqb (head_root e.value) 0 ≡ r → IsTreeOf Own (start_of e.value) (tree (suc n) (start_of e.value))) [
        | true ↦ λ zero_root.
            let same = in_itself e.value zero_root in
            let (address, page, lead, shows) = is in
            subst (λ (from : Start). IsTreeOf Own from (tree (suc n) from)) (sym same)
            (flat_tree n page e shows b (eqb-true (head_root e.value) 0 zero_root) (subst (IsStart file meta) same begins))
        | false ↦ λ own_root.
            let same = at_root e.value own_root in
            let (address, i, on) = bucket_way file meta s e is b own_root in
            let next : PageSpot = root_spot (head_root e.value) in
            let there : reached (node_at file meta) meta.root (w ++ (address ++ i ∷ [])) ≡ Some (At_page next) =
            follow_append (node_at file meta) (Some (At_page (root_spot meta.root))) w (address ++ i ∷ [])
            ∙ (ap (λ (o : Option Spot). follow (node_at file meta) o (address ++ i ∷ [])) at ∙ on) in
            subst (λ (from : Start). IsTreeOf Own from (tree (suc n) from)) (sym same)
            (tree_from n (without s.number pages) (omega (arith, fewer)) (w ++ (address ++ i ∷ [])) next there (subst (IsStart file meta) same begins)
            (λ x t reach.
            let here : follow (node_at file meta) (Some (At_page s)) ((address ++ i ∷ []) ++ x) ≡ Some (At_page t) =
            follow_append (node_at file meta) (Some (At_page s)) (address ++ i ∷ []) x
            ∙ (ap (λ (o : Option Spot). follow (node_at file meta) o x) on ∙ reach) in
            let whole : reached (node_at file meta) meta.root ((w ++ (address ++ i ∷ [])) ++ x) ≡ Some (At_page t) =
            follow_append (node_at file meta) (Some (At_page (root_spot meta.root))) (w ++ (address ++ i ∷ [])) x
            ∙ (ap (λ (o : Option Spot). follow (node_at file meta) o x) there ∙ reach) in
            kept (λ m. not (eqb m s.number)) pages t.number (all_in ((address ++ i ∷ []) ++ x) t here)
            (not_from_false _ (ne_eqb t.number s.number
            (λ same. no_longer w address i x (one_way (node_at file meta) meta.root trees w ((w ++ (address ++ i ∷ [])) ++ x) s t at whole (sym same)))))))
      ] in by (eqb (head_root e.value) 0) refl in
      (entries, are, list_shows Own (tree (suc n)) entries inside)

  -- the tree of the file
  pub root_tree : ((w : List ℕ) (s : PageSpot) → reached (node_at file meta) meta.root w ≡ Some (At_page s) → s.number < meta.high_water)
      → IsTreeOf Own (Root_page meta.root) (file_tree file meta)
  unfolding file_tree
  root_tree below =
      tree_from meta.high_water (range_with_len 0 meta.high_water) (let n = length-range_with_len 0 meta.high_water in omega (arith, n)) []
      (root_spot meta.root) refl (root_starts file meta) (λ x t e.
      let within = below x t e in
      let at = get_or-range_with_len 0 meta.high_water t.number t.number within in
      (t.number, omega (arith, within, length-range_with_len 0 meta.high_water), at ∙ omega arith))
