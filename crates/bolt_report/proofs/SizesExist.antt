-- The sizes of the buckets in a bucket of a sound file exist, and are one list.
-- Rests on that each bucket of the tree has one set of figures (StatsExist, StatsOnce), and that a bucket in a bucket of the tree is one of the tree.
use Rattle.std.proofs.Common.{arith, ◌≡◌, ◌∙◌, ℕ, Bool, true, false, List, [], ◌∷◌, ap, map, refl, sym}
use Rattle.bolt_report.proofs.Words.{AllByRecursion, AreSized, Contains, contains_head, contains_tail, HasSoundTrees, IsStart, LeafElement, Meta}
use Rattle.bolt_report.proofs.Words.{Path, Root_page, Sized, Start, start_of}
use Rattle.bolt_report.proofs.SizeLemmas.{HasStats, by_kind}
use Rattle.bolt_stats.proofs.Exports.{some_stats, one_stats}
use Rattle.bolt_tree.specs.{Entries.AreEntries, Entries.IsEntry, Paths.Names}
use Rattle.bolt_tree.proofs.Exports.{root_starts, starts_below, starts_named}

module _ (file : List ℕ) (meta : Meta) where
  abbrev HasSizes : List LeafElement → Type 0
  HasSizes entries = (sized : List Sized) × AreSized file meta entries sized

  -- ---- there is one

  module _ (trees : HasSoundTrees file meta) where
    size_first : (e : LeafElement) (entries : List LeafElement) (b : Bool) → e.is_bucket ≡ b
        → (e.is_bucket ≡ true → IsStart file meta (start_of e.value)) → HasSizes entries → HasSizes (e ∷ entries)
    size_first e entries false is on (sized, are) = (sized, record { buckets = are.buckets ∙ sym (by_kind e entries false is); stats = are.stats })
    size_first e entries true is on (sized, are) =
        let (own, known) = some_stats file meta (start_of e.value) trees (on is) in (
          record { entry = e; stats = own } ∷ sized,
          record {
            buckets = ap (λ (l : List LeafElement). e ∷ l) are.buckets ∙ sym (by_kind e entries true is);
            stats = (known, are.stats);
          },
        )

    size_all : (start : Start) → IsStart file meta start → (entries : List LeafElement)
        → ((e : LeafElement) → Contains entries e → IsEntry file meta start e) → HasSizes entries
    size_all start on [] has = ([], record { buckets = refl; stats = tt })
    size_all start on (e ∷ entries) has =
        size_first e entries e.is_bucket refl (λ is. starts_below file meta start e on (has e (contains_head e entries)) is)
        (size_all start on entries (λ x h. has x (contains_tail e x entries h)))

    -- of the entries of a bucket of the tree
    pub some_sizes : (start : Start) (entries : List LeafElement) → IsStart file meta start → AreEntries (IsEntry file meta) start entries
        → (sized : List Sized) × AreSized file meta entries sized
    some_sizes start entries on are = size_all start on entries (λ e h. (are.exact e).0 h)

    -- of a bucket that a path leads to from the root
    pub named_sizes : (path : Path) (bucket : Start) (entries : List LeafElement) → Names (IsEntry file meta) (Root_page meta.root) path bucket
        → AreEntries (IsEntry file meta) bucket entries
        → (sized : List Sized) × AreSized file meta entries sized
    named_sizes path bucket entries names are =
        some_sizes bucket entries (starts_named file meta (Root_page meta.root) path bucket (root_starts file meta) names) are

  -- ---- and no other

  same_sized : (s t : Sized) → s.entry ≡ t.entry → HasStats file meta s → HasStats file meta t → s ≡ t
  same_sized s t is a b = grind (arith, one_stats)

  one_by : (a b : List Sized) → map (λ (s : Sized). s.entry) a ≡ map (λ (s : Sized). s.entry) b → AllByRecursion (HasStats file meta) a
      → AllByRecursion (HasStats file meta) b → a ≡ b
  one_by [] [] same h k = refl
  one_by [] (t ∷ b) same h k = cc
  one_by (s ∷ a) [] same h k = cc
  one_by (s ∷ a) (t ∷ b) same h k =
      let head : s.entry ≡ t.entry = cc in
      let tail : map (λ (s : Sized). s.entry) a ≡ map (λ (s : Sized). s.entry) b = cc in
      λ i. same_sized s t head h.0 k.0 i ∷ one_by a b tail h.1 k.1 i

  pub one_sizes : (entries : List LeafElement) (a b : List Sized) → AreSized file meta entries a → AreSized file meta entries b → a ≡ b
  one_sizes entries a b h k = one_by a b (h.buckets ∙ sym k.buckets) h.stats k.stats
