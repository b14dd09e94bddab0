-- Candidates by key and value.
use Rattle.std.proofs.Common.{rules, arith, ◌≡◌, ◌∙◌, ℕ, Bool, true, List, map, Option, Some, None, false, refl, sym, ap, subst}
use Rattle.std.proofs.lemmas.Bool.{and_parts, not-true}
use Rattle.std.proofs.lemmas.Cmp.{and_equiv, nat_list_cmp_total, nat_list_eq_equiv, on_equiv, on_total, then_total}
use Rattle.std.proofs.{lemmas.List.Kept.Any-dedup, lemmas.List.Kept.Contains-from_dedup, lemmas.List.Kept.IsStrictlySortedBy-dedup}
use Rattle.std.proofs.{lemmas.List.MinMax.ranks_by}
use Rattle.std.proofs.{lemmas.List.Sorted.Contains-permutation, lemmas.List.Sorted.IsPermutation-map, lemmas.List.Sorted.IsPermutation-sym}
use Rattle.std.proofs.{lemmas.Map.Text.is_eq-slice_cmp}
use Rattle.std.specs.{Cmp.IsEquivalence, Cmp.IsStrictWeakOrder, Cmp.IsTotalOrder, List.Contains, List.dedup}
use Rattle.std.specs.{List.Sorted.IsPermutation, List.Sorted.IsSorted, List.Sorted.IsSortedBy, Ordering.eq_by_cmp, Ordering.is_eq, Ordering.is_lt}
use Rattle.std.specs.declared.cmp.Ordering.TheVariants.{Equal}
use Rattle.bolt_lemmas.proofs.Exports.{both_tied, dedup_mapped, kept_from, rises_from, sorted_mapped}
use Rattle.bolt_format.specs.Elements.{LeafElement}
use Rattle.bolt_check.specs.Keys.{Key}
use Rattle.bolt_tree.specs.Entries.{EntryView, Item, Value, entry_view}
use Rattle.bolt_etcd.specs.{Wire.ShownRevisions.entry_of, Wire.ShownRevisions.value_bytes, declared.wire.revision.Revision.Revision}
use Rattle.bolt_etcd.specs.{Check.Misplaced.is_misplaced}
use Rattle.bolt_etcd.specs.Wire.Revisions.{RevisionView, revision_in, revision_of, value_of}
use Rattle.bolt_repair.specs.Candidates.{AreCandidates, candidates_in, is_candidate, is_in_place, is_same_entry, whole_cmp}
use Rattle.bolt_etcd.proofs.Exports.{bind_some}

pub whole_total : IsTotalOrder whole_cmp
whole_total = then_total (on_total (λ (e : EntryView). e.key) nat_list_cmp_total) (on_total value_bytes nat_list_cmp_total)

ties : (x y : EntryView) → is_same_entry x y ≡ eq_by_cmp whole_cmp x y
ties x y = grind (arith, is_eq-slice_cmp, both_tied)

same_equal : IsEquivalence is_same_entry
same_equal = and_equiv (on_equiv (λ (e : EntryView). e.key) nat_list_eq_equiv) (on_equiv value_bytes nat_list_eq_equiv)

-- ---- each candidate is a value, so it is what its key and its bytes say

pub in_place : (o : Option RevisionView) → is_in_place o ≡ true → (r : RevisionView) × (o ≡ Some r) × (is_misplaced r ≡ false)
in_place None e = cc
in_place (Some r) e = (r, refl, not-true (is_misplaced r) e)

value_from : (item : Item) (value : List ℕ) → value_of item ≡ Some value → item ≡ Value value
value_from item value e = grind arith

pub revision_value : (e : EntryView) (r : RevisionView) → revision_of e ≡ Some r → (value : List ℕ) × (e.item ≡ Value value)
unfolding revision_of
revision_value e r is = let (value, some, _) = bind_some (value_of e.item) (revision_in e.key) r is in (value, value_from e.item value some)

pub candidate_value : (e : EntryView) → is_candidate e ≡ true → (value : List ℕ) × (e.item ≡ Value value)
candidate_value e passes = let (r, is, _) = in_place (revision_of e) passes in revision_value e r is

pub same_view : (x y : EntryView) → x.key ≡ y.key → x.item ≡ y.item → x ≡ y
same_view x y key item = ap (λ (k : Key). record x { key = k }) key ∙ ap (λ (i : Item). record y { item = i }) item

same_values : (x y : EntryView) (v w : List ℕ) → x.item ≡ Value v → y.item ≡ Value w → x.key ≡ y.key → value_bytes x ≡ value_bytes y → x ≡ y
same_values x y v w is also key bytes = grind (arith, same_view)

same_candidates : (x y : EntryView) → is_candidate x ≡ true → is_candidate y ≡ true → is_same_entry x y ≡ true → x ≡ y
same_candidates x y first second e = search (rules, candidate_value, and_parts, same_values)

pub same_whole : (x y : EntryView) → is_candidate x ≡ true → is_candidate y ≡ true → whole_cmp x y ≡ Equal → x ≡ y
same_whole x y first second e = same_candidates x y first second (ties x y ∙ ap is_eq e)

-- ---- sorted and merged

module _ (elements : List LeafElement) (es : List EntryView) (moved : IsPermutation (candidates_in elements) es) where
  passes : (e : EntryView) → Contains es e → is_candidate e ≡ true
  passes e has = (kept_from is_candidate (map entry_view elements) e (Contains-permutation es _ e (IsPermutation-sym _ es moved) has)).1

  merged_has : (e : EntryView) → Contains es e → Contains (dedup is_same_entry es) e
  merged_has e has =
      let (k, other, lt, at, same) = Any-dedup same_equal es e has in
      let kept : Contains (dedup is_same_entry es) other = (k, lt, at) in
      subst (Contains (dedup is_same_entry es))
      (sym (same_candidates e other (passes e has) (passes other (Contains-from_dedup is_same_entry es other kept)) same)) kept

  pub merged_are_candidates : IsSorted whole_cmp es → AreCandidates elements (dedup is_same_entry es)
  merged_are_candidates up = record {
    rises = rises_from whole_total _ (IsStrictlySortedBy-dedup whole_total ties es up);
    exact = λ e. (
      λ has. Contains-permutation es _ e (IsPermutation-sym _ es moved) (Contains-from_dedup is_same_entry es e has),
      λ has. merged_has e (Contains-permutation _ es e moved has),
    );
  }

-- ---- of the code

abbrev pub code_whole : Revision → Revision → Bool
code_whole a b = is_lt (whole_cmp (entry_of a) (entry_of b))

abbrev pub code_same : Revision → Revision → Bool
code_same a b = is_same_entry (entry_of a) (entry_of b)

pub code_ranks : IsStrictWeakOrder code_whole
code_ranks = ranks_by whole_total entry_of

pub are_candidates : (elements : List LeafElement) (all sorted left : List Revision) → map entry_of all ≡ candidates_in elements
    → IsPermutation all sorted → IsSortedBy code_whole sorted
    → left ≡ dedup code_same sorted → AreCandidates elements (map entry_of left)
are_candidates elements all sorted left are moved up once =
    let shown = ap (map entry_of) once ∙ dedup_mapped entry_of is_same_entry sorted in
    let moved_shown = subst (λ (es : List EntryView). IsPermutation es (map entry_of sorted)) are (IsPermutation-map entry_of all sorted moved) in
    subst (AreCandidates elements) (sym shown)
    (merged_are_candidates elements (map entry_of sorted) moved_shown (sorted_mapped entry_of (λ a b. is_lt (whole_cmp a b)) sorted up))
