-- Bytes after the last page below the high-water mark: the same meta is active.
use Rattle.std.proofs.Common.{◌≡◌, ◌∙◌, ◌+◌, ◌<◌, ◌≤◌, ℕ, List, [], ◌++◌, drop, take, length, inl, inr, arith, ap, refl, sym}
use Rattle.std.proofs.{Math.Nat.mul-le-mul_right, lemmas.List.drop-append-le, lemmas.List.length-append, lemmas.List.length-drop}
use Rattle.std.proofs.{lemmas.List.take-append-le}
use Rattle.bolt_format.specs.{Metas.IsActive, Metas.IsInSlot, Metas.IsMeta, Metas.other_slot, declared.meta.Meta.Meta, declared.meta.Slot.Slot}
use Rattle.bolt_format.specs.declared.meta.Slot.TheVariants.{Zero, One}
use Rattle.bolt_format.proofs.Exports.{SameRecord, meta_same, same_back, span_passes, size_bounds}
use Rattle.bolt_check.specs.{Nodes.node_at, Sound.HasSoundTrees, Ways.root_spot}
use Rattle.bolt_check.proofs.Exports.{IsTreePage, a_branch, a_leaf, tree_page, in_own_span}
use Rattle.bolt_etcd.specs.Check.WholeFiles.{HasAllPages}
use Rattle.bolt_etcd.proofs.TrailingBytes.{below_of, number_more}

-- ---- a file and more bytes

module _ (file more : List ℕ) where
  record_more : (at : ℕ) → at + 80 ≤ length file → SameRecord file (file ++ more) at
  record_more at h = record {
    whole = λ _. omega (arith, h, length-append file more);
    part = λ _. h;
    numbers = λ from n k. number_more file more (at + from) n (omega (arith, h, k));
    hashed = ap (λ (bytes : List ℕ). take 56 bytes) (drop-append-le (at + 16) file more (omega (arith, h)))
        ∙ take-append-le 56 (drop (at + 16) file) more (omega (arith, h, length-drop (at + 16) file));
  }

  meta_more : (at : ℕ) (meta : Meta) → IsMeta file at meta → IsMeta (file ++ more) at meta
  meta_more at meta valid = meta_same file (file ++ more) at meta (record_more at valid.whole) valid

  meta_less : (at : ℕ) (meta : Meta) → at + 80 ≤ length file → IsMeta (file ++ more) at meta → IsMeta file at meta
  meta_less at meta h valid = meta_same (file ++ more) file at meta (same_back file (file ++ more) at (record_more at h)) valid

  pub in_slot_more : (slot : Slot) (meta : Meta) → IsInSlot file slot meta → IsInSlot (file ++ more) slot meta
  in_slot_more Zero meta valid = meta_more 0 meta valid
  in_slot_more One meta (inl (zero, first, second)) = inl (zero, meta_more 0 zero first, meta_more zero.page_size meta second)
  in_slot_more One meta (inr (none, lone)) = inr (
    λ zero valid. none zero (meta_less 0 zero (omega (arith, lone.valid.whole)) valid),
    record {
      at = lone.at;
      tried = lone.tried;
      valid = meta_more lone.at meta lone.valid;
      least = λ before other size less valid. lone.least before other size less (meta_less before other (omega (arith, less, lone.valid.whole)) valid);
    },
  )

  -- the file has bytes for the first record
  first_room : (slot : Slot) (meta : Meta) → IsInSlot file slot meta → 80 ≤ length file
  first_room Zero meta valid = valid.whole
  first_room One meta (inl (zero, first, second)) = first.whole
  first_room One meta (inr (none, lone)) = omega (arith, lone.valid.whole)

  -- the meta of the other slot was there before
  other_less : (slot : Slot) (meta other : Meta) → meta.page_size + 80 ≤ length file → IsInSlot file slot meta
      → IsInSlot (file ++ more) (other_slot slot) other
      → IsInSlot file (other_slot slot) other
  other_less Zero meta other room valid (inl (zero, first, second)) =
      let first_less = meta_less 0 zero valid.whole first in
      let same : zero.page_size ≡ meta.page_size = ap (λ (m : Meta). m.page_size) (first_less.fields ∙ sym valid.fields) in
      inl (zero, first_less, meta_less zero.page_size other (omega (arith, same, room)) second)
  other_less Zero meta other room valid (inr (none, lone)) = absurd (none meta (meta_more 0 meta valid))
  other_less One meta other room valid first = meta_less 0 other (first_room One meta valid) first

  chosen_room : (slot : Slot) (meta : Meta) → meta.page_size + 80 ≤ length file → IsActive file slot meta → IsActive (file ++ more) slot meta
  chosen_room slot meta room chosen = grind (arith, in_slot_more, other_less)

-- ---- a file with sound trees has three pages

shown_below : (file : List ℕ) (meta : Meta) (number : ℕ) → HasAllPages file meta → IsTreePage file meta number → number < meta.high_water
shown_below file meta number all (a_leaf view at leaf is) = below_of file [] meta all number (span_passes file meta number view at)
shown_below file meta number all (a_branch view at branch is) = below_of file [] meta all number (span_passes file meta number view at)

three_pages : (file : List ℕ) (meta : Meta) → HasAllPages file meta → HasSoundTrees file meta → 3 ≤ meta.high_water
three_pages file meta all trees =
    let (deep, good) = trees.good [] (root_spot meta.root) refl in
    let below = shown_below file meta meta.root all (tree_page file meta meta.root good.0 good.1) in
    let above = trees.above_metas [] meta.root (in_own_span (node_at file meta) (root_spot meta.root) good.0 good.1) in
    omega (arith, below, above)

second_room : (file : List ℕ) (meta : Meta) → HasAllPages file meta → HasSoundTrees file meta → meta.page_size + 80 ≤ length file
second_room file meta all trees = grind (arith, mul-le-mul_right, three_pages, size_bounds)

pub chosen_more : (file more : List ℕ) (slot : Slot) (meta : Meta) → HasAllPages file meta → HasSoundTrees file meta → IsActive file slot meta
    → IsActive (file ++ more) slot meta
chosen_more file more slot meta all trees chosen = chosen_room file more slot meta (second_room file meta all trees) chosen
