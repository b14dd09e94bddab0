-- The metas of a file lie in a prefix of it.
use Rattle.std.proofs.Common.{◌≡◌, ◌∙◌, ℕ, ◌+◌, ◌-◌, ◌≤◌, List, take, drop, arith, sym, ap, inl, inr, subst, refl}
use Rattle.std.proofs.lemmas.List.{drop-take, length-take, take-take}
use Rattle.byteorder.specs.{Endian.little_number, Numbers.little_from-take}
use Rattle.bolt_format.specs.Bytes.{fnv_of, number_at}
use Rattle.bolt_format.specs.Metas.{HasMetaFault, HasSlotFault, IsActive, IsInOne, IsInSlot, IsLoneMeta, IsMeta, IsMetasEnd, IsPageSize, IsPlaced}
use Rattle.bolt_format.specs.Metas.{IsWhole, meta_fields, other_slot, size_at}
use Rattle.bolt_format.specs.{declared.meta.Meta.Meta, declared.meta.MetaFault.MetaFault}
use Rattle.bolt_format.specs.declared.meta.MetaFault.TheVariants.{Cut, Magic, Version, Sum, PageSize}
use Rattle.bolt_format.specs.{declared.meta.Slot.Slot, declared.meta.Slot.TheVariants.Zero, declared.meta.Slot.TheVariants.One}
use Rattle.bolt_format.proofs.PageSizes.{size_bounds}

-- ---- two files with the same record at a byte

pub record SameRecord (file other : List ℕ) (at : ℕ) : Type 0 where
  pub whole : IsWhole file at → IsWhole other at
  pub part : IsWhole other at → IsWhole file at
  pub numbers : (from n : ℕ) → from + n ≤ 80 → number_at other (at + from) n ≡ number_at file (at + from) n
  pub hashed : take 56 (drop (at + 16) other) ≡ take 56 (drop (at + 16) file)

pub same_back : (file other : List ℕ) (at : ℕ) → SameRecord file other at → SameRecord other file at
same_back file other at s = record {
  whole = s.part;
  part = s.whole;
  numbers = λ from n h. sym (s.numbers from n h);
  hashed = sym s.hashed;
}

size_same : (file other : List ℕ) (at : ℕ) → SameRecord file other at → size_at other at ≡ size_at file at
size_same file other at s = s.numbers 24 4 (omega arith)

fields_same : (file other : List ℕ) (at : ℕ) → SameRecord file other at → meta_fields file at ≡ meta_fields other at
fields_same file other at s =
    rw (s.numbers 24 4 (omega arith), s.numbers 32 8 (omega arith), s.numbers 40 8 (omega arith), s.numbers 48 8 (omega arith), s.numbers 56 8 (omega arith), s.numbers 64 8 (omega arith)) refl

placed_same : (file other : List ℕ) (at : ℕ) → SameRecord file other at → IsPlaced file at → IsPlaced other at
placed_same file other at s (inl first) = inl first
placed_same file other at s (inr second) = inr (second ∙ sym (size_same file other at s))

sum_same : (file other : List ℕ) (at : ℕ) → SameRecord file other at → number_at file (at + 72) 8 ≡ fnv_of (take 56 (drop (at + 16) file))
    → number_at other (at + 72) 8 ≡ fnv_of (take 56 (drop (at + 16) other))
sum_same file other at s e = s.numbers 72 8 (omega arith) ∙ (e ∙ ap fnv_of (sym s.hashed))

pub meta_same : (file other : List ℕ) (at : ℕ) (meta : Meta) → SameRecord file other at → IsMeta file at meta → IsMeta other at meta
meta_same file other at meta s valid = grind (arith, sum_same, size_same, placed_same, fields_same)

fault_same : (file other : List ℕ) (at : ℕ) (fault : MetaFault) → SameRecord file other at → HasMetaFault file at fault → HasMetaFault other at fault
fault_same file other at Cut s h = λ whole. h (s.part whole)
fault_same file other at Magic s (whole, bad) = (s.whole whole, λ good. bad (sym (s.numbers 16 4 (omega arith)) ∙ good))
fault_same file other at Version s (whole, magic, bad) =
    (s.whole whole, s.numbers 16 4 (omega arith) ∙ magic, λ good. bad (sym (s.numbers 20 4 (omega arith)) ∙ good))
fault_same file other at Sum s (whole, magic, version, bad) = (
  s.whole whole,
  s.numbers 16 4 (omega arith) ∙ magic,
  s.numbers 20 4 (omega arith) ∙ version,
  λ good. bad (sum_same other file at (same_back file other at s) good),
)
fault_same file other at PageSize s (whole, magic, version, sum, inl bad) = (
  s.whole whole,
  s.numbers 16 4 (omega arith) ∙ magic,
  s.numbers 20 4 (omega arith) ∙ version,
  sum_same file other at s sum,
  inl (λ good. bad (subst IsPageSize (size_same file other at s) good)),
)
fault_same file other at PageSize s (whole, magic, version, sum, inr bad) = (
  s.whole whole,
  s.numbers 16 4 (omega arith) ∙ magic,
  s.numbers 20 4 (omega arith) ∙ version,
  sum_same file other at s sum,
  inr (λ good. bad (placed_same other file at (same_back file other at s) good)),
)

-- ---- two files with the same metas

-- the records that the metas of the first are read from are the same
pub record SameMetas (file other : List ℕ) : Type 0 where
  pub first : SameRecord file other 0
  pub second : (zero : Meta) → IsMeta file 0 zero → SameRecord file other zero.page_size
  pub alone : ((zero : Meta) → IsMeta file 0 zero → ⊥) → (at : ℕ) → IsPageSize at → SameRecord file other at

pub metas_back : (file other : List ℕ) → SameMetas file other → SameMetas other file
metas_back file other s = record {
  first = same_back file other 0 s.first;
  second = λ zero valid. same_back file other zero.page_size (s.second zero (meta_same other file 0 zero (same_back file other 0 s.first) valid));
  alone = λ none at size. same_back file other at (s.alone (λ zero valid. none zero (meta_same file other 0 zero s.first valid)) at size);
}

lone_same : (file other : List ℕ) (meta : Meta) → SameMetas file other → ((zero : Meta) → IsMeta file 0 zero → ⊥) → IsLoneMeta file meta
    → IsLoneMeta other meta
lone_same file other meta s none lone = record {
  at = lone.at;
  tried = lone.tried;
  valid = meta_same file other lone.at meta (s.alone none lone.at lone.tried) lone.valid;
  least =
      λ before m size less valid. lone.least before m size less (meta_same other file before m (same_back file other before (s.alone none before size)) valid);
}

-- slot zero has no valid record either
none_same : (file other : List ℕ) → SameMetas file other → ((zero : Meta) → IsMeta file 0 zero → ⊥) → (zero : Meta) → IsMeta other 0 zero → ⊥
none_same file other s none zero valid = none zero (meta_same other file 0 zero (same_back file other 0 s.first) valid)

one_same : (file other : List ℕ) (meta : Meta) → SameMetas file other → IsInOne file meta → IsInOne other meta
one_same file other meta s (inl (zero, first, second)) =
    inl (zero, meta_same file other 0 zero s.first first, meta_same file other zero.page_size meta (s.second zero first) second)
one_same file other meta s (inr (none, lone)) = inr (none_same file other s none, lone_same file other meta s none lone)

pub slot_same : (file other : List ℕ) (slot : Slot) (meta : Meta) → SameMetas file other → IsInSlot file slot meta → IsInSlot other slot meta
slot_same file other Zero meta s valid = meta_same file other 0 meta s.first valid
slot_same file other One meta s valid = one_same file other meta s valid

pub chosen_same : (file other : List ℕ) (slot : Slot) (meta : Meta) → SameMetas file other → IsActive file slot meta → IsActive other slot meta
chosen_same file other slot meta s chosen = record {
  valid = slot_same file other slot meta s chosen.valid;
  newest = λ m valid. chosen.newest m (slot_same other file (other_slot slot) m (metas_back file other s) valid);
}

pub first_fault_same : (file other : List ℕ) (fault : MetaFault) → SameMetas file other → HasMetaFault file 0 fault → HasMetaFault other 0 fault
first_fault_same file other fault s h = fault_same file other 0 fault s.first h

pub slot_fault_same : (file other : List ℕ) (slot : Slot) (fault : MetaFault) → SameMetas file other → HasSlotFault file slot fault
    → HasSlotFault other slot fault
slot_fault_same file other Zero fault s h = first_fault_same file other fault s h
slot_fault_same file other One fault s (inl (zero, first, h)) =
    inl (zero, meta_same file other 0 zero s.first first, fault_same file other zero.page_size fault (s.second zero first) h)
slot_fault_same file other One fault s (inr (none, h)) = inr (none_same file other s none, first_fault_same file other fault s h)

-- ---- a file and its prefix

-- what lies within a prefix
prefix_number : (file : List ℕ) (end at n : ℕ) → at + n ≤ end → number_at (take end file) at n ≡ number_at file at n
unfolding number_at
prefix_number file end at n h =
    let split : end ≡ at + (end - at) = omega arith in
    let rest : drop at (take end file) ≡ take (end - at) (drop at file) = ap (λ (k : ℕ). drop at (take k file)) split ∙ drop-take at (end - at) file in
    ap (little_number n) rest ∙ little_from-take 0 n (end - at) (drop at file) (omega arith)

prefix_hashed : (file : List ℕ) (end at n : ℕ) → at + n ≤ end → take n (drop at (take end file)) ≡ take n (drop at file)
prefix_hashed file end at n h =
    let split : end ≡ at + (end - at) = omega arith in
    let rest : drop at (take end file) ≡ take (end - at) (drop at file) = ap (λ (k : ℕ). drop at (take k file)) split ∙ drop-take at (end - at) file in
    ap (λ (xs : List ℕ). take n xs) rest ∙ take-take n (end - at) (drop at file) (omega arith)

same_record : (file : List ℕ) (end at : ℕ) → at + 80 ≤ end → SameRecord file (take end file) at
same_record file end at h =
    let long = length-take end file in
    record {
      whole = λ w. omega (arith, long, w, h);
      part = λ w. omega (arith, long, w, h);
      numbers = λ from n k. prefix_number file end (at + from) n (omega (arith, h, k));
      hashed = prefix_hashed file end (at + 16) 56 (omega (arith, h));
    }

-- a record at byte 0 that is valid in a prefix of 80 bytes is valid in the file, and the other way round
first_valid : (file : List ℕ) (zero : Meta) → IsMeta (take 80 file) 0 zero → IsMeta file 0 zero
first_valid file zero valid = meta_same (take 80 file) file 0 zero (same_back file (take 80 file) 0 (same_record file 80 0 (omega arith))) valid

pub same_metas : (file : List ℕ) (end : ℕ) → IsMetasEnd (take 80 file) end → SameMetas file (take end file)
same_metas file end (inl (zero, valid, is)) =
    let there = first_valid file zero valid in record {
      first = same_record file end 0 (omega (arith, is));
      second = λ other found. let same : other.page_size ≡ zero.page_size = ap (λ (m : Meta). m.page_size) (found.fields ∙ sym there.fields) in
          same_record file end other.page_size (omega (arith, is, same));
      alone = λ none at size. absurd (none zero there);
    }
same_metas file end (inr (none, is)) = record {
  first = same_record file end 0 (omega (arith, is));
  second = λ zero found. absurd (none zero (meta_same file (take 80 file) 0 zero (same_record file 80 0 (omega arith)) found));
  alone = λ no at size. same_record file end at (omega (arith, is, size_bounds at size));
}
