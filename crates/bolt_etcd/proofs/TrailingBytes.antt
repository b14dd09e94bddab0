-- Bytes after the last page below the high-water mark: each page is as it was.
use Rattle.std.proofs.Common.{◌≡◌, ◌∙◌, ◌<◌, ◌≤◌, ◌+◌, ◌*◌, ℕ, suc, List, ◌++◌, drop, length, Option, Some, None, inl, inr, arith, ap, refl, sym}
use Rattle.std.proofs.{Math.Nat.mul-le-mul_right, Math.Seq.take-append_seam, lemmas.Bool.cases_lt, lemmas.Bool.le-leb, lemmas.Bool.le-ltb}
use Rattle.std.proofs.lemmas.List.{drop-append-le, length-append, length-drop, take-append-le}
use Rattle.byteorder.specs.{Endian.little_number, Numbers.little_from-take}
use Rattle.bolt_format.specs.{Bytes.number_at, Headers.count_field, Headers.flags_field, Pages.from_page, Pages.page_at, Pages.page_fault}
use Rattle.bolt_format.specs.{Pages.page_overflow, Pages.span_bytes, Pages.span_fault}
use Rattle.bolt_format.specs.declared.meta.Meta.{Meta}
use Rattle.bolt_format.proofs.Exports.{span_within, size_bounds}
use Rattle.bolt_etcd.specs.Check.WholeFiles.{HasAllPages}

-- ---- numbers

little_more : (n : ℕ) (xs ys : List ℕ) → n ≤ length xs → little_number n (xs ++ ys) ≡ little_number n xs
little_more n xs ys h = sym (little_from-take 0 n (length xs) (xs ++ ys) (omega (arith, h))) ∙ ap (little_number n) (take-append_seam xs ys)

pub number_more : (file more : List ℕ) (at n : ℕ) → at + n ≤ length file → number_at (file ++ more) at n ≡ number_at file at n
unfolding number_at
number_more file more at n h =
    ap (little_number n) (drop-append-le at file more (omega (arith, h))) ∙ little_more n (drop at file) more (omega (arith, h, length-drop at file))

-- ---- pages

row_end : (id high_water size : ℕ) → id < high_water → id * size + size ≤ high_water * size
row_end id high_water size below = let rows : suc id * size ≤ high_water * size = mul-le-mul_right size below in omega (arith, rows)

module _ (file more : List ℕ) (meta : Meta) (all : HasAllPages file meta) where
  room : (id : ℕ) → id < meta.high_water → id * meta.page_size + meta.page_size ≤ length file
  room id below = omega (arith, row_end id meta.high_water meta.page_size below, all.long)

  header_in : (id : ℕ) → id < meta.high_water → id * meta.page_size + 16 ≤ length file
  header_in id below = omega (arith, room id below, size_bounds meta.page_size all.size)

  from_more : (id : ℕ) → id < meta.high_water → from_page (file ++ more) meta id ≡ from_page file meta id ++ more
  from_more id below = drop-append-le (id * meta.page_size) file more (omega (arith, header_in id below))

  field_more : (id at n : ℕ) → id < meta.high_water → at + n ≤ 16
      → number_at (from_page (file ++ more) meta id) at n ≡ number_at (from_page file meta id) at n
  field_more id at n below h = grind (arith, from_more, number_more, header_in, length-drop)

  pub overflow_more : (id : ℕ) → id < meta.high_water → page_overflow (file ++ more) meta id ≡ page_overflow file meta id
  overflow_more id below = field_more id 12 4 below (omega arith)

  pub count_more : (id : ℕ) → id < meta.high_water → count_field (from_page (file ++ more) meta id) ≡ count_field (from_page file meta id)
  count_more id below = field_more id 10 2 below (omega arith)

  pub flags_more : (id : ℕ) → id < meta.high_water → flags_field (from_page (file ++ more) meta id) ≡ flags_field (from_page file meta id)
  flags_more id below = field_more id 8 2 below (omega arith)

  end_in : (id over : ℕ) → id + over < meta.high_water → (id + 1 + over) * meta.page_size ≤ length file
  end_in id over below = grind (arith, mul-le-mul_right)

  long_more : length file ≤ length (file ++ more)
  long_more = omega (arith, length-append file more)

  -- the tests of its span
  span_below : (id : ℕ) → id < meta.high_water → span_fault (file ++ more) meta id ≡ span_fault file meta id
  unfolding span_fault
  span_below id below = grind (arith, field_more, flags_more, overflow_more, le-ltb, header_in, long_more, cases_lt, end_in)

  span_above : (id : ℕ) → meta.high_water ≤ id → span_fault (file ++ more) meta id ≡ span_fault file meta id
  unfolding span_fault
  span_above id above = rw (le-leb meta.high_water id above) refl

  pub span_more : (id : ℕ) → span_fault (file ++ more) meta id ≡ span_fault file meta id
  span_more id = elim (cases_lt id meta.high_water) [ inl below ↦ span_below id below | inr above ↦ span_above id above ]

  pub below_of : (id : ℕ) → span_fault file meta id ≡ None → id < meta.high_water
  below_of id passed = omega (arith, (span_within file meta id passed).0)

  -- the bytes of a span that passes
  pub bytes_more : (id : ℕ) → span_fault file meta id ≡ None → span_bytes (file ++ more) meta id ≡ span_bytes file meta id
  bytes_more id passed = grind (arith, end_in, span_within, header_in, below_of, overflow_more, from_more, take-append-le, length-drop)

  -- all tests, and what the page shows
  fault_by : (id : ℕ) (o : Option ℕ) → span_fault file meta id ≡ o → page_fault (file ++ more) meta id ≡ page_fault file meta id
  unfolding page_fault
  fault_by id (Some fault) is = rw (span_more id, is) refl
  fault_by id None is = rw (span_more id, is, flags_more id (below_of id is), count_more id (below_of id is), bytes_more id is) refl

  pub fault_more : (id : ℕ) → page_fault (file ++ more) meta id ≡ page_fault file meta id
  fault_more id = fault_by id (span_fault file meta id) refl

  failed_by : (id fault : ℕ) → span_fault file meta id ≡ Some fault → page_fault file meta id ≡ Some fault
  unfolding page_fault
  failed_by id fault is = rw is refl

  shown_by : (id : ℕ) (o : Option ℕ) → span_fault file meta id ≡ o → page_at (file ++ more) meta id ≡ page_at file meta id
  unfolding page_at
  shown_by id (Some fault) is = rw (fault_more id, failed_by id fault is) refl
  shown_by id None is =
      rw (fault_more id, bytes_more id is, flags_more id (below_of id is), count_more id (below_of id is), overflow_more id (below_of id is)) refl

  pub shown_more : (id : ℕ) → page_at (file ++ more) meta id ≡ page_at file meta id
  shown_more id = shown_by id (span_fault file meta id) refl
