-- The limits that follow from what is noted of the plain rows are those of the balanced ones. For this the keys and sizes of the pages are
-- compared, row by row.
use Rattle.std.proofs.{lemmas.Grind.common_steps, lemmas.Bool.and_cases, lemmas.Bool.eqb-false, lemmas.Bool.eqb-true}
use Rattle.std.proofs.Common.{◌≡◌, ◌≢◌, ◌∙◌, ◌⊎◌, ◌++◌, ◌-◌, ◌≤◌, ◌==◌, ◌&&◌, ℕ, zero, suc, nat_lt, Bool, true, false, List, [], ◌∷◌, length, map}
use Rattle.std.proofs.Common.{Option, Some, None, refl, sym, ap, subst, inl, inr, arith}
use Rattle.bolt_lemmas.proofs.Exports.{all_weaker}
use Rattle.bolt_layout.proofs.Words.{AllByRecursion, and_parts, AreRowEnds, Balanced, branch_cut, BranchElement, cases_Bool, cut_of, cut_row}
use Rattle.bolt_layout.proofs.Words.{HaveRightLimits, IsPageRun, join_last, Laid, last_length, length-map, length_push, limit_at, limits_from_ends}
use Rattle.bolt_layout.proofs.Words.{ltb-false, ltb-true, map-append, ne_eqb, next_level, Plain, size_of}
use Rattle.bolt_layout.proofs.{Cutting.cut_divides, Faces.Face, Faces.face, Faces.face_size, Faces.map_cut, Faces.map_last, Faces.next_faces}
use Rattle.bolt_layout.proofs.{Faces.top_face}
use Rattle.bolt_layout.proofs.LastItem.{HasItem, IsPushed, cut_pushed, join_none, join_tops, last_append, last_some, push_counts, push_last}
use Rattle.bolt_layout.proofs.LastItem.{push_tops, some_runs}
use Rattle.bolt_layout.proofs.{LimitedRows.IsLimit, LimitedRows.row_limited}
use Rattle.bolt_layout.specs.Limits.{level_up}

-- A row of the balanced layout is that of the plain one, or lacks its last page.
abbrev Lost : Bool → (plain balanced : List Face) → Type 0
Lost false plain balanced = plain ≡ balanced
Lost true plain balanced = (last : Face) × (plain ≡ balanced ++ last ∷ [])

-- What is noted of a plain row gives the limit of the balanced one, which is cut into these runs when nothing is joined, and says whether
-- the row above lacks its last page.
record IsRow (lost : Bool) (row : ℕ × ℕ) (runs : List (List Face)) (above : List Face) : Type 0 where
  limit : Option ℕ
  next : Bool
  noted : (rows : List (ℕ × ℕ)) → limits_from_ends lost (row ∷ rows) ≡ limit ∷ limits_from_ends next rows
  right : IsLimit (length runs) (last_length runs) limit
  above_lost : Lost next above (map top_face (join_last runs))

top_front : (run more : List Face) → HasItem run → top_face (run ++ more) ≡ top_face run
top_front run more some = grind arith

-- where the last run joins the one before it
joined_row : (lost : Bool) (row : ℕ × ℕ) (runs : List (List Face)) (above : List Face)
    → ((rows : List (ℕ × ℕ)) → limits_from_ends lost (row ∷ rows) ≡ Some (row.0 - 2) ∷ limits_from_ends true rows) → AllByRecursion HasItem runs
    → row.0 ≡ length runs → last_length runs ≡ 1 → 2 ≤ length runs → above ≡ map top_face runs → IsRow lost row runs above
joined_row lost row runs above noted all r one two same =
    let (last, tops) = join_tops top_face top_front runs all one two in
    record {
      limit = Some (row.0 - 2);
      next = true;
      noted = noted;
      right = inr (ap (λ (n : ℕ). Some (n - 2)) r, one, two);
      above_lost = (last, same ∙ tops);
    }

-- and where no run does
kept_row : (lost : Bool) (row : ℕ × ℕ) (runs : List (List Face)) (above : List Face)
    → ((rows : List (ℕ × ℕ)) → limits_from_ends lost (row ∷ rows) ≡ None ∷ limits_from_ends false rows) → (2 ≤ last_length runs) ⊎ (length runs ≤ 1)
    → above ≡ map top_face runs → IsRow lost row runs above
kept_row lost row runs above noted long same = grind (arith, join_none)

-- Where no page is lost, what is noted is of this row.
whole_row : (row : ℕ × ℕ) (runs : List (List Face)) → AllByRecursion HasItem runs → 1 ≤ length runs → row.0 ≡ length runs → row.1 ≡ last_length runs
    → IsRow false row runs (map top_face runs)
whole_row row runs all some r m = elim (cases_Bool (row.1 == 1 && nat_lt 1 row.0)) [
  | inl t ↦
      (let tests = and_parts (row.1 == 1) (nat_lt 1 row.0) t in
      let one = eqb-true row.1 1 tests.0 in
      let two = ltb-true 1 row.0 tests.1 in
      joined_row false row runs (map top_face runs) (λ rows. rw t refl) all r (omega arith) (omega arith) refl)
  | inr f ↦
      (let any = last_some runs all some in
      let long : (2 ≤ last_length runs) ⊎ (length runs ≤ 1) = elim (and_cases (row.1 == 1) (nat_lt 1 row.0) f) [
        | inl u ↦ inl (let other : row.1 ≢ 1 = eqb-false row.1 1 u in omega arith)
        | inr u ↦ inr (let few = ltb-false 1 row.0 u in omega arith)
      ] in
      kept_row false row runs (map top_face runs) (λ rows. rw f refl) long refl)
]

-- Where one is lost, what is noted is of a row with one page more: this joins the last run,
pushed_row : (row : ℕ × ℕ) (runs more : List (List Face)) (last : Face) → AllByRecursion HasItem runs → 1 ≤ length runs → more ≡ push_last runs last
    → row.0 ≡ length more → row.1 ≡ last_length more → IsRow true row runs (map top_face more)
pushed_row row runs more last all some e r m =
    let counts = push_counts runs last some in
    let any = last_some runs all some in
    let r2 : row.0 ≡ length runs = r ∙ (ap (λ (rs : List (List Face)). length rs) e ∙ counts.0) in
    let m2 : row.1 ≡ suc (last_length runs) = m ∙ (ap (λ (rs : List (List Face)). last_length rs) e ∙ counts.1) in
    let same : map top_face more ≡ map top_face runs = ap (λ (rs : List (List Face)). map top_face rs) e ∙ push_tops top_face top_front runs last all some in
    let u : (row.1 == 1) ≡ false = ne_eqb row.1 1 (λ one. omega arith) in
    elim (cases_Bool (row.1 == 2 && nat_lt 1 row.0)) [
      | inl t ↦
          (let tests = and_parts (row.1 == 2) (nat_lt 1 row.0) t in
          let two = eqb-true row.1 2 tests.0 in
          let many = ltb-true 1 row.0 tests.1 in
          joined_row true row runs (map top_face more) (λ rows. rw (u, t) refl) all r2 (omega arith) (omega arith) same)
      | inr f ↦
          (let long : (2 ≤ last_length runs) ⊎ (length runs ≤ 1) = elim (and_cases (row.1 == 2) (nat_lt 1 row.0) f) [
            | inl v ↦ inl (let other : row.1 ≢ 2 = eqb-false row.1 2 v in omega arith)
            | inr v ↦ inr (let few = ltb-false 1 row.0 v in omega arith)
          ] in
          kept_row true row runs (map top_face more) (λ rows. rw (u, f) refl) long same)
    ]

-- or is a run of its own.
alone_row : (row : ℕ × ℕ) (runs more : List (List Face)) (last : Face) → more ≡ runs ++ (last ∷ []) ∷ [] → 2 ≤ last_length runs
    → row.1 ≡ last_length more → IsRow true row runs (map top_face more)
alone_row row runs more last e two m = grind (arith, last_append runs (last ∷ []), map-append top_face runs ((last ∷ []) ∷ []), join_none runs (inl two))

lost_row : (row : ℕ × ℕ) (runs more : List (List Face)) (last : Face) → AllByRecursion HasItem runs → 1 ≤ length runs → IsPushed runs last more
    → row.0 ≡ length more → row.1 ≡ last_length more → IsRow true row runs (map top_face more)
lost_row row runs more last all some is r m = grind (arith, pushed_row, alone_row)

-- Either way, by the cut of the plain row.
cut_items : (page_size : ℕ) (faces : List Face) → AllByRecursion HasItem (cut_of page_size 2 face_size faces)
cut_items page_size faces =
    let divided = cut_divides page_size 2 2 0 face_size faces (omega arith) (omega arith) (omega arith) in
    all_weaker (IsPageRun page_size 2 0 face_size) HasItem (λ run is. is.some) (cut_of page_size 2 face_size faces) divided.each

limit_of_row : (page_size : ℕ) (lost : Bool) (row : ℕ × ℕ) (plain balanced : List Face) → Lost lost plain balanced → 2 ≤ length plain
    → row.0 ≡ length (cut_of page_size 2 face_size plain) → row.1 ≡ last_length (cut_of page_size 2 face_size plain)
    → IsRow lost row (cut_of page_size 2 face_size balanced) (map top_face (cut_of page_size 2 face_size plain))
limit_of_row page_size lost row plain balanced same two r m = grind (arith, face_size, whole_row, cut_items, cut_pushed, lost_row, some_runs)

-- A row of one page, and the rows above it, are cut alike.
next_short : (page_size : ℕ) (pages : List (Laid BranchElement)) → length pages ≤ 1 → length (next_level Balanced page_size pages) ≤ 1
next_short page_size pages few = grind (arith, common_steps)

short_row : (page_size : ℕ) (pages : List (Laid BranchElement)) → length pages ≤ 1
    → cut_row page_size size_of None pages ≡ branch_cut Balanced page_size size_of pages
short_row page_size pages few = grind (arith, common_steps)

short_rows : (page_size k : ℕ) (pages : List (Laid BranchElement)) → length pages ≤ 1
    → cut_row page_size size_of None (level_up Balanced page_size k pages) ≡ branch_cut Balanced page_size size_of (level_up Balanced page_size k pages)
short_rows page_size zero pages few = short_row page_size pages few
short_rows page_size (suc k) pages few = short_rows page_size k (next_level Balanced page_size pages) (next_short page_size pages few)

-- The lengths of a cut are those of the cut of the keys and sizes.
face_cut : (page_size : ℕ) (pages : List (Laid BranchElement))
    → (length (cut_of page_size 2 size_of pages) ≡ length (cut_of page_size 2 face_size (map face pages)))
    × (last_length (cut_of page_size 2 size_of pages) ≡ last_length (cut_of page_size 2 face_size (map face pages)))
face_cut page_size pages =
    let runs = cut_of page_size 2 size_of pages in
    let same = map_cut face page_size 2 face_size pages in (
      sym (length-map runs (map face)) ∙ ap (λ (rs : List (List Face)). length rs) same,
      sym (map_last face runs) ∙ ap (λ (rs : List (List Face)). last_length rs) same,
    )

rows_at : (page_size : ℕ) (limits : List (Option ℕ)) (limit : Option ℕ) (pages : List (Laid BranchElement))
    → cut_row page_size size_of limit pages ≡ branch_cut Balanced page_size size_of pages
    → HaveRightLimits Balanced page_size (limit_at limits) (next_level Balanced page_size pages)
    → HaveRightLimits Balanced page_size (limit_at (limit ∷ limits)) pages
rows_at page_size limits limit pages first above k = grind arith

rows_limited : (page_size : ℕ) (rows : List (ℕ × ℕ)) (lost : Bool) (plain balanced : List (Laid BranchElement)) → AreRowEnds page_size plain rows
    → Lost lost (map face plain) (map face balanced) → HaveRightLimits Balanced page_size (limit_at (limits_from_ends lost rows)) balanced
rows_limited page_size [] lost plain balanced few lacks k = grind (arith, length-map, short_rows, length_push)
rows_limited page_size (row ∷ rows) lost plain balanced (two, r, m, noted) lacks k =
    let a = length-map plain face in
    let of_plain = face_cut page_size plain in
    let of_balanced = face_cut page_size balanced in
    let is = limit_of_row page_size lost row (map face plain) (map face balanced) lacks (omega arith) (r ∙ of_plain.0) (m ∙ of_plain.1) in
    let above : Lost is.next (map face (next_level Plain page_size plain)) (map face (next_level Balanced page_size balanced)) =
    subst (λ (fs : List Face). Lost is.next fs (map face (next_level Balanced page_size balanced))) (sym (next_faces Plain page_size plain))
    (subst (λ (fs : List Face). Lost is.next (map top_face (cut_of page_size 2 face_size (map face plain))) fs)
    (sym (next_faces Balanced page_size balanced)) is.above_lost) in
    let right : IsLimit (length (cut_of page_size 2 size_of balanced)) (last_length (cut_of page_size 2 size_of balanced)) is.limit =
    rw (of_balanced.0, of_balanced.1) is.right in
    rw (is.noted rows) (rows_at page_size (limits_from_ends is.next rows) is.limit balanced (row_limited page_size size_of is.limit balanced right)
    (rows_limited page_size rows is.next (next_level Plain page_size plain) (next_level Balanced page_size balanced) noted above) k)

-- They are right for each row of pages with the same keys and sizes,
pub limits_alike : (page_size : ℕ) (plain balanced : List (Laid BranchElement)) (rows : List (ℕ × ℕ)) → AreRowEnds page_size plain rows
    → map face plain ≡ map face balanced
    → HaveRightLimits Balanced page_size (limit_at (limits_from_ends false rows)) balanced
limits_alike page_size plain balanced rows noted same = rows_limited page_size rows false plain balanced noted same
