-- The rows of pages by their roles, the lines of a map, and the free pages past the file's end.
use Rattle.std.proofs.Common.{◌≡◌, ◌∙◌, ℕ, zero, suc, ◌+◌, ◌-◌, ◌<◌, ◌≤◌, true, List, Some, cond, length, min, ap, refl, slice_get, sym, arith, ◌*◌}
use Rattle.std.specs.Prelude.{count_by}
use Rattle.bolt_report.proofs.Words.{bytes_of, Checked, div_ceil, length-range_with_len, line_at, map_line, Meta, meta_of, props, range_with_len}
use Rattle.bolt_report.proofs.Words.{slice_get-get_or, sum_by-cons, ∥∥₁_elim}
use mathlib.Core.Sum.{⊎_set}
use Rattle.std.proofs.{Math.Nat.mul-le-mul_right, lemmas.Grind.div_ceil_times, lemmas.List.FromFn.get_or-range_with_len}
use Rattle.bolt_check.specs.{CheckedFiles.has_accounts, Roles.AreRoles, Roles.HasRole, declared.role_table.Role.Role}
use Rattle.bolt_check.specs.declared.role_table.Role.TheVariants as role
use Rattle.bolt_check.proofs.Exports.{one_role, past_is_free, size_positive, with_accounts}
use Rattle.bolt_report.specs.PageTables.{begun, is_free, page_row, pages_in, pages_past}

-- where each of these pages is free, as many are free as there are
all_free : (roles : ℕ → Role) (from n : ℕ) → ((k : ℕ) → from ≤ k → k < from + n → roles k ≡ role.Free)
    → count_by (λ k. is_free (roles k)) (range_with_len from n) ≡ n
all_free roles from zero free = refl
all_free roles from (suc n) free =
    let here : roles from ≡ role.Free = free from (omega arith) (omega arith) in
    let rest = all_free roles (from + 1) n (λ k low high. free k (omega (arith, low)) (omega (arith, high))) in
    let value : Role → ℕ = λ r. cond (is_free r) 1 0 in
    let one : value (roles from) ≡ value role.Free = ap value here in
    sum_by-cons (λ k. cond (is_free (roles k)) 1 0) from (range_with_len (from + 1) n) ∙ omega (arith, one, rest)

-- the numbers below n, in order
pub number_at_place : (n i : ℕ) → i < n → slice_get (range_with_len 0 n) i ≡ Some i
number_at_place n i below =
    slice_get-get_or (range_with_len 0 n) i 0 (omega (arith, below, length-range_with_len 0 n))
    ∙ ap (λ k. Some k) (get_or-range_with_len 0 n i 0 below ∙ omega arith)

-- the row of a page by its role, and the pages that have one
abbrev pub row_of : Checked → (ℕ → Role) → ℕ → List ℕ
row_of checked roles n = page_row (bytes_of checked) (meta_of checked) n (roles n)

abbrev pub rows_in : Checked → List ℕ
rows_in checked = pages_in (bytes_of checked) (meta_of checked)

module _ (checked : Checked) (is : has_accounts checked ≡ true) where
  abbrev file : List ℕ
  file = bytes_of checked

  abbrev meta : Meta
  meta = meta_of checked

  pub positive : 0 < meta.page_size
  positive = with_accounts checked (0 < meta.page_size) is (Prim.hlevel props) (λ sound. size_positive file meta sound)

  -- all pages from the file's end on are free
  pub counts_past : (roles : ℕ → Role) → AreRoles file meta roles
      → meta.high_water - begun file meta ≡ count_by (λ n. is_free (roles n)) (pages_past file meta)
  counts_past roles are = with_accounts checked _ is (Prim.hlevel props) (λ sound.
      let ends = (div_ceil_times (length file) meta.page_size positive).0 in
      sym (all_free roles (begun file meta) (meta.high_water - begun file meta) (λ k low high.
      let more = mul-le-mul_right meta.page_size low in
      past_is_free file meta sound k (roles k) (are k (omega (arith, low, high))) (omega (arith, ends, more)))))

  -- a role that was found
  pub same_role : (roles : ℕ → Role) → AreRoles file meta roles → (n : ℕ) (found : Role) → n < meta.high_water → ∥ HasRole file meta n found ∥₁
      → found ≡ roles n
  same_role roles are n found below has =
      with_accounts checked _ is (Prim.hlevel (props, ⊎_set))
      (λ sound. ∥∥₁_elim has (Prim.hlevel (props, ⊎_set)) (λ h. one_role file meta sound n found (roles n) h (are n below)))

  -- a page in the file: its place among these, and its row
  pub next_row : (roles : ℕ → Role) → AreRoles file meta roles → (n : ℕ) (found : Role) → n < length (rows_in checked)
      → ∥ HasRole file meta n found ∥₁
      → (slice_get (rows_in checked) n ≡ Some n) × (page_row file meta n found ≡ row_of checked roles n)
  next_row roles are n found within has =
      let pages : ℕ = min (begun file meta) meta.high_water in
      let below : n < pages = omega (arith, within, length-range_with_len 0 pages) in
      (number_at_place pages n below, ap (page_row file meta n) (same_role roles are n found (omega (arith, below)) has))

-- each line has a page
pub starts_below : (pages k : ℕ) → k < div_ceil pages 64 → 64 * k < pages
starts_below pages k below = let ends = (div_ceil_times pages 64 (omega arith)).1 in omega (arith, ends, below)

-- the pages in the file lie below the mark
pub fits_below : (file : List ℕ) (meta : Meta) → length (pages_in file meta) ≤ meta.high_water
fits_below file meta = let count = length-range_with_len 0 (min (begun file meta) meta.high_water) in omega (arith, count)

-- the next line: its place among these, and its text
pub next_line : (roles : ℕ → Role) (pages line count : ℕ) → line < div_ceil pages 64 → count ≡ min 64 (pages - 64 * line)
    → (slice_get (range_with_len 0 (div_ceil pages 64)) line ≡ Some line)
    × (map_line roles (64 * line) (64 * line + count - 64 * line) ≡ line_at roles pages line)
next_line roles pages line count below is = (number_at_place (div_ceil pages 64) line below, ap (map_line roles (64 * line)) (omega (arith, is)))
