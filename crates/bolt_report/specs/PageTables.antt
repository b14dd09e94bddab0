-- The table of all pages of a file: docs/COMMANDS.md, "pages".
-- What is promised of the table is promised for the roles of the pages; each page below the mark has exactly one.
use Rattle.std.specs.Prelude.{◌==◌, ◌-◌, ℕ, List, [], ◌++◌, Bool, true, false, Option, Some, None, codes, count_by, decimal, flat_map, if◌then◌else◌}
use Rattle.std.specs.Prelude.{length, min}
use Rattle.std.specs.{Int.div_ceil, List.range_with_len}
use Rattle.bolt_format.specs.{Freelists.free_ids_at, Pages.PageView, Pages.page_at, declared.meta.Meta.Meta}
use Rattle.bolt_check.specs.{CheckedFiles.bytes_of, CheckedFiles.meta_of, Roles.AreRoles, declared.checked.Checked.Checked}
use Rattle.bolt_check.specs.{declared.role_table.Role.Role}
use Rattle.bolt_check.specs.declared.role_table.Role.TheVariants as role
use Rattle.bolt_text.specs.Lines.{column, line}

-- a row of the table: four columns with a space between them
unfoldable pub row : (id kind items overflow : List ℕ) → List ℕ
row id kind items overflow = line (column 8 id ++ codes " " ++ column 10 kind ++ codes " " ++ column 6 items ++ codes " " ++ column 6 overflow)

abbrev pub head_rows : List ℕ
head_rows =
    row (codes "ID") (codes "TYPE") (codes "ITEMS") (codes "OVRFLW")
    ++ row (codes "========") (codes "==========") (codes "======") (codes "======")

-- an overflow of 0 is omitted
abbrev pub overflow_text : ℕ → List ℕ
overflow_text overflow = if overflow == 0 then [] else decimal overflow

-- the row of a page that shows something
abbrev pub shown_row : (n : ℕ) (kind : List ℕ) (items : PageView → ℕ) → Option PageView → List ℕ
shown_row n kind items (Some view) = row (decimal n) kind (decimal (items view)) (overflow_text view.overflow)
shown_row n kind items None = []

-- The row of page n: its kind, its number of items, and the overflow of a branch, a leaf or the freelist. A later page of a span has none.
abbrev pub page_row : List ℕ → Meta → ℕ → Role → List ℕ
page_row file meta n role.Meta = row (decimal n) (codes "meta") (decimal 0) []
page_row file meta n role.Branch = shown_row n (codes "branch") (λ view. view.count) (page_at file meta n)
page_row file meta n role.Leaf = shown_row n (codes "leaf") (λ view. view.count) (page_at file meta n)
page_row file meta n role.Freelist = shown_row n (codes "freelist") (λ view. length (free_ids_at file meta n)) (page_at file meta n)
page_row file meta n role.Inside = []
page_row file meta n role.Free = row (decimal n) (codes "free") [] []

abbrev pub is_free : Role → Bool
is_free role.Free = true
is_free _ = false

-- how many pages begin in the file
abbrev pub begun : List ℕ → Meta → ℕ
begun file meta = div_ceil (length file) meta.page_size

-- the pages that begin in the file and lie below the mark
abbrev pub pages_in : List ℕ → Meta → List ℕ
pages_in file meta = range_with_len 0 (min (begun file meta) meta.high_water)

-- the pages below the mark that begin at the file's end or past it
abbrev pub pages_past : List ℕ → Meta → List ℕ
pages_past file meta = range_with_len (begun file meta) (meta.high_water - begun file meta)

-- the line with the number of free pages past the end of the file, or no line if there are none
abbrev pub past_line : ℕ → List ℕ
past_line count = if count == 0 then [] else decimal count ++ codes " free pages past the end of the file\n"

-- the head, a row for each page in the file, and how many free pages are past its end
abbrev pub pages_text : List ℕ → Meta → (ℕ → Role) → List ℕ
pages_text file meta roles =
    head_rows
    ++ (flat_map (λ n. page_row file meta n (roles n)) (pages_in file meta)
    ++ past_line (count_by (λ n. is_free (roles n)) (pages_past file meta)))

-- ---- the table of a file that passed its tests

abbrev pub table_text : Checked → (ℕ → Role) → List ℕ
table_text checked roles = pages_text (bytes_of checked) (meta_of checked) roles

abbrev pub table_rows : Checked → (ℕ → Role) → List ℕ
table_rows checked roles = flat_map (λ n. page_row (bytes_of checked) (meta_of checked) n (roles n)) (pages_in (bytes_of checked) (meta_of checked))

abbrev pub free_past : Checked → (ℕ → Role) → ℕ
free_past checked roles = count_by (λ n. is_free (roles n)) (pages_past (bytes_of checked) (meta_of checked))

-- the row of a page with items
abbrev pub items_row : Checked → ℕ → (kind : List ℕ) → List ℕ
items_row checked n kind = shown_row n kind (λ view. view.count) (page_at (bytes_of checked) (meta_of checked) n)

-- a property holds of the roles of a file's pages
abbrev pub ForRoles : Checked → ((ℕ → Role) → Type 0) → Type 0
ForRoles checked P = (roles : ℕ → Role) → AreRoles (bytes_of checked) (meta_of checked) roles → P roles
