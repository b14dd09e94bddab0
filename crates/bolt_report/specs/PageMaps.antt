-- The map of all pages of a file: docs/COMMANDS.md, "pages".
-- What is promised of the map is promised for the roles of the pages; each page below the mark has exactly one.
use Rattle.std.specs.Prelude.{◌*◌, ◌-◌, ℕ, List, ◌++◌, codes, count_by, decimal, flat_map, length, map, min}
use Rattle.std.specs.{Int.div_ceil, List.range_with_len}
use Rattle.bolt_format.specs.declared.meta.Meta.{Meta}
use Rattle.bolt_check.specs.{CheckedFiles.bytes_of, CheckedFiles.meta_of, declared.checked.Checked.Checked, declared.role_table.Role.Role}
use Rattle.bolt_check.specs.declared.role_table.Role.TheVariants as role
use Rattle.bolt_text.specs.Lines.{column, line}
use Rattle.bolt_report.specs.PageTables.{is_free, pages_in, pages_past, past_line}

-- the character of a page: M, B, L, F, + for a later page of a span, and . if it is free
abbrev pub page_mark : Role → ℕ
page_mark role.Meta = 0x4D
page_mark role.Branch = 0x42
page_mark role.Leaf = 0x4C
page_mark role.Freelist = 0x46
page_mark role.Inside = 0x2B
page_mark role.Free = 0x2E

-- the line of so many pages from `first` on: the number of the first one, and a character for each
unfoldable pub map_line : (ℕ → Role) → (first count : ℕ) → List ℕ
map_line roles first count = line (column 8 (decimal first) ++ codes " " ++ map (λ n. page_mark (roles n)) (range_with_len first count))

-- Line k of the first `pages` pages: 64 of them from page 64 * k on, or those that are left.
abbrev pub line_at : (ℕ → Role) → (pages k : ℕ) → List ℕ
line_at roles pages k = map_line roles (64 * k) (min 64 (pages - 64 * k))

-- the lines of the first `pages` pages, as many as have a page
abbrev pub map_lines : (ℕ → Role) → (pages : ℕ) → List ℕ
map_lines roles pages = flat_map (line_at roles pages) (range_with_len 0 (div_ceil pages 64))

-- the lines of the pages in the file, and how many free pages are past its end
abbrev pub map_text : List ℕ → Meta → (ℕ → Role) → List ℕ
map_text file meta roles =
    map_lines roles (length (pages_in file meta)) ++ past_line (count_by (λ n. is_free (roles n)) (pages_past file meta))

-- ---- the map of a file that passed its tests

abbrev pub map_of : Checked → (ℕ → Role) → List ℕ
map_of checked roles = map_text (bytes_of checked) (meta_of checked) roles

-- the first part of the map of a checked file, its lines
abbrev pub lines_of : Checked → (ℕ → Role) → List ℕ
lines_of checked roles = map_lines roles (length (pages_in (bytes_of checked) (meta_of checked)))
