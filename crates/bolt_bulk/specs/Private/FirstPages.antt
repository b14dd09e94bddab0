-- The pages that precede those of the buckets: docs/LAYOUT.md, "Bytes".
use Rattle.std.specs.Prelude.{ℕ, List, ◌++◌}
use Rattle.bolt_layout.specs.PageBytes.{freelist_page, meta_page}

abbrev pub first_pages : (page_size root sequence high_water : ℕ) → List ℕ
first_pages page_size root sequence high_water =
    meta_page page_size root sequence high_water 0 ++ (meta_page page_size root sequence high_water 1 ++ freelist_page page_size 2)
