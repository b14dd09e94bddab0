-- Worked layouts: the whole bytes by their checksum, the root page, the mark and
-- the items held at most. The figures are those of another program that goes by
-- docs/LAYOUT.md.
use Rattle.std.proofs.Common.{◌≡◌, ◌==◌, ℕ, ◌+◌, ◌/◌, ◌%◌, if◌then◌else◌, List, [], ◌∷◌, replicate, refl}
use Rattle.bolt_layout.proofs.Words.{Balanced, branch_bytes, branch_header, end, fnv_of, fnv_step, freelist_page, head_bytes, header_bytes}
use Rattle.bolt_layout.proofs.Words.{inline_value, Layout, layout_held, layout_high_water, layout_of, layout_root, leaf_bytes, leaf_header}
use Rattle.bolt_layout.proofs.Words.{meta_bytes, meta_page, meta_record, number_bytes, overflow_of, page_bytes, Plain, range_with_len, root_of}
use Rattle.bolt_layout.proofs.Words.{root_over, Tree, with_bucket, with_value}

abbrev IsWorked : Layout → (page_size : ℕ) → Tree → (sequence sum root high_water held : ℕ) → Type 0
IsWorked which page_size tree sequence sum root high_water held =
    ◌≡◌ {A = ℕ × ℕ × ℕ × ℕ} (
      fnv_of (layout_of which page_size tree sequence),
      layout_root which page_size tree,
      layout_high_water which page_size tree,
      layout_held which page_size tree,
    ) (sum, root, high_water, held)

-- values of 82 bytes under keys of two digits
abbrev digits : List ℕ → Tree
digits [] = end
digits (n ∷ numbers) = with_value ((48 + n / 10) ∷ (48 + n % 10) ∷ []) (replicate 82 120) (digits numbers)

abbrev pub no_entries : Tree
no_entries = end

-- an inline bucket with one value
abbrev pub one_inline : Tree
one_inline = with_bucket (98 ∷ []) 0 (with_value (107 ∷ 49 ∷ []) (118 ∷ 49 ∷ []) end) end

-- an empty bucket with a sequence
abbrev pub empty_bucket : Tree
empty_bucket = with_bucket (98 ∷ []) 7 end end

-- a page that its one value fills, and one byte more
abbrev pub filled_page : Tree
filled_page = with_bucket (98 ∷ []) 0 (with_value (107 ∷ []) (replicate 4063 118) end) end

abbrev pub overfull_page : Tree
overfull_page = with_bucket (98 ∷ []) 0 (with_value (107 ∷ []) (replicate 4064 118) end) end

-- an inline bucket of a quarter of the page size, and one byte more
abbrev pub quarter_page : Tree
quarter_page = with_bucket (98 ∷ []) 0 (with_value (107 ∷ []) (replicate 991 118) end) end

abbrev pub past_quarter : Tree
past_quarter = with_bucket (98 ∷ []) 0 (with_value (107 ∷ []) (replicate 992 118) end) end

-- forty values of 82 bytes: four leaves, and a branch over them
abbrev pub forty_values : Tree
forty_values = with_bucket (98 ∷ []) 0 (digits (range_with_len 0 40)) end

-- a bucket with a root page in another
abbrev pub bucket_in_bucket : Tree
bucket_in_bucket = with_bucket (97 ∷ []) 0 (with_bucket (99 ∷ []) 0 (with_value (107 ∷ []) (replicate 300 120) end) end) end

-- keys of 500 bytes: branches with an overflow, and one with a single child
abbrev pub long_keys : Tree
long_keys =
    with_bucket (98 ∷ []) 0
    (with_value (49 ∷ replicate 499 107) (replicate 400 120)
    (with_value (50 ∷ replicate 499 107) (replicate 400 120) (with_value (51 ∷ replicate 499 107) (replicate 400 120) end))) end

-- more of them: seven leaves under three levels of branches, and eleven, where the row of branches over the first row of branches loses an item too
abbrev long_values : List ℕ → Tree
long_values [] = end
long_values (n ∷ numbers) = with_value ((48 + n) ∷ replicate 499 107) (replicate 400 120) (long_values numbers)

abbrev seven_leaves : Tree
seven_leaves = with_bucket (98 ∷ []) 0 (long_values (range_with_len 0 7)) end

abbrev eleven_leaves : Tree
eleven_leaves = with_bucket (98 ∷ []) 0 (long_values (range_with_len 0 11)) end

-- a leaf that is full with a bucket that it holds, and one byte more
abbrev pub filled_leaf : Tree
filled_leaf =
    with_bucket (98 ∷ []) 0 (with_value (97 ∷ []) (replicate 958 120) (with_bucket (99 ∷ []) 0 (with_value (107 ∷ []) (replicate 300 120) end) end)) end

abbrev pub overfull_leaf : Tree
overfull_leaf =
    with_bucket (98 ∷ []) 0 (with_value (97 ∷ []) (replicate 959 120) (with_bucket (99 ∷ []) 0 (with_value (107 ∷ []) (replicate 300 120) end) end)) end

-- inline buckets and others, in one another, with sequences
abbrev pub many_buckets : Tree
many_buckets =
    with_bucket (97 ∷ []) 3
    (with_bucket (120 ∷ []) 9 (with_value (107 ∷ []) (replicate 300 118) end) (with_value (121 ∷ []) (49 ∷ []) (with_bucket (122 ∷ []) 2 end end)))
    (with_bucket (97 ∷ 97 ∷ []) 0 end
    (with_value (98 ∷ []) [] (with_bucket (99 ∷ []) 18446744073709551615 (with_value (113 ∷ []) (replicate 2000 119) end) end)))

-- a hundred entries, among them buckets of both kinds, below three levels
abbrev entries : List ℕ → Tree
entries [] = end
entries (n ∷ numbers) =
    let key = (48 + n / 10) ∷ (48 + n % 10) ∷ replicate 58 107 in
    let large = with_bucket key n (with_value (107 ∷ []) (replicate 300 118) end) (entries numbers) in
    let small = with_bucket key n (with_value (107 ∷ []) (n ∷ []) end) (entries numbers) in
    if n % 17 == 0 then large else (if n % 10 == 3 then small else with_value key (replicate 100 n) (entries numbers))

abbrev hundred : Tree
hundred = entries (range_with_len 0 100)

layouts_are :
    IsWorked Plain 4096 no_entries 0 9737331009492300045 3 4 0
    × IsWorked Plain 4096 one_inline 0 8906171419981019676 3 4 1
    × IsWorked Plain 4096 empty_bucket 0 4442632031782585997 3 4 1
    × IsWorked Plain 4096 filled_page 0 376389502935461466 4 5 1
    × IsWorked Plain 4096 overfull_page 0 4884421998806214021 5 6 1
    × IsWorked Plain 4096 quarter_page 0 14303106919727609673 3 4 1
    × IsWorked Plain 4096 past_quarter 0 7749995516879663027 4 5 1
    × IsWorked Plain 1024 forty_values 0 9336260530764483405 8 9 13
    × IsWorked Plain 1024 bucket_in_bucket 0 2346231677177009335 5 6 1
    × IsWorked Plain 1024 long_keys 0 16207058772857379024 11 12 2
    × IsWorked Plain 1024 filled_leaf 0 2990879556654988314 5 6 2
    × IsWorked Plain 1024 overfull_leaf 0 6573129876057791784 7 8 2
    × IsWorked Plain 1024 many_buckets 5 11628926834878968518 7 8 4
    × IsWorked Plain 1024 hundred 77 18415106701196619101 29 30 18
    × IsWorked Balanced 1024 hundred 77 18415106701196619101 29 30 18
    × IsWorked Balanced 1024 long_keys 0 12246013417431415610 8 9 3
    × IsWorked Plain 1024 seven_leaves 0 14856600821584319613 23 24 3
    × IsWorked Balanced 1024 seven_leaves 0 10409730401809140747 18 19 5
    × IsWorked Plain 1024 eleven_leaves 0 8461296673094134919 36 37 4
    × IsWorked Balanced 1024 eleven_leaves 0 8172358324331492310 30 31 6
unfolding fnv_of fnv_step overflow_of root_of root_over layout_of branch_bytes branch_header freelist_page header_bytes inline_value leaf_bytes leaf_header meta_bytes meta_page meta_record number_bytes page_bytes head_bytes
layouts_are = (refl, refl, refl, refl, refl, refl, refl, refl, refl, refl, refl, refl, refl, refl, refl, refl, refl, refl, refl, refl)
