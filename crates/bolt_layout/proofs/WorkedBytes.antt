-- The bytes of worked layouts, each at its place.
use Rattle.std.proofs.Common.{◌≡◌, ◌/◌, ◌%◌, ◌^◌, ℕ, zero, suc, List, [], ◌∷◌, ◌++◌, length, take, drop, refl}
use Rattle.bolt_layout.proofs.Words.{branch_bytes, branch_header, fnv_of, fnv_step, freelist_page, head_bytes, header_bytes, inline_value, layout_of}
use Rattle.bolt_layout.proofs.Words.{leaf_bytes, leaf_header, meta_bytes, meta_page, meta_record, number_bytes, overflow_of, page_bytes, Plain}
use Rattle.bolt_layout.proofs.Words.{root_of, root_over}
use Rattle.bolt_layout.proofs.WorkedLayouts.{no_entries, one_inline, empty_bucket, forty_values}

-- so many bytes, as one number in hexadecimal
abbrev row : (count n : ℕ) → List ℕ
row zero n = []
row (suc count) n = n / 256 ^ count % 256 ∷ row count n

-- these bytes stand at a place of a layout
abbrev stand : (at : ℕ) → (layout bytes : List ℕ) → Type 0
stand at layout bytes = take (length bytes) (drop at layout) ≡ bytes

bytes_are :
    -- meta one: its header, and its record up to the checksum
    stand 4096 (layout_of Plain 4096 no_entries 0) (row 32 0x01000000000000000400000000000000EDDA0CED020000000010000000000000
    ++ (row 32 0x0300000000000000000000000000000002000000000000000400000000000000 ++ row 8 0x0100000000000000))
    -- the freelist page, whole but for its zeros
    × stand 8192 (layout_of Plain 4096 no_entries 0) (row 16 0x02000000000000001000000000000000)
    -- the leaf, up to the value of the bucket, and that value
    × stand 12288 (layout_of Plain 4096 one_inline 0) (row 32 0x0300000000000000020001000000000001000000100000000100000034000000
    ++ (row 32 0x6200000000000000000000000000000000000000000000000002000100000000 ++ row 21 0x00000000001000000002000000020000006B317631))
    -- the value of the empty bucket
    × stand 12321 (layout_of Plain 4096 empty_bucket 0) (row 32 0x0000000000000000070000000000000000000000000000000200000000000000)
    -- the first leaf: its header and its first element
    × stand 3072 (layout_of Plain 1024 forty_values 0) (row 32 0x030000000000000002000A000000000000000000A00000000200000052000000)
    -- the branch: its header, its elements and their keys
    × stand 7168 (layout_of Plain 1024 forty_values 0) (row 32 0x0700000000000000010004000000000040000000020000000300000000000000
    ++ (row 32 0x3200000002000000040000000000000024000000020000000500000000000000 ++ row 24 0x160000000200000006000000000000003030313032303330))
    -- the root leaf, with the bucket that it names
    × stand 8192 (layout_of Plain 1024 forty_values 0) (row 32 0x0800000000000000020001000000000001000000100000000100000010000000
    ++ row 17 0x6207000000000000000000000000000000)
unfolding fnv_of fnv_step overflow_of root_of root_over layout_of branch_bytes branch_header freelist_page header_bytes inline_value leaf_bytes leaf_header meta_bytes meta_page meta_record number_bytes page_bytes head_bytes
bytes_are = (refl, refl, refl, refl, refl, refl, refl)
