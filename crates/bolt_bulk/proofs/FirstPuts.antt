-- The pages that precede those of the buckets, written one after another.
use Rattle.std.proofs.Common.{ℕ, List, ◌++◌}
use Rattle.bolt_layout.specs.PageBytes.{copy_meta, filled, freelist_page, meta_page}
use Rattle.bolt_format.specs.{Encoded.header_bytes, Encoded.meta_bytes, Endings.Ending, Wrote.Wrote, declared.sink.Sink.Ghosts}
use Rattle.bolt_format.specs.declared.header.Kind.TheVariants as kind
use Rattle.bolt_bulk.specs.Private.{first_pages}

-- a meta page, and the freelist page
abbrev pub meta_filled : (page_size root sequence high_water txid : ℕ) → List ℕ
meta_filled page_size root sequence high_water txid = filled page_size (meta_bytes txid (copy_meta page_size root sequence high_water txid))

abbrev pub freelist_filled : (page_size : ℕ) → List ℕ
freelist_filled page_size = filled page_size (header_bytes 2 kind.Freelist 0 0)

pub first_wrote : {S : Type 0} {sink : Ghosts S} {old new : S} (page_size root sequence high_water : ℕ) {end : Ending}
    → Wrote sink old new
    (meta_filled page_size root sequence high_water 0 ++ (meta_filled page_size root sequence high_water 1 ++ freelist_filled page_size)) end
    → Wrote sink old new (first_pages page_size root sequence high_water) end
unfolding meta_page freelist_page
first_wrote page_size root sequence high_water wrote = wrote
