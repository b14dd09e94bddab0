-- A leaf page, written piece by piece.
use Rattle.std.proofs.Common.{◌≡◌, ℕ, ◌+◌, ◌-◌, ◌*◌, List, [], ◌∷◌, ◌++◌, length, arith, refl, append_assoc}
use Rattle.std.proofs.lemmas.List.{append-nil, length-drop, length-map, length-take-le}
use Rattle.bolt_format.specs.{declared.element.Leaf.Leaf, Encoded.header_bytes, Endings.Ending, Wrote.Wrote, declared.sink.Sink.Ghosts}
use Rattle.bolt_format.specs.declared.header.Kind.TheVariants as kind
use Rattle.bolt_format.proofs.Exports.{length-head_bytes, length-header_bytes}
use Rattle.bolt_layout.specs.{Layout.placed_bytes, Levels.overflow_of, PageBytes.leaf_bytes, PageBytes.leaf_data, PageBytes.page_bytes}
use Rattle.bolt_layout.proofs.Exports.{length-leaf_headers}
use Rattle.bolt_bulk.specs.{declared.held.Held.Held, declared.held.StoredItem.StoredItem, declared.leaf_run.LeafRun.LeafRun}
use Rattle.bolt_bulk.specs.Private.{data_size, HoldsLeaves, held_view, held_views, IsLeafRun, IsStored, leaf_page, leaf_run_view, page_size_of}
use Rattle.bolt_bulk.specs.Private.{stored_length, stored_value}
use Rattle.bolt_bulk.specs.declared.held.StoredItem.TheVariants as stored
use Rattle.bolt_bulk.proofs.{FilledTexts.zeros, FilledTexts.filled_pieces, HeldRuns.length-inline_value}
use Rattle.bolt_bulk.proofs.LeafPuts.{AreLong, elements_text, key_by, leaf_elements, leaf_size}

abbrev pub held_length : Held → ℕ
held_length x = stored_length x.stored

-- the value of a bucket with a root page has 16 bytes, and that of an inline one as many as it says
stored_long : (inlined : List Leaf) (s : StoredItem) → IsStored inlined s → stored_length s ≡ length (stored_value inlined s)
stored_long inlined (stored.Value value) is = refl
stored_long inlined (stored.Root page sequence) is = grind (arith, length-head_bytes)
stored_long inlined (stored.Inline sequence first count size) is = grind (arith, length-inline_value, length-map, length-drop, length-take-le)

held_long : (inlined : List Leaf) (items : List Held) → HoldsLeaves inlined items → AreLong (held_view inlined) held_length items
held_long inlined [] all = tt
held_long inlined (item ∷ items) all = (stored_long inlined item.stored all.0.1, held_long inlined items all.1)

pub held_data : (inlined : List Leaf) (items : List Held) → HoldsLeaves inlined items
    → data_size (key_by (held_view inlined)) held_length items ≡ length (leaf_data (held_views inlined items))
held_data inlined items all = leaf_size (held_view inlined) held_length items (held_long inlined items all)

-- The page over a run, in the pieces that are written.
run_pieces : {S : Type 0} {sink : Ghosts S} {old new : S} {end : Ending} (page_size number : ℕ) (run : LeafRun)
    → run.size ≡ page_size_of run.inlined.items run.items.items
    → Wrote sink old new (header_bytes number kind.Leaf (length run.items.items) (overflow_of page_size run.size)
    ++ (leaf_bytes (held_views run.inlined.items run.items.items) ++ zeros ((1 + overflow_of page_size run.size) * page_size - run.size))) end
    → Wrote sink old new (placed_bytes page_size (leaf_page page_size (leaf_run_view run) number ∷ [])) end
unfolding page_bytes leaf_bytes
run_pieces page_size number run sized wrote =
    grind (arith, length-map, length-header_bytes, length-leaf_headers, zeros, filled_pieces, append-nil, append_assoc)

pub leaf_run_wrote : {S : Type 0} {sink : Ghosts S} {old new : S} {end : Ending} (page_size number : ℕ) (run : LeafRun) → IsLeafRun run
    → Wrote sink old new (header_bytes number kind.Leaf (length run.items.items) (overflow_of page_size run.size)
    ++ (elements_text (held_view run.inlined.items) held_length run.items.items ++ zeros ((1 + overflow_of page_size run.size) * page_size - run.size))) end
    → Wrote sink old new (placed_bytes page_size (leaf_page page_size (leaf_run_view run) number ∷ [])) end
leaf_run_wrote page_size number run is wrote = grind (arith, held_long, run_pieces, leaf_elements)
