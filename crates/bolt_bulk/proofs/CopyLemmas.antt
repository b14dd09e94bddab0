-- The first pages and those of all buckets are the layout, and so a copy is written whole, or stops short.
use Rattle.std.proofs.{lemmas.Grind.common_steps, KnownBytes.Appends-trans}
use Rattle.std.proofs.Common.{◌≡◌, ◌≢◌, ℕ, [], ◌≤◌, ◌<◌, List, ◌++◌, length, Ok, Err, arith, append_assoc}
use Rattle.bolt_format.specs.{Sinks.AppendsProperPrefix, Wrote.Wrote, Endings.whole, Endings.cut, declared.sink.Sink.Ghosts}
use Rattle.bolt_tree.specs.Tree.{Tree}
use Rattle.bolt_bulk.specs.{Compacting.Copies, Compacting.too_many, Private.first_pages, Private.stopped_by, declared.bulk_fault.BulkFault.BulkFault}
use Rattle.bolt_bulk.specs.{BulkEndings.bulk_fault_ending}
use Rattle.bolt_bulk.specs.declared.bulk_fault.PlanFault.{PlanFault}
use Rattle.bolt_layout.specs.{Laid.Placed, Layout.layout_high_water, Layout.layout_of, Layout.layout_pages, Layout.layout_root, Layout.placed_bytes}
use Rattle.bolt_layout.specs.{declared.Layout.Layout}
use Rattle.bolt_bulk.specs.declared.bulk_fault.BulkFault.TheVariants as bulk
use Rattle.bolt_bulk.specs.declared.bulk_fault.PlanFault.TheVariants as planned
use Rattle.bolt_bulk.proofs.PutsLemmas.{Wrote-failed, proper_none, proper_same}
use Rattle.bolt_format.proofs.Exports.{AppendsProperPrefix-first, AppendsProperPrefix-second}

pub layout_parts : (which : Layout) (page_size : ℕ) (tree : Tree) (sequence root high_water : ℕ) → root ≡ layout_root which page_size tree
    → high_water ≡ layout_high_water which page_size tree
    → layout_of which page_size tree sequence ≡ first_pages page_size root sequence high_water ++ placed_bytes page_size (layout_pages which page_size tree)
unfolding layout_of
layout_parts which page_size tree sequence root high_water root_is mark_is = grind (arith, append_assoc)

-- the same, with the pages that a pass writes at this page size
pub layout_written : (which : Layout) (page_size : ℕ) (tree : Tree) (sequence root high_water size : ℕ) (pages : List Placed)
    → root ≡ layout_root which page_size tree → high_water ≡ layout_high_water which page_size tree
    → size ≡ page_size → layout_pages which size tree ≡ pages
    → layout_of which page_size tree sequence ≡ first_pages page_size root sequence high_water ++ placed_bytes size pages
layout_written which page_size tree sequence root high_water size pages root_is mark_is size_is all = grind (arith, layout_parts)

never : {X : Type 0} (bytes : ℕ) → bytes < too_many → too_many ≤ bytes → X
never bytes fits large = absurd (omega arith)

-- what stops before a byte is written
module _ {S : Type 0} (sink : Ghosts S) (old : S) (layout : List ℕ) where
  stops_early : (e : BulkFault) → (e ≡ bulk.Sink → ⊥) → layout ≢ [] → (e ≡ bulk.TooLarge → too_many ≤ length layout)
      → Copies sink.taken sink.failed old old layout (Err e)
  stops_early e other some large = grind (arith, proper_none)

  pub stops_unplanned : (plan : PlanFault) → layout ≢ [] → (plan ≡ planned.TooLarge → too_many ≤ length layout)
      → Copies sink.taken sink.failed old old layout (Err (stopped_by plan))
  stops_unplanned plan some large = grind (arith, common_steps, stops_early)

module _ {S : Type 0} (sink : Ghosts S) (old new : S) (layout first pages : List ℕ) (same : layout ≡ first ++ pages) (fits : length layout < too_many) where
  pub copied : (mid : S) (bytes held : ℕ) → Wrote sink old mid first whole → Wrote sink mid new pages whole → bytes ≡ length layout
      → Copies sink.taken sink.failed old new layout (Ok (record { bytes = bytes; held = held }))
  copied mid bytes held one two count = grind (arith, Appends-trans, never)

  pub stops_first : Wrote sink old new first cut → Copies sink.taken sink.failed old new layout (Err bulk.Sink)
  stops_first one = grind (arith, proper_same, AppendsProperPrefix-first, never)

  pub stops_later : (mid : S) (e : BulkFault) → Wrote sink old mid first whole → Wrote sink mid new pages (bulk_fault_ending e)
      → AppendsProperPrefix (sink.taken mid) (sink.taken new) pages → (e ≡ bulk.TooLarge → too_many ≤ length layout)
      → Copies sink.taken sink.failed old new layout (Err e)
  stops_later mid e one two short large = grind (arith, proper_same, AppendsProperPrefix-second, Wrote-failed, never)
