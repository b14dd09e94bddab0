-- What the output of a recovery may lack: docs/RECOVERY.md, "The other meta".
use Rattle.std.specs.Prelude.{◌==◌, ◌&&◌, ℕ, List, ◌++◌, Option, None, Some, is_none, codes, decimal, if◌then◌else◌}
use Rattle.bolt_recover.specs.Losses.{LostView}
use Rattle.bolt_report.specs.{LossLines.lost_count, MetaLines.slot_fault_text}
use Rattle.bolt_commands.specs.declared.{other_meta.OtherMeta.OtherMeta, shortfall.Shortfall.Shortfall}

-- what the output may lack if `pages` pages are lost, and if `other` is the other meta, where that is refused
abbrev pub shortfall_of : (pages : ℕ) → (other : Option OtherMeta) → Option Shortfall
shortfall_of pages other = if pages == 0 && is_none other then None else Some (record { pages = pages; other = other })

abbrev pub shortfall : LostView → (other : Option OtherMeta) → Option Shortfall
shortfall lost other = shortfall_of (lost_count lost) other

-- the words for lost pages, and a text after them
abbrev pub lost_pages_text : ℕ → (end : List ℕ) → List ℕ
lost_pages_text pages end = codes "pages lost: " ++ (decimal pages ++ end)

-- the words for lost pages, if there are any, and for the other meta
abbrev pub lacking_text : (pages : ℕ) → (other : Option OtherMeta) → List ℕ
lacking_text pages None = lost_pages_text pages (codes "\n")
lacking_text pages (Some other) =
    if pages == 0 then slot_fault_text other.slot other.fault else (lost_pages_text pages (codes "; ") ++ slot_fault_text other.slot other.fault)

-- the words for a shortfall, with the end of the line
abbrev pub shortfall_text : Shortfall → List ℕ
shortfall_text s = lacking_text s.pages s.other
