-- The listing of a checked file: docs/LISTING.md, "The listing".
-- What is promised of it is promised for each listing of the file; there is exactly one (`laws`).
use Rattle.std.specs.Prelude.{List}
use Rattle.bolt_check.specs.{CheckedFiles.bytes_of, CheckedFiles.meta_of, declared.checked.Checked.Checked}
use Rattle.bolt_tree.specs.{Entries.Root_page, Entries.Start, Listing.IsListing, Listing.Member}

-- where the root bucket begins
abbrev pub root_start : Checked → Start
root_start checked = Root_page (meta_of checked).root

-- a property holds of the listing of a checked file
abbrev pub ForListing : Checked → (List Member → Type 0) → Type 0
ForListing checked P = (listing : List Member) → IsListing (bytes_of checked) (meta_of checked) listing → P listing
