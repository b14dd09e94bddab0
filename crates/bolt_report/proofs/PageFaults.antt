-- The fault of a page that is to be printed.
use Rattle.std.proofs.Common.{◌≡◌, ℕ, List, None, Some}
use Rattle.bolt_report.proofs.Words.{Meta, page_at}
use Rattle.bolt_format.specs.{Pages.page_fault, declared.page_fault.PageFault.PageFault}
use Rattle.bolt_report.specs.PageTexts.{page_text_fault}

-- a page that has a fault shows nothing
page_at-fault : (file : List ℕ) (meta : Meta) (id fault : ℕ) → page_fault file meta id ≡ Some fault → page_at file meta id ≡ None
unfolding page_at
page_at-fault file meta id fault e = rw e

-- that fault is the one that is reported
pub page_text_fault-bad : (file : List ℕ) (meta : Meta) (id : ℕ) (fault : PageFault)
    → (page_fault file meta id ≡ Some fault.number) × (fault.page ≡ id)
    → page_text_fault file meta id ≡ Some fault
page_text_fault-bad file meta id fault e = rw (page_at-fault file meta id fault.number e.0, e.0, ← e.1)

-- for the search
pub ruleset faults = (page_text_fault-bad)
