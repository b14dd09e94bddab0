-- Any page of a file as a text: docs/COMMANDS.md, "page".
use Rattle.std.specs.Prelude.{ℕ, List, [], Option, Some, None}
use Rattle.std.specs.Option.{option_map}
use Rattle.bolt_format.specs.{Freelists.free_ids_at, Freelists.freelist_fault, Pages.PageView, Pages.page_at, Pages.page_fault}
use Rattle.bolt_format.specs.{declared.page_fault.PageFault.PageFault, declared.header.Kind.Kind}
use Rattle.bolt_format.specs.declared.meta.Meta.{Meta}
use Rattle.bolt_format.specs.declared.header.Kind.TheVariants as kind
use Rattle.bolt_report.specs.PageLines.{page_lines}

abbrev pub shown_page_text : ℕ → List ℕ → Option PageView → List ℕ
shown_page_text id ids (Some view) = page_lines id view ids
shown_page_text id ids None = []

-- the text of a page, which is empty if the page is refused
abbrev pub page_text : List ℕ → Meta → ℕ → List ℕ
page_text file meta id = shown_page_text id (free_ids_at file meta id) (page_at file meta id)

abbrev pub page_fault_of : ℕ → Option ℕ → Option PageFault
page_fault_of id fault = option_map (λ number. record { number = number; page = id }) fault

-- The ids of a freelist page are tested too.
abbrev pub kind_fault : Option PageFault → Kind → Option PageFault
kind_fault ids_fault kind.Freelist = ids_fault
kind_fault ids_fault _ = None

-- the fault of the page itself, or that of the ids on a page without one
abbrev pub shown_fault : Option PageFault → Option PageFault → Option PageView → Option PageFault
shown_fault fault ids_fault (Some view) = kind_fault ids_fault view.kind
shown_fault fault ids_fault None = fault

-- the first fault of a page that is to be printed
abbrev pub page_text_fault : List ℕ → Meta → ℕ → Option PageFault
page_text_fault file meta id = shown_fault (page_fault_of id (page_fault file meta id)) (page_fault_of id (freelist_fault file meta id)) (page_at file meta id)
