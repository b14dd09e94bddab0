-- Where the tree of a bucket of the code begins.
use Rattle.bolt_format.specs.ShownInline.{shown_inline}
use Rattle.bolt_check.specs.{CheckedFiles.bytes_of, CheckedFiles.meta_of, declared.checked.Checked.Checked}
use Rattle.bolt_tree.specs.{Entries.Inline_page, Entries.IsStart, Entries.Root_page, Entries.Start, declared.at.At.At}
use Rattle.bolt_tree.specs.declared.at.At.TheVariants as at

abbrev pub start_at : At → Start
start_at (at.Page number) = Root_page number
start_at (at.Inline page) = Inline_page (shown_inline page)

-- a bucket of the file begins so
abbrev pub HasStart : Checked → Start → Type 0
HasStart checked start = ∥ IsStart (bytes_of checked) (meta_of checked) start ∥₁
