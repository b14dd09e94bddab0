-- The elements that an inline page of the code shows.
use Rattle.std.specs.Prelude.{List}
use Rattle.bolt_format.specs.{Elements.LeafElement, TreePages.leaves_on, declared.bucket_value.Inline.Inline}

abbrev pub shown_inline : Inline → List LeafElement
shown_inline inline = leaves_on inline.page
