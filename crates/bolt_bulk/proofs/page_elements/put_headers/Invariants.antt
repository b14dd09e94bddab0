-- The headers before number i were written, or are in the buffer.
use Rattle.bolt_bulk.proofs.ElementPuts.{HeadsPut}
use Rattle.bolt_bulk.proofs.page_elements.put_headers.Given as goal

abbrev pub invariant-loop-element : goal.invariant-loop-element
invariant-loop-element g l =
    HeadsPut g.E.Element.head g.E.Element.key g.E.Element.value_length g.S.Sink l.initial.sink l.sink l.buffer.items l.elements l.element-index l.pos
