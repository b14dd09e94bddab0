-- The data before number i were written.
use Rattle.std.proofs.Common.{drop}
use Rattle.bolt_bulk.specs.Private.{data_of}
use Rattle.bolt_format.proofs.Exports.{WroteFront}
use Rattle.bolt_bulk.proofs.page_elements.put_data.Given as goal

abbrev pub invariant-loop-element : goal.invariant-loop-element
invariant-loop-element g l =
    WroteFront g.S.Sink l.initial.sink l.sink (data_of g.E.Element.key (g.E.Element.value l.inlined) l.elements)
    (data_of g.E.Element.key (g.E.Element.value l.inlined) (drop l.element-index l.elements))
