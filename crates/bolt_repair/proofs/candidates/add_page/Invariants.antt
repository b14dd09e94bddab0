use Rattle.std.proofs.Common.{◌≡◌, ◌++◌, map}
use Rattle.bolt_format.specs.ElementsLeft.{leaves_left}
use Rattle.bolt_etcd.specs.Wire.ShownRevisions.{entry_of}
use Rattle.bolt_repair.specs.Candidates.{candidates_in}
use Rattle.bolt_repair.proofs.candidates.add_page.Given as goal

-- those so far and those among the elements that are left are all
abbrev pub invariant-loop-leaf : goal.invariant-loop-leaf
invariant-loop-leaf l =
    map entry_of l.candidates.items ++ candidates_in (leaves_left l.leaf-iterator)
    ≡ map entry_of l.initial.candidates.items ++ candidates_in (leaves_left l.fn.elements)
