-- The part below the empty path is all of a listing.
use Rattle.std.proofs.Common.{List, ap}
use Rattle.bolt_report.proofs.Words.{Member, Wrote-same}
use Rattle.bolt_report.specs.PartLines.{rest_text}
use Rattle.bolt_tree.proofs.Exports.{part_of_root}
use Rattle.bolt_report.proofs.part_lines.list.Goals as goal

pub returns-clause-written : goal.returns-clause-written
returns-clause-written g c = λ listing lists.
    Wrote-same (ap (λ (members : List Member). rest_text c.args.from.now members) (part_of_root listing)) (c.put_list_part.ensures.written listing lists)
