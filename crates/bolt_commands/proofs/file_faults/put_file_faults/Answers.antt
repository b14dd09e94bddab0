-- The first line, or both.
use Rattle.bolt_commands.proofs.Vocabulary.{Wrote-ends, Wrote-return, Wrote-then, broken_by, other_meta_lines}
use Rattle.bolt_commands.proofs.file_faults.put_file_faults.Goals as goal

pub returns-in_err-put_hash_line-clause-lines : goal.returns-in_err-put_hash_line-clause-lines
returns-in_err-put_hash_line-clause-lines g c = Wrote-return (other_meta_lines c.args.faults.other) _ c.in_err-put_hash_line.ensures c.from_residual.ensures.0

pub returns-in_err-put_other_line-clause-lines : goal.returns-in_err-put_other_line-clause-lines
returns-in_err-put_other_line-clause-lines g c =
    Wrote-then c.in_ok-put_hash_line.ensures (Wrote-ends (broken_by _ c.from_residual-in_err-put_other_line.ensures.0) c.in_err-put_other_line.ensures)
