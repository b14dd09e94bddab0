use Rattle.bolt_report.proofs.part_lines.put_member_part.Goals as goal

pub returns-clause-written : goal.returns-clause-written
returns-clause-written g c = λ listing lists up. rw c.new-lines.ensures at (c.put_bucket_part.ensures.written listing lists up)
