use Rattle.bolt_report.proofs.bbolt_lines.put_file_finding.Goals as goal

pub returns-in-NotTaken : goal.returns-in-NotTaken
returns-in-NotTaken g c = rw c.in-NotTaken.is c.put_of_meta.ensures

pub returns-in-PastEnd : goal.returns-in-PastEnd
returns-in-PastEnd g c = rw c.in-PastEnd.is c.put_of_pages-in-PastEnd.ensures
