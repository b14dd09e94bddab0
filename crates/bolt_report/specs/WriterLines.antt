-- What a writer of revisions writes of them, in its form, with their values if it wants them.
use Rattle.std.specs.Prelude.{ℕ, List}
use Rattle.bolt_report.specs.RevisionLines.{named_with, prefix_line, revision_line, revision_lines, value_part}
use Rattle.bolt_etcd.specs.Wire.Revisions.{RevisionView}
use Rattle.bolt_report.specs.declared.revision_lines.RevisionWriter.{RevisionWriter}

abbrev pub line_by : RevisionWriter → RevisionView → List ℕ
line_by writer r = revision_line writer.items.form writer.values r

-- the lines of the revisions whose names begin with these bytes
abbrev pub lines_by : RevisionWriter → (prefix : List ℕ) → List RevisionView → List ℕ
lines_by writer prefix rs = revision_lines writer.items.form writer.values (named_with prefix rs)

abbrev pub named_line_by : RevisionWriter → (prefix : List ℕ) → RevisionView → List ℕ
named_line_by writer prefix r = prefix_line prefix writer.items.form writer.values r

-- the value of a revision, as a writer writes it
abbrev pub value_by : RevisionWriter → RevisionView → List ℕ
value_by writer r = value_part writer.items.form writer.values r
