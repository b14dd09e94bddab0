-- The line ends at the first line feed, or with the text.
use Rattle.std.proofs.Common.{sym, ◌∙◌}
use Rattle.bolt_text.proofs.LineLemmas.{cut_line, last_line, not_empty}
use Rattle.bolt_text.proofs.line_words.first_line.Goals as goal

pub returns-in-Some : goal.returns-in-Some
returns-in-Some c = cut_line c.args.text.now c.in-Some.line.now c.in-Some.after.now c.in-Some.ensures

pub returns-in-None : goal.returns-in-None
returns-in-None c = last_line c.args.text.now (not_empty c.args.text.now (sym c.is_empty.ensures ∙ c.if-is_empty.false)) c.in-None.ensures
