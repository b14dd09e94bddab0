use Rattle.std.proofs.Common.{rules, find}
use Rattle.bolt_job.proofs.{Vocabulary.bytes_eq, Vocabulary.first_value-rows, Vocabulary.found_of, Vocabulary.rows_of, CommandLineLemmas.found_first}
use Rattle.bolt_job.proofs.line.Line.choice.Goals as goal

pub returns : goal.returns
returns c = search (rules, found_of, first_value-rows, found_first, find, bytes_eq, rows_of)
