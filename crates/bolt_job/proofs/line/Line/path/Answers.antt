use Rattle.std.proofs.Common.{rules, ◌≡◌, List, [], Option, Ok, codes, ap₂, sym, unwrap_or}
use Rattle.bolt_job.proofs.Vocabulary.{◌>>=◌, Row, Text, all_of, each_part, first_word_of, found_of, part_of, parts_by, path_by, raw_values-rows}
use Rattle.bolt_job.proofs.Vocabulary.{rows_of, values_in}
use Rattle.bolt_job.proofs.CommandLineLemmas.{gives_same}
use Rattle.bolt_text.specs.declared.part_words.Parts.{Parts}
use Rattle.bolt_job.proofs.line.Line.path.Goals as goal

-- the path by how its parts are written and the words that were found
path_found : (rows : List Row) (how : Parts) (words : Option (List Text)) → parts_by (first_word_of (values_in rows (codes "parts"))) ≡ Ok how
    → words ≡ all_of (codes "PART") rows
    → path_by (values_in rows) ≡ each_part (part_of how) (unwrap_or words [])
path_found rows how words is found = ap₂ (λ r ws. r >>= λ how. each_part (part_of how) (unwrap_or ws [])) is (sym found)

pub returns-in-Some : goal.returns-in-Some
returns-in-Some c = search (rules, found_of, raw_values-rows, gives_same, path_found, rows_of)

pub returns-in-None : goal.returns-in-None
returns-in-None c = search (rules, found_of, raw_values-rows, path_found, rows_of)
