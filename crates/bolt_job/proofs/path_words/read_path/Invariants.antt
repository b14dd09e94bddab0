use Rattle.std.proofs.Common.{◌≡◌, drop}
use Rattle.bolt_job.proofs.{Vocabulary.each_part, Vocabulary.part_of, Vocabulary.owned_path, PathReading.continued, PathReading.texts}
use Rattle.bolt_job.proofs.path_words.read_path.Given as goal

-- the words that are left, after the parts so far, are read as all are
abbrev pub invariant-loop-word : goal.invariant-loop-word
invariant-loop-word l =
    continued (owned_path l.path.items) (each_part (part_of l.parts) (texts (drop l.word-index l.words))) ≡ each_part (part_of l.parts) (texts l.words)
