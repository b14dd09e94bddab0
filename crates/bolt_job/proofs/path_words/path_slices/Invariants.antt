use Rattle.std.proofs.Common.{◌≡◌, take}
use Rattle.bolt_tree.specs.Paths.{path_of}
use Rattle.bolt_job.specs.PlainWords.{owned_path}
use Rattle.bolt_job.proofs.path_words.path_slices.Given as goal

-- the parts so far
abbrev pub invariant-loop-part : goal.invariant-loop-part
invariant-loop-part l = path_of l.path.items ≡ owned_path (take l.part-index l.parts)
