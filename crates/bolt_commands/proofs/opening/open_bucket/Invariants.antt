use Rattle.std.proofs.Common.{◌≡◌, take}
use Rattle.bolt_commands.proofs.{Vocabulary.bucket_checked, Vocabulary.bucket_start, Vocabulary.owned_path, AtPaths.LeadsIn}
use Rattle.bolt_commands.proofs.opening.open_bucket.Given as goal

-- the parts so far lead to the bucket
abbrev pub invariant-loop-part : goal.invariant-loop-part
invariant-loop-part l = record {
  file : bucket_checked l.bucket ≡ l.checked;
  named : ∥ LeadsIn l.checked (owned_path (take l.part-index l.path)) (bucket_start l.bucket) ∥₁;
}
