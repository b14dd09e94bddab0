-- Why there is no joined listing: docs/RECOVERY.md, "The joined listing".
use Rattle.std.specs.Prelude.{◌≡◌, ◌≢◌, ◌≤◌, ◌*◌, ◌^◌, ℕ, List, [], length}
use Rattle.bolt_format.specs.declared.meta.Meta.{Meta}
use Rattle.bolt_recover.specs.{Joined.HasBucketKey, Recovered.ForRecovered, Refusals.LosesRoot, declared.join_fault.JoinFault.JoinFault}
use Rattle.bolt_recover.specs.declared.join_fault.JoinFault.TheVariants.{Exists, Memory, Rootless, TooManyPages}

-- Why there is none of a file of which these pages are found. Nothing is said of memory.
abbrev pub IsJoinRefusal : List ℕ → Meta → (found : List ℕ) → JoinFault → Type 0
IsJoinRefusal file meta found (Rootless x) = (found ≡ []) × ∥ LosesRoot file meta x ∥₁
IsJoinRefusal file meta found Exists = (found ≢ []) × ForRecovered file meta HasBucketKey
IsJoinRefusal file meta found TooManyPages = 10 ^ 16 * meta.page_size ≤ length file
IsJoinRefusal file meta found Memory = Unit {0}
