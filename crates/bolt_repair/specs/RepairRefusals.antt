-- Why a file isn't repaired: docs/RECOVERY.md, "The repaired listing".
use Rattle.std.specs.Prelude.{ℕ, Bool, List, []}
use Rattle.std.specs.List.{Contains}
use Rattle.bolt_format.specs.declared.meta.Meta.{Meta}
use Rattle.bolt_tree.specs.{Entries.Item, Entries.Value, Listing.Member}
use Rattle.bolt_recover.specs.{Losses.LostView, Losses.everything, Losses.parts, Recovered.ForRecovered, Refusals.KeepsRoot, Refusals.LosesRoot}
use Rattle.bolt_repair.specs.{Repaired.IsRepair, Repaired.Made, Repairs.store_path, declared.repair_fault.RepairFault.RepairFault}
use Rattle.bolt_repair.specs.declared.repair_fault.RepairFault.TheVariants.{Memory, NoBucket, NotABucket, Rootless}

-- nothing goes back into the bucket `key` of a file
abbrev pub PutsNoneBack : List ℕ → Meta → (search : Bool) → Type 0
PutsNoneBack file meta search = ∥ ((made : Made) × IsRepair file meta search [] made) ∥₁

-- the recovered root bucket has nothing under the name `key`
abbrev pub LacksStore : List Member → Type 0
LacksStore recovered = (item : Item) → Contains recovered (store_path, item) → ⊥

-- Nothing goes back, and the root page is lost, or it is kept and the recovered root bucket has nothing under the name of the bucket. Or it has a
-- value there. Nothing is said of memory.
abbrev pub IsRepairRefusal : List ℕ → Meta → (search : Bool) → RepairFault → Type 0
IsRepairRefusal file meta search (Rootless x) = ∥ LosesRoot file meta x ∥₁ × PutsNoneBack file meta search
IsRepairRefusal file meta search NoBucket = ∥ KeepsRoot file meta ∥₁ × ForRecovered file meta LacksStore × PutsNoneBack file meta search
IsRepairRefusal file meta search NotABucket = (value : List ℕ) × ForRecovered file meta (λ recovered. Contains recovered (store_path, Value value))
IsRepairRefusal file meta search Memory = Unit {0}

-- why there is no bucket, if nothing goes back into it
abbrev pub no_bucket_fault : LostView → RepairFault
no_bucket_fault (everything x) = Rootless x
no_bucket_fault (parts losses) = NoBucket
