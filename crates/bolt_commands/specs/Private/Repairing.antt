-- What the functions of `etcd-repair` promise.
use Rattle.std.specs.Prelude.{◌≡◌, ◌⊎◌, ℕ, Bool, Result, Err}
use Rattle.bolt_bulk.specs.declared.blueprint.Blueprint.{Blueprint}
use Rattle.bolt_format.specs.declared.sink.Sink.{Ghosts}
use Rattle.bolt_repair.specs.{Repaired.ForRepaired, RepairedMembers.repair_file, RepairedMembers.repair_meta, RepairedMembers.repair_search}
use Rattle.bolt_repair.specs.declared.repair.Repair.{Repair}
use Rattle.bolt_commands.specs.declared.failure.Failure.{Failure}
use Rattle.bolt_commands.specs.Private.Copying.{CopiesListing, blueprint_layout}
use Rattle.bolt_commands.specs.declared.failure.Failure.TheVariants.{Memory}

-- the copy of the repaired listing, and its length or the failure
abbrev pub CopiesTheRepaired : {T : Type 0} (target : Ghosts T) (old new : T) → Repair → Blueprint → (snapshot : Bool) → Result ℕ Failure → Type 0
CopiesTheRepaired target old new repair blueprint snapshot result =
    ForRepaired (repair_file repair) (repair_meta repair) (repair_search repair)
    (λ listing. CopiesListing target old new (blueprint_layout blueprint listing) listing snapshot result)

-- that copy; or memory ran out, and the target isn't touched
abbrev pub CopiesRepaired : {T : Type 0} (target : Ghosts T) (old new : T) → Repair → Blueprint → (snapshot : Bool) → Result ℕ Failure → Type 0
CopiesRepaired target old new repair blueprint snapshot result =
    CopiesTheRepaired target old new repair blueprint snapshot result ⊎ ((new ≡ old) × (result ≡ Err Memory))
