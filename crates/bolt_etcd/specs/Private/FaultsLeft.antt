-- What a pass over the revisions of all names has ahead of it.
use Rattle.std.specs.Prelude.{◌≡◌, ◌||◌, ◌+◌, if◌then◌else◌, ℕ, Bool, List, [], ◌∷◌, drop, flat_map, length, map, Option, Some, None}
use Rattle.std.specs.Option.{option_map}
use Rattle.bolt_tree.specs.{declared.bucket.Bucket.Bucket}
use Rattle.bolt_etcd.specs.{Check.CheckLines.name_fault_lines, Check.NameFaults.NameFaultView, Check.NameFaults.fault_of}
use Rattle.bolt_etcd.specs.{Check.NameFaults.name_faults, Wire.ShownRevisions.shown_revision}
use Rattle.bolt_etcd.specs.{declared.check.name_faults.NameFault.NameFault, declared.check.name_faults.NameFaults.NameFaults}
use Rattle.bolt_etcd.specs.{declared.wire.revision.Revision.Revision}
use Rattle.bolt_etcd.specs.Check.ForNames.{ForGranted}

abbrev pub shown_name_fault : NameFault → NameFaultView
shown_name_fault f = record { revision = shown_revision f.revision; one_before = f.one_before; lease = f.lease }

-- the revisions that a pass over faults still has to go over
abbrev pub revisions_left : NameFaults → List Revision
revisions_left pass = drop pass.at pass.revisions.now

-- the faults that a pass still has to return, if `granted` says of each lease whether it is there
unfoldable pub faults_left : NameFaults → (ℕ → Bool) → List NameFaultView
faults_left pass granted = name_faults pass.compacted granted (option_map shown_revision pass.before) (map shown_revision (revisions_left pass))

unfoldable pub faults_leases : NameFaults → Option Bucket
faults_leases pass = pass.leases

-- a pass has at most this many faults left
unfoldable pub faults_number : NameFaults → ℕ
faults_number pass = length (revisions_left pass)

-- a fault is what is missing of the next revision of a pass
abbrev pub IsNextFault : NameFaults → (ℕ → Bool) → NameFault → Type 0
IsNextFault pass granted f =
    shown_name_fault f ≡ fault_of pass.compacted granted (option_map shown_revision pass.before) (shown_revision f.revision)
    (map shown_revision (drop (pass.at + 1) pass.revisions.now))

-- a property holds of the lines of the faults that a pass still has to return
abbrev pub ForFaultLines : NameFaults → (List (List ℕ) → Type 0) → Type 0
ForFaultLines pass P = ForGranted (faults_leases pass) (λ granted. P (flat_map name_fault_lines (faults_left pass granted)))

-- the first fault is returned, and the others are left; or none is left
abbrev pub GivesFault : (old new : List NameFaultView) → Option NameFault → Type 0
GivesFault old new (Some f) = old ≡ shown_name_fault f ∷ new
GivesFault old new None = (old ≡ []) × (new ≡ [])

-- the fault of the next revision is returned, if anything is missing of it, and those of later ones are left
abbrev pub StepsOver : (ℕ → Bool) → (old new : NameFaults) → Option NameFault → Type 0
StepsOver granted old new (Some f) =
    faults_left old granted ≡ (if f.one_before || f.lease then shown_name_fault f ∷ faults_left new granted else faults_left new granted)
StepsOver granted old new None = (faults_left old granted ≡ []) × (faults_left new granted ≡ [])
