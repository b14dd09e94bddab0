-- The path of the bucket of the revisions, or of an entry in it, as the code holds it.
use Rattle.std.specs.Prelude.{◌≡◌, true, false, Option, Some, None, take}
use Rattle.bolt_tree.specs.Paths.{Path, path_of}
use Rattle.bolt_repair.specs.StorePaths.{is_near}
use Rattle.bolt_repair.specs.declared.store_path.NearPath.{NearPath}

abbrev pub near_path : NearPath → Path
near_path near = path_of (take near.length near.parts)

abbrev pub IsNearPath : Path → Option NearPath → Type 0
IsNearPath path None = is_near path ≡ false
IsNearPath path (Some near) = (is_near path ≡ true) × (near_path near ≡ path)
