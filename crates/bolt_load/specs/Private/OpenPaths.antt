-- The place of a member by the path before it alone.
use Rattle.std.specs.Prelude.{◌||◌, ◌&&◌, Bool, Option, Some, None, length, nat_lt, not, if◌then◌else◌}
use Rattle.std.specs.Ordering.{is_lt}
use Rattle.bolt_tree.specs.{ListingParts.begins_with, Paths.Path, Paths.path_above, Paths.path_cmp}
use Rattle.bolt_load.specs.{declared.load_fault.LineFault.LineFault}
use Rattle.bolt_load.specs.declared.load_fault.LineFault.TheVariants.{NoBucketAbove, PathNotRising}

-- The bucket above a path is one that the last path goes through, or that it is the path of.
abbrev pub is_open : (last : Path) → (is_bucket : Bool) → (above : Path) → Bool
is_open last is_bucket above = begins_with above last && (nat_lt (length above) (length last) || is_bucket)

abbrev pub order_fault : (is_above is_below : Bool) → Option LineFault
order_fault is_above is_below = if not is_above then Some PathNotRising else if not is_below then Some NoBucketAbove else None

-- what is wrong with the place of a path after the last one
abbrev pub fault_after : (last : Path) → (is_bucket : Bool) → Path → Option LineFault
fault_after last is_bucket path = order_fault (is_lt (path_cmp last path)) (is_open last is_bucket (path_above path))
