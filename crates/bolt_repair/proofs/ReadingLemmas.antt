-- One more of the members that are recovered: it is returned, or passed over.
use Rattle.std.proofs.Common.{◌≡◌, ◌∙◌, Bool, List, ◌∷◌, Option, Some, None, ap, is_some}
use Rattle.std.proofs.Common.{sym}
use Rattle.bolt_tree.specs.{Entries.Item, Listing.Member, Paths.Path, Walks.GivesNext}
use Rattle.bolt_repair.specs.{NearPaths.IsNearPath, StorePaths.is_near, Stripped.GivesReadable}
use Rattle.bolt_repair.specs.Stripped.{strip}
use Rattle.bolt_repair.specs.declared.store_path.NearPath.{NearPath}

pub near_same : (path : Path) (o : Option NearPath) → IsNearPath path o → is_some o ≡ is_near path
near_same path None is = sym is
near_same path (Some near) (is, same) = sym is

pub gives_one : (near : Bool) (o : Option NearPath) (old new : List Member) (path : Path) (item : Option Item) → GivesReadable near old new path item
    → IsNearPath path o → GivesNext (strip near old) (strip (is_some o) new) path item
gives_one near o old new path (Some item) gives is = gives ∙ ap (λ (b : Bool). (path, item) ∷ strip b new) (sym (near_same path o is))
gives_one near o old new path None (none, empty, at) is = (none, ap (strip (is_some o)) empty, at)
