-- The ids that a freelist of the code shows.
use Rattle.std.specs.Prelude.{ℕ, List}
use Rattle.bolt_format.specs.{Freelists.ids_from, declared.ids.FreeIds.FreeIds}

unfoldable pub shown_ids : FreeIds → List ℕ
shown_ids ids = ids_from ids.bytes.now ids.start ids.len
