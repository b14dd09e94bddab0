-- A file's recovered listing, of which there is exactly one.
use Rattle.std.specs.Prelude.{ℕ, List}
use Rattle.bolt_format.specs.declared.meta.Meta.{Meta}
use Rattle.bolt_tree.specs.Listing.{Member}
use Rattle.bolt_recover.specs.Private.Courses.{recovered_of}

unfoldable pub the_recovered : List ℕ → Meta → List Member
the_recovered file meta = recovered_of file meta
