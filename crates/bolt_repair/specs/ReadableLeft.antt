-- What is left of the members that etcd can read.
use Rattle.std.specs.Prelude.{ℕ, List, is_some}
use Rattle.bolt_format.specs.declared.meta.Meta.{Meta}
use Rattle.bolt_tree.specs.{Listing.Member, Paths.Path}
use Rattle.bolt_recover.specs.RecoveredMembers.{recovered_file, recovered_left, recovered_meta, recovered_path, recovered_work}
use Rattle.bolt_repair.specs.Stripped.{last_of, strip}
use Rattle.bolt_repair.specs.declared.readable_members.ReadableMembers.{ReadableMembers}

abbrev pub readable_file : ReadableMembers → List ℕ
readable_file members = recovered_file members.recovered

abbrev pub readable_meta : ReadableMembers → Meta
readable_meta members = recovered_meta members.recovered

unfoldable pub readable_left : ReadableMembers → List Member → List Member
readable_left members listing = strip (is_some members.near) (recovered_left members.recovered listing)

abbrev pub readable_work : ReadableMembers → ℕ
readable_work members = recovered_work members.recovered

unfoldable pub readable_path : ReadableMembers → Path
readable_path members = last_of members.has_passed members.near (recovered_path members.recovered)
