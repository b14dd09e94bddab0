-- The members are those of the file's listing.
use Rattle.std.proofs.Common.{List, subst}
use Rattle.bolt_check.specs.{CheckedFiles.bytes_of, CheckedFiles.meta_of, declared.checked.Checked.Checked}
use Rattle.bolt_tree.specs.Listing.{IsListing, Member}
use Rattle.bolt_layout.specs.declared.Layout.TheVariants.{Plain}
use Rattle.bolt_bulk.specs.Compacting.{CopiesEach}
use Rattle.bolt_bulk.proofs.copy.compact.Goals as goal

pub a_walk_is_whole-requires : goal.a_walk_is_whole-requires
a_walk_is_whole-requires g c = rw c.new-walk.ensures.checked c.new-walk.ensures.all

pub returns : goal.returns
returns g c =
    subst (λ (file : Checked).
    CopiesEach g.S.Sink.taken g.S.Sink.failed c.args.sink.now c.compact_members.new.sink
    (λ (listing : List Member). IsListing (bytes_of file) (meta_of file) listing) (λ listing. listing)
    Plain c.args.page_size (meta_of c.args.checked).root_sequence c.compact_members.result) c.new-walk.ensures.checked
    (rw (
      c.sound_blueprint-blueprint.ensures.layout,
      c.sound_blueprint-blueprint.ensures.page_size,
      c.sound_blueprint-blueprint.ensures.sequence,
    ) at c.compact_members.ensures.copies)
