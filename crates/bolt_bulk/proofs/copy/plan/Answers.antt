-- The members are those of the file's listing.
use Rattle.bolt_bulk.proofs.copy.plan.Goals as goal

pub a_walk_is_whole-requires : goal.a_walk_is_whole-requires
a_walk_is_whole-requires c = rw c.new-walk.ensures.checked c.new-walk.ensures.all

pub returns : goal.returns
returns c =
    rw (
      c.new-walk.ensures.checked,
      c.sound_blueprint-blueprint.ensures.layout,
      c.sound_blueprint-blueprint.ensures.page_size,
      c.sound_blueprint-blueprint.ensures.sequence,
    ) at c.plan_members.ensures
