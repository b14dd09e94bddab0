-- Nothing is lost of them, so nothing is found.
use Rattle.std.proofs.Common.{◌∙◌, false, List, [], ap, subst}
use Rattle.bolt_tree.proofs.Exports.{lists_once}
use Rattle.bolt_tree.specs.{Entries.IsEntry, Entries.Root_page, InBuckets.members_in, Listing.Member, Merges.merge}
use Rattle.bolt_repair.specs.{Readable.readable, Repaired.MakesMeta, Repairs.meta_path}
use Rattle.bolt_repair.proofs.RepairLaws.{none_repaired}
use Rattle.bolt_repair.proofs.laws.sound_trees_put_nothing_back.Goals as goal

pub returns : goal.returns
returns c = λ file meta listing repaired trees lists is.
    let repair = is.repair in
    let none = repair.are_found.none (c.sound_trees_lose_nothing.ensures file meta repair.are_found.survey repair.are_found.surveys trees) in
    let same =
    lists_once (IsEntry file meta) (Root_page meta.root) repair.recovered listing
    (c.sound_trees_recover_their_listing.ensures file meta repair.recovered trees repair.recovers) lists in (
      is.made.meta,
      subst (λ (ms : List Member). MakesMeta ms is.made.meta) same repair.makes_meta,
      is.repaired ∙ none_repaired file meta false is.back is.made repair none
          ∙ ap (λ (ms : List Member). merge (readable ms) (members_in is.made.meta meta_path [])) same,
    )
