-- The same pages are found.
use Rattle.bolt_repair.proofs.OneRepair.{search_is, search_was}
use Rattle.bolt_repair.proofs.laws.a_search_changes_nothing_if_something_is_lost.Goals as goal

pub returns : goal.returns
returns c = λ file meta lost listing loses some.
    let in_any_case = c.a_loss_is_searched_for_in_any_case.ensures file meta lost in (
      search_is file meta (λ found. in_any_case found loses some) listing,
      search_was file meta (λ found. in_any_case found loses some) listing (c.sought_pages_are_one.ensures file meta)
          (c.each_file_has_sought_pages.ensures file meta),
    )
