-- What the proofs of other crates may cite of this one.
pub use Rattle.bolt_lemmas.proofs.AllOf.{all_append, all_get, all_map, all_split, all_weaker, last_of, nothing_asked}
pub use Rattle.bolt_lemmas.proofs.Bools.{either_or, few_or_fits, iff_then, same_bool}
pub use Rattle.bolt_lemmas.proofs.Decisions.{dec_each, dec_equal, dec_if, dec_some, dec_tied, decided_by}
pub use Rattle.bolt_lemmas.proofs.Filters.{Finds, IsFound, drops, filter_all, filter_both, filter_first, filter_less, filter_mapped, filter_none, filter_rises}
pub use Rattle.bolt_lemmas.proofs.Filters.{filter_same, filters_swap, finds, found_there, keeps, kept, kept_from}
pub use Rattle.bolt_lemmas.proofs.LastOnes.{last_after, last_in, last_of_both, last_passes, last_some, last_there, skips, takes_last}
pub use Rattle.bolt_lemmas.proofs.ListPlaces.{append_none, concat_three, cut_front, drop_front, drop_get, first_cut, flat_at, flat_from, get_before, get_behind}
pub use Rattle.bolt_lemmas.proofs.ListPlaces.{get_exists, get_front, get_next, has_cut, here_at, last_off_at, length-range, length_some, next_is, none_left}
pub use Rattle.bolt_lemmas.proofs.ListPlaces.{not_nil, one_only, range_there, same_at, take_get, two_cuts, view_at}
pub use Rattle.bolt_lemmas.proofs.MappedLists.{dedup_mapped, sorted_by_shown, sorted_mapped}
pub use Rattle.bolt_lemmas.proofs.Members.{any_from, any_has, at_has, contains_cases, contains_from_has, contains_head, contains_none, contains_tail, flat_has}
pub use Rattle.bolt_lemmas.proofs.Members.{gives_from, gives_has, has_any, has_at, has_flat, has_from_contains, has_left, has_map, has_right, has_split}
pub use Rattle.bolt_lemmas.proofs.Members.{map_has, shows_from, shows_has}
pub use Rattle.bolt_lemmas.proofs.Numbers.{has_number, length-numbers, none_counted, numbers, shorter, still, sum_map, sum_same, without}
pub use Rattle.bolt_lemmas.proofs.Options.{if_given, if_none, is_absent, is_there, none_later, ok_is, on_any, on_ok_both, passed_on, some_later, was_pushed}
pub use Rattle.bolt_lemmas.proofs.Orderings.{asymmetric, both_tied, decided, equal_from, first_decides, first_less, flip_less, greater_part, irreflexive}
pub use Rattle.bolt_lemmas.proofs.Orderings.{is_before, less_of, lists_exact, lt_of, neither, not_less, number_less, second_equal, then_apart, then_less}
pub use Rattle.bolt_lemmas.proofs.Orderings.{then_not_above}
pub use Rattle.bolt_lemmas.proofs.Rising.{after_it, before_it, fewer, joined_rises, left_rises, one_of, right_rises, rises_as, rises_mapped, rises_once}
pub use Rattle.bolt_lemmas.proofs.Rising.{rises_push, without_rises}
pub use Rattle.bolt_lemmas.proofs.RisingBy.{one_list, pairs_from_rises, rises_across, rises_append, rises_flat, rises_from_gets, rises_from_pairs, rises_gets}
pub use Rattle.bolt_lemmas.proofs.RisingBy.{rises_left, rises_map, rises_right, rises_weaker}
pub use Rattle.bolt_lemmas.proofs.Sorting.{Climbs, climbs_sorted, differ_in, rises_from, rises_sorted, sorted_choice, sorted_climbs, sorted_elements}
pub use Rattle.bolt_lemmas.proofs.Sorting.{sorted_exists, sorted_in, sorted_once}
