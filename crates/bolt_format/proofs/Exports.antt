-- What the proofs of other crates may cite of this one. Its other modules of proofs are its own.
pub use Rattle.bolt_format.proofs.ElementFacts.{drop_bytes, entry_fits, inline_fits, range_bytes, value_bytes}
pub use Rattle.bolt_format.proofs.EncodedHeaders.{branch_header_written, head_written, header_written, leaf_header_written, length-branch_header}
pub use Rattle.bolt_format.proofs.EncodedHeaders.{length-head_bytes, length-header_bytes, length-leaf_header, root_passes}
pub use Rattle.bolt_format.proofs.EncodedMetas.{chosen_of, length-meta_bytes, meta_header_written, meta_written}
pub use Rattle.bolt_format.proofs.FaultLemmas.{first_of-both, first_of-none}
pub use Rattle.bolt_format.proofs.GoodPages.{chosen-none, guard-none}
pub use Rattle.bolt_format.proofs.ListLemmas.{drop_at, drop_next, flat_map-cut_at, flat_map-take_more, one_some, take_next}
pub use Rattle.bolt_format.proofs.MetaPrefix.{SameRecord, meta_same, same_back}
pub use Rattle.bolt_format.proofs.NumberLemmas.{part_next, part_read, part_within}
pub use Rattle.bolt_format.proofs.PageFacts.{below_mark, bucket_value, flat_inline, in_inline, on_leaf, span_passes, span_within}
pub use Rattle.bolt_format.proofs.PageSizes.{largest_page, size_bounds}
pub use Rattle.bolt_format.proofs.SinkLemmas.{AppendsPrefix-whole, AppendsProperPrefix-first, AppendsProperPrefix-second, more_some}
pub use Rattle.bolt_format.proofs.WroteFronts.{WroteFront, front_more, front_none, front_return, front_same, front_stop, front_whole, fronts}
pub use Rattle.bolt_format.proofs.WroteLemmas.{Wrote-element, Wrote-element_return, Wrote-elements, Wrote-ends, Wrote-halt, Wrote-none, Wrote-return}
pub use Rattle.bolt_format.proofs.WroteLemmas.{Wrote-return_cut, Wrote-same, Wrote-stop, Wrote-stop_cut, Wrote-stop_halted, Wrote-then}
pub use Rattle.bolt_format.proofs.WroteLemmas.{Wrote-then_return, Wrote-unkept, broken_by, wrote}
