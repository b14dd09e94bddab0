-- What the proofs of other crates may cite of this one. Its other modules of proofs are its own.
pub use Rattle.bolt_text.proofs.CutLemmas.{parts_cut, parts_whole, some_parts}
pub use Rattle.bolt_text.proofs.DecimalNumbers.{decimal_numerals, number_is, number_written}
pub use Rattle.bolt_text.proofs.JsonLemmas.{Reads, digits_read, items_read, numeral_back}
pub use Rattle.bolt_text.proofs.LineLemmas.{lines_cut, no_lines}
pub use Rattle.bolt_text.proofs.PartTests.{parts, same_path}
pub use Rattle.bolt_text.proofs.ReportLemmas.{Wrote-fault, Wrote-passed, Wrote-sink, Wrote-unbegun, WroteLines, elements, front_broken, front_fault}
pub use Rattle.bolt_text.proofs.ReportLemmas.{reports, view_more, view_return}
pub use Rattle.bolt_text.proofs.ShortTexts.{short_fault, short_front, short_passed, short_same, short_then, short_unbegun, shorts}
