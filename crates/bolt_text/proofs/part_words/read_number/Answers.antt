-- Digits alone, of a number of 64 bits, are read as that number, and no other word is.
use Rattle.std.proofs.Common.{rules, ◌∙◌, sym}
use Rattle.bolt_text.proofs.{DecimalNumbers.no_plus, DecimalNumbers.no_text, DecimalNumbers.parsed_number, DecimalNumbers.text_is}
use Rattle.bolt_text.proofs.part_words.read_number.Goals as goal

pub returns-in_err-ok : goal.returns-in_err-ok
returns-in_err-ok c =
    c.from_residual.ensures ∙ sym (no_text c.args.word.now _ c.from_utf8.result c.from_utf8.ensures.cases (sym c.ok.ensures.value ∙ c.in_err-ok.was))

pub returns : goal.returns
returns c = search (rules, text_is, no_plus, parsed_number)
