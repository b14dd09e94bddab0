-- The words lie between the spaces.
use Rattle.std.proofs.Common.{◌∙◌, sym, ap}
use Rattle.std.specs.Option.{option_map}
use Rattle.bolt_text.proofs.Vocabulary.{option_and_then, word_item}
use Rattle.bolt_text.proofs.WordLemmas.{more_words, no_item, one_word, two_words, words_item, words_shown}
use Rattle.bolt_text.specs.LineWords.{shown_words, words_member}
use Rattle.bolt_text.proofs.line_words.words_of.Goals as goal

pub returns-in_err-path : goal.returns-in_err-path
returns-in_err-path c =
    let (words, member) = one_word c.args.line.now c.in_err-path.ensures in
    let none = c.from_residual.ensures in
    record { words = ap (option_map shown_words) none ∙ sym words; member = member ∙ sym (ap (option_and_then words_member) none) }

pub returns-in_err-mark : goal.returns-in_err-mark
returns-in_err-mark c =
    let (words, member) = two_words c.args.line.now c.in_ok-path.path.now c.in_ok-path.rest.now c.in_ok-path.ensures c.in_err-mark.ensures in
    let none = c.from_residual-in_err-mark.ensures in
    record { words = ap (option_map shown_words) none ∙ sym words; member = member ∙ sym (ap (option_and_then words_member) none) }

pub returns-then-is_some : goal.returns-then-is_some
returns-then-is_some c =
    let (words, member) =
    more_words c.args.line.now c.in_ok-path.path.now c.in_ok-path.rest.now c.in_ok-path.ensures c.in_ok-mark.mark.now c.in_ok-mark.word.now c.in_ok-mark.ensures
    c.cut_at-3.result c.cut_at-3.ensures (sym c.is_some.ensures ∙ c.if-is_some.true)
    in record { words = sym words; member = member }

pub returns-in_err-item : goal.returns-in_err-item
returns-in_err-item c =
    let last = sym c.is_some.ensures ∙ c.if-is_some.false in
    let none = c.from_residual-in_err-item.ensures in
    let shown =
    words_shown c.args.line.now c.in_ok-path.path.now c.in_ok-path.rest.now c.in_ok-path.ensures c.in_ok-mark.mark.now c.in_ok-mark.word.now
    c.in_ok-mark.ensures
    c.cut_at-3.result c.cut_at-3.ensures last
    in
    let member =
    words_item c.args.line.now c.in_ok-path.path.now c.in_ok-path.rest.now c.in_ok-path.ensures c.in_ok-mark.mark.now c.in_ok-mark.word.now c.in_ok-mark.ensures
    c.cut_at-3.result c.cut_at-3.ensures _ last c.in_err-item.ensures.item
    in record {
      words = ap (option_map shown_words) none ∙ sym (shown ∙ ap (option_map (λ item. (c.in_ok-path.path.now, item))) (sym c.in_err-item.ensures.word));
      member = member ∙ no_item c.in_ok-path.path.now ∙ sym (ap (option_and_then words_member) none);
    }

pub returns : goal.returns
returns c =
    let last = sym c.is_some.ensures ∙ c.if-is_some.false in
    let shown =
    words_shown c.args.line.now c.in_ok-path.path.now c.in_ok-path.rest.now c.in_ok-path.ensures c.in_ok-mark.mark.now c.in_ok-mark.word.now
    c.in_ok-mark.ensures
    c.cut_at-3.result c.cut_at-3.ensures last
    in record {
      words = sym (shown ∙ ap (option_map (λ item. (c.in_ok-path.path.now, item))) (sym c.in_ok-item.ensures.word));
      member =
          words_item c.args.line.now c.in_ok-path.path.now c.in_ok-path.rest.now c.in_ok-path.ensures c.in_ok-mark.mark.now c.in_ok-mark.word.now
          c.in_ok-mark.ensures
          c.cut_at-3.result c.cut_at-3.ensures (word_item c.in_ok-item.item) last c.in_ok-item.ensures.item;
    }
