-- The characters of a text are tested one after another.
use Rattle.std.proofs.Common.{◌∙◌, Bool, ap, not, rules, sym, tests, ◌&&◌, chars}
use Rattle.std.proofs.{lemmas.Iterator.YieldsList-from_chars, lemmas.Iterator.Search.all_from_yields_List}
use Rattle.std.specs.Char.{is_control}
use Rattle.bolt_text.proofs.{Vocabulary.is_utf8-from_IsUtf8, Vocabulary.list_all, TokenLemmas.not_utf8}
use Rattle.bolt_text.proofs.item_writer.is_text.Goals as goal

pub returns-in-Ok : goal.returns-in-Ok
returns-in-Ok c =
    let bytes = c.args.bytes.now in
    let (same, utf8) = c.in-Ok.ensures.cases in
    all_from_yields_List (λ c. not (is_control c)) _ _ c.all.result c.all.ensures.ran (YieldsList-from_chars bytes utf8 (c.chars.ensures.rest ∙ same))
    (λ x b q k. search (rules, tests))
    ∙ ap (λ (b : Bool). b && list_all (λ c. not (is_control c)) (chars bytes)) (sym (is_utf8-from_IsUtf8 bytes utf8))

pub returns-in-Err : goal.returns-in-Err
returns-in-Err c =
    ap (λ (b : Bool). b && list_all (λ c. not (is_control c)) (chars c.args.bytes.now)) (sym (not_utf8 c.args.bytes.now c.in-Err.ensures.cases.0))
