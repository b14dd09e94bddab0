-- What is wrong with a line, by its words.
use Rattle.std.proofs.Common.{◌∙◌, sym}
use Rattle.bolt_load.proofs.{Words.hex_path_in, Words.word_item, MemberLemmas.shape_is_right, MemberLemmas.value_is_long}
use Rattle.bolt_load.proofs.decode.add_line.Goals as goal

pub returns-then-is_long_item-clause-fault : goal.returns-then-is_long_item-clause-fault
returns-then-is_long_item-clause-fault c =
    value_is_long c.args.line.now (hex_path_in c.in-Some.words.path.now) (word_item c.in-Some.words.item) c.in-Some.ensures.member
    (sym c.in_ok-decode_words.ensures.good ∙ c.if-not-branch.false)
    c.has_long_key.result c.is_long_item.result c.has_long_key.ensures c.is_long_item.ensures c.if-has_long_key.false c.if-is_long_item.true

pub returns-clause-fault : goal.returns-clause-fault
returns-clause-fault c =
    shape_is_right c.args.line.now (hex_path_in c.in-Some.words.path.now) (word_item c.in-Some.words.item) c.in-Some.ensures.member
    (sym c.in_ok-decode_words.ensures.good ∙ c.if-not-branch.false)
    c.has_long_key.result c.is_long_item.result c.has_long_key.ensures c.is_long_item.ensures c.if-has_long_key.false c.if-is_long_item.false

pub returns-then-is_long_item-clause-added : goal.returns-then-is_long_item-clause-added
returns-then-is_long_item-clause-added c = rw c.in-Some.ensures.member c.in_ok-decode_words.ensures.added

pub returns-clause-added : goal.returns-clause-added
returns-clause-added c = rw c.in-Some.ensures.member c.in_ok-decode_words.ensures.added
