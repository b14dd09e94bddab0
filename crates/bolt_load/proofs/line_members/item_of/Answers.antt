-- A value has half as many bytes as digits.
use Rattle.std.proofs.Common.{◌∙◌, sym, ap, subst}
use Rattle.std.specs.Option.{IsSomeAnd}
use Rattle.bolt_load.proofs.{Words.BeginsWith, Words.item_bytes, Words.word_item, PushedParts.value_fits, PushedParts.value_is}
use Rattle.bolt_text.specs.declared.line_words.ItemWord.{ItemWord}
use Rattle.bolt_load.proofs.line_members.item_of.Goals as goal

pub split_at-requires : goal.split_at-requires
split_at-requires c =
    value_fits c.in-Digits.digits.now c.args.bytes.now
    (subst (λ (word : ItemWord). IsSomeAnd (word_item word) (λ said. BeginsWith (item_bytes said) c.args.bytes.now)) c.in-Digits.is c.requires)

pub returns-in-Digits-clause-item : goal.returns-in-Digits-clause-item
returns-in-Digits-clause-item c =
    value_is c.in-Digits.digits.now c.args.bytes.now
    (subst (λ (word : ItemWord). IsSomeAnd (word_item word) (λ said. BeginsWith (item_bytes said) c.args.bytes.now)) c.in-Digits.is c.requires)
    c.split_at.result.0.now c.split_at.ensures.front ∙ sym (ap word_item c.in-Digits.is)
