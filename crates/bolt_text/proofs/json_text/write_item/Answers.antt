use Rattle.std.proofs.Common.{rules}
use Rattle.bolt_text.proofs.TokenLemmas.{digits_tokens, text_tokens}
use Rattle.bolt_text.proofs.json_text.write_item.Goals as goal

pub returns-in-Ok-clause-tokens : goal.returns-in-Ok-clause-tokens
returns-in-Ok-clause-tokens c = search (rules, text_tokens)

pub returns-in-Err-clause-tokens : goal.returns-in-Err-clause-tokens
returns-in-Err-clause-tokens c = rw (digits_tokens c.args.bytes.now c.in-Err.ensures.cases.0) c.put_digits_object.ensures.tokens
