-- The parts, between the tokens of an array.
use Rattle.std.proofs.Common.{append_assoc}
use Rattle.bolt_text.proofs.TokenLemmas.{parts_tokens}
use Rattle.bolt_text.proofs.json_text.write_path.Goals as goal

pub returns-clause-tokens : goal.returns-clause-tokens
returns-clause-tokens c =
    rw (parts_tokens c.args.path.now) (simp (c.in_ok-write_parts.ensures.tokens, c.in_ok-begin_array.ensures.ok, append_assoc) at c.end_array.ensures.ok)
