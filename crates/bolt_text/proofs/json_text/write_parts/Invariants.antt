use Rattle.std.proofs.Common.{◌≡◌, ◌++◌, Bor, List, ℕ, flat_map, take}
use Rattle.bolt_text.proofs.Vocabulary.{item_json, json_tokens}
use Rattle.bolt_text.proofs.json_text.write_parts.Given as goal

-- the tokens of the parts before this one were written
abbrev pub invariant-loop-part : goal.invariant-loop-part
invariant-loop-part l = record {
  before : l.writer.before ≡ l.initial.writer.before;
  tokens : l.writer.tokens ≡ l.initial.writer.tokens ++ flat_map (λ (part : Bor (List ℕ)). json_tokens (item_json part.now)) (take l.part-index l.path);
}
