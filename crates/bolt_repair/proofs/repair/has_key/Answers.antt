use Rattle.std.proofs.Common.{Bor, List, is_lt, rules, ℕ}
use Rattle.std.proofs.lemmas.Fn.{always_returns_same}
use Rattle.bolt_lemmas.proofs.Exports.{sorted_by_shown}
use Rattle.bolt_check.specs.Keys.{key_cmp}
use Rattle.bolt_repair.proofs.KeySearches.{found_key}
use Rattle.bolt_repair.proofs.repair.has_key.Goals as goal

pub returns : goal.returns
returns c =
    let key = c.args.key.now in
    let now = λ (k : Bor (List ℕ)). k.now in
    found_key now key c.args.keys.now c.binary_search_by.result c.is_ok.result (sorted_by_shown now (λ a b. is_lt (key_cmp a b)) c.args.keys.now c.requires)
    c.binary_search_by.ensures.bound
    (c.binary_search_by.ensures.position (λ k. key_cmp k.now key) (always_returns_same _ _ _ (λ a r f h. search rules)))
    c.is_ok.ensures.value
