use Rattle.std.proofs.Common.{is_lt, rules}
use Rattle.std.proofs.lemmas.Fn.{always_returns_same}
use Rattle.bolt_lemmas.proofs.Exports.{sorted_by_shown}
use Rattle.bolt_check.specs.Keys.{key_cmp}
use Rattle.bolt_repair.proofs.{KeySearches.found_key, NewestUntil.key_of}
use Rattle.bolt_repair.proofs.repair.has_stored_key.Goals as goal

pub returns : goal.returns
returns c =
    let key = key_of c.args.revision.now in
    found_key key_of key c.args.revisions.now c.binary_search_by.result c.is_ok.result
    (sorted_by_shown key_of (λ a b. is_lt (key_cmp a b)) c.args.revisions.now c.requires)
    c.binary_search_by.ensures.bound
    (c.binary_search_by.ensures.position (λ r. key_cmp (key_of r) key) (always_returns_same _ _ _ (λ a r f h. search rules)))
    c.is_ok.ensures.value
