use Rattle.std.proofs.Common.{◌≡◌, ◌∙◌, List, None, ap, rules, sym}
use Rattle.bolt_check.proofs.{KeyOrder.key_passed, Words.Key, Words.bound_of, Words.keys_order_fault}
use Rattle.bolt_check.specs.Keys.{key_order_fault}
use Rattle.bolt_format.proofs.Exports.{drop_next}
use Rattle.bolt_format.specs.TreePages.{page_keys}
use Rattle.bolt_check.proofs.visit.test_keys.Goals as goal

pub loop-i-preserved : goal.loop-i-preserved
loop-i-preserved c =
    let before = bound_of c.loop-i.before in
    let from = bound_of c.loop-i.from in
    let upper = bound_of c.args.upper in
    let key = c.key-key.result.now in
    let passes : key_order_fault before from upper key ≡ None = search rules in
    let next = drop_next (page_keys c.args.node.now) c.loop-i.i key (search rules) in
    sym (ap (λ (keys : List Key). keys_order_fault before from upper keys) next ∙ key_passed before from upper key _ passes) ∙ c.loop-i.invariant
