use Rattle.std.proofs.Common.{◌∙◌, ap, ℕ}
use Rattle.bolt_etcd.specs.Store.Crc32c.{crc_from}
use Rattle.bolt_etcd.proofs.SumOfEntries.{is_added, not_added}
use Rattle.bolt_etcd.proofs.store.hash_kv.HashBounds.add.Goals as goal

pub returns-then-includes : goal.returns-then-includes
returns-then-includes c = λ entries knows.
    let (r, shows) = c.in-Some.ensures.is in
    is_added c.args.self.now entries _ c.in-Some.numbered r c.args.is_listed c.args.any_current _ _ knows shows c.is_current-is_current.ensures
    c.includes.ensures _ _ c.if-includes.true
    (c.update-then-includes.ensures ∙ ap (λ (state : ℕ). crc_from state c.in-Some.numbered.value.now) c.update.ensures)

pub returns-else-includes : goal.returns-else-includes
returns-else-includes c = λ entries knows.
    let (r, shows) = c.in-Some.ensures.is in
    not_added c.args.self.now entries _ c.in-Some.numbered r c.args.is_listed c.args.any_current _ _ knows shows c.is_current-is_current.ensures
    c.includes.ensures _ 0 c.if-includes.false
