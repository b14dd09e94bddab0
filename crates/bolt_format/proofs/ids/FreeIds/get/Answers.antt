use Rattle.std.proofs.Common.{◌∙◌, ◌+◌, ◌*◌, Some, ap, arith, sym}
use Rattle.bolt_format.specs.{Bytes.number_at, ShownIds.shown_ids}
use Rattle.bolt_format.proofs.{FreeLemmas.below_len, GoodPages.slice_get-made}
use Rattle.bolt_format.proofs.ids.FreeIds.get.Goals as goal

pub overflow_mul-i : goal.overflow_mul-i
overflow_mul-i c = omega (arith, below_len c.args.self.now c.args.i c.requires, c.args.self.now.within)

pub overflow_add-self : goal.overflow_add-self
overflow_add-self c = omega (arith, below_len c.args.self.now c.args.i c.requires, c.args.self.now.within)

pub u64_at-requires : goal.u64_at-requires
u64_at-requires c = omega (arith, below_len c.args.self.now c.args.i c.requires, c.args.self.now.within)

pub returns : goal.returns
unfolding shown_ids
returns c =
    let ids = c.args.self.now in
    slice_get-made (λ k. number_at ids.bytes.now (ids.start + 8 * k) 8) ids.len c.args.i (below_len ids c.args.i c.requires) ∙ ap Some (sym c.u64_at.ensures)
