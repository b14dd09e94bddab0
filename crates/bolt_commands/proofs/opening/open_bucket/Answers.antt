use Rattle.std.proofs.Common.{◌∙◌, ◌+◌, drop, refl, take}
use Rattle.bolt_commands.proofs.{Vocabulary.bucket_start, Vocabulary.owned_path, AtPaths.leads_further, AtPaths.leads_nowhere, AtPaths.parts_at}
use Rattle.bolt_commands.proofs.{AtPaths.parts_more}
use Rattle.bolt_commands.proofs.opening.open_bucket.Goals as goal

pub returns-in_default-clause-refused : goal.returns-in_default-clause-refused
returns-in_default-clause-refused c =
    let start = bucket_start c.loop-part.bucket in
    let before = owned_path (take c.loop-part.part-index c.args.path.now) in
    let rest = owned_path (drop (c.loop-part.part-index + 1) c.args.path.now) in
    let key = c.part-item.result.items in
    let none = rw (c.loop-part.invariant.file, c.as_slice.ensures.value) at c.in_default.ensures.bucket in
    let parts = parts_at c.args.path.now c.loop-part.part-index c.part-item.result c.part-item.is c.loop-part-test.true in
    (refl, λ there names. leads_nowhere c.args.checked before key rest start c.loop-part.invariant.named none there (rw parts at names))

pub loop-part-preserved : goal.loop-part-preserved
loop-part-preserved c =
    let start = bucket_start c.loop-part.bucket in
    let before = owned_path (take c.loop-part.part-index c.args.path.now) in
    let key = c.part-item.result.items in
    let found = rw (c.loop-part.invariant.file, c.as_slice.ensures.value) at c.in-Some.ensures.bucket in
    let parts = parts_more c.args.path.now c.loop-part.part-index c.part-item.result c.part-item.is c.loop-part-test.true in
    let named = leads_further c.args.checked before key start c.in-Some.inner c.loop-part.invariant.named found in
    record { file = c.in-Some.ensures.checked ∙ c.loop-part.invariant.file; named = rw parts named }
