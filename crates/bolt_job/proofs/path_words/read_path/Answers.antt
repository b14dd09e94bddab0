use Rattle.std.proofs.Common.{◌∙◌, ℕ, Global, Vec, [], ◌∷◌, ◌+◌, ap, drop, sym}
use Rattle.bolt_job.proofs.Vocabulary.{Path, at_drop_more, each_part, map-append, part_of, owned_path}
use Rattle.bolt_job.proofs.PathReading.{continued, continued_one, part_refused, texts}
use Rattle.bolt_job.proofs.path_words.read_path.Goals as goal

pub returns-in_err-read_part : goal.returns-in_err-read_part
returns-in_err-read_part c =
    let read = part_of c.args.parts in
    let front = owned_path c.loop-word.path.items in
    let i = c.loop-word.word-index in
    part_refused read _ (texts (drop (i + 1) c.args.words.now)) _ (λ (part : Vec ℕ Global). part.items) front _ _ c.from_residual.result
    c.in_err-read_part.ensures
    (sym (at_drop_more (λ words. continued front (each_part read (texts words))) c.args.words.now i _ c.loop-word-test.true) ∙ c.loop-word.invariant)
    c.from_residual.ensures.1

pub loop-word-preserved : goal.loop-word-preserved
loop-word-preserved c =
    let read = part_of c.args.parts in
    let front = owned_path c.loop-word.path.items in
    let i = c.loop-word.word-index in
    let part = c.in_ok-read_part.field-0 in
    let left = texts (drop (i + 1) c.args.words.now) in
    ap (λ (path : Path). continued path (each_part read left)) (ap owned_path c.in_ok-push.ensures.items ∙ map-append _ c.loop-word.path.items (part ∷ []))
    ∙ sym (at_drop_more (λ words. continued front (each_part read (texts words))) c.args.words.now i _ c.loop-word-test.true
    ∙ continued_one read _ left front part.items c.in_ok-read_part.ensures)
    ∙ c.loop-word.invariant
