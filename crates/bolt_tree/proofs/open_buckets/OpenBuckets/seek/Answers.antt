use Rattle.std.proofs.Common.{◌∙◌, ◌++◌, ◌∷◌, [], List, Bor, ℕ, suc, drop, take, length, get_or, refl, ap}
use Rattle.bolt_tree.proofs.{Words.Path, Words.cursors_of, Words.open_path, Words.path_of, Words.rest_from, Words.take-nil, Climbing.listed_in}
use Rattle.bolt_tree.proofs.Seeking.{ends_at, from_start, none_left, parts_whole}
use Rattle.bolt_tree.proofs.open_buckets.OpenBuckets.seek.Goals as goal

pub returns-in-Here-clause-left : goal.returns-in-Here-clause-left
returns-in-Here-clause-left c = λ listing lists.
    let came = rw c.in-Here.is at c.in_ok-inside.ensures.sought in
    let none : Bor (List ℕ) = record { ref_ptr = (0, 0); now = [] } in
    let rest : Path = path_of (drop (suc c.loop-i.i) c.args.path.now) in
    came.2 rest (ends_at c.args.path.now c.loop-i.i (length c.args.path.now) refl c.loop-i-test.true) listing
    (listed_in c.loop-i.self.checked c.args.self.now.checked listing c.loop-i.invariant.checked lists)
    ∙ ap (λ (p : Path). rest_from p listing)
    (ap (λ (p : Path). p ++ (get_or c.args.path.now c.loop-i.i none).now ∷ rest) c.loop-i.invariant.parts
    ∙ parts_whole c.args.path.now c.loop-i.i none c.loop-i-test.true)

pub returns-clause-left : goal.returns-clause-left
returns-clause-left c = λ listing lists.
    let empty = none_left c.args.path.now c.loop-i.i c.loop-i.auto.i-end c.loop-i-test.false c.loop-i.invariant.more in
    from_start c.loop-i.self.checked (cursors_of c.loop-i.self) (open_path c.loop-i.self) (path_of c.args.path.now) c.loop-i.invariant.placed
    (c.loop-i.invariant.parts ∙ ap (λ (p : List (Bor (List ℕ))). path_of (take c.loop-i.i p)) empty ∙ ap path_of (take-nil c.loop-i.i))
    (ap path_of empty) listing
    (listed_in c.loop-i.self.checked c.args.self.now.checked listing c.loop-i.invariant.checked lists)
