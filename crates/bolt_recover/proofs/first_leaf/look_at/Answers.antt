use Rattle.std.proofs.Common.{◌≡◌, ◌+◌, arith}
use Rattle.bolt_format.specs.TreePages.{shown_page}
use Rattle.bolt_recover.proofs.FirstWays.{leaf_says, branch_says, look_kept}
use Rattle.bolt_recover.proofs.first_leaf.look_at.Goals as goal

pub returns-in-Leaf : goal.returns-in-Leaf
returns-in-Leaf c = λ ways is.
    let last : c.in-Some.last ≡ c.args.way.spot.number + (shown_page c.in-Ok.page).overflow =
    omega (arith, c.in-Some.ensures, c.from.ensures, c.overflow.ensures) in
    let kept =
    look_kept c.args.file.now c.args.meta.now ways c.args.way.spot c.args.way.hull c.in-Ok.page c.in-Some.last is c.in-Ok.ensures.passes
    c.in-Ok.ensures.node c.if-spot-lt2.false last (c.is_apart.ensures c.if-not-is_apart.false) in
    leaf_says c.args.file.now c.args.meta.now ways c.args.way c.in-Leaf.leaf c.look_in.result is (rw c.in-Leaf.is at c.in-Ok.ensures.page) kept
    c.look_in.ensures

pub returns-in-Branch : goal.returns-in-Branch
returns-in-Branch c = λ ways is.
    let last : c.in-Some.last ≡ c.args.way.spot.number + (shown_page c.in-Ok.page).overflow =
    omega (arith, c.in-Some.ensures, c.from.ensures, c.overflow.ensures) in
    let kept =
    look_kept c.args.file.now c.args.meta.now ways c.args.way.spot c.args.way.hull c.in-Ok.page c.in-Some.last is c.in-Ok.ensures.passes
    c.in-Ok.ensures.node c.if-spot-lt2.false last (c.is_apart.ensures c.if-not-is_apart.false) in
    branch_says c.args.file.now c.args.meta.now ways c.args.way c.in-Branch.field-0 c.in-Some.last c.with.result c.first_child.result is
    (rw c.in-Branch.is at c.in-Ok.ensures.page) (rw c.in-Branch.is at c.in-Ok.ensures.node)
    c.in-Ok.ensures.shallow kept (rw c.in-Branch.is at last) c.with.ensures.old c.with.ensures.new (rw c.in-Branch.is at c.first_child.ensures)
