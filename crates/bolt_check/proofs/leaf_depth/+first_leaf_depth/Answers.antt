use Rattle.std.proofs.Common.{◌≡◌, ◌-◌, suc, sym, arith}
use Rattle.bolt_check.proofs.{Words.∥∥₁_map, FirstLeaves.branch_goes_on, FirstLeaves.child_good, FirstLeaves.empty_ends, FirstLeaves.leaf_ends}
use Rattle.bolt_check.specs.CheckedFiles.{checked_nodes}
use Rattle.bolt_check.proofs.leaf_depth.+first_leaf_depth.Goals as goal

pub first_leaf_depth-requires : goal.first_leaf_depth-requires
first_leaf_depth-requires n c = (
  omega (arith, c.decreases, c.if-branches-eq0.false),
  (
    ∥∥₁_map c.requires.good
        (child_good (checked_nodes c.args.checked.now) c.args.number c.in-Branch.branch _ (rw c.in-Branch.is at c.known_page.ensures) c.element.ensures),
    omega (arith, c.requires.few),
  ),
)

pub overflow_add-result : goal.overflow_add-result
overflow_add-result n c = omega (arith, c.first_leaf_depth.ensures.small, c.requires.few)

pub returns-in-Branch-clause-depth : goal.returns-in-Branch-clause-depth
returns-in-Branch-clause-depth n c =
    let left : c.args.branches ≡ suc (c.args.branches - 1) = omega (arith, c.if-branches-eq0.false) in
    let on =
    branch_goes_on (checked_nodes c.args.checked.now) c.args.branches (c.args.branches - 1) c.args.number left c.in-Branch.branch _
    (rw c.in-Branch.is at c.known_page.ensures) c.element.ensures in
    let below = c.first_leaf_depth.ensures.depth in
    omega (arith, on, below)

pub returns-in_default-clause-depth : goal.returns-in_default-clause-depth
returns-in_default-clause-depth n c =
    let left : c.args.branches ≡ suc (c.args.branches - 1) = omega (arith, c.if-branches-eq0.false) in
    let none = c.if-count-gt0.false in
    let count = c.count.ensures in
    sym (empty_ends (checked_nodes c.args.checked.now) c.args.branches (c.args.branches - 1) c.args.number left c.in-Branch.branch
    (rw c.in-Branch.is at c.known_page.ensures) (omega (arith, none, count)))

pub returns-in_default-2-clause-depth : goal.returns-in_default-2-clause-depth
returns-in_default-2-clause-depth n c =
    let left : c.args.branches ≡ suc (c.args.branches - 1) = omega (arith, c.if-branches-eq0.false) in
    sym (leaf_ends (checked_nodes c.args.checked.now) c.args.branches (c.args.branches - 1) c.args.number left c.in_default.field-0
    (rw c.in_default.is at c.known_page.ensures))
