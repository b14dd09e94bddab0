-- A page that is in the file has its place in the table, and what a visit claims.
use Rattle.std.proofs.Common.{◌≡◌, ◌+◌, ◌*◌, ◌<◌, ◌≤◌, ℕ, List, length, arith, refl, subst}
use Rattle.bolt_check.proofs.Words.{HasRoom, Meta, PageUse, PageView, shown_node, TreePage}
use Rattle.bolt_format.specs.{Pages.IsInFile, TreePages.shown_page}

pub in_room : (file : List ℕ) (meta : Meta) (id : ℕ) (view : PageView) (table : List PageUse) → IsInFile file meta id view → HasRoom file meta table
    → id + view.overflow < length table
in_room file meta id view table inside room =
    let same : id + 1 + view.overflow ≡ id + view.overflow + 1 = omega arith in
    room (id + view.overflow) (subst (λ (n : ℕ). n * meta.page_size ≤ length file) same inside.end) inside.below

-- the overflow of a node is its page's
pub overflow_shown : (node : TreePage) → (shown_page node).overflow ≡ (shown_node node).overflow
unfolding shown_node
overflow_shown node = refl
