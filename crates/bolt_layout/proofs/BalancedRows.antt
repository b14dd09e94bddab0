-- The limits that the plain layout notes are right for each bucket of the balanced one.
use Rattle.std.proofs.Common.{◌≡◌, ◌∙◌, ◌+◌, ℕ, suc, false, Option, map, subst, arith}
use Rattle.bolt_layout.proofs.Words.{AreFromEnds, AreRight, Balanced, end, HaveRightLimits, items_of, leaf_pages, limit_at, limits_from_ends}
use Rattle.bolt_layout.proofs.Words.{opened_by, Plain, row_ends_of, Tree, with_bucket, with_value}
use Rattle.bolt_layout.proofs.{Faces.face, Faces.leaf_faces, OpenedBuckets.opened_by_same, RightLimits.limits_alike, SameFaces.inline_alike}
use Rattle.bolt_layout.proofs.{SameFaces.items_alike, RowEnds.row_ends_are}

-- What the plain layout notes of a bucket's rows.
abbrev pub IsFromEnds : (page_size : ℕ) → (limit : ℕ → Option ℕ) → Tree → Type 0
IsFromEnds page_size limit tree =
    (level : ℕ) → limit level ≡ limit_at (limits_from_ends false (row_ends_of page_size (leaf_pages page_size (items_of Plain page_size tree)))) level

leaves_alike : (page_size : ℕ) (tree : Tree)
    → map face (leaf_pages page_size (items_of Plain page_size tree)) ≡ map face (leaf_pages page_size (items_of Balanced page_size tree))
leaves_alike page_size tree = grind (arith, leaf_faces, items_alike)

-- One bucket, as the root bucket:
pub right_from_ends : (page_size : ℕ) (limit : ℕ → Option ℕ) (tree : Tree) → IsFromEnds page_size limit tree
    → HaveRightLimits Balanced page_size limit (leaf_pages page_size (items_of Balanced page_size tree))
right_from_ends page_size limit tree is level =
    let plain = leaf_pages page_size (items_of Plain page_size tree) in
    let balanced = leaf_pages page_size (items_of Balanced page_size tree) in
    rw (is level) (limits_alike page_size plain balanced (row_ends_of page_size plain) (row_ends_are page_size plain) (leaves_alike page_size tree) level)

-- and all that a pass opens in it.
pub from_ends_right : (page_size : ℕ) (limits : ℕ → ℕ → Option ℕ) (n : ℕ) (tree : Tree) → AreFromEnds page_size limits n tree
    → AreRight Balanced page_size limits n tree
from_ends_right page_size limits n end are = tt
from_ends_right page_size limits n (with_value key value after) are = from_ends_right page_size limits n after are
from_ends_right page_size limits n (with_bucket key sequence inside after) are = (
  λ own. (let noted = are.0 (inline_alike page_size inside ∙ own) in
      (right_from_ends page_size (limits n) inside noted.0, from_ends_right page_size limits (suc n) inside noted.1)),
  subst (λ (m : ℕ). AreRight Balanced page_size limits (n + m) after) (opened_by_same page_size inside)
      (from_ends_right page_size limits (n + opened_by Plain page_size inside) after are.1),
)
