-- The plain layout needs no limits in any of its buckets.
use Rattle.bolt_layout.proofs.LimitedRows.{left_free}
use Rattle.std.proofs.Common.{◌≡◌, ◌+◌, ℕ, suc, List, Option, None, arith}
use Rattle.bolt_layout.proofs.Words.{AreRight, BranchElement, end, HaveRightLimits, items_of, Laid, leaf_pages, opened_by, Plain, Tree, with_bucket}
use Rattle.bolt_layout.proofs.Words.{with_value}

pub plain_rows : (page_size : ℕ) (limits : ℕ → ℕ → Option ℕ) → ((bucket level : ℕ) → limits bucket level ≡ None)
    → (bucket : ℕ) (pages : List (Laid BranchElement))
    → HaveRightLimits Plain page_size (limits bucket) pages
plain_rows page_size limits none bucket pages k = grind (arith, left_free)

pub plain_right : (page_size : ℕ) (limits : ℕ → ℕ → Option ℕ) → ((bucket level : ℕ) → limits bucket level ≡ None) → (n : ℕ) (tree : Tree)
    → AreRight Plain page_size limits n tree
plain_right page_size limits none n end = tt
plain_right page_size limits none n (with_value key value after) = plain_right page_size limits none n after
plain_right page_size limits none n (with_bucket key sequence inside after) = (
  λ own. (plain_rows page_size limits none n (leaf_pages page_size (items_of Plain page_size inside)), plain_right page_size limits none (suc n) inside),
  plain_right page_size limits none (n + opened_by Plain page_size inside) after,
)
