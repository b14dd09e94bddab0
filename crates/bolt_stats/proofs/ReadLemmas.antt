-- What reading a page opens and finds.
use Rattle.std.proofs.Common.{◌≡◌, ℕ, true, false, List, [], ◌∷◌, ◌++◌, flat_map, map, refl, ap}
use Rattle.bolt_stats.proofs.Words.{BranchElement, kid_pages, leaf_entry, LeafElement, root_page_of, unread_page, UnreadPage}
use Rattle.bolt_check.specs.Nodes.{branch_entry}

-- what the elements of a page lead to
pub branch_kids : (depth : ℕ) (xs : List BranchElement)
    → map (unread_page depth) (kid_pages false (map branch_entry xs)) ≡ map (λ (x : BranchElement). unread_page depth x.child) xs
branch_kids depth [] = refl
branch_kids depth (x ∷ xs) = ap (λ (l : List UnreadPage). unread_page depth x.child ∷ l) (branch_kids depth xs)

pub leaf_kids : (xs : List LeafElement) → kid_pages true (map leaf_entry xs) ≡ flat_map root_page_of xs
leaf_kids [] = refl
leaf_kids (x ∷ xs) = ap (λ (l : List ℕ). root_page_of x ++ l) (leaf_kids xs)
