-- The pages below a page, and sums over them: docs/SOUND.md, "Ways".
use Rattle.std.specs.Prelude.{◌≡◌, ◌==◌, ℕ, zero, suc, ◌+◌, Bool, true, false, List, [], ◌∷◌, ◌++◌, Result, Ok, Err, cond, sum_by}
use Rattle.bolt_lemmas.specs.Lists.{Has}
use Rattle.bolt_check.specs.{Nodes.Entry, Nodes.Node, Nodes.Nodes}

-- the root page of the bucket that an entry of a leaf is, unless it is inline
abbrev pub root_page : Entry → List ℕ
root_page e = cond e.is_bucket (cond (e.child == 0) [] (e.child ∷ [])) []

-- the pages that the entries of a branch or a leaf lead to
abbrev pub kid_pages : Bool → List Entry → List ℕ
kid_pages is_leaf [] = []
kid_pages false (e ∷ entries) = e.child ∷ kid_pages false entries
kid_pages true (e ∷ entries) = root_page e ++ kid_pages true entries

abbrev pub kids_at : Result Node ℕ → List ℕ
kids_at (Ok node) = kid_pages node.is_leaf node.entries
kids_at (Err fault) = []

module _ (nodes : Nodes) where
  -- `k` steps are enough to go down from page n, and all pages there are good
  abbrev pub Enough : ℕ → ℕ → Type 0
  Enough zero n = ⊥
  Enough (suc k) n = (node : Node) × (nodes n ≡ Ok node) × ((m : ℕ) → Has (kid_pages node.is_leaf node.entries) m → Enough k m)

  -- the sum over page n and all pages below it, `k` steps deep
  abbrev pub weight : (ℕ → ℕ) → ℕ → ℕ → ℕ
  weight own zero n = 0
  weight own (suc k) n = own n + sum_by (weight own k) (kids_at (nodes n))
