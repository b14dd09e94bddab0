-- A sum over the tour of a bucket, page by page: a page's own, and those of the pages that it leads to.
use Rattle.std.proofs.{lemmas.Grind.common_steps, lemmas.List.Sums.sum_by-append}
use Rattle.std.proofs.Common.{◌≡◌, ◌∙◌, ◌==◌, ℕ, zero, suc, ◌+◌, ◌≤◌, inl, inr, Bool, true, false, List, [], ◌∷◌, ◌++◌, Option, Some, None, Result}
use Rattle.std.proofs.Common.{Ok, cond, length, map, sum_by, refl, sym, ap, subst, arith}
use Rattle.bolt_lemmas.proofs.Exports.{has_left, has_right, length-numbers, numbers, shorter, sum_same, without}
use Rattle.bolt_check.proofs.Words.{InlinePage, At_inline, At_page, Entry, forest, Has, HasSoundTrees, IsSome, IsTour, Meta, Node, node_at, Nodes}
use Rattle.bolt_check.proofs.Words.{page_at, PageSpot, places, Reach, root_spot, somes, Spot, sum_by-cons}
use Rattle.bolt_check.proofs.{Forest.forest_empty, Forest.inline_visits, Forest.page_visits, Forest.root_visits, Forest.tail}
use Rattle.bolt_check.proofs.HighWaterLemmas.{node_shown}
use Rattle.bolt_check.proofs.TourExists.{Fits, bucket_fits, fits_page, fits_visited}
use Rattle.bolt_check.proofs.{TourLemmas.Ways, TourLemmas.tour_map, TourLemmas.tour_step, Visiting.Visits}
use Rattle.bolt_check.specs.{Subtrees.Enough, Subtrees.kid_pages, Subtrees.kids_at, Subtrees.root_page, Subtrees.weight, Ways.reached}

-- the pages among spots
abbrev pub pages_of : List Spot → List ℕ
pages_of [] = []
pages_of (At_page s ∷ spots) = s.number ∷ pages_of spots
pages_of (At_inline host inner ∷ spots) = pages_of spots

abbrev result_of : Node → Result Node ℕ
result_of node = Ok node

pub pages_append : (a b : List Spot) → pages_of (a ++ b) ≡ pages_of a ++ pages_of b
pages_append [] b = refl
pages_append (At_page s ∷ a) b = ap (λ (l : List ℕ). s.number ∷ l) (pages_append a b)
pages_append (At_inline host inner ∷ a) b = pages_append a b

somes_bucket : (bucket small : Bool) (host : ℕ) (e : Entry) (os : List (Option Spot))
    → pages_of (somes (cond bucket (Some (cond small (At_inline host e.inner) (At_page (root_spot e.child)))) None ∷ os))
    ≡ cond bucket (cond small [] (e.child ∷ [])) [] ++ pages_of (somes os)
somes_bucket bucket small host e os = grind arith

-- the pages that a page leads to are those of its kids
pub pages_of_kids : (is_leaf : Bool) (s : PageSpot) (entries : List Entry) → pages_of (somes (places is_leaf s entries)) ≡ kid_pages is_leaf entries
pages_of_kids is_leaf s [] = refl
pages_of_kids false s (e ∷ entries) = ap (λ (l : List ℕ). e.child ∷ l) (pages_of_kids false s entries)
pages_of_kids true s (e ∷ entries) =
    somes_bucket e.is_bucket (e.child == 0) s.number e (places true s entries) ∙ ap (λ (l : List ℕ). root_page e ++ l) (pages_of_kids true s entries)

module _ (nodes : Nodes) where
  pub enough_more : (k n : ℕ) → Enough nodes k n → Enough nodes (suc k) n
  enough_more zero n h = absurd h
  enough_more (suc k) n (node, page, kids) = (node, page, λ m i. enough_more k m (kids m i))

  weight_more : (own : ℕ → ℕ) (k n : ℕ) → Enough nodes k n → weight nodes own (suc k) n ≡ weight nodes own k n
  weight_more own zero n h = absurd h
  weight_more own (suc k) n (node, page, kids) =
      let same : sum_by (weight nodes own (suc k)) (kids_at (nodes n)) ≡ sum_by (weight nodes own k) (kids_at (nodes n))
      = sum_same (weight nodes own (suc k)) (weight nodes own k) (kids_at (nodes n))
      (λ m i. weight_more own k m (kids m (subst (λ (r : Result Node ℕ). Has (kids_at r) m) page i))) in
      ap (λ (w : ℕ). own n + w) same

  -- the pages that a page leads to
  pub enough_kids : (k n : ℕ) (node : Node) → nodes n ≡ Ok node → Enough nodes k n → (m : ℕ) → Has (kid_pages node.is_leaf node.entries) m
      → Enough nodes k m
  enough_kids zero n node page h m i = absurd h
  enough_kids (suc k) n node page (other, is, kids) m i =
      enough_more k m (kids m (subst (λ (x : Node). Has (kid_pages x.is_leaf x.entries) m) (one_node node other (sym page ∙ is)) i))
    where
      one_node : (a b : Node) → result_of a ≡ result_of b → a ≡ b
      one_node a b e = cc

  pub weight_kids : (own : ℕ → ℕ) (k n : ℕ) (node : Node) → nodes n ≡ Ok node → Enough nodes k n
      → weight nodes own k n ≡ own n + sum_by (weight nodes own k) (kid_pages node.is_leaf node.entries)
  weight_kids own zero n node page h = absurd h
  weight_kids own (suc k) n node page (other, is, kids) =
      let at : kids_at (nodes n) ≡ kid_pages node.is_leaf node.entries = ap kids_at page in
      let low : (m : ℕ) → Has (kids_at (nodes n)) m → Enough nodes k m = λ m i. kids m (subst (λ (r : Result Node ℕ). Has (kids_at r) m) is i) in
      ap (λ (w : ℕ). own n + w)
      (sum_same (weight nodes own k) (weight nodes own (suc k)) (kids_at (nodes n)) (λ m i. sym (weight_more own k m (low m i)))
      ∙ ap (sum_by (weight nodes own (suc k))) at)

  -- what a spot adds: a page its own, an inline bucket nothing
  abbrev pub spot_weight : (ℕ → ℕ) → Option Spot → ℕ
  spot_weight own None = 0
  spot_weight own (Some (At_page s)) = own s.number
  spot_weight own (Some (At_inline host inner)) = 0

  sum_map : (f : List ℕ → List ℕ) (g h : List ℕ → ℕ) (ways : Ways) → ((way : List ℕ) → Has ways way → g (f way) ≡ h way)
      → sum_by g (map f ways) ≡ sum_by h ways
  sum_map f g h [] same = refl
  sum_map f g h (w ∷ ways) same =
      let rest = sum_map f g h ways (λ x i. same x (inr i)) in let here = same w (inl refl) in
      let p = sum_by-cons g (f w) (map f ways) in let q = sum_by-cons h w ways in omega (arith, rest, here, p, q)

  module _ (own : ℕ → ℕ) where
    -- n steps are enough below the pages of these spots, which have a tour, and the sum over it is that over the pages
    abbrev Summed : ℕ → List Spot → Type 0
    Summed n spots = ((m : ℕ) → Has (pages_of spots) m → Enough nodes n m)
        × ((tour : Ways) × IsTour (forest nodes spots) tour ×
        (sum_by (λ way. spot_weight own (forest nodes spots way)) tour ≡ sum_by (weight nodes own n) (pages_of spots)))

    -- the sum over the ways to what is left is the same in the whole
    map_sum : {old new : Reach} {o : Option Spot} {first : List ℕ} {f : List ℕ → List ℕ} → Visits old new o first f → (tour : Ways) → IsTour new tour
        → sum_by (λ way. spot_weight own (old way)) (map f tour) ≡ sum_by (λ way. spot_weight own (new way)) tour
    map_sum {old = old} {new = new} {f = f} v tour is = grind (arith, sum_map)

    step_sum : {old new : Reach} {first : List ℕ} {f : List ℕ → List ℕ} (s : Spot) → Visits old new (Some s) first f → (tour : Ways) → IsTour new tour
        → sum_by (λ way. spot_weight own (old way)) (first ∷ map f tour) ≡ spot_weight own (Some s) + sum_by (λ way. spot_weight own (new way)) tour
    step_sum {old = old} {first = first} {f = f} s v tour is = grind (arith, common_steps, map_sum)

    page_sum : (n : ℕ) (s : PageSpot) (node : Node) (rest : List Spot) → nodes s.number ≡ Ok node
        → Summed n (somes (places node.is_leaf s node.entries) ++ rest) → Summed (suc n) (At_page s ∷ rest)
    page_sum n s node rest page (all, (tour, is, sum)) =
        let kid_spots : List Spot = somes (places node.is_leaf s node.entries) in
        let kids : List ℕ = kid_pages node.is_leaf node.entries in
        let pages : pages_of (kid_spots ++ rest) ≡ kids ++ pages_of rest
        = pages_append kid_spots rest ∙ ap (λ (l : List ℕ). l ++ pages_of rest) (pages_of_kids node.is_leaf s node.entries) in
        let good : (m : ℕ) → Has (kids ++ pages_of rest) m → Enough nodes n m = λ m h. all m (subst (λ (l : List ℕ). Has l m) (sym pages) h) in
        let v = page_visits nodes s node rest page in
        let first = step_sum (At_page s) v tour is in
        let both = ap (sum_by (weight nodes own n)) pages ∙ sum_by-append (weight nodes own n) kids (pages_of rest) in
        let others = sum_same (weight nodes own n) (weight nodes own (suc n)) (pages_of rest)
        (λ m h. sym (weight_more own n m (good m (has_right kids (pages_of rest) m h)))) in
        let here : weight nodes own (suc n) s.number ≡ own s.number + sum_by (weight nodes own n) kids
        = ap (λ (r : Result Node ℕ). own s.number + sum_by (weight nodes own n) (kids_at r)) page in
        let whole = sum_by-cons (weight nodes own (suc n)) s.number (pages_of rest) in (
          λ m h. elim h [
            | inl e ↦ subst (Enough nodes (suc n)) e (node, page, λ x i. good x (has_left kids (pages_of rest) x i))
            | inr i ↦ enough_more n m (good m (has_right kids (pages_of rest) m i))
          ],
          (_, tour_step v tour is (At_page s) refl, omega (arith, first, sum, both, others, here, whole)),
        )

    inline_sum : (n : ℕ) (host : ℕ) (inner : InlinePage) (rest : List Spot) → Summed n rest → Summed n (At_inline host inner ∷ rest)
    inline_sum n host inner rest (all, (tour, is, sum)) =
        let v = inline_visits nodes host inner rest in
        let first = step_sum (At_inline host inner) v tour is in
        (all, (_, tour_step v tour is (At_inline host inner) refl, omega (arith, first, sum)))

    -- spots that fit, by the pages that are left
    along : (n : ℕ)
        → ((p : ℕ) → n ≡ suc p → (left : List ℕ) (spots : List Spot) → length left ≤ p → Fits nodes left (forest nodes spots) → Summed p spots)
        → (left : List ℕ) (spots : List Spot) → length left ≤ n → Fits nodes left (forest nodes spots) → Summed n spots
    along n below left [] le fits = grind (arith, forest_empty)
    along n below left (At_inline host inner ∷ rest) le fits =
        inline_sum n host inner rest (along n below left rest le (fits_visited nodes fits (inline_visits nodes host inner rest)))
    along zero below left (At_page s ∷ rest) le fits = absurd (omega (arith, shorter s.number left (fits.within (0 ∷ []) s refl), le))
    along (suc p) below left (At_page s ∷ rest) le fits =
        let good = fits.good (0 ∷ []) s refl in
        let has = fits.within (0 ∷ []) s refl in
        let less = shorter s.number left has in
        page_sum p s good.0 rest good.1
        (below p refl (without s.number left has) _ (omega (arith, less, le)) (fits_page nodes fits s (page_visits nodes s good.0 rest good.1) has))

    found : (n : ℕ) (left : List ℕ) (spots : List Spot) → length left ≤ n → Fits nodes left (forest nodes spots) → Summed n spots
    found zero = along zero (λ p e. absurd (omega arith))
    found (suc n) = along (suc n) (λ p e. let same : n ≡ p = omega arith in
        subst (λ (q : ℕ). (left : List ℕ) (spots : List Spot) → length left ≤ q → Fits nodes left (forest nodes spots) → Summed q spots) same (found n))

    -- from a page alone
    sum_from : (n : ℕ) (left : List ℕ) (root : ℕ) → length left ≤ n → Fits nodes left (reached nodes root)
        → Enough nodes n root × ((tour : Ways) × IsTour (reached nodes root) tour
        × (sum_by (λ way. spot_weight own (reached nodes root way)) tour ≡ weight nodes own n root))
    sum_from n left root le fits =
        let v = root_visits nodes (At_page (root_spot root)) in
        let (all, (tour, is, sum)) = found n left (At_page (root_spot root) ∷ []) le (fits_visited nodes fits v) in
        let moved = map_sum v tour is in
        let one = sum_by-cons (weight nodes own n) root [] in
        (all root (inl refl), (map tail tour, tour_map v tour is refl, omega (arith, moved, sum, one)))

-- a bucket of sound trees, wherever a way leads to its root page: the mark is enough steps, and each sum over its tour is that over its pages
pub bucket_sum : (file : List ℕ) (meta : Meta) → HasSoundTrees file meta → (way : List ℕ) (root : ℕ)
    → reached (node_at file meta) meta.root way ≡ Some (At_page (root_spot root)) → (own : ℕ → ℕ)
    → Enough (node_at file meta) meta.high_water root × ((tour : Ways) × IsTour (reached (node_at file meta) root) tour
    × (sum_by (λ way. spot_weight (node_at file meta) own (reached (node_at file meta) root way)) tour ≡ weight (node_at file meta) own meta.high_water root))
bucket_sum file meta trees way root leads own =
    sum_from (node_at file meta) own meta.high_water (numbers meta.high_water) root (let h = length-numbers meta.high_water in omega (arith, h))
    (bucket_fits file meta trees way root leads)

-- so it has a tour
pub bucket_tour : (file : List ℕ) (meta : Meta) → HasSoundTrees file meta → (way : List ℕ) (root : ℕ)
    → reached (node_at file meta) meta.root way ≡ Some (At_page (root_spot root))
    → (tour : Ways) × IsTour (reached (node_at file meta) root) tour
bucket_tour file meta trees way root leads = let (_, (tour, is, _)) = bucket_sum file meta trees way root leads (λ n. 0) in (tour, is)

-- a page below which there are enough steps is a good branch or leaf
pub enough_node : (nodes : Nodes) (k n : ℕ) → Enough nodes k n → (node : Node) × (nodes n ≡ Ok node)
enough_node nodes k n h = grind arith

pub enough_shown : (file : List ℕ) (meta : Meta) (k n : ℕ) → Enough (node_at file meta) k n → IsSome (page_at file meta n)
enough_shown file meta k n h = grind (arith, enough_node, node_shown)
