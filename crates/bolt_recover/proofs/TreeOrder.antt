-- Trees whose keys rise, and what they list.
use Rattle.std.proofs.Common.{◌≡◌, ◌∙◌, ◌⊎◌, inl, inr, ℕ, zero, suc, true, List, [], ◌∷◌, ◌++◌, Some, slice_get, refl, sym, ap, subst, arith}
use Rattle.std.proofs.Common.{append_assoc}
use Rattle.bolt_recover.proofs.Words.{before_longer, Bucket, cases_Bool, cond_both, Contains, Contains-append_cases, contains_cases, contains_head}
use Rattle.bolt_recover.proofs.Words.{contains_none, contains_tail, end, head_sequence, inside_of, Key, key_cmp, key_lt, key_rise, KeysRise}
use Rattle.bolt_recover.proofs.Words.{LeafElement, Less, less_of, listing_below, Member, member_cmp, Path, path_cmp, Rises, same_front, Tree}
use Rattle.bolt_recover.proofs.Words.{tree_of_elements, with_bucket, with_value}
use Rattle.bolt_recover.proofs.SiteSteps.{keys_in}

-- a key of the outermost bucket
abbrev pub HasKey : Tree → Key → Type 0
HasKey end k = ⊥
HasKey (with_value key value after) k = (key ≡ k) ⊎ HasKey after k
HasKey (with_bucket key sequence inside after) k = (key ≡ k) ⊎ HasKey after k

abbrev pub IsFirst : Key → Tree → Type 0
IsFirst key tree = (k : Key) → HasKey tree k → key_lt key k ≡ true

-- the keys of each bucket rise
abbrev pub Ordered : Tree → Type 0
Ordered end = Unit {0}
Ordered (with_value key value after) = IsFirst key after × Ordered after
Ordered (with_bucket key sequence inside after) = IsFirst key after × Ordered inside × Ordered after

pub record IsUnder (front : Path) (tree : Tree) (m : Member) : Type 0 where
  pub key : Key
  pub rest : Path
  pub has : HasKey tree key
  pub at : m.0 ≡ front ++ key ∷ rest

pub under : (tree : Tree) (front : Path) (m : Member) → Contains (listing_below front tree) m → IsUnder front tree m
under end front m h = absurd (contains_none m h)
under (with_value key value after) front m h = let later = under after front m in grind (arith, contains_cases, later)
under (with_bucket key sequence inside after) front m h =
    elim (contains_cases (front ++ key ∷ [], Bucket sequence) m (listing_below (front ++ key ∷ []) inside ++ listing_below front after) h) [
      | inl same ↦ record { key = key; rest = []; has = inl refl; at = sym (ap (λ (x : Member). x.0) same) }
      | inr more ↦ elim (Contains-append_cases (listing_below (front ++ key ∷ []) inside) (listing_below front after) m more) [
        | inl deep ↦ let u = under inside (front ++ key ∷ []) m deep in
            record { key = key; rest = u.key ∷ u.rest; has = inl refl; at = u.at ∙ append_assoc front (key ∷ []) (u.key ∷ u.rest) }
        | inr later ↦ let u = under after front m later in record { key = u.key; rest = u.rest; has = inr u.has; at = u.at }
      ]
    ]

pub rises_both : (xs ys : List Member) → Rises member_cmp xs → Rises member_cmp ys
    → ((x y : Member) → Contains xs x → Contains ys y → member_cmp x y ≡ Less) → Rises member_cmp (xs ++ ys)
rises_both [] ys r s between = s
rises_both (x ∷ xs) ys r s between = (
  λ y h. elim (Contains-append_cases xs ys y h) [ inl a ↦ r.0 y a | inr b ↦ between x y (contains_head x xs) b ],
  rises_both xs ys r.1 s (λ a b h k. between a b (contains_tail x a xs h) k),
)

less_path : (front : Path) (j : Key) (s : Path) (k : Key) (t : Path) → key_lt j k ≡ true → path_cmp (front ++ j ∷ s) (front ++ k ∷ t) ≡ Less
less_path front j s k t lt = same_front front (j ∷ s) (k ∷ t) ∙ rw (less_of (key_cmp j k) lt) refl

pub ordered_rises : (tree : Tree) (front : Path) → Ordered tree → Rises member_cmp (listing_below front tree)
ordered_rises end front is = tt
ordered_rises (with_value key value after) front (first, later) = (
  λ m h. let u = under after front m h in
      subst (λ (p : Path). path_cmp (front ++ key ∷ []) p ≡ Less) (sym u.at) (less_path front key [] u.key u.rest (first u.key u.has)),
  ordered_rises after front later,
)
ordered_rises (with_bucket key sequence inside after) front (first, own, later) =
    let deep : List Member = listing_below (front ++ key ∷ []) inside in
    let behind : List Member = listing_below front after in (
      λ m h. elim (Contains-append_cases deep behind m h) [
        | inl h ↦ let u = under inside (front ++ key ∷ []) m h in
            subst (λ (p : Path). path_cmp (front ++ key ∷ []) p ≡ Less) (sym u.at) (before_longer (front ++ key ∷ []) u.key u.rest)
        | inr h ↦ let u = under after front m h in
            subst (λ (p : Path). path_cmp (front ++ key ∷ []) p ≡ Less) (sym u.at) (less_path front key [] u.key u.rest (first u.key u.has))
      ],
      rises_both deep behind (ordered_rises inside (front ++ key ∷ []) own) (ordered_rises after front later) (λ x y hx hy.
          let u = under inside (front ++ key ∷ []) x hx in
          let v = under after front y hy in
          subst (λ (p : Path). path_cmp p y.0 ≡ Less) (sym (u.at ∙ append_assoc front (key ∷ []) (u.key ∷ u.rest)))
          (subst (λ (p : Path). path_cmp (front ++ key ∷ u.key ∷ u.rest) p ≡ Less) (sym v.at)
          (less_path front key (u.key ∷ u.rest) v.key v.rest (first v.key v.has)))),
    )

-- elements whose keys rise
has_element : (inside : LeafElement → Tree) (elements : List LeafElement) (k : Key) → HasKey (tree_of_elements inside elements) k
    → (j : ℕ) × (slice_get (keys_in elements) j ≡ Some k)
has_element inside [] k has = absurd has
has_element inside (e ∷ elements) k has =
    elim (elim (cases_Bool e.is_bucket) as (λ _. (e.key ≡ k) ⊎ HasKey (tree_of_elements inside elements) k) [ inl is ↦ rw is at has | inr is ↦ rw is at has ]) [
      | inl same ↦ (zero, ap Some same)
      | inr later ↦ let (j, at) = has_element inside elements k later in (suc j, at)
    ]

pub elements_ordered : (inside : LeafElement → Tree) (elements : List LeafElement) → ((e : LeafElement) → Ordered (inside e))
    → KeysRise (keys_in elements) → Ordered (tree_of_elements inside elements)
elements_ordered inside [] own rise = tt
elements_ordered inside (e ∷ elements) own rise =
    let later = elements_ordered inside elements own (λ i j a b lt. rise (suc i) (suc j) a b (omega (arith, lt))) in
    let first : IsFirst e.key (tree_of_elements inside elements) = λ k has. let (j, at) = has_element inside elements k has in
    rise zero (suc j) e.key k (omega arith) refl at in
    cond_both e.is_bucket (with_bucket e.key (head_sequence e.value) (inside e) (tree_of_elements inside elements))
    (with_value e.key e.value (tree_of_elements inside elements)) Ordered
    (λ is. (first, own e, later)) (λ is. (first, later))

pub inside_ordered : (e : LeafElement) → Ordered (inside_of e)
inside_ordered e = grind (arith, keys_in, elements_ordered, key_rise)
