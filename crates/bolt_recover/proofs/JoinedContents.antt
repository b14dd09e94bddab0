-- The members of a joined listing are recovered or found.
use Rattle.std.proofs.Common.{◌≡◌, ◌⊎◌, inl, inr, ℕ, Bool, true, false, IsTrue, is_none, List, [], ◌∷◌, ◌++◌, None, map, ◌==◌, if◌then◌else◌, refl}
use Rattle.std.proofs.Common.{sym, subst, arith}
use Rattle.bolt_recover.proofs.Words.{AreFound, Bucket, Contains, Contains-append_cases, contains_cases, contains_head, contains_none, contains_tail}
use Rattle.bolt_recover.proofs.Words.{end, eqb-true, found_tree, head_root, head_sequence, inline_elements, inside_of, IsElement, IsFoundMember}
use Rattle.bolt_recover.proofs.Words.{IsInnerMember, IsJoined, IsRecovered, item_of, joined_listing, keys_order_fault, LeafElement, leaves_of}
use Rattle.bolt_recover.proofs.Words.{listing_below, lost_and_found, Member, Meta, page_at, page_key, Path, Tree, tree_of_elements, Value}
use Rattle.bolt_recover.proofs.Words.{with_bucket, with_value}
use Rattle.bolt_recover.proofs.JoinedLemmas.{joined_of, put_of, put_or_there, put_recovered, with_elements}

-- an element, what it holds, or a later one
abbrev IsHere : (inside : LeafElement → Tree) → Path → LeafElement → Member → Type 0
IsHere inside path e m = (m ≡ (path ++ e.key ∷ [], item_of e)) ⊎ (IsTrue e.is_bucket × Contains (listing_below (path ++ e.key ∷ []) (inside e)) m)

here_by : (inside : LeafElement → Tree) (path : Path) (e : LeafElement) (elements : List LeafElement) (m : Member) (b : Bool)
    → Contains (listing_below path
    (if b then with_bucket e.key (head_sequence e.value) (inside e) (tree_of_elements inside elements)
    else with_value e.key e.value (tree_of_elements inside elements))) m
    → ((m ≡ (path ++ e.key ∷ [], if b then Bucket (head_sequence e.value) else Value e.value))
    ⊎ (IsTrue b × Contains (listing_below (path ++ e.key ∷ []) (inside e)) m))
    ⊎ Contains (listing_below path (tree_of_elements inside elements)) m
here_by inside path e elements m true has =
    let deep : List Member = listing_below (path ++ e.key ∷ []) (inside e) in
    let behind : List Member = listing_below path (tree_of_elements inside elements) in
    elim (contains_cases (path ++ e.key ∷ [], Bucket (head_sequence e.value)) m (deep ++ behind) has) [
      | inl same ↦ inl (inl (sym same))
      | inr more ↦ elim (Contains-append_cases deep behind m more) [ inl inner ↦ inl (inr (refl, inner)) | inr later ↦ inr later ]
    ]
here_by inside path e elements m false has = grind (arith, contains_cases)

element_of : (inside : LeafElement → Tree) (path : Path) (elements : List LeafElement) (m : Member)
    → Contains (listing_below path (tree_of_elements inside elements)) m
    → (e : LeafElement) × (Contains elements e × IsHere inside path e m)
element_of inside path [] m has = absurd (contains_none m has)
element_of inside path (e ∷ elements) m has = elim (here_by inside path e elements m e.is_bucket has) [
  | inl here ↦ (e, (contains_head e elements, here))
  | inr later ↦ let (x, (there, here)) = element_of inside path elements m later in (x, (contains_tail e x elements there, here))
]

-- what an element on a page holds
inside_by : (path : Path) (e : LeafElement) (m : Member) (a b : Bool) → (head_root e.value == 0) ≡ a
    → is_none (keys_order_fault None None None (map (λ (x : LeafElement). x.key) (inline_elements e.value))) ≡ b
    → Contains (listing_below path (inside_of e)) m → (head_root e.value ≡ 0) × IsElement (inline_elements e.value) path m
inside_by path e m true true root rise has =
    let (i, (there, here)) = element_of (λ x. end) path (inline_elements e.value) m (rw (root, rise) at has) in
    (eqb-true (head_root e.value) 0 root, (i, (there, elim here [ inl same ↦ same | inr nothing ↦ absurd (contains_none m nothing.1) ])))
inside_by path e m a b root rise has = grind (arith, contains_none)

on_page : (path : Path) (elements : List LeafElement) (m : Member) → Contains (listing_below path (tree_of_elements inside_of elements)) m
    → IsElement elements path m ⊎ IsInnerMember elements path m
on_page path elements m has =
    let (e, (there, here)) = element_of inside_of path elements m has in
    elim here [
      | inl same ↦ inl (e, (there, same))
      | inr inner ↦
          let (root, own) =
          inside_by (path ++ e.key ∷ []) e m (head_root e.value == 0)
          (is_none (keys_order_fault None None None (map (λ (x : LeafElement). x.key) (inline_elements e.value)))) refl refl inner.1 in
          inr (e, (there, inner.0, root, own))
    ]

module _ (file : List ℕ) (meta : Meta) where
  in_bucket : (found : List ℕ) (m : Member) → Contains (listing_below (lost_and_found ∷ []) (found_tree (with_elements file meta found))) m
      → IsFoundMember file meta found m
  in_bucket [] m has = absurd (contains_none m has)
  in_bucket (n ∷ found) m has =
      let path : Path = lost_and_found ∷ page_key n ∷ [] in
      let own : List Member = listing_below path (tree_of_elements inside_of (leaves_of (page_at file meta n))) in
      let behind : List Member = listing_below (lost_and_found ∷ []) (found_tree (with_elements file meta found)) in
      elim (contains_cases (path, Bucket 0) m (own ++ behind) has) [
        | inl same ↦ (n, (contains_head n found, inl (sym same)))
        | inr more ↦ elim (Contains-append_cases own behind m more) [
          | inl page ↦ (n, (contains_head n found, inr (on_page path (leaves_of (page_at file meta n)) m page)))
          | inr later ↦ let (x, (there, is)) = in_bucket found m later in (x, (contains_tail n x found there, is))
        ]
      ]

  contents : (recovered : List Member) (found : List ℕ) (m : Member) → IsRecovered file meta recovered
      → Contains (joined_listing recovered (with_elements file meta found)) m
      → Contains recovered m ⊎ ((m ≡ (lost_and_found ∷ [], Bucket 0)) ⊎ IsFoundMember file meta found m)
  contents recovered [] m is has = inl has
  contents recovered (n ∷ found) m is has =
      let pages = with_elements file meta (n ∷ found) in
      let put = subst (λ (ms : List Member). Contains ms m) (sym (put_recovered file meta pages recovered is)) has in
      elim (put_or_there (put_of (found_tree pages)) recovered m put) [
        | inl own ↦ elim (contains_cases (lost_and_found ∷ [], Bucket 0) m (listing_below (lost_and_found ∷ []) (found_tree pages)) own) [
          | inl same ↦ inr (inl (sym same))
          | inr below ↦ inr (inr (in_bucket (n ∷ found) m below))
        ]
        | inr there ↦ inl there
      ]

  pub joined_contents : (listing recovered : List Member) (found : List ℕ) (m : Member) → IsJoined file meta listing → IsRecovered file meta recovered
      → AreFound file meta found → Contains listing m
      → Contains recovered m ⊎ ((m ≡ (lost_and_found ∷ [], Bucket 0)) ⊎ IsFoundMember file meta found m)
  joined_contents listing recovered found m is back are has =
      contents recovered found m back (subst (λ (ms : List Member). Contains ms m) (joined_of file meta listing recovered found is back are) has)
