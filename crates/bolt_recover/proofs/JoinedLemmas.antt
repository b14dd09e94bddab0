-- The joined listing is the recovered one with the bucket of what is found put in.
use Rattle.std.proofs.Common.{◌≡◌, ◌∙◌, ◌⊎◌, inl, inr, ℕ, Bool, true, false, not, List, [], ◌∷◌, ◌++◌, filter, map, refl, sym, ap, subst, ◌≢◌, arith}
use Rattle.bolt_lemmas.proofs.Exports.{flip_less}
use Rattle.bolt_format.specs.TreePages.{leaves_on}
use Rattle.bolt_recover.proofs.Words.{append-nil, AreFound, Bucket, cases_Bool, Contains, Contains-append_cases, contains_cases, contains_head}
use Rattle.bolt_recover.proofs.Words.{contains_tail, end, filter-append, filter_all, filter_none, first_cmp, found_tree, Greater, is_found_path}
use Rattle.bolt_recover.proofs.Words.{is_lt, IsJoined, IsRecovered, joined_listing, key_lt, key_total, LacksBucketKey, LeafElement, leaves_of, Less}
use Rattle.bolt_recover.proofs.Words.{less_of, listing_below, listing_of, lost_and_found, Member, member_cmp, member_total, Meta, page_at, Path}
use Rattle.bolt_recover.proofs.Words.{path_cmp, put_bucket, Rises, Tree, tree_of, with_bucket, with_value, All, All-head, All-tail, AreJoinable}
use Rattle.bolt_recover.proofs.Words.{FoundPage, found_listing, IsFoundView, found_numbers, found_pages_of, recovered_of}
use Rattle.bolt_recover.proofs.{Existing.has_recovered, Existing.one_recovered, Existing.recovers, FoundAll.one_found, FoundExists.has_found}
use Rattle.bolt_recover.proofs.{CourseTrees.all_tree, TreeOrder.Ordered, TreeOrder.ordered_rises, TreeOrder.rises_both, TreeOrder.under}
use Rattle.bolt_tree.proofs.Exports.{merge_none, path_total, tree_back}
use Rattle.bolt_tree.specs.Merges.{merge, merge_first}
use Rattle.std.specs.Prelude.{if◌then◌else◌}

-- members, with these put before the first one that doesn't come before the bucket
abbrev pub put_members : List Member → List Member → List Member
put_members put [] = put ++ []
put_members put (m ∷ listing) = if is_lt (first_cmp m.0) then m ∷ put_members put listing else put ++ m ∷ listing

abbrev pub stays : Member → Bool
stays m = not (is_found_path m.0)

-- the bucket with what it holds
abbrev pub put_of : Tree → List Member
put_of inside = (lost_and_found ∷ [], Bucket 0) ∷ listing_below (lost_and_found ∷ []) inside

put_path : (inside : Tree) (m : Member) → Contains (put_of inside) m → (rest : Path) × (m.0 ≡ lost_and_found ∷ rest)
put_path inside m has = elim (contains_cases (lost_and_found ∷ [], Bucket 0) m (listing_below (lost_and_found ∷ []) inside) has) [
  | inl same ↦ ([], sym (ap (λ (x : Member). x.0) same))
  | inr deep ↦ let u = under inside (lost_and_found ∷ []) m deep in (u.key ∷ u.rest, u.at)
]

put_rises : (inside : Tree) → Ordered inside → Rises member_cmp (put_of inside)
put_rises inside own =
    subst (λ (ms : List Member). Rises member_cmp ((lost_and_found ∷ [], Bucket 0) ∷ ms)) (append-nil (listing_below (lost_and_found ∷ []) inside))
    (ordered_rises (with_bucket lost_and_found 0 inside end) [] (λ k has. absurd has, own, tt))

-- members are put after all those that come before the bucket
passes : (put front rest : List Member) → ((m : Member) → Contains front m → is_lt (first_cmp m.0) ≡ true)
    → put_members put (front ++ rest) ≡ front ++ put_members put rest
passes put [] rest less = refl
passes put (x ∷ front) rest less =
    rw (less x (contains_head x front)) (ap (λ (ms : List Member). x ∷ ms) (passes put front rest (λ m has. less m (contains_tail x m front has))))

put_tree : (inside tree : Tree) → put_members (put_of inside) (listing_of tree) ≡ listing_of (put_bucket lost_and_found inside tree)
put_tree inside end = refl
put_tree inside (with_value key value after) = let later = put_tree inside after in grind (arith, later)
put_tree inside (with_bucket key sequence own after) = elim (cases_Bool (key_lt key lost_and_found)) [
  | inl less ↦ rw less (ap (λ (ms : List Member). (key ∷ [], Bucket sequence) ∷ ms)
      (passes (put_of inside) (listing_below (key ∷ []) own) (listing_of after) (λ m has. let u = under own (key ∷ []) m has in rw u.at less)
      ∙ ap (λ (ms : List Member). listing_below (key ∷ []) own ++ ms) (put_tree inside after)))
  | inr over ↦ rw over refl
]

-- what is put, or what was there
pub put_or_there : (put listing : List Member) (m : Member) → Contains (put_members put listing) m → Contains put m ⊎ Contains listing m
put_or_there put [] m has = Contains-append_cases put [] m has
put_or_there put (x ∷ listing) m has = elim (cases_Bool (is_lt (first_cmp x.0))) [
  | inl less ↦ elim (contains_cases x m (put_members put listing) (rw less at has)) [
    | inl same ↦ inr (subst (λ (y : Member). Contains (x ∷ listing) y) same (contains_head x listing))
    | inr more ↦ elim (put_or_there put listing m more) [ inl own ↦ inl own | inr later ↦ inr (contains_tail x m listing later) ]
  ]
  | inr over ↦ Contains-append_cases put (x ∷ listing) m (rw over at has)
]

-- the bucket alone goes
put_goes : (put listing : List Member) → ((m : Member) → Contains put m → stays m ≡ false) → ((m : Member) → Contains listing m → stays m ≡ true)
    → filter stays (put_members put listing) ≡ listing
put_goes put [] none all = filter-append stays put [] ∙ ap (λ (ms : List Member). ms ++ []) (filter_none stays put none)
put_goes put (x ∷ listing) none all = elim (cases_Bool (is_lt (first_cmp x.0))) [
  | inl less ↦
      rw (less, all x (contains_head x listing))
      (ap (λ (ms : List Member). x ∷ ms) (put_goes put listing none (λ m has. all m (contains_tail x m listing has))))
  | inr over ↦
      rw over (filter-append stays put (x ∷ listing) ∙ ap (λ (ms : List Member). ms ++ filter stays (x ∷ listing)) (filter_none stays put none)
      ∙ filter_all stays (x ∷ listing) all)
]

-- the bucket stands in the order of paths
first_before : (path rest : Path) → is_lt (first_cmp path) ≡ true → path_cmp path (lost_and_found ∷ rest) ≡ Less
first_before path rest less = grind (arith, less_of)

first_after : (path rest : Path) → is_lt (first_cmp path) ≡ false → not (is_found_path path) ≡ true → path_cmp (lost_and_found ∷ rest) path ≡ Less
first_after path rest over other = grind (arith, key_total)

put_between : (inside : Tree) (listing : List Member) → Ordered inside → Rises member_cmp listing → LacksBucketKey listing
    → Rises member_cmp (put_members (put_of inside) listing)
put_between inside [] own rise lacks = subst (Rises member_cmp) (sym (append-nil (put_of inside))) (put_rises inside own)
put_between inside (x ∷ listing) own rise lacks = elim (cases_Bool (is_lt (first_cmp x.0))) [
  | inl less ↦ rw less (
    λ m has. elim (put_or_there (put_of inside) listing m has) [
      | inl put ↦ let (rest, at) = put_path inside m put in rw at (first_before x.0 rest less)
      | inr later ↦ rise.0 m later
    ],
    put_between inside listing own rise.1 (λ m has. lacks m (contains_tail x m listing has)),
  )
  | inr over ↦ rw over (rises_both (put_of inside) (x ∷ listing) (put_rises inside own) rise (λ a b put has.
      let (rest, at) = put_path inside a put in
      let here : member_cmp a x ≡ Less = rw at (first_after x.0 rest over (lacks x (contains_head x listing))) in
      elim (contains_cases x b listing has) [
        | inl same ↦ subst (λ (y : Member). member_cmp a y ≡ Less) same here
        | inr later ↦ member_total.trans a x b here (rise.0 b later)
      ]))
]

-- the bucket is merged in so, if its key is free
passed : (x : Member) (rest : List Member → List Member) (put : List Member) → ((m : Member) → Contains put m → is_lt (member_cmp m x) ≡ true)
    → merge_first x rest put ≡ put ++ x ∷ rest []
passed x rest [] all = refl
passed x rest (y ∷ put) all =
    rw (all y (contains_head y put)) (ap (λ (ms : List Member). y ∷ ms) (passed x rest put (λ m has. all m (contains_tail y m put has))))

merged_put : (inside : Tree) (listing : List Member) → LacksBucketKey listing → merge listing (put_of inside) ≡ put_members (put_of inside) listing
merged_put inside [] lacks = sym (append-nil (put_of inside))
merged_put inside (x ∷ listing) lacks = elim (cases_Bool (is_lt (first_cmp x.0))) [
  | inl less ↦
      let back : path_cmp (lost_and_found ∷ []) x.0 ≡ Greater = flip_less path_total x.0 (lost_and_found ∷ []) (first_before x.0 [] less) in
      rw (less, back) (ap (λ (ms : List Member). x ∷ ms) (merged_put inside listing (λ m has. lacks m (contains_tail x m listing has))))
  | inr over ↦
      rw over (passed x (merge listing) (put_of inside) (λ m has.
      let (rest, at) = put_path inside m has in
      let here : member_cmp m x ≡ Less = rw at (first_after x.0 rest over (lacks x (contains_head x listing))) in
      ap is_lt here)
      ∙ ap (λ (ms : List Member). put_of inside ++ x ∷ ms) (merge_none listing))
]

module _ (file : List ℕ) (meta : Meta) where
  abbrev pub with_elements : List ℕ → List (ℕ × List LeafElement)
  with_elements found = map (λ (n : ℕ). (n, leaves_of (page_at file meta n))) found

  pub tree_recovered : (recovered : List Member) → IsRecovered file meta recovered → (tree : Tree) × (recovered ≡ listing_of tree)
  tree_recovered recovered is =
      let (tree, same, own) = all_tree file meta in
      (tree, one_recovered file meta recovered _ is (recovers file meta) ∙ same)

  pub put_recovered : (found : List (ℕ × List LeafElement)) (recovered : List Member) → IsRecovered file meta recovered
      → put_members (put_of (found_tree found)) recovered ≡ listing_of (put_bucket lost_and_found (found_tree found) (tree_of recovered))
  put_recovered found recovered is = let (tree, of) = tree_recovered recovered is in grind (arith, put_tree, tree_back)

  pub joined_keeps : (recovered : List Member) (found : List (ℕ × List LeafElement)) → IsRecovered file meta recovered → LacksBucketKey recovered
      → filter stays (joined_listing recovered found) ≡ recovered
  joined_keeps recovered [] is lacks = filter_all stays recovered lacks
  joined_keeps recovered (page ∷ found) is lacks =
      let inside = found_tree (page ∷ found) in
      ap (filter stays) (sym (put_recovered (page ∷ found) recovered is))
      ∙ put_goes (put_of inside) recovered (λ m has. let (rest, at) = put_path inside m has in rw at refl) lacks

  pub joined_between : (recovered : List Member) (page : ℕ × List LeafElement) (found : List (ℕ × List LeafElement)) → IsRecovered file meta recovered
      → LacksBucketKey recovered
      → Ordered (found_tree (page ∷ found)) → Rises member_cmp (joined_listing recovered (page ∷ found))
  joined_between recovered page found is lacks own =
      subst (Rises member_cmp) (put_recovered (page ∷ found) recovered is) (put_between (found_tree (page ∷ found)) recovered own is.rises lacks)

  -- it is that of the file's one recovered listing and one list of found pages
  pub joined_of : (listing recovered : List Member) (found : List ℕ) → IsJoined file meta listing → IsRecovered file meta recovered
      → AreFound file meta found
      → listing ≡ joined_listing recovered (with_elements found)
  joined_of listing recovered found is back are =
      is.joined
      ∙ ap (λ (ms : List Member). joined_listing ms (with_elements is.found)) (one_recovered file meta is.recovered recovered is.recovers back)
      ∙ ap (λ (ns : List ℕ). joined_listing recovered (with_elements ns)) (one_found file meta is.found found is.are_found are)

  pub has_joined : (listing : List Member) × IsJoined file meta listing
  has_joined =
      let (recovered, back) = has_recovered file meta in
      let (found, are) = has_found file meta in
      (joined_listing recovered (with_elements found), record { recovered = recovered; recovers = back; found = found; are_found = are; joined = refl })

  pub joined_tree : (recovered : List Member) (found : List (ℕ × List LeafElement)) → (tree : Tree) × (recovered ≡ listing_of tree)
      → (tree : Tree) × (joined_listing recovered found ≡ listing_of tree)
  joined_tree recovered [] of = of
  joined_tree recovered (page ∷ found) of = (put_bucket lost_and_found (found_tree (page ∷ found)) (tree_of recovered), refl)

  pages_same : (found : List FoundPage) → All (IsFoundView file meta) found → with_elements (found_numbers found) ≡ found_pages_of found
  pages_same [] views = refl
  pages_same (f ∷ found) views =
      let view = All-head (IsFoundView file meta) f found views in
      let here : leaves_of (page_at file meta f.number) ≡ leaves_on f.page = ap leaves_of view.page in
      ap (λ (own : List LeafElement). (f.number, own) ∷ with_elements (found_numbers found)) here
      ∙ ap (λ (pages : List (ℕ × List LeafElement)). (f.number, leaves_on f.page) ∷ pages) (pages_same found (All-tail (IsFoundView file meta) f found views))

  -- the joined listing, if these are the found pages
  joined_is : (found : List FoundPage) (listing : List Member) → AreJoinable file meta found → IsJoined file meta listing
      → listing ≡ joined_listing (recovered_of file meta) (found_pages_of found)
  joined_is found listing are is =
      joined_of listing (recovered_of file meta) (found_numbers found) is (recovers file meta) are.are_found
      ∙ ap (joined_listing (recovered_of file meta)) (pages_same found are.views)

  pub merged_joined : (found : List FoundPage) (listing : List Member) → AreJoinable file meta found → IsJoined file meta listing
      → merge (recovered_of file meta) (found_listing found) ≡ listing
  merged_joined [] listing are is = merge_none (recovered_of file meta) ∙ sym (joined_is [] listing are is)
  merged_joined (f ∷ found) listing are is =
      let not_none : (f ∷ found) ≢ [] = λ e. cc in
      merged_put (found_tree (found_pages_of (f ∷ found))) (recovered_of file meta) (are.apart not_none (recovered_of file meta) (recovers file meta))
      ∙ put_recovered (found_pages_of (f ∷ found)) (recovered_of file meta) (recovers file meta)
      ∙ sym (joined_is (f ∷ found) listing are is)
