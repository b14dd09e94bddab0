-- The depth that is found page by page is the bucket's depth.
use Rattle.std.proofs.Common.{◌≡◌, ◌≢◌, ◌∙◌, ◌==◌, ℕ, zero, suc, ◌+◌, ◌≤◌, ◌⊎◌, max, inl, inr, Bool, true, false, List, [], ◌∷◌, ◌++◌, Option, Some}
use Rattle.std.proofs.Common.{None, Ok, cond, length, slice_get, refl, sym, ap, subst, arith, if◌then◌else◌}
use Rattle.std.proofs.{Math.Dec.eqb-suc-zero, lemmas.Bool.cases_lt, lemmas.Option.none-some}
use Rattle.bolt_stats.proofs.Words.{At_page, cases_Bool, deepest_from, Enough, enough_kids, enough_node, follow, follow_append, greatest, Has}
use Rattle.bolt_stats.proofs.Words.{has_right, height_from, inline, inline_depth, inner_pages, IsBucketIn, IsDeepest, IsDepth, IsHeight, kid_pages}
use Rattle.bolt_stats.proofs.Words.{counted_depth, Node, Nodes, paged, pages_in_bucket, PageSpot, root_spot, roots_in_bucket, same_Some, Spot, step}
use Rattle.bolt_stats.proofs.DepthSums.{deepest_kids, depth_from, greatest_append, greatest_has, height_kids, page_has}
use Rattle.bolt_check.specs.{Nodes.Entry, Shape.child_at, Shape.child_of, Shape.leads, Subtrees.root_page, Ways.child_spot, Ways.upper_from}
use Rattle.bolt_check.proofs.Exports.{leads_follow, leads_none, step_child}
use Rattle.bolt_stats.specs.{Deepest.inline_in_bucket, Depths.IsLeafAt}

-- one of the numbers has the greatest
greatest_met : (f : ℕ → ℕ) (xs : List ℕ) → (greatest f xs ≡ 0) ⊎ ((m : ℕ) × (Has xs m × (f m ≡ greatest f xs)))
greatest_met f [] = inl refl
greatest_met f (x ∷ xs) = elim (cases_lt (f x) (greatest f xs)) [
  | inl less ↦ elim (greatest_met f xs) [ inl z ↦ inl (omega (arith, less, z)) | inr (m, (h, e)) ↦ inr (m, (inr h, omega (arith, less, e))) ]
  | inr more ↦ inr (x, (inl refl, omega (arith, more)))
]

-- the children of a branch
child_has : (is_leaf : Bool) (entries : List Entry) (i : ℕ) (e : Entry) → is_leaf ≡ false → slice_get entries i ≡ Some e
    → Has (pages_in_bucket is_leaf entries) e.child
child_has true entries i e leaf at = cc
child_has false [] i e leaf at = cc
child_has false (x ∷ entries) zero e leaf at = inl (ap (λ (y : Entry). y.child) (same_Some x e at))
child_has false (x ∷ entries) (suc i) e leaf at = inr (child_has false entries i e leaf at)

kid_at : (node : Node) (i : ℕ) (e : Entry) → node.is_leaf ≡ false → slice_get node.entries i ≡ Some e
    → Has (kid_pages node.is_leaf node.entries) e.child
kid_at node i e branch at = page_has e.child node.is_leaf node.entries (child_has node.is_leaf node.entries i e branch at)

child_place : (entries : List Entry) (m : ℕ) → Has (kid_pages false entries) m
    → (i : ℕ) × (e : Entry) × (slice_get entries i ≡ Some e) × (e.child ≡ m)
child_place [] m h = absurd h
child_place (x ∷ entries) m (inl e) = (0, x, refl, e)
child_place (x ∷ entries) m (inr h) = let (i, e, at, same) = child_place entries m h in (suc i, e, at, same)

first_entry : (entries : List Entry) → entries ≢ [] → (e : Entry) × (slice_get entries 0 ≡ Some e)
first_entry [] some = absurd (some refl)
first_entry (x ∷ entries) some = (x, refl)

module _ (nodes : Nodes) where
  -- the first step of an address
  child_step : (is_leaf : Bool) (o : Option Entry) (rest : List ℕ) (number : ℕ) → leads nodes (child_of is_leaf o) rest ≡ Some number
      → (e : Entry) × (is_leaf ≡ false) × (o ≡ Some e) × (leads nodes (Some e.child) rest ≡ Some number)
  child_step true o rest number h = absurd (none-some number (sym (leads_none nodes rest) ∙ h))
  child_step false None rest number h = absurd (none-some number (sym (leads_none nodes rest) ∙ h))
  child_step false (Some e) rest number h = (e, refl, refl, h)

  step_in : (n i : ℕ) (rest : List ℕ) (number : ℕ) (node : Node) → nodes n ≡ Ok node → leads nodes (child_at nodes (Some n) i) rest ≡ Some number
      → (m : ℕ) × (Has (inner_pages node) m × (leads nodes (Some m) rest ≡ Some number))
  step_in n i rest number node page h = grind (arith, child_step, child_has)

  child_leaf : (n i : ℕ) (node : Node) (e : Entry) (address : List ℕ) → nodes n ≡ Ok node → node.is_leaf ≡ false → slice_get node.entries i ≡ Some e
      → IsLeafAt nodes e.child address → IsLeafAt nodes n (i ∷ address)
  child_leaf n i node e address page leaf at is = grind arith

  module _ (steps : ℕ) where
    enough_leaf : (k : ℕ) (address : List ℕ) (n number : ℕ) → Enough nodes k n → leads nodes (Some n) address ≡ Some number → Enough nodes k number
    enough_leaf k [] n number h e = subst (Enough nodes k) (same_Some n number e) h
    enough_leaf k (i ∷ address) n number h e =
        let (node, page) = enough_node nodes k n h in
        let (m, (has, on)) = step_in n i address number node page e in
        enough_leaf k address m number (enough_kids nodes k n node page h m (page_has m node.is_leaf node.entries has)) on

    -- no leaf is deeper
    height_above : (address : List ℕ) (depth n : ℕ) → Enough nodes steps n → IsLeafAt nodes n address
        → depth + length address ≤ height_from nodes depth steps n
    height_above [] depth n h is =
        let page : nodes n ≡ Ok is.node = ap nodes (same_Some n is.number is.leads) ∙ is.page in
        let whole = height_kids nodes depth steps n is.node page h in
        let own = ap (λ (b : Bool). counted_depth b depth) is.leaf in
        omega (arith, whole, own)
    height_above (i ∷ address) depth n h is =
        let (node, page) = enough_node nodes steps n h in
        let (m, (has, on)) = step_in n i address is.number node page is.leads in
        let low = enough_kids nodes steps n node page h m (page_has m node.is_leaf node.entries has) in
        let below = height_above address (suc depth) m low (record { number = is.number; node = is.node; leads = on; page = is.page; leaf = is.leaf }) in
        let in_all = greatest_has (height_from nodes (suc depth) steps) (inner_pages node) m has in
        let whole = height_kids nodes depth steps n node page h in
        omega (arith, below, in_all, whole)

    -- a leaf is so deep
    abbrev HeightMet : ℕ → ℕ → Type 0
    HeightMet depth n =
        (height_from nodes depth steps n ≡ 0) ⊎ ((address : List ℕ) × (IsLeafAt nodes n address × (depth + length address ≡ height_from nodes depth steps n)))

    height_met : (k depth n : ℕ) → Enough nodes k n → Enough nodes steps n → HeightMet depth n
    height_met zero depth n low h = absurd low
    height_met (suc k) depth n (node, page, kids) h =
        let whole = height_kids nodes depth steps n node page h in
        elim (cases_Bool node.is_leaf) [
          | inl leaf ↦ let all = rw leaf at whole in inr ([], (record { number = n; node = node; leads = refl; page = page; leaf = leaf }, omega (arith, all)))
          | inr branch ↦
              let all = rw branch at whole in
              elim (greatest_met (height_from nodes (suc depth) steps) (kid_pages false node.entries)) [
                | inl z ↦ inl (omega (arith, all, z))
                | inr (m, (has, same)) ↦
                    let (i, e, at, child) = child_place node.entries m has in
                    let here = ap (height_from nodes (suc depth) steps) child in
                    let kid = kid_at node i e branch at in
                    elim (height_met k (suc depth) e.child (kids e.child kid) (enough_kids nodes steps n node page h e.child kid)) [
                      | inl z ↦ inl (omega (arith, all, same, here, z))
                      | inr (address, (leaf, deep)) ↦
                          inr (i ∷ address, (child_leaf n i node e address page branch at leaf, omega (arith, all, same, here, deep)))
                    ]
              ]
        ]

    -- no branch below this spot is empty
    abbrev pub AllFilled : PageSpot → Type 0
    AllFilled s =
        (way : List ℕ) (t : PageSpot) (node : Node) → follow nodes (Some (At_page s)) way ≡ Some (At_page t) → nodes t.number ≡ Ok node
        → node.is_leaf ≡ false → node.entries ≢ []

    some_leaf : (k : ℕ) (s : PageSpot) → AllFilled s → Enough nodes k s.number → (address : List ℕ) × IsLeafAt nodes s.number address
    some_leaf zero s filled low = absurd low
    some_leaf (suc k) s filled (node, page, kids) =
        elim (cases_Bool node.is_leaf) [
          | inl leaf ↦ ([], record { number = s.number; node = node; leads = refl; page = page; leaf = leaf })
          | inr branch ↦
              let (e, at) = first_entry node.entries (filled [] s node refl page branch) in
              let on = step_child nodes s 0 node e page branch at in
              let t = child_spot s e (upper_from (slice_get node.entries 1) s.upper) in
              let (address, leaf) =
              some_leaf k t (λ way u other f. filled (0 ∷ way) u other (ap (λ (o : Option Spot). follow nodes o way) on ∙ f))
              (kids e.child (kid_at node 0 e branch at)) in
              (0 ∷ address, child_leaf s.number 0 node e address page branch at leaf)
        ]

    height_is : (root : ℕ) → Enough nodes steps root → AllFilled (root_spot root) → IsHeight nodes root (height_from nodes 1 steps root)
    height_is root h filled =
        elim (height_met steps 1 root h h) [
          | inl z ↦ let (address, leaf) = some_leaf steps (root_spot root) filled h in
              let up = height_above address 1 root h leaf in
              absurd (let no : ⊥ = omega (arith, z, up) in no)
          | inr (address, (leaf, deep)) ↦ record { address = address; longest = leaf; height = sym deep; least = λ other is. height_above other 1 root h is }
        ]

    -- the depth of a bucket by its entry's page, 0 where it is inline
    abbrev child_depth : ℕ → ℕ
    child_depth zero = 1
    child_depth (suc c) = depth_from nodes steps (suc c)

    -- what one entry of a leaf adds
    abbrev entry_depth : Bool → ℕ → ℕ
    entry_depth b c = max (if b then (if c == 0 then 1 else 0) else 0) (greatest (depth_from nodes steps) (cond b (cond (c == 0) [] (c ∷ [])) []))

    entry_is : (b : Bool) (c : ℕ) → b ≡ true → entry_depth b c ≡ child_depth c
    entry_is false c e = cc
    entry_is true zero e = refl
    entry_is true (suc c) e = rw (eqb-suc-zero c) (omega arith)

    -- an entry of a leaf, and the buckets of all
    abbrev leaf_deepest : List Entry → ℕ
    leaf_deepest entries = max (greatest inline_depth entries) (greatest (depth_from nodes steps) (kid_pages true entries))

    first_deepest : (e : Entry) (entries : List Entry) → leaf_deepest (e ∷ entries) ≡ max (entry_depth e.is_bucket e.child) (leaf_deepest entries)
    first_deepest e entries = let both = greatest_append (depth_from nodes steps) (root_page e) (kid_pages true entries) in omega (arith, both)

    entry_above : (entries : List Entry) (place : ℕ) (e : Entry) → slice_get entries place ≡ Some e → e.is_bucket ≡ true
        → child_depth e.child ≤ leaf_deepest entries
    entry_above [] place e at is = absurd (none-some e at)
    entry_above (x ∷ entries) zero e at is = grind (arith, entry_is, same_Some, first_deepest)
    entry_above (x ∷ entries) (suc place) e at is =
        let rest = entry_above entries place e at is in let first = first_deepest x entries in omega (arith, rest, first)

    abbrev EntryMet : List Entry → Type 0
    EntryMet entries =
        (leaf_deepest entries ≡ 0)
        ⊎ ((place : ℕ) × (e : Entry) × (slice_get entries place ≡ Some e) × (e.is_bucket ≡ true) × (child_depth e.child ≡ leaf_deepest entries))

    entry_met : (entries : List Entry) → EntryMet entries
    entry_met [] = inl refl
    entry_met (x ∷ entries) =
        let first = first_deepest x entries in
        let later : entry_depth x.is_bucket x.child ≤ leaf_deepest entries → EntryMet (x ∷ entries) = λ le. elim (entry_met entries) [
          | inl z ↦ inl (omega (arith, first, z, le))
          | inr (place, e, at, bucket, same) ↦ inr (suc place, e, at, bucket, omega (arith, first, same, le))
        ] in
        elim (cases_lt (entry_depth x.is_bucket x.child) (leaf_deepest entries)) [
          | inl less ↦ later (omega (arith, less))
          | inr more ↦ elim (cases_Bool x.is_bucket) [
            | inl is ↦ let here = entry_is x.is_bucket x.child is in inr (0, x, refl, is, omega (arith, first, here, more))
            | inr is ↦ later (rw is (omega arith))
          ]
        ]

    -- no bucket in it is deeper
    bucket_above : (address : List ℕ) (n : ℕ) → Enough nodes steps n → (leaf : IsLeafAt nodes n address) (place : ℕ) (e : Entry)
        → slice_get leaf.node.entries place ≡ Some e → e.is_bucket ≡ true → child_depth e.child ≤ deepest_from nodes steps n
    bucket_above [] n h leaf place e at is =
        let page : nodes n ≡ Ok leaf.node = ap nodes (same_Some n leaf.number leaf.leads) ∙ leaf.page in
        let whole = deepest_kids nodes steps n leaf.node page h in
        let kind =
        ap (λ (b : Bool).
        max (inline_in_bucket b leaf.node.entries)
        (max (greatest (deepest_from nodes steps) (pages_in_bucket b leaf.node.entries))
        (greatest (depth_from nodes steps) (roots_in_bucket b leaf.node.entries)))) leaf.leaf in
        let up = entry_above leaf.node.entries place e at is in
        omega (arith, whole, kind, up)
    bucket_above (i ∷ address) n h leaf place e at is =
        let (node, page) = enough_node nodes steps n h in
        let (m, (has, on)) = step_in n i address leaf.number node page leaf.leads in
        let low = enough_kids nodes steps n node page h m (page_has m node.is_leaf node.entries has) in
        let below =
        bucket_above address m low (record { number = leaf.number; node = leaf.node; leads = on; page = leaf.page; leaf = leaf.leaf }) place e at is in
        let in_all = greatest_has (deepest_from nodes steps) (inner_pages node) m has in
        let whole = deepest_kids nodes steps n node page h in
        omega (arith, below, in_all, whole)

    abbrev BucketMet : ℕ → Type 0
    BucketMet n = (deepest_from nodes steps n ≡ 0) ⊎ ((e : Entry) × (IsBucketIn nodes n e × (child_depth e.child ≡ deepest_from nodes steps n)))

    bucket_met : (k n : ℕ) → Enough nodes k n → Enough nodes steps n → BucketMet n
    unfolding child_leaf
    bucket_met zero n low h = absurd low
    bucket_met (suc k) n (node, page, kids) h =
        let whole = deepest_kids nodes steps n node page h in
        elim (cases_Bool node.is_leaf) [
          | inl leaf ↦
              let all = rw leaf at whole in
              elim (entry_met node.entries) [
                | inl z ↦ inl (omega (arith, all, z))
                | inr (place, e, at, bucket, same) ↦
                    let here : IsLeafAt nodes n [] = record { number = n; node = node; leads = refl; page = page; leaf = leaf } in
                    inr (e, (record { address = []; leaf = here; place = place; entry = at; bucket = bucket }, omega (arith, all, same)))
              ]
          | inr branch ↦
              let all = rw branch at whole in
              elim (greatest_met (deepest_from nodes steps) (kid_pages false node.entries)) [
                | inl z ↦ inl (omega (arith, all, z))
                | inr (m, (has, same)) ↦
                    let (i, e, at, child) = child_place node.entries m has in
                    let here = ap (deepest_from nodes steps) child in
                    let kid = kid_at node i e branch at in
                    elim (bucket_met k e.child (kids e.child kid) (enough_kids nodes steps n node page h e.child kid)) [
                      | inl z ↦ inl (omega (arith, all, same, here, z))
                      | inr (x, (is, deep)) ↦
                          let below : IsLeafAt nodes n (i ∷ is.address) = child_leaf n i node e is.address page branch at is.leaf in
                          inr (
                            x,
                            (
                              record { address = i ∷ is.address; leaf = below; place = is.place; entry = is.entry; bucket = is.bucket },
                              omega (arith, all, same, here, deep),
                            ),
                          )
                    ]
              ]
        ]

    deepest_is : (root : ℕ) → Enough nodes steps root → IsDeepest nodes root (λ (e : Entry). child_depth e.child) (deepest_from nodes steps root)
    deepest_is root h = record {
      above = λ e is. bucket_above is.address root h is.leaf is.place e is.entry is.bucket;
      met = bucket_met steps root h h;
    }

    -- a bucket that lies in this one
    bucket_has : (entries : List Entry) (place c : ℕ) (e : Entry) → slice_get entries place ≡ Some e → e.is_bucket ≡ true → e.child ≡ suc c
        → Has (kid_pages true entries) (suc c)
    bucket_has [] place c e at is child = absurd (none-some e at)
    bucket_has (x ∷ entries) zero c e at is child = grind (arith, same_Some, eqb-suc-zero)
    bucket_has (x ∷ entries) (suc place) c e at is child = has_right (root_page x) (kid_pages true entries) (suc c) (bucket_has entries place c e at is child)

    bucket_step : (s : PageSpot) (place c : ℕ) (node : Node) (e : Entry) → nodes s.number ≡ Ok node → node.is_leaf ≡ true
        → slice_get node.entries place ≡ Some e → e.is_bucket ≡ true → e.child ≡ suc c
        → step nodes (Some (At_page s)) place ≡ Some (At_page (root_spot (suc c)))
    bucket_step s place c node e page leaf at is child = rw (page, leaf, at, is, child, eqb-suc-zero c) refl

    bucket_filled : (root c : ℕ) (e : Entry) (is : IsBucketIn nodes root e) → e.child ≡ suc c → AllFilled (root_spot root)
        → AllFilled (root_spot (suc c))
    bucket_filled root c e is child filled way u node f =
        let (t, on, number) = leads_follow nodes (root_spot root) is.address is.leaf.number is.leaf.leads in
        let next = bucket_step t is.place c is.leaf.node e (ap nodes number ∙ is.leaf.page) is.leaf.leaf is.entry is.bucket child in
        filled (is.address ++ is.place ∷ way) u node
        (follow_append nodes (Some (At_page (root_spot root))) is.address (is.place ∷ way) ∙ ap (λ (o : Option Spot). follow nodes o (is.place ∷ way)) on
        ∙ ap (λ (o : Option Spot). follow nodes o way) next ∙ f)

    bucket_kid : (root c : ℕ) (e : Entry) (is : IsBucketIn nodes root e) → e.child ≡ suc c
        → Has (kid_pages is.leaf.node.is_leaf is.leaf.node.entries) (suc c)
    bucket_kid root c e is child = rw is.leaf.leaf (bucket_has is.leaf.node.entries is.place c e is.entry is.bucket child)

    bucket_low : (k root c : ℕ) (e : Entry) (is : IsBucketIn nodes root e) → e.child ≡ suc c → Enough nodes (suc k) root → Enough nodes k (suc c)
    bucket_low k root c e is child h =
        let (node, page, kids) = enough_leaf (suc k) is.address root is.leaf.number h is.leaf.leads in
        let same : is.leaf.node ≡ node = let both = sym is.leaf.page ∙ page in cc in
        kids (suc c) (subst (λ (x : Node). Has (kid_pages x.is_leaf x.entries) (suc c)) same (bucket_kid root c e is child))

    bucket_enough : (root c : ℕ) (e : Entry) (is : IsBucketIn nodes root e) → e.child ≡ suc c → Enough nodes steps root → Enough nodes steps (suc c)
    bucket_enough root c e is child h =
        enough_kids nodes steps is.leaf.number is.leaf.node is.leaf.page (enough_leaf steps is.address root is.leaf.number h is.leaf.leads) (suc c)
        (bucket_kid root c e is child)

    depth_below : (k root : ℕ) → Enough nodes k root → Enough nodes steps root → AllFilled (root_spot root) → root ≢ 0
        → IsDepth nodes root (depth_from nodes steps root)
    depth_below zero root low h filled ne = absurd low
    depth_below (suc k) root low h filled ne =
        paged (height_from nodes 1 steps root) (deepest_from nodes steps root) (λ (e : Entry). child_depth e.child) ne (height_is root h filled)
        (λ e is. inner e is
        (λ c child.
        depth_below k (suc c) (bucket_low k root c e is child low) (bucket_enough root c e is child h) (bucket_filled root c e is child filled)
        (not_zero c)) e.child refl)
        (deepest_is root h)
      where
        not_zero : (c : ℕ) → suc c ≢ 0
        not_zero c e = omega arith

        inner : (e : Entry) → IsBucketIn nodes root e → ((c : ℕ) → e.child ≡ suc c → IsDepth nodes (suc c) (depth_from nodes steps (suc c))) → (c : ℕ)
            → e.child ≡ c → IsDepth nodes e.child (child_depth e.child)
        inner e is below zero child = rw child inline
        inner e is below (suc c) child = rw child (below c child)

    pub depth_is : (root : ℕ) → Enough nodes steps root → AllFilled (root_spot root) → root ≢ 0 → IsDepth nodes root (depth_from nodes steps root)
    depth_is root h filled ne = depth_below steps root h h filled ne
