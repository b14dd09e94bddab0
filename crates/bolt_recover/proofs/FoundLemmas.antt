-- Found pages, one number after another.
use Rattle.std.proofs.Common.{◌≡◌, ◌∙◌, ◌≤◌, ◌<◌, ◌⊎◌, ◌↔◌, inl, inr, ℕ, zero, suc, ◌+◌, Bool, true, false, List, [], ◌∷◌, ◌++◌, Some, Ok, refl, sym}
use Rattle.std.proofs.Common.{subst, arith}
use Rattle.bolt_recover.proofs.Words.{At_page, cases_lt, cases_order, Contains, Contains-append_left, Contains-append_right, Contains-push_cases}
use Rattle.bolt_recover.proofs.Words.{contains_head, contains_none, false_from_ne_true, false≢true, FoundPage, FoundBelow, IsFoundNext, IsFoundPage}
use Rattle.bolt_recover.proofs.Words.{IsFoundView, IsListedFree, IsLoneLeaf, Meta, node_at, Nodes, page_at, root_spot, shown_node, SpanAt}
use Rattle.bolt_format.specs.{TreePages.leaves_on, TreePages.shown_page, declared.tree_page.LeafPage.LeafPage}
use Rattle.bolt_format.specs.{declared.tree_page.TreePage.TheVariants.Leaf}
use Rattle.bolt_check.proofs.Exports.{lone_free, lone_same, lone_span}

no_entries : (page : LeafPage) → leaves_on page ≡ [] → (shown_node (Leaf page)).entries ≡ []
unfolding shown_node
no_entries page none = rw none refl

module _ (file : List ℕ) (meta : Meta) where
  abbrev nodes : Nodes
  nodes = node_at file meta

  -- a page of the code that is an intact leaf
  pub view_of : (before : ℕ → Type 0) (f : FoundPage) → page_at file meta f.number ≡ Some (shown_page (Leaf f.page))
      → node_at file meta f.number ≡ Ok (shown_node (Leaf f.page))
      → IsLoneLeaf nodes before f.number → IsFoundView file meta f
  view_of before f page node lone = grind (arith, no_entries)

  -- the pages of one found page more
  page_more : (found : List ℕ) (n k : ℕ) → IsFoundPage file meta (found ++ n ∷ []) k
      → IsFoundPage file meta found k ⊎ SpanAt nodes (At_page (root_spot n)) k
  page_more found n k (m, (has, span)) =
      elim (Contains-push_cases found n m has) [
        | inl before ↦ inl (m, (before, span))
        | inr same ↦ inr (subst (λ (x : ℕ). SpanAt nodes (At_page (root_spot x)) k) (sym same) span)
      ]

  pub page_old : (found : List ℕ) (n k : ℕ) → IsFoundPage file meta found k → IsFoundPage file meta (found ++ n ∷ []) k
  page_old found n k (m, (has, span)) = (m, (Contains-append_left found (n ∷ []) m has, span))

  page_new : (found : List ℕ) (n k : ℕ) → SpanAt nodes (At_page (root_spot n)) k → IsFoundPage file meta (found ++ n ∷ []) k
  page_new found n k span = (n, (Contains-append_right found (n ∷ []) n (contains_head n []), span))

  -- it doesn't matter how it is said which pages are kept
  next_same : (a b : ℕ → Type 0) (found : List ℕ) (n : ℕ) → ((k : ℕ) → b k → a k) → IsFoundNext file meta a found n → IsFoundNext file meta b found n
  next_same a b found n from next = record {
    leaf = lone_same nodes (λ k. a k ⊎ IsFoundPage file meta found k) (λ k. b k ⊎ IsFoundPage file meta found k) n
        (λ k h. elim h [ inl kept ↦ inl (from k kept) | inr is ↦ inr is ]) next.leaf;
    unlisted = next.unlisted;
  }

  pub found_same : (a b : ℕ → Type 0) → ((k : ℕ) → a k → b k) → ((k : ℕ) → b k → a k) → (n : ℕ) (found : List ℕ) → FoundBelow file meta a n found
      → FoundBelow file meta b n found
  found_same a b to from zero found below = below
  found_same a b to from (suc n) found (before, below, inl (next, is)) =
      (before, found_same a b to from n before below, inl (next_same a b before n from next, is))
  found_same a b to from (suc n) found (before, below, inr (none, is)) =
      (before, found_same a b to from n before below, inr (λ next. none (next_same b a before n to next), is))

  module _ (kept : ℕ → Type 0) where
    -- there is one list
    pub found_one : (n : ℕ) (a b : List ℕ) → FoundBelow file meta kept n a → FoundBelow file meta kept n b → a ≡ b
    found_one zero a b h k = h ∙ sym k
    found_one (suc n) a b h k = let later = found_one n in grind (arith, later)

    -- past the last page that can be found, none is
    pub found_up : (end : ℕ) (found : List ℕ) (d : ℕ) → FoundBelow file meta kept end found
        → ((n : ℕ) → end ≤ n → n < end + d → IsFoundNext file meta kept found n → ⊥)
        → FoundBelow file meta kept (end + d) found
    found_up end found zero below none = let same : end ≡ end + 0 = omega arith in subst (λ (n : ℕ). FoundBelow file meta kept n found) same below
    found_up end found (suc d) below none =
        let same : suc (end + d) ≡ end + suc d = omega arith in
        let before = found_up end found d below (λ n le lt. none n le (omega (arith, lt))) in
        subst (λ (n : ℕ). FoundBelow file meta kept n found) same (found, before, inr (none (end + d) (omega arith) (omega arith), refl))

    -- if these pages are taken
    module _ (found : List ℕ) (n : ℕ) (taken listed first : ℕ → Bool) (are : (k : ℕ) → (taken k ≡ true) ↔ (kept k ⊎ IsFoundPage file meta found k))
        (same : taken n ≡ false → listed n ≡ first n) (free : (first n ≡ true) ↔ IsListedFree file meta n) (below : FoundBelow file meta kept n found) where
      untaken : {before : ℕ → Type 0} → ((k : ℕ) → taken k ≡ true → before k) → IsLoneLeaf nodes before n → taken n ≡ false
      untaken {before} to lone = false_from_ne_true (taken n) (λ was. lone_free nodes before n lone (to n was))

      next_of : IsLoneLeaf nodes (λ k. taken k ≡ true) n → listed n ≡ false → IsFoundNext file meta kept found n
      next_of lone none = record {
        leaf = lone_same nodes (λ k. taken k ≡ true) (λ k. kept k ⊎ IsFoundPage file meta found k) n (λ k h. (are k).1 h) lone;
        unlisted = λ is. false≢true (sym none ∙ same (untaken (λ k was. was) lone) ∙ free.1 is);
      }

      pub found_next : IsLoneLeaf nodes (λ k. taken k ≡ true) n → listed n ≡ false → FoundBelow file meta kept (n + 1) (found ++ n ∷ [])
      found_next lone none = grind (arith, next_of)

      pub found_not : (IsLoneLeaf nodes (λ k. taken k ≡ true) n → listed n ≡ false → ⊥) → FoundBelow file meta kept (n + 1) found
      found_not none =
          let more : suc n ≡ n + 1 = omega arith in
          let not_next : IsFoundNext file meta kept found n → ⊥ = λ next.
          let lone = lone_same nodes (λ k. kept k ⊎ IsFoundPage file meta found k) (λ k. taken k ≡ true) n (λ k was. (are k).0 was) next.leaf in
          none lone (false_from_ne_true (listed n) (λ is. next.unlisted (free.0 (sym (same (untaken (λ k was. was) lone)) ∙ is)))) in
          subst (λ (m : ℕ). FoundBelow file meta kept m found) more (found, below, inr (not_next, refl))

    -- one page more is taken
    pub taken_more : (found : List ℕ) (n : ℕ) (old new : ℕ → Bool) → ((k : ℕ) → (old k ≡ true) ↔ (kept k ⊎ IsFoundPage file meta found k))
        → ((k : ℕ) → (new k ≡ true) ↔ ((old k ≡ true) ⊎ SpanAt nodes (At_page (root_spot n)) k)) → (k : ℕ)
        → (new k ≡ true) ↔ (kept k ⊎ IsFoundPage file meta (found ++ n ∷ []) k)
    taken_more found n old new are more k = (
      λ is. elim ((more k).0 is) [
        | inl was ↦ elim ((are k).0 was) [ inl here ↦ inl here | inr there ↦ inr (page_old found n k there) ]
        | inr span ↦ inr (page_new found n k span)
      ],
      λ is. (more k).1 (elim is [
        | inl here ↦ inl ((are k).1 (inl here))
        | inr there ↦ elim (page_more found n k there) [ inl before ↦ inl ((are k).1 (inr before)) | inr span ↦ inr span ]
      ]),
    )

    -- an intact leaf apart from all these
    lone_apart : (found : List ℕ) (n : ℕ) (lone : IsLoneLeaf nodes (λ k. ⊥) n) → ((k : ℕ) → SpanAt nodes (At_page (root_spot n)) k → kept k → ⊥)
        → ((k : ℕ) → SpanAt nodes (At_page (root_spot n)) k → IsFoundPage file meta found k → ⊥)
        → IsLoneLeaf nodes (λ k. kept k ⊎ IsFoundPage file meta found k) n
    lone_apart found n lone apart alone = record {
      passes = record {
        node = lone.passes.node;
        early = lone.passes.early;
        page = lone.passes.page;
        free = λ k inside was.
            let span : SpanAt nodes (At_page (root_spot n)) k = rw lone.passes.page inside in
            elim was [ inl is ↦ apart k span is | inr is ↦ alone k span is ];
        content = lone.passes.content;
      };
      leaf = lone.leaf;
      some = lone.some;
    }

    -- an intact leaf is found, or it shares a page, or it is free
    pub passed : (high_water : ℕ) (found : List ℕ) (n : ℕ) → FoundBelow file meta kept high_water found → n < high_water → IsLoneLeaf nodes (λ k. ⊥) n
        → (IsListedFree file meta n → ⊥)
        → ((k : ℕ) → SpanAt nodes (At_page (root_spot n)) k → kept k → ⊥)
        → ((k : ℕ) → SpanAt nodes (At_page (root_spot n)) k → IsFoundPage file meta found k → ⊥) → ⊥
    passed zero found n below lt lone unlisted apart alone = absurd (omega arith)
    passed (suc high_water) found n (before, below, how) lt lone unlisted apart alone =
        let less : (k : ℕ) → IsFoundPage file meta before k → IsFoundPage file meta found k = λ k is. elim how [
          | inl (next, same) ↦ subst (λ (xs : List ℕ). IsFoundPage file meta xs k) (sym same) (page_old before high_water k is)
          | inr (none, same) ↦ subst (λ (xs : List ℕ). IsFoundPage file meta xs k) (sym same) is
        ] in
        elim (cases_lt n high_water) [
          | inl lower ↦ passed high_water before n below lower lone unlisted apart (λ k span is. alone k span (less k is))
          | inr high ↦ let here : n ≡ high_water = omega arith in elim how [
            | inl (next, same) ↦ alone n (lone_span nodes (λ k. ⊥) n lone)
                (subst (λ (xs : List ℕ). IsFoundPage file meta xs n) (sym same)
                (page_new before high_water n (subst (λ (m : ℕ). SpanAt nodes (At_page (root_spot m)) n) here (lone_span nodes (λ k. ⊥) n lone))))
            | inr (none, same) ↦
                none (subst (IsFoundNext file meta kept before) here
                (record { leaf = lone_apart before n lone apart (λ k span is. alone k span (less k is)); unlisted = unlisted }))
          ]
        ]

    -- what is found below a number was found after those of smaller numbers
    pub record IsFoundHere (high_water : ℕ) (found : List ℕ) (n : ℕ) : Type 0 where
      pub below : n < high_water
      pub before : List ℕ
      pub next : IsFoundNext file meta kept before n
      pub within : (m : ℕ) → Contains found m → m < n → Contains before m

    pub found_here : (high_water : ℕ) (found : List ℕ) (n : ℕ) → FoundBelow file meta kept high_water found → Contains found n
        → IsFoundHere high_water found n
    found_here zero found n below has = absurd (contains_none n (subst (λ (xs : List ℕ). Contains xs n) below has))
    found_here (suc high_water) found n (before, below, inl (next, is)) has =
        let push : (m : ℕ) → Contains found m → Contains before m ⊎ (high_water ≡ m) =
        λ m there. Contains-push_cases before high_water m (subst (λ (xs : List ℕ). Contains xs m) is there) in
        elim (push n has) [
          | inl lower ↦
              let here = found_here high_water before n below lower in
              let lt = here.below in
              record {
                below = omega (arith, lt);
                before = here.before;
                next = here.next;
                within = λ m there less. elim (push m there) [ inl low ↦ here.within m low less | inr last ↦ absurd (omega (arith, lt, less, last)) ];
              }
          | inr same ↦
              record {
                below = omega (arith, same);
                before = before;
                next = subst (IsFoundNext file meta kept before) same next;
                within = λ m there less. elim (push m there) [ inl low ↦ low | inr last ↦ absurd (omega (arith, same, less, last)) ];
              }
        ]
    found_here (suc high_water) found n (before, below, inr (none, is)) has = let here = found_here high_water before n below in grind (arith, here)

    -- it is intact, and two found pages share no page
    pub found_leaf : (high_water : ℕ) (found : List ℕ) (n : ℕ) → IsFoundHere high_water found n → IsLoneLeaf nodes kept n
    found_leaf high_water found n here = lone_same nodes (λ k. kept k ⊎ IsFoundPage file meta here.before k) kept n (λ k is. inl is) here.next.leaf

    not_shared : (high_water : ℕ) (found : List ℕ) (n m k : ℕ) → IsFoundHere high_water found n → Contains found m → m < n
        → SpanAt nodes (At_page (root_spot n)) k → SpanAt nodes (At_page (root_spot m)) k → ⊥
    not_shared high_water found n m k here there less left right = grind (arith, here.within m there less)

    pub found_apart : (high_water : ℕ) (found : List ℕ) (n m k : ℕ) → FoundBelow file meta kept high_water found → Contains found n → Contains found m
        → SpanAt nodes (At_page (root_spot n)) k → SpanAt nodes (At_page (root_spot m)) k → n ≡ m
    found_apart high_water found n m k below a b left right =
        elim (cases_order n m) [
          | inl same ↦ same
          | inr (inl less) ↦ absurd (not_shared high_water found m n k (found_here high_water found m below b) a less right left)
          | inr (inr more) ↦ absurd (not_shared high_water found n m k (found_here high_water found n below a) b more left right)
        ]
