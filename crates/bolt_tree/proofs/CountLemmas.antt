-- Numbers of pages: an address is counted by its place on the tour.
use Rattle.std.proofs.Common.{◌≡◌, ℕ, suc, ◌+◌, ◌-◌, ◌≤◌, ◌<◌, ◌⊎◌, inl, inr, List, [], ◌∷◌, ◌++◌, Some, length, map, refl, sym, ap, ◌∙◌, subst}
use Rattle.std.proofs.Common.{arith, append_assoc, append-nil, length-append}
use Rattle.bolt_lemmas.proofs.Exports.{contains_from_has, first_cut, flat_has, has_cut, has_from_contains, has_left, has_map, has_right, has_split, map_has}
use Rattle.bolt_lemmas.proofs.Exports.{one_list, pairs_from_rises, rises_across, rises_from_pairs, rises_left, rises_map, rises_right, rises_weaker, two_cuts}
use Rattle.bolt_lemmas.specs.Lists.{Has, RisesBy}
use Rattle.bolt_tree.proofs.Words.{Before, BucketView, HasCount, HasSoundTrees, Inline_page, IsAddress, IsAfter, IsEntry, IsHome, IsPagesUpTo}
use Rattle.bolt_tree.proofs.Words.{IsSeekPage, IsSoundBucket, IsStart, IsUpTo, LeafElement, Meta, Root_page, Start, TourPage, cases_lt, content_at}
use Rattle.bolt_tree.proofs.Words.{length-map, lt_strict, pages_at, tour_pages_in}
use Rattle.bolt_tree.proofs.RisingEntries.{entry_visited, home_visited, start_rises, visit_is}
use Rattle.bolt_tree.proofs.TourLemmas.{IsApart, led_tour, tour_led, visit_of}
use Rattle.bolt_check.proofs.Exports.{before_irreflexive, before_strict, before_trans}

-- A rising list of exactly these addresses.
pub record IsExactly (Is : List ℕ → Type 0) (n : ℕ) : Type 0 where
  pub members : List (List ℕ)
  pub rises : RisesBy Before members
  pub sound : (a : List ℕ) → Has members a → Is a
  pub complete : (a : List ℕ) → Is a → Has members a
  pub number : length members ≡ n

-- it gives their count, and there is one count
pub exact_count : {Is : List ℕ → Type 0} {n : ℕ} → IsExactly Is n → HasCount Is n
exact_count x = record {
  members = x.members;
  rises = pairs_from_rises Before x.members x.rises;
  exact = λ a. (λ c. x.sound a (has_from_contains x.members a c), λ i. contains_from_has x.members a (x.complete a i));
  number = x.number;
}

pub exact_is : {Is : List ℕ → Type 0} {n m : ℕ} → IsExactly Is n → HasCount Is m → m ≡ n
exact_is x count =
    let same : count.members ≡ x.members = one_list Before before_strict count.members x.members (rises_from_pairs Before count.members count.rises) x.rises
    (λ a h. x.complete a ((count.exact a).0 (contains_from_has count.members a h)))
    (λ a h. has_from_contains count.members a ((count.exact a).1 (x.sound a h))) in
    sym count.number ∙ (ap length same ∙ x.number)

-- A page of a list of pages, and what stands to its left and to its right.
pub record Cut (pages : List TourPage) : Type 0 where
  pub left : List TourPage
  pub page : TourPage
  pub right : List TourPage
  pub whole : pages ≡ left ++ (page ∷ right)

pub cut_size : {pages : List TourPage} (c : Cut pages) → length pages ≡ length c.left + suc (length c.right)
cut_size c = ap length c.whole ∙ length-append c.left (c.page ∷ c.right)

not_both : (a c : List ℕ) → Before c a → (a ≡ c) ⊎ Before a c → ⊥
not_both a c after h = grind (arith, before_irreflexive, before_strict)

abbrev pub address_of : TourPage → List ℕ
address_of v = v.address

module _ (file : List ℕ) (meta : Meta) (trees : HasSoundTrees file meta) where
  visit_address : (start : Start) (v : TourPage) → IsStart file meta start → Has (pages_at file meta start) v → IsAddress file meta start v.address
  visit_address (Root_page number) v is h = grind (arith, tour_led file meta trees 63 number 1 [] v is (omega arith) h)
  visit_address (Inline_page elements) v is (inl e) = sym (ap address_of e)
  visit_address (Inline_page elements) v is (inr x) = absurd x

  pub address_visited : (start : Start) (a : List ℕ) → IsStart file meta start → IsAddress file meta start a
      → Has (map address_of (pages_at file meta start)) a
  address_visited (Root_page number) a is at =
      has_map address_of (pages_at file meta (Root_page number)) (visit_of a (content_at file meta at.0))
      (led_tour file meta trees 63 number 1 [] a at.0 is (omega arith) at.1)
  address_visited (Inline_page elements) a is at = inl (sym at)

-- where the page with an entry is
pub record IsAt (b : BucketView) (e : LeafElement) : Type 0 where
  pub cut : Cut (tour_pages_in b)
  pub has : Has cut.page.entries e

module _ (b : BucketView) (s : IsSoundBucket b) where
  at_address : (v : TourPage) → Has (tour_pages_in b) v → IsAddress b.file b.meta b.start v.address
  at_address v h = visit_address b.file b.meta s.trees b.start v s.start h

  rising : RisesBy IsApart (tour_pages_in b)
  rising = start_rises b.file b.meta s.trees b.start s.start

  -- pages that stand together, if their addresses are all those of a kind
  part_exact : (Is : List ℕ → Type 0) (left part right : List TourPage) (n : ℕ) → tour_pages_in b ≡ left ++ (part ++ right) → length part ≡ n
      → ((a : List ℕ) → Is a → IsAddress b.file b.meta b.start a)
      → ((v : TourPage) → Has (tour_pages_in b) v → Has part v → Is v.address) → ((v : TourPage) → Has (tour_pages_in b) v → Is v.address → Has part v)
      → IsExactly Is n
  part_exact Is left part right n whole size are sound complete = record {
    members = map address_of part;
    rises = rises_map Before address_of part (rises_weaker IsApart (λ v w. Before v.address w.address) part (λ v w a. a.addresses)
        (rises_left IsApart part right (rises_right IsApart left (part ++ right) (subst (RisesBy IsApart) whole rising))));
    sound = λ a h.
        let r = map_has address_of part a h in
        subst Is r.2 (sound r.0
        (subst (λ (vs : List TourPage). Has vs r.0) (sym whole) (has_right left (part ++ right) r.0 (has_left part right r.0 r.1))) r.1);
    complete = λ a i.
        let r = map_has address_of (tour_pages_in b) a (address_visited b.file b.meta s.trees b.start a s.start (are a i)) in
        subst (Has (map address_of part)) r.2 (has_map address_of part r.0 (complete r.0 r.1 (subst Is (sym r.2) i)));
    number = length-map part address_of ∙ size;
  }

  -- all pages
  pub all_exact : IsExactly (IsAddress b.file b.meta b.start) (length (tour_pages_in b))
  all_exact =
      part_exact (IsAddress b.file b.meta b.start) [] (tour_pages_in b) [] (length (tour_pages_in b)) (sym (append-nil (tour_pages_in b))) refl (λ a i. i)
      (λ v h k. at_address v h) (λ v h i. h)

  module _ (c : Cut (tour_pages_in b)) where
    whole_rises : RisesBy IsApart (c.left ++ (c.page ∷ c.right))
    whole_rises = subst (RisesBy IsApart) c.whole rising

    left_apart : (u : TourPage) → Has c.left u → IsApart u c.page
    left_apart u h = rises_across IsApart c.left (c.page ∷ c.right) whole_rises u c.page h (inl refl)

    right_apart : (u : TourPage) → Has c.right u → IsApart c.page u
    right_apart u h = (rises_right IsApart c.left (c.page ∷ c.right) whole_rises).0 u h

    sides : (u : TourPage) → Has (tour_pages_in b) u → (Has c.left u × IsApart u c.page) ⊎ ((c.page ≡ u) ⊎ (Has c.right u × IsApart c.page u))
    sides u h = grind (arith, has_split, left_apart, right_apart)

    -- the home of its entries
    pub its_home : (e : LeafElement) → Has c.page.entries e → IsHome b.file b.meta b.start e c.page.address
    its_home e h =
        let here : Has (tour_pages_in b) c.page =
        subst (λ (vs : List TourPage). Has vs c.page) (sym c.whole) (has_right c.left (c.page ∷ c.right) c.page (inl refl)) in
        (visit_is b.file b.meta s.trees b.start c.page s.start here).home e h

    home_is : (e : LeafElement) (home : List ℕ) → Has c.page.entries e → IsHome b.file b.meta b.start e home → home ≡ c.page.address
    home_is e home h at =
        let other = home_visited b.file b.meta s.trees b.start home e s.start at in
        elim (sides (record { address = home; entries = other.0 }) other.1) [
          | inl l ↦ (let less = l.1.keys e e other.2 h in absurd (lt_strict e.key e.key less less))
          | inr q ↦ elim q [
            | inl same ↦ sym (ap address_of same)
            | inr r ↦ (let less = r.1.keys e e h other.2 in absurd (lt_strict e.key e.key less less))
          ]
        ]

    -- the pages up to it
    up_to : (u : TourPage) → Has (c.left ++ c.page ∷ []) u → (u.address ≡ c.page.address) ⊎ Before u.address c.page.address
    up_to u h = grind (arith, has_split, left_apart)

    up_to_exact : IsExactly (IsUpTo b.file b.meta b.start c.page.address) (suc (length c.left))
    up_to_exact = part_exact (IsUpTo b.file b.meta b.start c.page.address) [] (c.left ++ c.page ∷ []) c.right (suc (length c.left))
        (c.whole ∙ sym (append_assoc c.left (c.page ∷ []) c.right)) (length-append c.left (c.page ∷ []) ∙ omega arith) (λ a i. i.0)
        (λ u h k. (at_address u h, up_to u k))
        (λ u h i. elim (sides u h) [
          | inl l ↦ has_left c.left (c.page ∷ []) u l.0
          | inr q ↦ elim q [ inl e ↦ has_right c.left (c.page ∷ []) u (inl e) | inr r ↦ absurd (not_both u.address c.page.address r.1.addresses i.1) ]
        ])

    pub upto_exists : (e : LeafElement) → Has c.page.entries e → (n : ℕ) × IsPagesUpTo b.file b.meta b.start (Some e) n
    upto_exists e h = (suc (length c.left), (c.page.address, its_home e h, exact_count up_to_exact))

    pub upto_is : (e : LeafElement) (n : ℕ) → Has c.page.entries e → IsPagesUpTo b.file b.meta b.start (Some e) n → n ≡ suc (length c.left)
    upto_is e n h up = exact_is up_to_exact (subst (λ (a : List ℕ). HasCount (IsUpTo b.file b.meta b.start a) n) (home_is e up.0 h up.1) up.2)

    -- those after it
    from_after : (u : TourPage) → Has (tour_pages_in b) u → Before c.page.address u.address → Has c.right u
    from_after u h after = grind (arith, sides, before_strict, before_irreflexive)

    pub after_exact : IsExactly (IsAfter b.file b.meta b.start c.page.address) (length c.right)
    after_exact = part_exact (IsAfter b.file b.meta b.start c.page.address) (c.left ++ c.page ∷ []) c.right [] (length c.right)
        (c.whole ∙ (ap (λ (vs : List TourPage). c.left ++ c.page ∷ vs) (sym (append-nil c.right))
        ∙ sym (append_assoc c.left (c.page ∷ []) (c.right ++ [])))) refl (λ a i. i.0)
        (λ u h k. (at_address u h, (right_apart u k).addresses)) (λ u h i. from_after u h i.1)

  -- the page that comes first
  pub apart : (c d : Cut (tour_pages_in b)) → length c.left < length d.left → IsApart c.page d.page
  apart c d lt = left_apart d c.page (first_cut c.left c.right d.left d.right c.page d.page (sym c.whole ∙ d.whole) lt)

  pub entry_at : (e : LeafElement) → IsEntry b.file b.meta b.start e → IsAt b e
  entry_at e entry =
      let r = flat_has (λ (v : TourPage). v.entries) (tour_pages_in b) e (entry_visited b.file b.meta s.trees b.start e s.start entry) in
      let c = has_cut (tour_pages_in b) r.0 r.1 in
      record { cut = record { left = c.0; page = r.0; right = c.1; whole = c.2 }; has = r.2 }

  -- the pages after one, up to that of an entry: none, if that doesn't come later
  between_exact : (c d : Cut (tour_pages_in b)) (e : LeafElement) → Has d.page.entries e → length d.right ≤ length c.right
      → IsExactly (IsSeekPage b.file b.meta b.start c.page.address (Some e)) (length c.right - length d.right)
  between_exact c d e h le =
      let (part, rest, upto) = two_cuts c.left c.right d.left d.right c.page d.page (sym c.whole ∙ d.whole) le in
      let size = ap length rest ∙ length-append part d.right in
      part_exact (IsSeekPage b.file b.meta b.start c.page.address (Some e)) (c.left ++ c.page ∷ []) part d.right (length c.right - length d.right)
      (c.whole ∙ (ap (λ (vs : List TourPage). c.left ++ c.page ∷ vs) rest ∙ sym (append_assoc c.left (c.page ∷ []) (part ++ d.right))))
      (omega (arith, size)) (λ a page. page.0.0)
      (λ u k p. (
        (at_address u k, (right_apart c u (subst (λ (vs : List TourPage). Has vs u) (sym rest) (has_left part d.right u p))).addresses),
        (d.page.address, its_home d e h, up_to d u (subst (λ (vs : List TourPage). Has vs u) upto (has_right c.left (c.page ∷ part) u (inr p)))),
      ))
      (λ u k page. elim (has_split part d.right u (subst (λ (vs : List TourPage). Has vs u) rest (from_after c u k page.0.1))) [
        | inl l ↦ l
        | inr r ↦ absurd (not_both u.address d.page.address (right_apart d u r).addresses
            (subst (λ (home : List ℕ). (u.address ≡ home) ⊎ Before u.address home) (home_is d e page.1.0 h page.1.1) page.1.2))
      ])

  pub seek_exact : (c : Cut (tour_pages_in b)) (e : LeafElement) (at : IsAt b e)
      → IsExactly (IsSeekPage b.file b.meta b.start c.page.address (Some e)) (length c.right - length at.cut.right)
  seek_exact c e at = elim (cases_lt (length c.right) (length at.cut.right)) [
    | inr le ↦ between_exact c at.cut e at.has le
    | inl lt ↦ (
        let first : Before at.cut.page.address c.page.address = (apart at.cut c (omega (arith, lt, sym (cut_size c) ∙ cut_size at.cut))).addresses in
        record {
          members = [];
          rises = tt;
          sound = λ a h. absurd h;
          complete = λ a page. absurd (not_both a at.cut.page.address (before_trans at.cut.page.address c.page.address a first page.0.1)
              (subst (λ (home : List ℕ). (a ≡ home) ⊎ Before a home) (home_is at.cut e page.1.0 at.has page.1.1) page.1.2));
          number = omega (arith, lt);
        })
  ]
