-- The part of a listing below a path: its members stand together, and a walk from the later of two paths comes to all of them that don't
-- come before the other.
use Rattle.std.proofs.Common.{arith, ◌≡◌, ◌∙◌, Bool, true, false, not, List, [], ◌∷◌, ◌++◌, length, drop, cond, filter, refl, sym, ap, append-nil}
use Rattle.bolt_lemmas.proofs.Exports.{contains_head, contains_tail, filter_all, filter_first, filter_none, filter_rises, filters_swap, flip_less, irreflexive}
use Rattle.bolt_lemmas.proofs.Exports.{kept_from}
use Rattle.bolt_tree.proofs.Words.{Contains, Equal, Greater, Item, Less, Member, Ordering, Path, Rises, bytes_eq-Decides, false_from_ne_true}
use Rattle.bolt_tree.proofs.Words.{is_beyond, is_lt, less_of, member_cmp, not-true, ordering_reverse, path_cmp, rest_from, starts_is, take_while}
use Rattle.bolt_tree.proofs.Words.{take_while-cons}
use Rattle.bolt_tree.proofs.Single.{member_total}
use Rattle.bolt_tree.proofs.PathOrder.{before_longer, beyond_less, beyond_or_longer, beyond_up, path_exact, path_same, path_total}
use Rattle.bolt_tree.specs.ListingParts.{begins_with, later_path, part_below}

-- a path that begins with another, by its parts
pub begins_of : (below path : Path) → begins_with below path ≡ true → path ≡ below ++ drop (length below) path
begins_of below path e = (starts_is bytes_eq-Decides path below (begins_with below path) refl).0 e

pub begins_by : (below path rest : Path) → path ≡ below ++ rest → begins_with below path ≡ true
begins_by below path rest e = (starts_is bytes_eq-Decides path below (begins_with below path) refl).1 rest e

-- it doesn't come before it,
longer_after : (below rest path : Path) → path ≡ below ++ rest → is_lt (path_cmp path below) ≡ false
longer_after below [] path e = grind (arith, append-nil, is_lt, path_same)
longer_after below (k ∷ rest) path e = grind (arith, before_longer, is_lt, flip_less, path_total)

pub begins_after : (below path : Path) → begins_with below path ≡ true → is_lt (path_cmp path below) ≡ false
begins_after below path e = longer_after below (drop (length below) path) path (begins_of below path e)

-- and doesn't stand beyond it
beyond_apart : (below path : Path) → is_beyond below path ≡ true → begins_with below path ≡ false
beyond_apart below path h =
    false_from_ne_true (begins_with below path) (λ e.
    let same = begins_of below path e in
    let less = beyond_less below (drop (length below) path) path h in
    irreflexive path_total path (ap (λ (p : Path). path_cmp p path) same ∙ less))

-- one that neither comes before it nor begins with it does
beyond_by : (below path : Path) (o : Ordering) → path_cmp below path ≡ o → is_lt (path_cmp path below) ≡ false → begins_with below path ≡ false
    → is_beyond below path ≡ true
beyond_by below path Less e after apart = grind (arith, beyond_or_longer, begins_by)
beyond_by below path Equal e after apart =
    let same : path ≡ below ++ [] = sym (path_exact below path e) ∙ sym (append-nil below) in
    absurd (let g : true ≡ false = sym (begins_by below path [] same) ∙ apart in cc)
beyond_by below path Greater e after apart =
    let less : path_cmp path below ≡ Less = path_total.antisymm path below ∙ ap ordering_reverse e in
    absurd (let g : true ≡ false = sym (ap is_lt less) ∙ after in cc)

pub after_or_beyond : (below path : Path) → is_lt (path_cmp path below) ≡ false → begins_with below path ≡ false → is_beyond below path ≡ true
after_or_beyond below path = beyond_by below path (path_cmp below path) refl

-- Of a rising list from the path on, the part comes first.
module _ (below : Path) where
  none_later : (m : Member) (ms : List Member) → Rises member_cmp (m ∷ ms) → is_lt (path_cmp m.0 below) ≡ false → begins_with below m.0 ≡ false
      → part_below below ms ≡ []
  none_later m ms rises after apart = grind (arith, after_or_beyond, filter_none, beyond_apart, beyond_up)

  first_at : (m : Member) (ms : List Member) (b : Bool) → begins_with below m.0 ≡ b → Rises member_cmp (m ∷ ms) → is_lt (path_cmp m.0 below) ≡ false
      → part_below below ms ≡ take_while (λ (x : Member). begins_with below x.0) ms
      → cond b (m ∷ part_below below ms) (part_below below ms) ≡ cond b (m ∷ take_while (λ (x : Member). begins_with below x.0) ms) []
  first_at m ms b e rises after same = grind (arith, none_later)

  pub part_first : (ms : List Member) → Rises member_cmp ms → ((x : Member) → Contains ms x → is_lt (path_cmp x.0 below) ≡ false)
      → part_below below ms ≡ take_while (λ (x : Member). begins_with below x.0) ms
  part_first [] rises after = refl
  part_first (m ∷ ms) rises after =
      first_at m ms (begins_with below m.0) refl rises (after m (contains_head m ms)) (part_first ms rises.1 (λ x h. after x (contains_tail m x ms h)))
      ∙ sym (take_while-cons (λ (x : Member). begins_with below x.0) m ms)

  -- the rest of the part is the part of the rest
  pub rest_of_part : (from : Path) (listing : List Member) → rest_from from (part_below below listing) ≡ part_below below (rest_from from listing)
  rest_of_part from listing = filters_swap (λ (m : Member). not (is_lt (path_cmp m.0 from))) (λ (m : Member). begins_with below m.0) listing

  -- nothing of the part comes before a path that doesn't come after its own
  pub whole_part : (from : Path) (listing : List Member) → ((path : Path) → is_lt (path_cmp path below) ≡ false → is_lt (path_cmp path from) ≡ false)
      → rest_from from (part_below below listing) ≡ part_below below listing
  whole_part from listing later =
      filter_all (λ (m : Member). not (is_lt (path_cmp m.0 from))) (part_below below listing) (λ m h.
      ap not (later m.0 (begins_after below m.0 (kept_from (λ (x : Member). begins_with below x.0) listing m h).1)))

  -- from a path on that doesn't come before the part's own
  pub part_from : (from : Path) (listing : List Member) → Rises member_cmp listing
      → ((path : Path) → is_lt (path_cmp path from) ≡ false → is_lt (path_cmp path below) ≡ false)
      → part_below below (rest_from from listing) ≡ take_while (λ (x : Member). begins_with below x.0) (rest_from from listing)
  part_from from listing rises later =
      part_first (rest_from from listing) (filter_rises member_cmp (λ (m : Member). not (is_lt (path_cmp m.0 from))) listing rises) (λ x h.
      later x.0 (not-true (is_lt (path_cmp x.0 from)) (kept_from (λ (m : Member). not (is_lt (path_cmp m.0 from))) listing x h).1))

  -- the members of the part stand together
  pub part_together : (listing : List Member) → Rises member_cmp listing
      → part_below below listing ≡ take_while (λ (x : Member). begins_with below x.0) (rest_from below listing)
  part_together listing rises = sym (whole_part below listing (λ path h. h)) ∙ rest_of_part below listing ∙ part_from below listing rises (λ path h. h)

  -- what doesn't come before a path doesn't come before one that isn't later
  up_less : (from path : Path) → path_cmp from below ≡ Less → is_lt (path_cmp path below) ≡ false → is_lt (path_cmp path from) ≡ false
  up_less from path e after =
      false_from_ne_true (is_lt (path_cmp path from)) (λ h.
      let less = path_total.trans path from below (less_of (path_cmp path from) h) e in
      let g : true ≡ false = sym (ap is_lt less) ∙ after in cc)

  up_other : (from path : Path) (o : Ordering) → path_cmp from below ≡ o → is_lt o ≡ false → is_lt (path_cmp path from) ≡ false
      → is_lt (path_cmp path below) ≡ false
  up_other from path Less e out after = absurd (let g : true ≡ false = out in cc)
  up_other from path Equal e out after = ap (λ (p : Path). is_lt (path_cmp path p)) (sym (path_exact from below e)) ∙ after
  up_other from path Greater e out after =
      let less : path_cmp below from ≡ Less = path_total.antisymm below from ∙ ap ordering_reverse e in
      false_from_ne_true (is_lt (path_cmp path below)) (λ h.
      let before = path_total.trans path below from (less_of (path_cmp path below) h) less in
      let g : true ≡ false = sym (ap is_lt before) ∙ after in cc)

  pub later_from : (from : Path) (listing : List Member) → Rises member_cmp listing → is_lt (path_cmp from below) ≡ false
      → rest_from from (part_below below listing) ≡ take_while (λ (x : Member). begins_with below x.0) (rest_from from listing)
  later_from from listing rises out = rest_of_part from listing ∙ part_from from listing rises (λ path h. up_other from path (path_cmp from below) refl out h)

-- all of a listing begins with the empty path
pub part_of_root : (listing : List Member) → part_below [] listing ≡ listing
part_of_root listing = filter_all (λ (m : Member). begins_with [] m.0) listing (λ m h. begins_by [] m.0 m.0 refl)

pub part_from_later : (below from : Path) (listing : List Member) → Rises member_cmp listing
    → rest_from from (part_below below listing) ≡ take_while (λ (x : Member). begins_with below x.0) (rest_from (later_path from below) listing)
part_from_later below from listing rises = grind (arith, later_from, whole_part, up_less, less_of, part_together)

-- a member at the path itself comes first in its part
pub member_first : (below : Path) (item : Item) (listing : List Member) → Rises member_cmp listing → Contains listing (below, item)
    → (rest : List Member) × (part_below below listing ≡ (below, item) ∷ rest)
member_first below item listing rises has =
    let mine : Member = (below, item) in
    let kept = ap not (longer_after below [] below (sym (append-nil below))) in
    let first = filter_first member_total (λ (m : Member). not (is_lt (path_cmp m.0 below))) mine
    (λ m after. ap not (ap is_lt (flip_less path_total below m.0 after))) listing rises has kept (λ m in_it h. not-true (is_lt (path_cmp m.0 below)) h) in
    let later = filter (λ (m : Member). is_lt (member_cmp mine m)) listing in
    let passes : (λ (m : Member). begins_with below m.0) mine ≡ true = begins_by below below [] (sym (append-nil below)) in (
      take_while (λ (m : Member). begins_with below m.0) later,
      part_together below listing rises ∙ ap (take_while (λ (m : Member). begins_with below m.0)) first
          ∙ take_while-cons (λ (m : Member). begins_with below m.0) mine later
          ∙ ap (λ (b : Bool). cond b (mine ∷ take_while (λ (m : Member). begins_with below m.0) later) []) passes,
    )
