-- What a file holds can be stored: the tree of a listing that rises, and whose members are held under their paths.
use Rattle.std.proofs.Common.{◌≡◌, ◌∙◌, ℕ, ◌^◌, ◌<◌, true, IsTrue, List, [], ◌∷◌, ◌++◌, drop, refl, sym, ap, subst, subst₂, inl, inr, arith}
use Rattle.std.proofs.{lemmas.List.same_from_push}
use Rattle.bolt_lemmas.proofs.Exports.{first_decides, left_rises, right_rises}
use Rattle.bolt_layout.proofs.Words.{Contains, Contains-append_left, Contains-append_right, contains_cases, contains_head, contains_none}
use Rattle.bolt_layout.proofs.Words.{contains_tail, end, HasLengths, HasSoundTrees, head_root, head_sequence, inline_elements, Inline_page, IsBelow}
use Rattle.bolt_layout.proofs.Words.{IsEntry, IsOfOneTree, IsStorable, IsTreeOf, Key, key_cmp, keys_in, LeafElement, Less, listing_below, listing_of}
use Rattle.bolt_layout.proofs.Words.{Member, Meta, Path, Rises, RisesInside, Root_page, Start, start_of, Tree, tree_of, with_bucket, with_value}
use Rattle.bolt_layout.proofs.SoundCopies.{TreeLists}
use Rattle.byteorder.specs.Numbers.{little_from-lt}
use Rattle.bolt_format.specs.{Bytes.IsBytes, Bytes.number_at, ElementLengths.HasFitLengths, Elements.IsBucketValue}
use Rattle.bolt_format.proofs.Exports.{drop_bytes, entry_fits, inline_fits, value_bytes, bucket_value, flat_inline}
use Rattle.bolt_tree.specs.{Entries.Bucket, Entries.Item, Entries.ShowsEntry, Entries.Value, Entries.item_of, Listing.IsListing, Listing.member_cmp}
use Rattle.bolt_tree.specs.{Paths.Holds, Paths.path_cmp}
use Rattle.bolt_tree.proofs.Exports.{same_front}
use Rattle.bolt_layout.specs.Storable.{IsFitListing, IsFitMember}

-- the sequence of a bucket's value has 64 bits
sequence_fits : (value : List ℕ) → IsBytes value → head_sequence value < 2 ^ 64
unfolding number_at
sequence_fits value bytes = let h = little_from-lt 0 8 (drop 8 value) (drop_bytes value 8 bytes) in omega (arith, h)

last_less : (front : Path) (j k : Key) → path_cmp (front ++ j ∷ []) (front ++ k ∷ []) ≡ Less → key_cmp j k ≡ Less
last_less front j k less = first_decides (key_cmp j k) (sym (same_front front (j ∷ []) (k ∷ [])) ∙ less)

-- each key of the outermost bucket is the last part of a path
key_listed : (tree : Tree) (front : Path) (k : Key) → Contains (keys_in tree) k
    → (item : Item) × Contains (listing_below front tree) (front ++ k ∷ [], item)
key_listed end front k has = absurd (contains_none k has)
key_listed (with_value key value after) front k has = elim (contains_cases key k (keys_in after) has) [
  | inl same ↦ (
    Value value,
    subst (λ (j : Key). Contains (listing_below front (with_value key value after)) (front ++ j ∷ [], Value value)) same
        (contains_head (front ++ key ∷ [], Value value) (listing_below front after)),
  )
  | inr more ↦ let (item, there) = key_listed after front k more in
      (item, contains_tail (front ++ key ∷ [], Value value) (front ++ k ∷ [], item) (listing_below front after) there)
]
key_listed (with_bucket key sequence inside after) front k has =
    let deep : List Member = listing_below (front ++ key ∷ []) inside in
    let behind : List Member = listing_below front after in
    elim (contains_cases key k (keys_in after) has) [
      | inl same ↦ (
        Bucket sequence,
        subst (λ (j : Key). Contains ((front ++ key ∷ [], Bucket sequence) ∷ (deep ++ behind)) (front ++ j ∷ [], Bucket sequence)) same
            (contains_head (front ++ key ∷ [], Bucket sequence) (deep ++ behind)),
      )
      | inr more ↦ let (item, there) = key_listed after front k more in (
        item,
        contains_tail (front ++ key ∷ [], Bucket sequence) (front ++ k ∷ [], item) (deep ++ behind)
            (Contains-append_right deep behind (front ++ k ∷ [], item) there),
      )
    ]

below_keys : (front : Path) (key : Key) (item : Item) (after : Tree) → IsBelow member_cmp (front ++ key ∷ [], item) (listing_below front after)
    → IsBelow key_cmp key (keys_in after)
below_keys front key item after below k has = let (other, there) = key_listed after front k has in last_less front key k (below (front ++ k ∷ [], other) there)

keys_rise : (tree : Tree) (front : Path) → Rises member_cmp (listing_below front tree) → Rises key_cmp (keys_in tree)
keys_rise end front r = tt
keys_rise (with_value key value after) front r = (below_keys front key (Value value) after r.0, keys_rise after front r.1)
keys_rise (with_bucket key sequence inside after) front r =
    let deep : List Member = listing_below (front ++ key ∷ []) inside in
    let behind : List Member = listing_below front after in (
      below_keys front key (Bucket sequence) after (λ m h. r.0 m (Contains-append_right deep behind m h)),
      keys_rise after front (right_rises member_cmp deep behind r.1),
    )

inside_rises : (tree : Tree) (front : Path) → Rises member_cmp (listing_below front tree) → RisesInside tree
inside_rises end front r = tt
inside_rises (with_value key value after) front r = inside_rises after front r.1
inside_rises (with_bucket key sequence inside after) front r =
    let deep : List Member = listing_below (front ++ key ∷ []) inside in
    let behind : List Member = listing_below front after in
    let within = left_rises member_cmp deep behind r.1 in (
      keys_rise inside (front ++ key ∷ []) within,
      inside_rises inside (front ++ key ∷ []) within,
      inside_rises after front (right_rises member_cmp deep behind r.1),
    )

-- A bucket begins at a root page, or in a good value.
abbrev IsGoodStart : Start → Type 0
IsGoodStart (Root_page root) = Unit {0}
IsGoodStart (Inline_page elements) = (value : List ℕ) × IsBucketValue value × (head_root value ≡ 0) × (inline_elements value ≡ elements)

start_good : (value : List ℕ) → IsBucketValue value → IsGoodStart (start_of value)
start_good value good = grind arith

-- what the format says of an entry
pub record IsGoodEntry (e : LeafElement) : Type 0 where
  pub lengths : HasFitLengths e
  pub value : e.is_bucket ≡ true → IsBucketValue e.value
  pub sequence : e.is_bucket ≡ true → IsBytes e.value

pub good_inner : (value : List ℕ) (e : LeafElement) → IsBucketValue value → head_root value ≡ 0 → Contains (inline_elements value) e → IsGoodEntry e
good_inner value e good root within = grind (arith, flat_inline value e good root within, inline_fits value e good root within)

-- the format can hold its member
pub good_fits : (path : Path) (e : LeafElement) → IsGoodEntry e → IsFitMember (path ++ e.key ∷ []) (item_of e)
good_fits path e good = grind (arith, same_from_push, sequence_fits)

module _ (file : List ℕ) (meta : Meta) (bytes : IsBytes file) where
  pub good_shown : (n : ℕ) (e : LeafElement) → ShowsEntry file meta n e → IsGoodEntry e
  good_shown n e (view, at, is, has) = record {
    lengths = entry_fits file meta n view e at is has;
    value = bucket_value file meta n view e at is has;
    sequence = λ b. value_bytes file meta n view e bytes at is has;
  }

  good_entry : (bucket : Start) (e : LeafElement) → IsGoodStart bucket → IsEntry file meta bucket e → IsGoodEntry e
  good_entry (Root_page root) e good (address, n, leading, shows) = good_shown n e shows
  good_entry (Inline_page elements) e (value, good, root, same) has =
      good_inner value e good root (subst (λ (es : List LeafElement). Contains es e) (sym same) has)

  -- what is held below a first key is held by the bucket of that key
  held_inside : (front : Path) (f key : Key) (item : Item) (from : Start) → Holds (IsEntry file meta) from (f ∷ (front ++ key ∷ [])) item
      → (e : LeafElement) × IsEntry file meta from e × IsTrue e.is_bucket × Holds (IsEntry file meta) (start_of e.value) (front ++ key ∷ []) item
  held_inside [] f key item from (e, is, same, b, more) = (e, is, b, more)
  held_inside (g ∷ front) f key item from (e, is, same, b, more) = (e, is, b, more)

  -- a member that is held is of a good entry
  last_good : (front : Path) (key : Key) (item : Item) (from : Start) → IsGoodStart from → Holds (IsEntry file meta) from (front ++ key ∷ []) item
      → (e : LeafElement) × IsGoodEntry e × (e.key ≡ key) × (item_of e ≡ item)
  last_good [] key item from good (e, is, same, of) = (e, good_entry from e good is, same, of)
  last_good (f ∷ front) key item from good held =
      let (e, is, b, more) = held_inside front f key item from held in
      last_good front key item (start_of e.value) (start_good e.value ((good_entry from e good is).value b)) more

  -- a path that holds something isn't empty
  held_last : (path : Path) (item : Item) (from : Start) → Holds (IsEntry file meta) from path item
      → (front : Path) × (key : Key) × (path ≡ front ++ key ∷ [])
  held_last [] item from held = absurd held
  held_last (key ∷ []) item from held = ([], key, refl)
  held_last (key ∷ next ∷ path) item from (e, is, k, b, more) =
      let (front, last, same) = held_last (next ∷ path) item (start_of e.value) more in (key ∷ front, last, ap (λ (p : Path). key ∷ p) same)

  pub held_fits : (root : ℕ) (path : Path) (item : Item) → Holds (IsEntry file meta) (Root_page root) path item → IsFitMember path item
  held_fits root path item held =
      let (front, key, same) = held_last path item (Root_page root) held in
      let (e, good, k, of) = last_good front key item (Root_page root) tt (subst (λ (p : Path). Holds (IsEntry file meta) (Root_page root) p item) same held) in
      subst₂ IsFitMember (ap (λ (j : Key). front ++ j ∷ []) k ∙ sym same) of (good_fits front e good)

abbrev AreFit : List Member → Type 0
AreFit members = (path : Path) (item : Item) → Contains members (path, item) → IsFitMember path item

lengths_fit : (tree : Tree) (front : Path) → AreFit (listing_below front tree) → HasLengths tree
lengths_fit end front fit = tt
lengths_fit (with_value key value after) front fit =
    let behind : List Member = listing_below front after in
    let first : Member = (front ++ key ∷ [], Value value) in
    let (last, item) = fit (front ++ key ∷ []) (Value value) (contains_head first behind) in
    (last front key refl, item, lengths_fit after front (λ path i h. fit path i (contains_tail first (path, i) behind h)))
lengths_fit (with_bucket key sequence inside after) front fit =
    let deep : List Member = listing_below (front ++ key ∷ []) inside in
    let behind : List Member = listing_below front after in
    let first : Member = (front ++ key ∷ [], Bucket sequence) in
    let (last, item) = fit (front ++ key ∷ []) (Bucket sequence) (contains_head first (deep ++ behind)) in (
      last front key refl,
      item,
      lengths_fit inside (front ++ key ∷ [])
          (λ path i h. fit path i (contains_tail first (path, i) (deep ++ behind) (Contains-append_left deep behind (path, i) h))),
      lengths_fit after front (λ path i h. fit path i (contains_tail first (path, i) (deep ++ behind) (Contains-append_right deep behind (path, i) h))),
    )

fit_storable : (tree : Tree) → Rises member_cmp (listing_of tree) → AreFit (listing_of tree) → IsStorable tree
fit_storable tree rises fit = record { lengths = lengths_fit tree [] fit; rising = keys_rise tree [] rises; rising_inside = inside_rises tree [] rises }

pub tree_storable : TreeLists → (file : List ℕ) (meta : Meta) (tree : Tree) → IsBytes file → IsTreeOf (IsEntry file meta) (Root_page meta.root) tree
    → IsStorable tree
tree_storable lists file meta tree bytes is =
    let listed = lists file meta (Root_page meta.root) tree is in
    fit_storable tree listed.rises (λ path item h. held_fits file meta bytes meta.root path item ((listed.exact path item).0 h))

-- that a tree is read off its listing, and what a listing is of
abbrev pub TreeIsOfItsListing : Type 0
TreeIsOfItsListing = (tree : Tree) → tree_of (listing_of tree) ≡ tree

pub one_tree : TreeIsOfItsListing → (listing : List Member) → IsFitListing listing → IsOfOneTree listing
one_tree back listing is =
    let storable =
    fit_storable is.tree (subst (Rises member_cmp) is.lists is.rises)
    (λ path item h. is.fit path item (subst (λ (ms : List Member). Contains ms (path, item)) (sym is.lists) h)) in
    grind arith

abbrev pub ListingIsOfATree : Type 0
ListingIsOfATree = (file : List ℕ) (meta : Meta) (listing : List Member) → HasSoundTrees file meta → IsListing file meta listing
    → (tree : Tree) × IsTreeOf (IsEntry file meta) (Root_page meta.root) tree × (listing ≡ listing_of tree)

-- the listing of sound trees fits
pub sound_fits : ListingIsOfATree → (file : List ℕ) (meta : Meta) (listing : List Member) → IsBytes file → HasSoundTrees file meta
    → IsListing file meta listing → IsFitListing listing
sound_fits of_a_tree file meta listing bytes sound lists =
    let (tree, is, same) = of_a_tree file meta listing sound lists in
    record { tree = tree; lists = same; rises = lists.rises; fit = λ path item h. held_fits file meta bytes meta.root path item ((lists.exact path item).0 h) }
