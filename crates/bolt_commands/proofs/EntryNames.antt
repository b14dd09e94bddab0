-- The names in a bucket of a sound file's listing are the keys of the bucket's entries.
-- Keys with their items: those of the members with one part more than the bucket's path, and those of the entries. Both rise by key, and they
-- are the same.
use Rattle.std.proofs.Common.{◌≡◌, ◌∙◌, ◌++◌, Bool, true, false, List, [], ◌∷◌, None, Option, Some, ap, arith, filter, flat_map, inl, inr, map, refl}
use Rattle.std.proofs.Common.{rules, subst, sym, ℕ}
use Rattle.std.specs.Prelude.{if◌then◌else◌}
use Rattle.std.specs.{declared.cmp.Ordering.Ordering, declared.cmp.Ordering.TheVariants.Less, Cmp.IsTotalOrder}
use Rattle.std.proofs.lemmas.Cmp.{on_total}
use Rattle.bolt_lemmas.proofs.Exports.{contains_cases, contains_from_has, contains_head, contains_none, contains_tail, first_decides, has_from_contains}
use Rattle.bolt_lemmas.proofs.Exports.{has_map, map_has, rises_once}
use Rattle.bolt_lemmas.specs.Order.{IsBelow}
use Rattle.bolt_check.specs.Keys.{key_cmp}
use Rattle.bolt_commands.proofs.Vocabulary.{AreEntries, Contains, HasSoundTrees, IsEntry, IsListing, Item, Key, LeadsTo, LeafElement, Member, Meta}
use Rattle.bolt_commands.proofs.Vocabulary.{Path, Rises, Root_page, Start, bytes_eq, bytes_eq-Decides, held_down, is_bucket, item_of, keys_text}
use Rattle.bolt_commands.proofs.Vocabulary.{member_cmp}
use Rattle.bolt_commands.proofs.ListedBuckets.{has_named}
use Rattle.bolt_report.specs.MemberNames.{WantedNames, entry_name, key_in, member_name, names_text}
use Rattle.bolt_text.specs.{Forms.value_text, declared.forms.Form.Form}
use Rattle.bolt_tree.proofs.Exports.{all_entries, held_here, key_total}
use Rattle.bolt_tree.proofs.Exports.{same_front}
use Rattle.bolt_tree.specs.Entries.{entry_cmp}

abbrev Named : Type 0
Named = Key × Item

abbrev named_cmp : Named → Named → Ordering
named_cmp a b = key_cmp a.0 b.0

named_total : IsTotalOrder named_cmp
named_total = on_total (λ (n : Named). n.0) key_total

pair_is : (k : Key) (i : Item) (n : Named) → k ≡ n.0 → i ≡ n.1 → (k, i) ≡ n
pair_is k i (key, item) same_key same_item = cc

abbrev named_entry : LeafElement → Named
named_entry e = (e.key, item_of e)

-- ---- the key of a path in a bucket

same_bytes : (a b : Key) → bytes_eq a b ≡ true → a ≡ b
same_bytes a b e = (bytes_eq-Decides a b).0 e

by_part : (part first : Key) (bucket path : Path) (key : Key) (same : Bool) → bytes_eq part first ≡ same
    → (if same then key_in bucket path else None) ≡ Some key
    → (key_in bucket path ≡ Some key → path ≡ bucket ++ key ∷ []) → first ∷ path ≡ (part ∷ bucket) ++ key ∷ []
by_part part first bucket path key true e is more = let here = same_bytes part first e in let later = more is in cc
by_part part first bucket path key false e is more = absurd (search (rules, is))

path_of_key : (bucket path : Path) (key : Key) → key_in bucket path ≡ Some key → path ≡ bucket ++ key ∷ []
path_of_key [] [] key is = absurd (search (rules, is))
path_of_key [] (k ∷ []) key is = search (rules, is)
path_of_key [] (k ∷ next ∷ path) key is = absurd (search (rules, is))
path_of_key (part ∷ bucket) [] key is = absurd (search (rules, is))
path_of_key (part ∷ bucket) (first ∷ path) key is = by_part part first bucket path key (bytes_eq part first) refl is (path_of_key bucket path key)

key_of_path : (bucket : Path) (key : Key) → key_in bucket (bucket ++ key ∷ []) ≡ Some key
key_of_path [] key = refl
key_of_path (part ∷ bucket) key = let same : bytes_eq part part ≡ true = (bytes_eq-Decides part part).1 refl in rw same (key_of_path bucket key)

-- ---- the entries among the members

abbrev pick : Item → Option Key → List Named → List Named
pick item None rest = rest
pick item (Some key) rest = (key, item) ∷ rest

named_in : Path → List Member → List Named
named_in bucket [] = []
named_in bucket (m ∷ ms) = pick m.1 (key_in bucket m.0) (named_in bucket ms)

module _ (bucket : Path) where
  abbrev there : Named → Member
  there n = (bucket ++ n.0 ∷ [], n.1)

  picked : (m : Member) (ms : List Member) (n : Named) (found : Option Key) → key_in bucket m.0 ≡ found
      → Contains (pick m.1 found (named_in bucket ms)) n
      → (Contains (named_in bucket ms) n → Contains ms (there n)) → Contains (m ∷ ms) (there n)
  picked m ms n None e has more = contains_tail m (there n) ms (more has)
  picked m ms n (Some key) e has more = grind (arith, contains_cases, path_of_key, contains_head, contains_tail)

  named_there : (ms : List Member) (n : Named) → Contains (named_in bucket ms) n → Contains ms (there n)
  unfolding named_in
  named_there [] n has = absurd (contains_none n has)
  named_there (m ∷ ms) n has = picked m ms n (key_in bucket m.0) refl has (named_there ms n)

  more_named : (item : Item) (found : Option Key) (rest : List Named) (n : Named) → Contains rest n → Contains (pick item found rest) n
  more_named item None rest n has = has
  more_named item (Some key) rest n has = contains_tail (key, item) n rest has

  there_named : (ms : List Member) (n : Named) → Contains ms (there n) → Contains (named_in bucket ms) n
  unfolding named_in
  there_named [] n has = absurd (contains_none (there n) has)
  there_named (m ∷ ms) n has = elim (contains_cases m (there n) ms has) [
    | inl same ↦
        let rest = named_in bucket ms in
        let here = subst (λ (found : Option Key). Contains (pick n.1 found rest) n) (sym (key_of_path bucket n.0)) (contains_head n rest) in
        subst (λ (x : Member). Contains (pick x.1 (key_in bucket x.0) rest) n) (sym same) here
    | inr later ↦ more_named m.1 (key_in bucket m.0) (named_in bucket ms) n (there_named ms n later)
  ]

  below_named : (m : Member) (ms : List Member) (key : Key) → m.0 ≡ bucket ++ key ∷ [] → IsBelow member_cmp m ms → (n : Named)
      → Contains (named_in bucket ms) n
      → key_cmp key n.0 ≡ Less
  below_named m ms key path below n has =
      let before = below (there n) (named_there ms n has) in
      first_decides (key_cmp key n.0) (sym (same_front bucket (key ∷ []) (n.0 ∷ [])) ∙ rw path at before)

  pick_rises : (m : Member) (ms : List Member) (found : Option Key) → key_in bucket m.0 ≡ found → IsBelow member_cmp m ms
      → Rises named_cmp (named_in bucket ms)
      → Rises named_cmp (pick m.1 found (named_in bucket ms))
  pick_rises m ms None e below rises = rises
  pick_rises m ms (Some key) e below rises = (below_named m ms key (path_of_key bucket m.0 key e) below, rises)

  named_rises : (ms : List Member) → Rises member_cmp ms → Rises named_cmp (named_in bucket ms)
  unfolding named_in
  named_rises [] rises = tt
  named_rises (m ∷ ms) rises = pick_rises m ms (key_in bucket m.0) refl rises.0 (named_rises ms rises.1)

-- ---- the entries of the bucket

entries_rise : (entries : List LeafElement) → Rises entry_cmp entries → Rises named_cmp (map named_entry entries)
entries_rise [] rises = tt
entries_rise (e ∷ entries) rises = (
  λ n has.
      let (f, is, same) = map_has named_entry entries n (has_from_contains (map named_entry entries) n has) in
      subst (λ (x : Named). named_cmp (named_entry e) x ≡ Less) same (rises.0 f (contains_from_has entries f is)),
  entries_rise entries rises.1,
)

module _ (file : List ℕ) (meta : Meta) (trees : HasSoundTrees file meta) (listing : List Member) (lists : IsListing file meta listing) (path : Path)
    (bucket : Start)
    (leads : LeadsTo file meta path bucket) (entries : List LeafElement) (are : AreEntries (IsEntry file meta) bucket entries) where
  abbrev root : Start
  root = Root_page meta.root

  to_entry : (n : Named) → Contains (named_in path listing) n → Contains (map named_entry entries) n
  to_entry n has =
      let held = (lists.exact (path ++ n.0 ∷ []) n.1).0 (named_there path listing n has) in
      let (e, is, key, item) = held_down (IsEntry file meta) root path bucket n.0 [] n.1 (all_entries file meta trees) leads held in
      let same = pair_is e.key (item_of e) n key item in
      subst (λ (x : Named). Contains (map named_entry entries) x) same
      (contains_from_has (map named_entry entries) (named_entry e) (has_map named_entry entries e (has_from_contains entries e ((are.exact e).1 is))))

  from_entry : (n : Named) → Contains (map named_entry entries) n → Contains (named_in path listing) n
  from_entry n has =
      let (e, is, same) = map_has named_entry entries n (has_from_contains (map named_entry entries) n has) in
      let held = held_here (IsEntry file meta) root path bucket e leads ((are.exact e).0 (contains_from_has entries e is)) in
      subst (λ (x : Named). Contains (named_in path listing) x) same
      (there_named path listing (named_entry e) ((lists.exact (path ++ e.key ∷ []) (item_of e)).1 held))

  same_named : named_in path listing ≡ map named_entry entries
  same_named =
      rises_once named_total (named_in path listing) (map named_entry entries) (named_rises path listing lists.rises) (entries_rise entries are.rises)
      to_entry from_entry

-- ---- as text

module _ (form : Form) (wanted : WantedNames) where
  abbrev line : Named → List ℕ
  line n = entry_name form wanted n.1 (Some n.0)

  line_more : (item : Item) (found : Option Key) (rest : List Named)
      → entry_name form wanted item found ++ flat_map line rest ≡ flat_map line (pick item found rest)
  line_more item None rest = refl
  line_more item (Some key) rest = refl

  named_text : (bucket : Path) (ms : List Member) → flat_map (member_name form wanted bucket) ms ≡ flat_map line (named_in bucket ms)
  unfolding named_in
  named_text bucket [] = refl
  named_text bucket (m ∷ ms) =
      ap (λ (rest : List ℕ). member_name form wanted bucket m ++ rest) (named_text bucket ms) ∙ line_more m.1 (key_in bucket m.0) (named_in bucket ms)

  module _ (is_named : LeafElement → Bool) (same : (e : LeafElement) → wanted e.key (item_of e) ≡ is_named e) where
    by_test : (e : LeafElement) (entries : List LeafElement) (b : Bool)
        → (if b then value_text form e.key else []) ++ keys_text form (filter is_named entries)
        ≡ keys_text form (if b then e ∷ filter is_named entries else filter is_named entries)
    by_test e entries true = refl
    by_test e entries false = refl

    entries_text : (entries : List LeafElement) → flat_map line (map named_entry entries) ≡ keys_text form (filter is_named entries)
    entries_text [] = refl
    entries_text (e ∷ entries) = grind (arith, by_test, entries_text entries)

    -- The text of the names in the bucket that the path leads to is that of the keys of its entries.
    pub names_are_keys : (file : List ℕ) (meta : Meta) → HasSoundTrees file meta → (listing : List Member) → IsListing file meta listing
        → (path : Path) (bucket : Start)
        → LeadsTo file meta path bucket → (entries : List LeafElement) → AreEntries (IsEntry file meta) bucket entries
        → names_text form wanted path listing ≡ keys_text form (filter is_named entries)
    names_are_keys file meta trees listing lists path bucket leads entries are =
        ap (λ (has : Bool). if has then flat_map (member_name form wanted path) listing else []) (has_named file meta listing lists path bucket leads)
        ∙ named_text path listing ∙ ap (λ (named : List Named). flat_map line named) (same_named file meta trees listing lists path bucket leads entries are)
        ∙ entries_text entries

-- an entry is a bucket where its item is one
pub bucket_items : (e : LeafElement) → is_bucket (item_of e) ≡ e.is_bucket
bucket_items e = grind arith
