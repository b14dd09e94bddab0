-- Which paths lead into the bucket of the revisions.
use Rattle.std.proofs.Common.{◌≡◌, ◌∙◌, ◌⊎◌, ◌&&◌, ◌≤◌, inl, inr, ℕ, zero, suc, Bool, true, false, cond, List, [], ◌∷◌, ◌++◌, Option, Some, None, ap}
use Rattle.std.proofs.Common.{append_assoc, arith, is_none, length, not, refl, subst, sym}
use Rattle.std.proofs.{Math.Bool.and-false, lemmas.List.append-nil, lemmas.List.length-append}
use Rattle.std.proofs.{lemmas.List.same_from_push}
use Rattle.std.specs.{Cmp.Lexicographic.same_text, List.Contains, Ordering.ordering_then, Str.bytes_eq, declared.cmp.Ordering.Ordering}
use Rattle.std.specs.declared.cmp.Ordering.TheVariants.{Equal, Greater, Less}
use Rattle.bolt_lemmas.proofs.Exports.{flip_less}
use Rattle.bolt_check.specs.Keys.{Key, key_cmp}
use Rattle.bolt_tree.proofs.Exports.{before_longer, key_exact, key_total}
use Rattle.bolt_tree.specs.{Entries.Bucket, Entries.EntryView, Entries.Item, Listing.Member, Merges.HasBucket, Merges.HaveParents, Paths.Path}
use Rattle.bolt_tree.specs.{Paths.path_cmp}
use Rattle.bolt_etcd.specs.{Wire.UnreadEntries.UnreadView, Wire.UnreadEntries.unread_entry_of, Wire.Revisions.RevisionView, Wire.Revisions.revision_of}
use Rattle.bolt_etcd.specs.Store.BucketNames.{key_bucket, meta_bucket}
use Rattle.bolt_repair.specs.{Readable.is_in_inner_bucket, Readable.is_readable, Readable.unread_at, Readable.unread_in, Repairs.compaction_path}
use Rattle.bolt_repair.specs.{Repairs.meta_path, Repairs.store_path, StorePaths.is_near}

named : (bucket : Key) → bytes_eq bucket key_bucket ≡ true → bucket ≡ key_bucket
named bucket is = same_text bucket key_bucket (sym is)

-- ---- what etcd can't read is in the bucket

in_bucket : (bucket : Key) (e : EntryView) (b : Bool) → bytes_eq bucket key_bucket ≡ b → (b ≡ true → ⊥) → unread_in bucket e ≡ None
in_bucket bucket e true is never = absurd (never refl)
in_bucket bucket e false is never = ap (λ (b : Bool). cond b (unread_entry_of e) None) is

pub not_unread : (path : Path) (item : Item) → ((key : Key) → path ≡ store_path ++ key ∷ [] → ⊥) → unread_at path item ≡ None
not_unread [] item never = refl
not_unread (bucket ∷ []) item never = refl
not_unread (bucket ∷ key ∷ []) item never =
    in_bucket bucket (record { key = key; item = item }) (bytes_eq bucket key_bucket) refl (λ is. never key (ap (λ (k : Key). k ∷ key ∷ []) (named bucket is)))
not_unread (bucket ∷ key ∷ more ∷ path) item never = refl

-- what is neither such an entry nor below one
pub readable_if : (path : Path) (item : Item) → unread_at path item ≡ None → is_in_inner_bucket path ≡ false → is_readable path item ≡ true
readable_if path item none above = ap (λ (o : Option UnreadView). is_none o && not (is_in_inner_bucket path)) none ∙ ap not above

pub unreadable_below : (path : Path) (item : Item) → is_in_inner_bucket path ≡ true → is_readable path item ≡ false
unreadable_below path item below = ap (λ (b : Bool). is_none (unread_at path item) && not b) below ∙ and-false (is_none (unread_at path item))

pub none_below : (path : Path) (item : Item) → is_in_inner_bucket path ≡ true → unread_at path item ≡ None
none_below [] item below = refl
none_below (bucket ∷ []) item below = refl
none_below (bucket ∷ key ∷ []) item below = cc
none_below (bucket ∷ key ∷ more ∷ path) item below = refl

pub meta_below : (path : Path) → is_in_inner_bucket path ≡ true → path ≡ meta_path → ⊥
meta_below path below at = let wrong : is_in_inner_bucket meta_path ≡ true = sym (ap is_in_inner_bucket at) ∙ below in cc

-- such a path begins with the name of the bucket
pub unreadable_in : (path : Path) (item : Item) → is_readable path item ≡ false → (key : Key) × (rest : Path) × (path ≡ key_bucket ∷ key ∷ rest)
unreadable_in [] item is = cc
unreadable_in (bucket ∷ []) item is = cc
unreadable_in (bucket ∷ key ∷ []) item is = by (bytes_eq bucket key_bucket) refl
  where
    by : (b : Bool) → bytes_eq bucket key_bucket ≡ b → (k : Key) × (rest : Path) × ((bucket ∷ key ∷ []) ≡ key_bucket ∷ k ∷ rest)
    by true same = (key, [], ap (λ (k : Key). k ∷ key ∷ []) (named bucket same))
    by false other =
        let e : EntryView = record { key = key; item = item } in
        let none = in_bucket bucket e false other (λ f. cc) in
        let yes = readable_if (bucket ∷ key ∷ []) item none refl in cc
unreadable_in (bucket ∷ key ∷ more ∷ path) item is = by (bytes_eq bucket key_bucket) refl
  where
    by : (b : Bool) → bytes_eq bucket key_bucket ≡ b → (k : Key) × (rest : Path) × ((bucket ∷ key ∷ more ∷ path) ≡ key_bucket ∷ k ∷ rest)
    by true same = (key, more ∷ path, ap (λ (k : Key). k ∷ key ∷ more ∷ path) (named bucket same))
    by false other = let yes : is_readable (bucket ∷ key ∷ more ∷ path) item ≡ true = ap not other in cc

-- ---- paths beside that of the bucket

by_key : (b : Key) (t rest : Path) (o : Ordering) → key_cmp key_bucket b ≡ o → ordering_then o (path_cmp [] t) ≡ Less
    → path_cmp (b ∷ t) (key_bucket ∷ rest) ≡ Less → b ≡ key_bucket
by_key b t rest Less is less more =
    let turned = flip_less key_total key_bucket b is in
    let wrong : Greater ≡ Less = sym (ap (λ (o : Ordering). ordering_then o (path_cmp t rest)) turned) ∙ more in
    cc
by_key b t rest Equal is less more = sym (key_exact key_bucket b is)
by_key b t rest Greater is less more = cc

pub between : (path rest : Path) → path_cmp store_path path ≡ Less → path_cmp path (key_bucket ∷ rest) ≡ Less → (tail : Path) × (path ≡ key_bucket ∷ tail)
between [] rest after before = cc
between (b ∷ t) rest after before = (t, ap (λ (k : Key). k ∷ t) (by_key b t rest (key_cmp key_bucket b) refl after before))

pub near_if : (tail : Path) (item : Item) → is_readable (key_bucket ∷ tail) item ≡ true → is_near (key_bucket ∷ tail) ≡ true
near_if [] item is = refl
near_if (key ∷ []) item is = refl
near_if (key ∷ more ∷ path) item is = cc

pub near_after : (path : Path) → is_near path ≡ true → (path ≡ store_path) ⊎ (path_cmp store_path path ≡ Less)
near_after [] is = cc
near_after (bucket ∷ []) is = inl (ap (λ (k : Key). k ∷ []) (named bucket is))
near_after (bucket ∷ key ∷ []) is =
    inr (subst (λ (k : Key). path_cmp store_path (k ∷ key ∷ []) ≡ Less) (sym (named bucket is)) (before_longer store_path key []))
near_after (bucket ∷ key ∷ more ∷ path) is = cc

pub near_there : (path : Path) → path ≡ store_path → is_near path ≡ true
near_there path at = ap is_near at

-- ---- a bucket is there, if something is in it

init_of : (k : Key) (rest : Path) → (init : Path) × (last : Key) × (k ∷ rest ≡ init ++ last ∷ [])
init_of k [] = ([], k, refl)
init_of k (next ∷ rest) = let (init, last, is) = init_of next rest in (k ∷ init, last, ap (λ (p : Path). k ∷ p) is)

module _ (listing : List Member) (parents : HaveParents listing listing) where
  abbrev HasBucketAt : Path → Type 0
  HasBucketAt front = (sequence : ℕ) × Contains listing (front, Bucket sequence)

  -- each bucket that a path goes through, if it is no longer than this
  abbrev Leads : ℕ → Type 0
  Leads n =
      (path : Path) (item : Item) → length path ≤ n → Contains listing (path, item) → (front : Path) (k : Key) (rest : Path) → path ≡ front ++ k ∷ rest
      → (front ≡ [] → ⊥) → HasBucketAt front

  from_above : (n : ℕ) → Leads n → (front init above : Path) → (front ≡ [] → ⊥) → front ++ init ≡ above → length above ≤ n → HasBucket listing above
      → HasBucketAt front
  from_above n again front [] above some same short (inl none) = absurd (some (sym (append-nil front) ∙ same ∙ none))
  from_above n again front [] above some same short (inr (sequence, there)) =
      (sequence, subst (λ (p : Path). Contains listing (p, Bucket sequence)) (sym same ∙ append-nil front) there)
  from_above n again front (k ∷ init) above some same short (inl none) =
      absurd (let long = ap length (same ∙ none) in let more = length-append front (k ∷ init) in omega (arith, long, more))
  from_above n again front (k ∷ init) above some same short (inr (sequence, there)) = again above (Bucket sequence) short there front k init (sym same) some

  leads : (n : ℕ) → Leads n
  leads zero path item short has front k rest is some =
      absurd (let long = ap length is in let more = length-append front (k ∷ rest) in omega (arith, long, more, short))
  leads (suc n) path item short has front k rest is some =
      let (above, last, at, bucket) = parents (path, item) has in
      let (init, end, split) = init_of k rest in
      let whole : (front ++ init) ++ end ∷ [] ≡ above ++ last ∷ [] =
      append_assoc front init (end ∷ []) ∙ ap (λ (p : Path). front ++ p) (sym split) ∙ sym is ∙ at in
      let long = ap length at in
      let more = length-append above (last ∷ []) in
      from_above n (leads n) front init above some (same_from_push (front ++ init) above end last whole).0 (omega (arith, long, more, short)) bucket

  pub bucket_at : (path : Path) (item : Item) → Contains listing (path, item) → (front : Path) (k : Key) (rest : Path) → path ≡ front ++ k ∷ rest
      → (front ≡ [] → ⊥) → HasBucketAt front
  bucket_at path item has = leads (length path) path item (omega arith) has

  pub has_store : (path : Path) (item : Item) → Contains listing (path, item) → is_readable path item ≡ false
      → (i : Item) × Contains listing (store_path, i)
  has_store path item has is =
      let (key, rest, at) = unreadable_in path item is in
      let (sequence, there) = bucket_at path item has store_path key rest at (λ e. cc) in
      (Bucket sequence, there)

-- what is in a bucket that etcd can't read, it can't read either
pub unreadable_above : (above : Path) (k : Key) (item inner : Item) → is_readable above item ≡ false → is_readable (above ++ k ∷ []) inner ≡ false
unreadable_above above k item inner is =
    let (key, rest, at) = unreadable_in above item is in
    ap (λ (p : Path). is_readable (p ++ k ∷ []) inner) at ∙ unreadable_below (key_bucket ∷ key ∷ rest ++ k ∷ []) inner (deep key rest k)
  where
    deep : (key : Key) (rest : Path) (k : Key) → is_in_inner_bucket (key_bucket ∷ key ∷ rest ++ k ∷ []) ≡ true
    deep key [] k = refl
    deep key (next ∷ rest) k = refl

-- ---- a revision is read

pub revision_read : (e : EntryView) (r : RevisionView) → revision_of e ≡ Some r → unread_entry_of e ≡ None
unfolding revision_of unread_entry_of
revision_read e r is = grind arith

-- ---- the paths of a store

pub readable_store : (path : Path) (item : Item) → path ≡ store_path → (is_readable path item ≡ true) × (unread_at path item ≡ None)
readable_store path item at = (ap (λ (p : Path). is_readable p item) at, ap (λ (p : Path). unread_at p item) at)

pub readable_meta : (path : Path) (item : Item) → path ≡ meta_path → (is_readable path item ≡ true) × (unread_at path item ≡ None)
readable_meta path item at = (ap (λ (p : Path). is_readable p item) at, ap (λ (p : Path). unread_at p item) at)

pub readable_compaction : (path : Path) (item : Item) → path ≡ compaction_path → (is_readable path item ≡ true) × (unread_at path item ≡ None)
readable_compaction path item at = (ap (λ (p : Path). is_readable p item) at, ap (λ (p : Path). unread_at p item) at)

pub readable_entry : (e : EntryView) → unread_entry_of e ≡ None
    → (is_readable (store_path ++ e.key ∷ []) e.item ≡ true) × (unread_at (store_path ++ e.key ∷ []) e.item ≡ None)
readable_entry e none = (ap (λ (o : Option UnreadView). is_none o && true) none, none)

pub unread_entry : (e : EntryView) (o : UnreadView) → unread_entry_of e ≡ Some o
    → (is_readable (store_path ++ e.key ∷ []) e.item ≡ false) × (unread_at (store_path ++ e.key ∷ []) e.item ≡ Some o)
unread_entry e o is = (ap (λ (p : Option UnreadView). is_none p && true) is, is)

abbrev first_key : Path → Key
first_key [] = []
first_key (key ∷ path) = key

pub store_no_meta : (path : Path) → path ≡ store_path → path ≡ meta_path → ⊥
store_no_meta path at also =
    let wrong : length key_bucket ≡ length meta_bucket = ap (λ (p : Path). length (first_key p)) (sym at ∙ also) in omega (arith, wrong)

pub entry_no_meta : (path : Path) (key : Key) → path ≡ store_path ++ key ∷ [] → path ≡ meta_path → ⊥
entry_no_meta path key at also = let wrong = ap length (sym at ∙ also) in omega (arith, wrong)

pub compaction_no_meta : (path : Path) → path ≡ compaction_path → path ≡ meta_path → ⊥
compaction_no_meta path at also = let wrong = ap length (sym at ∙ also) in omega (arith, wrong)
