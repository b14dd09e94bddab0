-- What a path leads to in a sound file, and what it holds.
use Rattle.std.proofs.Common.{◌≡◌, ◌∙◌, ◌⊎◌, ◌++◌, ◌-◌, ◌+◌, List, [], ◌∷◌, ℕ, Some, None, Result, Ok, Err, IfErr, Vec, drop, get_or, inl, inr}
use Rattle.std.proofs.Common.{length, take}
use Rattle.std.proofs.Common.{refl, sym, ap, subst, rules, arith, ◌<◌}
use Rattle.std.proofs.lemmas.List.{map_more}
use Rattle.bolt_commands.proofs.Vocabulary.{AreEntries, Bucket, Checked, Failure, ForEntries, HasSoundTrees, HoldsIn, HoldsNone, IsBucketAt, IsErrAnd}
use Rattle.bolt_commands.proofs.Vocabulary.{IsValueAt, Item, Key, LeadsTo, LeafElement, Path, Start, Value, bucket_checked, bucket_start, bytes_of}
use Rattle.bolt_commands.proofs.Vocabulary.{drop_more, entries_of, held_down, held_up, length-append, map-append, meta_of, names_push, path_above}
use Rattle.bolt_commands.proofs.Vocabulary.{owned_path, props, root_start, start_of, take-append-drop, take-append_seam, ∥∥₁_elim, ∥∥₁_map}
use Rattle.bolt_tree.proofs.Exports.{all_entries, checked_entries, held_once, held_or_none, item_known, named_once, named_or_none, names_no_further}
use Rattle.bolt_tree.proofs.Exports.{start_known}
use Rattle.bolt_commands.specs.declared.failure.Failure.TheVariants as failure

module _ (checked : Checked) where
  abbrev Entry : Start → LeafElement → Type 0
  Entry = entries_of checked

  abbrev pub LeadsIn : Path → Start → Type 0
  LeadsIn path bucket = LeadsTo (bytes_of checked) (meta_of checked) path bucket

  abbrev pub HoldsAt : Path → Item → Type 0
  HoldsAt path item = HoldsIn (bytes_of checked) (meta_of checked) path item

  -- one part more
  pub leads_further : (path : Path) (key : Key) (bucket : Start) (inner : Bucket) → ∥ LeadsIn path bucket ∥₁
      → IsBucketAt Entry bucket key (Some inner)
      → ∥ LeadsIn (path ++ key ∷ []) (bucket_start inner) ∥₁
  leads_further path key bucket inner known found =
      ∥∥₁_elim known (hlevel props) (λ names. ∥∥₁_map found (λ (e, is, k, b, start, sequence).
      subst (λ (s : Start). LeadsIn (path ++ key ∷ []) s) (sym start)
      (subst (λ (x : Key). LeadsIn (path ++ x ∷ []) (start_of e.value)) k (names_push Entry (root_start checked) path bucket e names is b))))

  pub leads_nowhere : (path : Path) (key : Key) (rest : Path) (bucket : Start) → ∥ LeadsIn path bucket ∥₁ → IsBucketAt Entry bucket key None
      → (there : Start) → LeadsIn (path ++ key ∷ rest) there → ⊥
  leads_nowhere path key rest bucket known none there names =
      ∥∥₁_elim known (hlevel props) (λ here. ∥∥₁_elim (checked_entries checked) (hlevel props) (λ all.
      names_no_further Entry (root_start checked) path bucket key rest all here none there names))

  -- ---- if trees are sound, what is only known to be can be named

  known_one : {X : Type 0} (P : X → Type 0) → ((x : X) × P x) ⊎ ((x : X) → P x → ⊥) → ((a b : X) → P a → P b → a ≡ b)
      → ((a b : X) → ∥ a ≡ b ∥₁ → a ≡ b)
      → (x : X) → ∥ P x ∥₁ → P x
  known_one P (inl (there, is)) once same x known = subst P (same there x (∥∥₁_map known (λ here. once there x is here))) is
  known_one P (inr none) once same x known = absurd (∥∥₁_elim known (hlevel props) (λ here. none x here))

  pub lead_named : (path : Path) (bucket : Start) → HasSoundTrees (bytes_of checked) (meta_of checked) → ∥ LeadsIn path bucket ∥₁
      → LeadsIn path bucket
  lead_named path bucket trees known =
      let all = all_entries (bytes_of checked) (meta_of checked) trees in
      known_one (LeadsIn path) (named_or_none Entry (root_start checked) path all) (λ a b. named_once Entry (root_start checked) path a b all) start_known
      bucket known

  pub held_at : (path : Path) (item : Item) → HasSoundTrees (bytes_of checked) (meta_of checked) → ∥ HoldsAt path item ∥₁ → HoldsAt path item
  held_at path item trees known =
      let all = all_entries (bytes_of checked) (meta_of checked) trees in
      known_one (HoldsAt path) (held_or_none Entry (root_start checked) path all) (λ a b. held_once Entry (root_start checked) path a b all)
      item_known item known

  -- what is promised of the entries of the bucket that a path leads to
  pub at_path : (path : Path) (bucket : Bucket) (P : List LeafElement → Type 0) → HasSoundTrees (bytes_of checked) (meta_of checked)
      → bucket_checked bucket ≡ checked
      → ∥ LeadsIn path (bucket_start bucket) ∥₁ → ForEntries (bucket_checked bucket) (bucket_start bucket) P
      → (start : Start) × (entries : List LeafElement) × LeadsIn path start × AreEntries Entry start entries × P entries
  at_path path bucket P trees is known promised =
      let names = lead_named path (bucket_start bucket) trees known in
      let (entries, are) = all_entries (bytes_of checked) (meta_of checked) trees path (bucket_start bucket) names in
      let here = subst (λ (c : Checked). ForEntries c (bucket_start bucket) P) is promised in
      (bucket_start bucket, entries, names, are, here entries are)

-- ---- the parts of a path

module _ {Z : Type 0} (path : List (Vec ℕ Z)) (i : ℕ) (part : Vec ℕ Z) (is : part ≡ get_or path i part) (within : i < length path) where
  abbrev bytes_in : Vec ℕ Z → Key
  bytes_in part = part.items

  -- up to one of them, that one, and the rest
  pub parts_at : owned_path path ≡ owned_path (take i path) ++ part.items ∷ owned_path (drop (i + 1) path)
  parts_at =
      sym (ap owned_path (take-append-drop i path)) ∙ map-append bytes_in (take i path) (drop i path)
      ∙ ap (λ (rest : List (Vec ℕ Z)). owned_path (take i path) ++ owned_path rest) (drop_more path i part within)
      ∙ ap (λ (p : Vec ℕ Z). owned_path (take i path) ++ bytes_in p ∷ owned_path (drop (i + 1) path)) (sym is)

  pub parts_more : owned_path (take (i + 1) path) ≡ owned_path (take i path) ++ part.items ∷ []
  parts_more = map_more bytes_in path i part within ∙ ap (λ (p : Vec ℕ Z). owned_path (take i path) ++ bytes_in p ∷ []) (sym is)

-- all but the last
pub parents_are : (parents : Path) (key : Key) → path_above (parents ++ key ∷ []) ≡ parents
parents_are parents key =
    let one : length (parents ++ key ∷ []) - 1 ≡ length parents = let whole = length-append parents (key ∷ []) in omega (arith, whole) in
    ap (λ n. take n (parents ++ key ∷ [])) one ∙ take-append_seam parents (key ∷ [])

pub no_parts : {Z : Type 0} (path : List (Vec ℕ Z)) → length path ≡ 0 → owned_path path ≡ []
no_parts [] none = refl
no_parts (part ∷ path) none = absurd (omega (arith, none))

-- ---- why a path holds no value

module _ (checked : Checked) where
  abbrev IsReason : Path → Failure → Type 0
  IsReason path reason = HoldsNone (bytes_of checked) path (meta_of checked) reason

  pub none_at_root : {Z : Type 0} (path : List (Vec ℕ Z)) → length path ≡ 0 → IsReason (owned_path path) failure.NoKey
  none_at_root path none = rw (no_parts path none) (inl (refl, λ value held. held, (root_start checked, ∣ refl ∣₁)))

  module _ {Z : Type 0} (path parents : List (Vec ℕ Z)) (key : Vec ℕ Z) (is : path ≡ parents ++ key ∷ []) where
    last_part : owned_path path ≡ owned_path parents ++ key.items ∷ []
    last_part = ap owned_path is ∙ map-append (λ (part : Vec ℕ Z). part.items) parents (key ∷ [])

    parents_in : path_above (owned_path path) ≡ owned_path parents
    parents_in = ap path_above last_part ∙ parents_are (owned_path parents) key.items

    pub reason_named : {X : Type 0} (said : Failure) (result : Result X Failure)
        → (said ≡ failure.NoBucket) × ((bucket : Start) → LeadsIn checked (owned_path parents) bucket → ⊥)
        → IsErrAnd result (λ reason. reason ≡ said) → IfErr result (IsReason (owned_path path))
    reason_named said (Ok x) refused is = tt
    reason_named said (Err reason) (no_bucket, none) is =
        inr (is ∙ no_bucket, λ bucket names. none bucket (subst (λ (p : Path). LeadsIn checked p bucket) parents_in names))

    pub value_at : (bucket : Bucket) (value : List ℕ) → bucket_checked bucket ≡ checked
        → ∥ LeadsIn checked (owned_path parents) (bucket_start bucket) ∥₁
        → IsValueAt (entries_of (bucket_checked bucket)) (bucket_start bucket) key.items (Some value) → ∥ HoldsAt checked (owned_path path) (Value value) ∥₁
    value_at bucket value same known found =
        ∥∥₁_elim known (hlevel props) (λ names. ∥∥₁_map (rw same at found) (λ (e, is, k, is_value, held).
        rw last_part (held_up (entries_of checked) (root_start checked) (owned_path parents) (bucket_start bucket) key.items [] (Value value) names
        (e, is, k, rw is_value (ap Value held)))))

    pub none_at : (bucket : Bucket) → bucket_checked bucket ≡ checked → ∥ LeadsIn checked (owned_path parents) (bucket_start bucket) ∥₁
        → IsValueAt (entries_of (bucket_checked bucket)) (bucket_start bucket) key.items None → IsReason (owned_path path) failure.NoKey
    none_at bucket same known none =
        let here = rw same at none in
        let empty : (value : List ℕ) → HoldsAt checked (owned_path path) (Value value) → ⊥ = λ value held.
        ∥∥₁_elim known (hlevel props) (λ names. ∥∥₁_elim (checked_entries checked) (hlevel props) (λ all.
        let (e, is, k, item) =
        held_down (entries_of checked) (root_start checked) (owned_path parents) (bucket_start bucket) key.items [] (Value value) all names
        (rw last_part at held) in
        let bad = rw (here e is k) at item in absurd (search (rules, bad)))) in
        inl (refl, empty, (bucket_start bucket, rw parents_in known))
