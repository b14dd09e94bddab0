-- What members hold at a path, one by one.
use Rattle.std.proofs.Common.{arith, ◌≡◌, ◌∙◌, ◌∷◌, ◌||◌, Bool, Bor, List, ap, false, refl, rules, sym, true, ℕ}
use Rattle.std.specs.Bool.{Decides}
use Rattle.std.proofs.Math.Bool.{or_assoc}
use Rattle.std.proofs.lemmas.Slice.Eq.{bytes_eq-Decides, slice_eq-Decides}
use Rattle.bolt_lemmas.proofs.Exports.{contains_cases, contains_head, contains_tail}
use Rattle.bolt_report.proofs.Words.{Contains, Member, Path, Value, bytes_eq, is_bucket_at, list_any, path_of, pointwise}
use Rattle.bolt_text.proofs.Exports.{same_path}
use Rattle.bolt_tree.specs.Entries.{Bucket, Item}

-- ---- a member at a path, as the code holds both

module _ (path wanted : List (Bor (List ℕ))) (same : Bool) (test : same ≡ pointwise (λ (a b : Bor (List ℕ)). bytes_eq a.now b.now) path wanted) where
  paths_decide : Decides same (path_of path ≡ path_of wanted)
  paths_decide = slice_eq-Decides bytes_eq-Decides (path_of path) (path_of wanted) same (test ∙ sym (same_path path wanted))

  pub value_there : (item : Item) (value : List ℕ) → same ≡ true → item ≡ Value value
      → ◌≡◌ {A = Member} (path_of path, item) (path_of wanted, Value value)
  value_there item value holds is = let paths = paths_decide.0 holds in rw (paths, is) refl

  pub value_elsewhere : (item : Item) (value : List ℕ) → same ≡ false → ◌≡◌ {A = Member} (path_of path, item) (path_of wanted, Value value) → ⊥
  value_elsewhere item value apart is =
      let holds = paths_decide.1 (ap (λ (m : Member). m.0) is) in
      absurd (let both : true ≡ false = sym holds ∙ apart in cc)

pub bucket_apart : (path wanted : Path) (sequence : ℕ) (value : List ℕ) → ◌≡◌ {A = Member} (path, Bucket sequence) (wanted, Value value) → ⊥
bucket_apart path wanted sequence value is = let items = ap (λ (m : Member). m.1) is in absurd (search (rules, items))

-- a bucket is there if it was returned or is left
pub bucket_next : (path : Path) (found now : Bool) (m : Member) (ms : List Member) → now ≡ (found || is_bucket_at path m)
    → (found || list_any (is_bucket_at path) (m ∷ ms)) ≡ (now || list_any (is_bucket_at path) ms)
bucket_next path found now m ms is = rw (is, or_assoc) refl

module _ (old new : List Member) (m : Member) (first : old ≡ m ∷ new) where
  pub first_there : Contains old m
  first_there = rw first (contains_head m new)

  pub later_there : (x : Member) → Contains new x → Contains old x
  later_there x has = rw first (contains_tail m x new has)

  pub not_first : (x : Member) → (m ≡ x → ⊥) → Contains old x → Contains new x
  not_first x other has = grind (arith, contains_cases)
