-- What was counted of a listing, and one member more.
use Rattle.std.proofs.Common.{append_assoc, ◌&&◌, ◌≡◌, ◌≢◌, ◌∙◌, ◌==◌, ◌+◌, ℕ, Bool, true, false, IsTrue, List, [], ◌∷◌, ◌++◌, length, refl, ap, sym}
use Rattle.std.proofs.Common.{arith, if◌then◌else◌, cond}
use Rattle.std.proofs.lemmas.{Grind.flat_map-append, List.append-nil, List.length-append}
use Rattle.std.specs.List.{count_by}
use Rattle.bolt_recover.proofs.Words.{Bucket, Item, Key, Member, Path, Value, sum_by-append, sum_by-cons}
use Rattle.bolt_recover.specs.Private.Counting.{figures_after}
use Rattle.bolt_recover.specs.States.{FiguresView, counted32, figures_of, first_name, is_root_value, root_bucket, root_buckets}
use Rattle.bolt_tree.specs.Paths.{last_key}

count_more : (p : Member → Bool) (xs : List Member) (m : Member) → count_by p (xs ++ m ∷ []) ≡ count_by p xs + cond (p m) 1 0
count_more p xs m = let sum = sum_by-append (λ (x : Member). cond (p x) 1 0) xs (m ∷ []) in omega (arith, sum)

names_more : (xs : List Member) (m : Member) → root_buckets (xs ++ m ∷ []) ≡ root_buckets xs ++ root_bucket m
names_more xs m = grind (arith, flat_map-append, append-nil)

first_more : (names : List Key) (name : Key) → first_name (names ++ name ∷ []) ≡ (if counted32 (length names) == 0 then name else first_name names)
first_more [] name = refl
first_more (x ∷ names) name = grind arith

last_more : (names : List Key) (name : Key) → last_key (names ++ name ∷ []) ≡ name
last_more [] name = refl
last_more (x ∷ []) name = refl
last_more (x ∷ y ∷ names) name = last_more (y ∷ names) name

few_more : (n : ℕ) → counted32 (n + 1) ≡ counted32 (counted32 n + 1)
few_more n = omega arith

pub figures_more : (xs : List Member) (m : Member) → figures_of (xs ++ m ∷ []) ≡ figures_after (figures_of xs) m
figures_more xs ([], Value value) = grind (arith, names_more, count_more, append-nil)
figures_more xs (name ∷ [], Value value) = grind (arith, names_more, count_more, append-nil)
figures_more xs (name ∷ next ∷ path, Value value) = grind (arith, names_more, count_more, append-nil)
figures_more xs ([], Bucket sequence) = grind (arith, names_more, count_more, append-nil, few_more)
figures_more xs (name ∷ [], Bucket sequence) = grind (arith, names_more, count_more, length-append, first_more, last_more, few_more)
figures_more xs (name ∷ next ∷ path, Bucket sequence) = grind (arith, names_more, count_more, append-nil, few_more)

-- a root value among what was counted, and among what is left
pub root_values_more : (xs : List Member) (m : Member) → is_root_value m ≡ false → count_by is_root_value xs ≡ 0
    → count_by is_root_value (xs ++ m ∷ []) ≡ 0
root_values_more xs m not none = grind (arith, count_more)

pub root_value_there : (xs ys : List Member) (m : Member) → is_root_value m ≡ true → count_by is_root_value (xs ++ m ∷ ys) ≢ 0
root_value_there xs ys m is none =
    let sum = sum_by-append (λ (x : Member). cond (is_root_value x) 1 0) xs (m ∷ ys) in
    let head = sum_by-cons (λ (x : Member). cond (is_root_value x) 1 0) m ys in
    let one : cond {A = ℕ} (is_root_value m) 1 0 ≡ 1 = ap (λ b. cond b 1 0) is in
    omega (arith, sum, head, one, none)

-- one member more
pub one_on : (listing done left more : List Member) (m : Member) → listing ≡ done ++ left → left ≡ m ∷ more → listing ≡ (done ++ m ∷ []) ++ more
one_on listing done left more m all head = grind (arith, append_assoc)

pub wanted : (alone b : Bool) → false ≡ (alone && b) → IsTrue alone → b ≡ false
wanted alone b not is = grind arith

pub unwanted : (alone b : Bool) → (alone && b) ≡ true → IsTrue alone × (b ≡ true)
unwanted alone b both = grind arith

pub added : (done : List Member) (old new : FiguresView) (path shown : Path) (item : Item) → new ≡ figures_after old (path, item) → path ≡ shown
    → old ≡ figures_of done
    → new ≡ figures_of (done ++ (shown, item) ∷ [])
added done old new path shown item after same figures =
    after ∙ ap (λ p. figures_after old (p, item)) same ∙ ap (λ f. figures_after f (shown, item)) figures ∙ sym (figures_more done (shown, item))
