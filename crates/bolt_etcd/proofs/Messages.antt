-- A message is its first field and the message after it, however its length is counted.
use Rattle.std.proofs.Common.{◌≡◌, ℕ, zero, suc, ◌<◌, ◌≤◌, ◌/◌, ◌%◌, ◌==◌, nat_lt, Bool, true, false, List, [], ◌∷◌, Some, None, length, refl, arith}
use Rattle.std.proofs.Common.{if◌then◌else◌}
use Rattle.std.proofs.lemmas.List.{length-drop}
use Rattle.bolt_etcd.specs.Wire.Fields.{◌>>=◌, Field, Read, field, field_and_later, fields, fields_up_to, first, value, varint, varint_within}

-- fewer than n bytes are left
abbrev Leaves : {A : Type 0} → ℕ → Read A → Type 0
Leaves n None = Unit {0}
Leaves n (Some x) = length x.1 < n

leaves_then : {A B : Type 0} (n : ℕ) (r : Read A) (f : A × List ℕ → Read B) → Leaves n r → ((x : A × List ℕ) → length x.1 < n → Leaves n (f x))
    → Leaves n (r >>= f)
leaves_then n None f w h = tt
leaves_then n (Some x) f w h = h x w

leaves_if : {A : Type 0} (n : ℕ) (b : Bool) (x y : Read A) → Leaves n x → Leaves n y → Leaves n (if b then x else y)
leaves_if n true x y v w = v
leaves_if n false x y v w = w

leaves_more : {A : Type 0} (m n : ℕ) (r : Read A) → m ≤ n → Leaves m r → Leaves n r
leaves_more m n None le w = tt
leaves_more m n (Some x) le w = omega arith

within_leaves : (n : ℕ) (bytes : List ℕ) → Leaves (length bytes) (varint_within n bytes)
unfolding varint_within
within_leaves zero bytes = tt
within_leaves (suc n) [] = tt
within_leaves (suc n) (b ∷ bytes) = grind (arith, within_leaves n bytes)

varint_leaves : (n : ℕ) (bytes : List ℕ) → length bytes ≤ n → Leaves n (varint bytes)
unfolding varint
varint_leaves n bytes le = leaves_then n (varint_within 10 bytes) _ (leaves_more (length bytes) n _ le (within_leaves 10 bytes)) (λ x lt. lt)

first_leaves : (n k : ℕ) (bytes : List ℕ) → length bytes < n → Leaves n (first k bytes)
first_leaves n k bytes lt = leaves_if n (nat_lt (length bytes) k) _ _ tt (omega (arith, length-drop k bytes))

value_leaves : (n wire_type : ℕ) (bytes : List ℕ) → length bytes < n → Leaves n (value wire_type bytes)
unfolding value
value_leaves n wire_type bytes lt =
    leaves_if n (wire_type == 0) _ _ (leaves_then n (varint bytes) _ (varint_leaves n bytes (omega arith)) (λ x h. h))
    (leaves_if n (wire_type == 1) _ _ (leaves_then n (first 8 bytes) _ (first_leaves n 8 bytes lt) (λ x h. h))
    (leaves_if n (wire_type == 2) _ _
    (leaves_then n (varint bytes) _ (varint_leaves n bytes (omega arith)) (λ x h. leaves_then n (first x.0 x.1) _ (first_leaves n x.0 x.1 h) (λ y g. g)))
    (leaves_if n (wire_type == 5) _ _ (leaves_then n (first 4 bytes) _ (first_leaves n 4 bytes lt) (λ x h. h)) tt)))

field_leaves : (bytes : List ℕ) → Leaves (length bytes) (field bytes)
unfolding field
field_leaves bytes =
    leaves_then (length bytes) (varint bytes) _ (varint_leaves (length bytes) bytes (omega arith))
    (λ x lt. leaves_if (length bytes) (x.0 / 8 == 0) _ _ tt
    (leaves_then (length bytes) (value (x.0 % 8) x.1) _ (value_leaves (length bytes) (x.0 % 8) x.1 lt) (λ y h. h)))

with_rest : (n m : ℕ) (r : Read Field) (limit : ℕ) → Leaves limit r
    → ((rest : List ℕ) → length rest < limit → fields_up_to n rest ≡ fields_up_to m rest)
    → (r >>= λ f. fields_up_to n f.1 >>= λ later. Some (f.0 ∷ later)) ≡ (r >>= λ f. fields_up_to m f.1 >>= λ later. Some (f.0 ∷ later))
with_rest n m None limit w h = refl
with_rest n m (Some f) limit w h = rw (h f.1 w) refl

enough : (n m : ℕ) (bytes : List ℕ) → length bytes ≤ n → length bytes ≤ m → fields_up_to n bytes ≡ fields_up_to m bytes
enough zero zero bytes le le' = refl
enough zero (suc m) [] le le' = refl
enough zero (suc m) (b ∷ bytes) le le' = absurd (omega arith)
enough (suc n) zero [] le le' = refl
enough (suc n) zero (b ∷ bytes) le le' = absurd (omega arith)
enough (suc n) (suc m) [] le le' = refl
enough (suc n) (suc m) (b ∷ bytes) le le' =
    with_rest n m (field (b ∷ bytes)) (length (b ∷ bytes)) (field_leaves (b ∷ bytes)) (λ rest lt. enough n m rest (omega arith) (omega arith))

pub first_and_later : (bytes : List ℕ) → 0 < length bytes → fields bytes ≡ field_and_later bytes
first_and_later [] lt = absurd (omega arith)
first_and_later (b ∷ bytes) lt = rest_alone (field (b ∷ bytes)) (field_leaves (b ∷ bytes))
  where
    rest_alone : (r : Read Field) → Leaves (length (b ∷ bytes)) r
        → (r >>= λ f. fields_up_to (length bytes) f.1 >>= λ later. Some (f.0 ∷ later)) ≡ (r >>= λ f. fields f.1 >>= λ later. Some (f.0 ∷ later))
    rest_alone None w = refl
    rest_alone (Some f) w =
        let e : fields_up_to (length bytes) f.1 ≡ fields f.1 = enough (length bytes) (length f.1) f.1 (omega arith) (omega arith) in rw e refl
