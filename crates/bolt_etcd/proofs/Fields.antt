-- A record, field by field.
use Rattle.std.proofs.Common.{◌≡◌, ◌∙◌, ℕ, zero, suc, ◌<◌, ◌≤◌, List, [], ◌∷◌, Option, Some, None, length, refl, arith}
use Rattle.bolt_etcd.specs.{Wire.Fields.◌>>=◌, Wire.Fields.Field, Wire.Fields.field, Wire.Fields.fields_up_to, Wire.Records.RecordView}
use Rattle.bolt_etcd.specs.{Wire.Records.empty, Wire.Records.record_of, Wire.Records.with, Wire.Records.with_all}

-- The fields so far make r. The rest has at most n more.
pub record Goes (bytes : List ℕ) (r : RecordView) (rest : List ℕ) : Type 0 where
  pub n : ℕ
  pub enough : length rest ≤ n
  pub same : record_of bytes ≡ (fields_up_to n rest >>= with_all r)

pub starts : (bytes : List ℕ) → Goes bytes empty bytes
unfolding record_of
starts bytes = record { n = length bytes; enough = omega arith; same = refl }

first_set : (r next : RecordView) (f : Field) (read : Option (List Field)) → with r f ≡ Some next
    → ((read >>= λ later. Some (f ∷ later)) >>= with_all r) ≡ (read >>= with_all next)
first_set r next f None e = refl
first_set r next f (Some later) e = rw e refl

first_wrong : (r : RecordView) (f : Field) (read : Option (List Field)) → with r f ≡ None
    → ((read >>= λ later. Some (f ∷ later)) >>= with_all r) ≡ None
first_wrong r f None e = refl
first_wrong r f (Some later) e = rw e refl

-- a field and those after it
first_of_all : (n : ℕ) (rest : List ℕ) → length rest ≤ n → 0 < length rest
    → (k : ℕ) × (n ≡ suc k) × (fields_up_to n rest ≡ (field rest >>= λ f. fields_up_to k f.1 >>= λ later. Some (f.0 ∷ later)))
first_of_all n [] le lt = absurd (omega arith)
first_of_all zero (b ∷ rest) le lt = absurd (omega arith)
first_of_all (suc k) (b ∷ rest) le lt = (k, refl, refl)

module _ {bytes : List ℕ} {r : RecordView} where
  pub steps : (rest after : List ℕ) (f : Field) (next : RecordView) → Goes bytes r rest → length after < length rest → field rest ≡ Some (f, after)
      → with r f ≡ Some next → Goes bytes next after
  steps rest after f next g lt e w =
      let p = first_of_all g.n rest g.enough (omega arith) in
      record { n = p.0; enough = omega (arith, p.1, g.enough); same = g.same ∙ rw (p.2, e) (first_set r next f (fields_up_to p.0 after) w) }

  pub no_field : (rest : List ℕ) → Goes bytes r rest → 0 < length rest → field rest ≡ None → record_of bytes ≡ None
  no_field rest g lt e = let p = first_of_all g.n rest g.enough lt in g.same ∙ rw (p.2, e) refl

  pub wrong_kind : (rest after : List ℕ) (f : Field) → Goes bytes r rest → 0 < length rest → field rest ≡ Some (f, after) → with r f ≡ None
      → record_of bytes ≡ None
  wrong_kind rest after f g lt e w = let p = first_of_all g.n rest g.enough lt in g.same ∙ rw (p.2, e) (first_wrong r f (fields_up_to p.0 after) w)

  pub ends : (rest : List ℕ) → Goes bytes r rest → length rest ≡ 0 → record_of bytes ≡ Some r
  ends [] g e = ends_at g.n g.same
    where
      ends_at : (n : ℕ) → record_of bytes ≡ (fields_up_to n [] >>= with_all r) → record_of bytes ≡ Some r
      ends_at zero same = same
      ends_at (suc n) same = same
  ends (b ∷ rest) g e = absurd (omega arith)

pub ruleset decoding = (starts, steps, no_field, wrong_kind, ends)
