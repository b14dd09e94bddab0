-- The hash of what a target has accepted.
use Rattle.std.proofs.Common.{◌≡◌, ◌≢◌, ◌<◌, ◌∙◌, ◌⊎◌, ℕ, zero, suc, List, [], ◌++◌, Option, None, Some, Result, Ok, Err, ap, append_assoc, arith}
use Rattle.std.proofs.Common.{drop, inl}
use Rattle.std.proofs.Common.{inr, length, refl, subst, sym}
use Rattle.bolt_commands.proofs.Vocabulary.{Appends, Appends-kept, Appends-trans, AppendsProperPrefix, AppendsProperPrefix-second, HashesSince}
use Rattle.bolt_commands.proofs.Vocabulary.{Holds256, Keeps, OnErr, OnOk, Sha256, cases_lt, drop-append_seam, length-sha256, props, sha256, ∥∥₁_elim}
use Rattle.bolt_commands.proofs.Vocabulary.{∥∥₁_map}

-- a hash goes on with what the target accepts
since_more : (start old new : Option (List ℕ)) (hash next : Sha256) (bytes : List ℕ) → ((m : List ℕ) → Holds256 hash m → Holds256 next (m ++ bytes))
    → Appends old new bytes → HashesSince start old hash → HashesSince start new next
since_more None old new hash next bytes goes taken since = tt
since_more (Some xs) None new hash next bytes goes taken since = absurd since
since_more (Some xs) (Some ys) None hash next bytes goes taken since = absurd taken
since_more (Some xs) (Some ys) (Some zs) hash next bytes goes taken (m, holds, is) =
    (m ++ bytes, goes m holds, taken ∙ ap (λ l. l ++ bytes) is ∙ append_assoc xs m bytes)

-- whatever the result of a put is, the hash is right as long as the target hasn't failed
pub since_put : {A E : Type 0} (result : Result A E) (start old new : Option (List ℕ)) (failed_old failed_new : ℕ) (hash next : Sha256) (bytes : List ℕ)
    → ((m : List ℕ) → Holds256 hash m → Holds256 next (m ++ bytes))
    → OnOk result (Appends old new bytes) → OnOk result (failed_new ≡ failed_old) → OnErr result (0 < failed_new)
    → (failed_old ≡ 0 → ∥ HashesSince start old hash ∥₁) → failed_new ≡ 0 → ∥ HashesSince start new next ∥₁
since_put (Ok a) start old new failed_old failed_new hash next bytes goes taken sound failure since none =
    ∥∥₁_map (since (sym sound ∙ none)) (since_more start old new hash next bytes goes taken)
since_put (Err e) start old new failed_old failed_new hash next bytes goes taken sound failure since none = absurd (omega (arith, failure, none))

hash_not_empty : (text : List ℕ) → sha256 text ≢ []
hash_not_empty text none = let long : length (sha256 text) ≡ 0 = ap length none in absurd (omega (arith, long, length-sha256 text))

-- what the target accepted is the layout, so the digest is that of the layout, if the target shows its bytes
digest_of : (old mid : Option (List ℕ)) (layout : List ℕ) (hash : Sha256) (digest : List ℕ) → ((m : List ℕ) → Holds256 hash m → digest ≡ sha256 m)
    → Appends old mid layout → ∥ HashesSince old mid hash ∥₁ → (old ≡ None) ⊎ (digest ≡ sha256 layout)
digest_of None mid layout hash digest ends taken since = inl refl
digest_of (Some xs) None layout hash digest ends taken since = absurd taken
digest_of (Some xs) (Some ys) layout hash digest ends taken since = inr (∥∥₁_elim since (Prim.hlevel props) (λ known.
    let same : known.0 ≡ layout = sym (drop-append_seam xs known.0) ∙ ap (drop (length xs)) (sym known.2 ∙ taken) ∙ drop-append_seam xs layout in
    ends known.0 known.1 ∙ ap sha256 same))

none_failed : (failed : ℕ) → (0 < failed → ⊥) → failed ≡ 0
none_failed zero sound = refl
none_failed (suc failed) sound = absurd (sound (omega arith))

-- what a target holds once the hash was put, whether it had failed before or not
module _ (old mid new : Option (List ℕ)) (failed : ℕ) (layout : List ℕ) (hash : Sha256) (digest : List ℕ)
    (ends : (m : List ℕ) → Holds256 hash m → digest ≡ sha256 m) (taken : Appends old mid layout) (since : failed ≡ 0 → ∥ HashesSince old mid hash ∥₁) where
  pub whole_with_hash : Appends mid new digest → (0 < failed → ⊥) → Appends old new (layout ++ sha256 layout)
  whole_with_hash put sound = elim (digest_of old mid layout hash digest ends taken (since (none_failed failed sound))) [
    | inl unseen ↦ subst (λ (o : Option (List ℕ)). Appends o new (layout ++ sha256 layout)) (sym unseen) tt
    | inr same ↦ Appends-trans old mid new layout (sha256 layout) taken (subst (λ (l : List ℕ). Appends mid new l) same put)
  ]

  unhashed : Appends old new layout → AppendsProperPrefix old new (layout ++ sha256 layout)
  unhashed all = record { front = layout; rest = sha256 layout; parts = refl; short = hash_not_empty layout; taken = all }

  pub short_with_hash : (digest ≢ [] → AppendsProperPrefix mid new digest) → (0 < failed → Keeps mid new)
      → AppendsProperPrefix old new (layout ++ sha256 layout)
  short_with_hash put keeps = elim (cases_lt 0 failed) [
    | inl some ↦ unhashed (Appends-kept old mid new layout taken (keeps some))
    | inr none ↦ elim (digest_of old mid layout hash digest ends taken (since (omega (arith, none)))) [
      | inl unseen ↦ unhashed (subst (λ (o : Option (List ℕ)). Appends o new layout) (sym unseen) tt)
      | inr same ↦
          let short = put (λ empty. hash_not_empty layout (sym same ∙ empty)) in
          AppendsProperPrefix-second old mid new layout (sha256 layout) taken (subst (λ (l : List ℕ). AppendsProperPrefix mid new l) same short)
    ]
  ]
