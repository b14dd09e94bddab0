-- Entries whose keys aren't among others.
use Rattle.std.proofs.Common.{◌≡◌, ◌↔◌, Bool, true, List, not, refl}
use Rattle.std.proofs.{lemmas.Bool.Decides.Decides-by_or, lemmas.Bool.Decides.Decides-not, lemmas.Bool.Decides.same_from_decides}
use Rattle.std.proofs.{lemmas.List.Elements.Decides-contains, lemmas.Slice.Eq.bytes_eq-Decides}
use Rattle.std.specs.{Bool.Decides, List.Contains, Str.bytes_eq}
use Rattle.bolt_lemmas.proofs.Exports.{kept, kept_from}
use Rattle.bolt_check.specs.Keys.{Key}
use Rattle.bolt_tree.specs.Entries.{EntryView}
use Rattle.bolt_repair.specs.Candidates.{among, without}

-- ---- whether a key is among these, as a test

among_decides : (keys : List Key) (key : Key) → Decides (among keys key) (Contains keys key)
among_decides keys key =
    Decides-contains keys key _
    (Decides-by_or (λ k. bytes_eq k key) (λ k. k ≡ key) (λ ks. among ks key) (λ k. bytes_eq-Decides k key) refl (λ k ks. refl) keys)

pub among_has : (keys : List Key) (key : Key) → among keys key ≡ true → Contains keys key
among_has keys key e = (among_decides keys key).0 e

pub among_true : (keys : List Key) (key : Key) → Contains keys key → among keys key ≡ true
among_true keys key has = (among_decides keys key).1 has

pub among_is : (keys : List Key) (key : Key) (b : Bool) → ((b ≡ true) ↔ Contains keys key) → b ≡ among keys key
among_is keys key b is = same_from_decides b (among keys key) is (among_decides keys key)

not_among : (keys : List Key) (key : Key) → Decides (not (among keys key)) (Contains keys key → ⊥)
not_among keys key = Decides-not (among keys key) (among_decides keys key)

pub without_has : (keys : List Key) (es : List EntryView) (e : EntryView) → Contains (without keys es) e ↔ (Contains es e × (Contains keys e.key → ⊥))
without_has keys es e = (
  λ has. let (there, test) = kept_from (λ (x : EntryView). not (among keys x.key)) es e has in (there, (not_among keys e.key).0 test),
  λ (has, none). kept (λ (x : EntryView). not (among keys x.key)) es e has ((not_among keys e.key).1 none),
)
