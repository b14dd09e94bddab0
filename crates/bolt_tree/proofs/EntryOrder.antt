-- Entries in order: which come first, next and last, and the place of a key among them.
-- Over a list of elements whose keys rise.
use Rattle.std.proofs.lemmas.Grind.{common_steps}
use Rattle.std.proofs.Common.{◌≡◌, ◌∙◌, ◌≤◌, inl, inr, Bool, true, false, ℕ, suc, List, ◌∷◌, length, not, Some, slice_get, ap, subst, arith, ◌<◌}
use Rattle.bolt_lemmas.proofs.Exports.{flip_less}
use Rattle.bolt_tree.proofs.Words.{Contains, Key, LeafElement, Less, Rises, cases_lt, entry_cmp, fails_before_first, get_or_from_slice_get, is_lt}
use Rattle.bolt_tree.proofs.Words.{key_cmp, key_lt, least_from, none-some, not-false, not-true, passes_at_first, same_Some, slice_get-get_or}
use Rattle.bolt_tree.proofs.Words.{slice_get_within}
use Rattle.bolt_tree.proofs.PathOrder.{key_same, key_total}

pub contains_at : (entries : List LeafElement) (i : ℕ) (e : LeafElement) → slice_get entries i ≡ Some e → Contains entries e
contains_at entries i e at = (i, slice_get_within entries i e at, get_or_from_slice_get entries i e e at)

place_of : (entries : List LeafElement) (e : LeafElement) → Contains entries e → (i : ℕ) × (slice_get entries i ≡ Some e)
place_of entries e (i, within, is) = (i, slice_get-get_or entries i e within ∙ ap (λ (x : LeafElement). Some x) is)

-- an earlier entry is before a later one
rises_at : (entries : List LeafElement) (i j : ℕ) (e g : LeafElement) → Rises entry_cmp entries → i < j → slice_get entries i ≡ Some e
    → slice_get entries j ≡ Some g → key_cmp e.key g.key ≡ Less
rises_at (x ∷ entries) (suc i) (suc j) e g r lt at next = rises_at entries i j e g r.1 (omega arith) at next
rises_at entries i j e g r lt at next = grind (arith, common_steps, none-some, same_Some, contains_at)

not_before : (entries : List LeafElement) (i j : ℕ) (e g : LeafElement) → Rises entry_cmp entries → i ≤ j → slice_get entries i ≡ Some e
    → slice_get entries j ≡ Some g → is_lt (key_cmp g.key e.key) ≡ false
not_before entries i j e g r le at there = grind (arith, cases_lt, rises_at, same_Some, key_same, flip_less, key_total)

-- no key is before the first one
pub first_least : (entries : List LeafElement) (e f : LeafElement) → Rises entry_cmp entries → slice_get entries 0 ≡ Some e → Contains entries f
    → is_lt (key_cmp f.key e.key) ≡ false
first_least entries e f r at h = let there = place_of entries f h in not_before entries 0 there.0 e f r (omega arith) at there.1

-- the next key is behind, and none is between
pub next_less : (entries : List LeafElement) (i : ℕ) (e g : LeafElement) → Rises entry_cmp entries → slice_get entries i ≡ Some e
    → slice_get entries (suc i) ≡ Some g → key_cmp e.key g.key ≡ Less
next_less entries i e g r at next = rises_at entries i (suc i) e g r (omega arith) at next

behind : (entries : List LeafElement) (i : ℕ) (e f : LeafElement) → Rises entry_cmp entries → slice_get entries i ≡ Some e → Contains entries f
    → key_cmp e.key f.key ≡ Less → (j : ℕ) × (i < j) × (slice_get entries j ≡ Some f)
behind entries i e f r at h less = let there = place_of entries f h in elim (cases_lt i there.0) [
  | inl lt ↦ (there.0, lt, there.1)
  | inr le ↦ absurd (let no = not_before entries there.0 i f e r le there.1 at in let yet = ap is_lt less in cc)
]

pub next_least : (entries : List LeafElement) (i : ℕ) (e g f : LeafElement) → Rises entry_cmp entries → slice_get entries i ≡ Some e
    → slice_get entries (suc i) ≡ Some g
    → Contains entries f → key_cmp e.key f.key ≡ Less → is_lt (key_cmp f.key g.key) ≡ false
next_least entries i e g f r at next h less =
    let there = behind entries i e f r at h less in let lt = there.1 in not_before entries (suc i) there.0 g f r (omega (arith, lt)) next there.2

-- nothing is behind the last one
pub last_greatest : (entries : List LeafElement) (i : ℕ) (e f : LeafElement) → Rises entry_cmp entries → slice_get entries i ≡ Some e
    → length entries ≤ suc i
    → Contains entries f → key_cmp e.key f.key ≡ Less → ⊥
last_greatest entries i e f r at short h less = grind (arith, behind, slice_get_within)

-- where a key stands: the first entry that is not before it
abbrev from : Key → LeafElement → Bool
from key e = not (key_lt e.key key)

pub seek_from : (key : Key) (entries : List LeafElement) (e : LeafElement) → slice_get entries (least_from key entries) ≡ Some e
    → is_lt (key_cmp e.key key) ≡ false
seek_from key entries e at =
    let is = passes_at_first (from key) entries e (slice_get_within entries (least_from key entries) e at) in
    not-true _ (subst (λ (x : LeafElement). from key x ≡ true) (get_or_from_slice_get entries (least_from key entries) e e at) is)

pub before_least : (key : Key) (entries : List LeafElement) (i : ℕ) (e : LeafElement) → i < least_from key entries → slice_get entries i ≡ Some e
    → key_lt e.key key ≡ true
before_least key entries i e lt at =
    not-false _ (subst (λ (x : LeafElement). from key x ≡ false) (get_or_from_slice_get entries i e e at) (fails_before_first (from key) entries i e lt))

pub seek_least : (key : Key) (entries : List LeafElement) (e f : LeafElement) → Rises entry_cmp entries
    → slice_get entries (least_from key entries) ≡ Some e
    → Contains entries f → is_lt (key_cmp f.key key) ≡ false → (is_lt (key_cmp e.key key) ≡ false) × (is_lt (key_cmp f.key e.key) ≡ false)
seek_least key entries e f r at h after =
    let there = place_of entries f h in
    grind (arith, cases_lt, before_least, not_before, seek_from)

-- with no such entry, all are before it
pub seek_none : (key : Key) (entries : List LeafElement) (f : LeafElement) → length entries ≤ least_from key entries → Contains entries f
    → is_lt (key_cmp f.key key) ≡ true
seek_none key entries f long h =
    let there = place_of entries f h in
    before_least key entries there.0 f (omega (arith, slice_get_within entries there.0 f there.1, long)) there.1
