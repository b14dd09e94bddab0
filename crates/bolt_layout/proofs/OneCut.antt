-- There is one cut of each row.
use Rattle.std.proofs.{lemmas.Bool.or_cases, lemmas.Bool.or_parts}
use Rattle.std.proofs.Common.{◌≡◌, ◌≢◌, ◌⊎◌, ℕ, suc, ◌<◌, ◌≤◌, nat_lt, true, false, List, [], ◌∷◌, ◌++◌, length, Some, slice_get, refl, sym, ap}
use Rattle.std.proofs.Common.{subst, inl, inr, arith, append_assoc, flat_map}
use Rattle.bolt_lemmas.proofs.Exports.{length_some}
use Rattle.bolt_layout.proofs.Words.{append-nil, cases_Bool, cases_lt, cut_from, cut_of, joins, length-append, length_push, lt-ltb, ltb-false}
use Rattle.bolt_layout.proofs.Words.{ltb-true, max_items, run_size, sum_by-append}
use Rattle.bolt_layout.specs.Cut.{CutIsOne, IsCut}

-- The test of an item, by what is known of it.
joins_few : {X : Type 0} (page_size least : ℕ) (size : X → ℕ) (run : List X) (next : X) → length run < least
    → joins page_size least size run next ≡ true
joins_few page_size least size run next h = let t : nat_lt (length run) least ≡ true = lt-ltb (length run) least h in rw t refl

joins_fits : {X : Type 0} (page_size least : ℕ) (size : X → ℕ) (run : List X) (next : X) → run_size size (run ++ next ∷ []) ≤ page_size
    → length run < max_items
    → joins page_size least size run next ≡ true
joins_fits page_size least size run next h k = grind arith

pub joins_not : {X : Type 0} (page_size least : ℕ) (size : X → ℕ) (run : List X) (next : X) → least ≤ length run
    → (page_size < run_size size (run ++ next ∷ [])) ⊎ (length run ≡ max_items) → joins page_size least size run next ≡ false
joins_not page_size least size run next long is = grind arith

-- A run that ends has as many items as it needs,
pub ended_long : {X : Type 0} (page_size least : ℕ) (size : X → ℕ) (run : List X) (next : X) → joins page_size least size run next ≡ false
    → least ≤ length run
ended_long page_size least size run next f = ltb-false (length run) least (or_parts (nat_lt (length run) least) _ f).0

-- and no room for the next one.
ended_full : {X : Type 0} (page_size least : ℕ) (size : X → ℕ) (run : List X) (next : X) → length run ≤ max_items
    → joins page_size least size run next ≡ false
    → (page_size < run_size size (run ++ next ∷ [])) ⊎ (length run ≡ max_items)
ended_full page_size least size run next cap f = grind arith

-- A cut by recursion over the runs: each is one that a page can hold, and ends where the first item of the next doesn't join it.
pub record IsRunOf {X : Type 0} (page_size least : ℕ) (size : X → ℕ) (run : List X) : Type 0 where
  pub some : 1 ≤ length run
  pub fits : least < length run → run_size size run ≤ page_size
  pub cap : length run ≤ max_items

abbrev pub Ends : {X : Type 0} → (page_size least : ℕ) → (X → ℕ) → List X → List (List X) → Type 0
Ends page_size least size run [] = Unit {0}
Ends page_size least size run ([] ∷ runs) = ⊥
Ends page_size least size run ((next ∷ more) ∷ runs) = joins page_size least size run next ≡ false

abbrev pub AreRuns : {X : Type 0} → (page_size least : ℕ) → (X → ℕ) → List (List X) → Type 0
AreRuns page_size least size [] = Unit {0}
AreRuns page_size least size (run ∷ runs) = IsRunOf page_size least size run × Ends page_size least size run runs × AreRuns page_size least size runs

-- so each run but the last has as many items as it needs
pub first_long : {X : Type 0} (page_size least : ℕ) (size : X → ℕ) (run next : List X) (runs : List (List X))
    → AreRuns page_size least size (run ∷ next ∷ runs) → least ≤ length run
first_long page_size least size run next runs are = grind arith

-- It is the one that is computed: a run that fits is taken whole.
absorb : {X : Type 0} (page_size least : ℕ) (size : X → ℕ) (run xs tail : List X)
    → (least < length (run ++ xs) → run_size size (run ++ xs) ≤ page_size) → length (run ++ xs) ≤ max_items
    → cut_from page_size least size run (xs ++ tail) ≡ cut_from page_size least size (run ++ xs) tail
absorb {X = X} page_size least size run [] tail fits cap = ap (λ (r : List X). cut_from page_size least size r tail) (sym (append-nil run))
absorb {X = X} page_size least size run (x ∷ xs) tail fits cap =
    let long = length-append run (x ∷ xs) in
    let all = sum_by-append size (run ++ x ∷ []) xs in
    let same : run ++ (x ∷ xs) ≡ (run ++ x ∷ []) ++ xs = sym (append_assoc run (x ∷ []) xs) in
    grind (
      arith,
      cases_lt,
      joins_few,
      joins_fits,
      absorb page_size least size (run ++ x ∷ []) xs tail (subst (λ (r : List X). least < length r → run_size size r ≤ page_size) same fits)
          (subst (λ (r : List X). length r ≤ max_items) same cap),
    )

pub runs_cut : {X : Type 0} (page_size least : ℕ) (size : X → ℕ) (runs : List (List X)) → AreRuns page_size least size runs
    → runs ≡ cut_of page_size least size (flat_map (λ r. r) runs)
runs_cut page_size least size ((x ∷ xs) ∷ runs) are = grind (arith, absorb, runs_cut page_size least size runs are.2)
runs_cut page_size least size runs are = grind arith

-- And the one that is computed is such a cut.
single_run : {X : Type 0} (page_size least : ℕ) (size : X → ℕ) (next : X) → 1 ≤ least → IsRunOf page_size least size (next ∷ [])
single_run page_size least size next some = record { some = omega arith; fits = λ h. absurd (omega arith); cap = omega arith }

joined_run : {X : Type 0} (page_size least : ℕ) (size : X → ℕ) (run : List X) (next : X) → least ≤ max_items
    → joins page_size least size run next ≡ true
    → IsRunOf page_size least size (run ++ next ∷ [])
joined_run page_size least size run next cap t = grind (arith, length_push, or_cases, ltb-true)

ends_from : {X : Type 0} (page_size least : ℕ) (size : X → ℕ) (run : List X) (next : X) (more items : List X)
    → joins page_size least size run next ≡ false
    → Ends page_size least size run (cut_from page_size least size (next ∷ more) items)
ends_from page_size least size run next more [] f = f
ends_from page_size least size run next more (x ∷ items) f = grind (arith, ends_from page_size least size run next (more ++ x ∷ []) items f)

cut_from_runs : {X : Type 0} (page_size least : ℕ) (size : X → ℕ) (run items : List X) → 1 ≤ least → least ≤ max_items
    → IsRunOf page_size least size run
    → AreRuns page_size least size (cut_from page_size least size run items)
cut_from_runs page_size least size run [] some cap is = (is, tt, tt)
cut_from_runs page_size least size run (next ∷ items) some cap is = elim (cases_Bool (joins page_size least size run next)) [
  | inl t ↦ rw t (cut_from_runs page_size least size (run ++ next ∷ []) items some cap (joined_run page_size least size run next cap t))
  | inr f ↦
      rw f (
        is,
        ends_from page_size least size run next [] items f,
        cut_from_runs page_size least size (next ∷ []) items some cap (single_run page_size least size next some),
      )
]

pub cut_runs : {X : Type 0} (page_size least : ℕ) (size : X → ℕ) (items : List X) → 1 ≤ least → least ≤ max_items
    → AreRuns page_size least size (cut_of page_size least size items)
cut_runs page_size least size items some cap = grind (arith, cut_from_runs)

cut_from_whole : {X : Type 0} (page_size least : ℕ) (size : X → ℕ) (run items : List X)
    → flat_map (λ r. r) (cut_from page_size least size run items) ≡ run ++ items
cut_from_whole page_size least size run [] = refl
cut_from_whole page_size least size run (next ∷ items) =
    grind (arith, append_assoc, cut_from_whole page_size least size (run ++ next ∷ []) items, cut_from_whole page_size least size (next ∷ []) items)

pub cut_whole : {X : Type 0} (page_size least : ℕ) (size : X → ℕ) (items : List X) → flat_map (λ r. r) (cut_of page_size least size items) ≡ items
cut_whole page_size least size items = grind (arith, cut_from_whole)

-- The same by the numbers of the runs.
run_at : {X : Type 0} (page_size least : ℕ) (size : X → ℕ) (runs : List (List X)) → AreRuns page_size least size runs → (i : ℕ) (run : List X)
    → slice_get runs i ≡ Some run
    → IsRunOf page_size least size run
run_at page_size least size (first ∷ runs) are (suc i) run e = run_at page_size least size runs are.2 i run e
run_at page_size least size runs are i run e = grind arith

end_at : {X : Type 0} (page_size least : ℕ) (size : X → ℕ) (runs : List (List X)) → AreRuns page_size least size runs
    → (i : ℕ) (run : List X) (next : X) (more : List X)
    → slice_get runs i ≡ Some run → slice_get runs (suc i) ≡ Some (next ∷ more) → joins page_size least size run next ≡ false
end_at page_size least size (first ∷ runs) are (suc i) run next more e f = end_at page_size least size runs are.2 i run next more e f
end_at page_size least size runs are i run next more e f = grind arith

long_at : {X : Type 0} (page_size least : ℕ) (size : X → ℕ) (runs : List (List X)) → AreRuns page_size least size runs → (i : ℕ) (run next : List X)
    → slice_get runs i ≡ Some run → slice_get runs (suc i) ≡ Some next → least ≤ length run
long_at page_size least size runs are i run [] e f = absurd (let some = (run_at page_size least size runs are (suc i) [] f).some in omega arith)
long_at page_size least size runs are i run (next ∷ more) e f =
    ended_long page_size least size run next (end_at page_size least size runs are i run next more e f)

not_empty : {X : Type 0} (run : List X) → 1 ≤ length run → run ≢ []
not_empty run some e = grind arith

runs_are_cut : {X : Type 0} (page_size least : ℕ) (size : X → ℕ) (items : List X) (runs : List (List X)) → flat_map (λ r. r) runs ≡ items
    → AreRuns page_size least size runs
    → IsCut page_size least size items runs
runs_are_cut page_size least size items runs whole are = record {
  whole = whole;
  filled = λ i run e. not_empty run (run_at page_size least size runs are i run e).some;
  fits = λ i run e. (run_at page_size least size runs are i run e).fits;
  capped = λ i run e. (run_at page_size least size runs are i run e).cap;
  long = long_at page_size least size runs are;
  full =
      λ i run more next e f.
      ended_full page_size least size run next (run_at page_size least size runs are i run e).cap (end_at page_size least size runs are i run next more e f);
}

first_ends : {X : Type 0} (page_size least : ℕ) (size : X → ℕ) (items run : List X) (runs : List (List X))
    → IsCut page_size least size items (run ∷ runs) → Ends page_size least size run runs
first_ends page_size least size items run [] is = tt
first_ends page_size least size items run ([] ∷ runs) is = is.filled 1 [] refl refl
first_ends page_size least size items run ((next ∷ more) ∷ runs) is =
    joins_not page_size least size run next (is.long 0 run (next ∷ more) refl refl) (is.full 0 run more next refl refl)

cut_are_runs : {X : Type 0} (page_size least : ℕ) (size : X → ℕ) (items : List X) (runs : List (List X)) → IsCut page_size least size items runs
    → AreRuns page_size least size runs
cut_are_runs page_size least size items [] is = tt
cut_are_runs page_size least size items (run ∷ runs) is = (
  record { some = length_some run (is.filled 0 run refl); fits = is.fits 0 run refl; cap = is.capped 0 run refl },
  first_ends page_size least size items run runs is,
  cut_are_runs page_size least size (flat_map (λ r. r) runs) runs (record {
    whole = refl;
    filled = λ i r e. is.filled (suc i) r e;
    fits = λ i r e h. is.fits (suc i) r e h;
    capped = λ i r e. is.capped (suc i) r e;
    long = λ i r next e f. is.long (suc i) r next e f;
    full = λ i r more next e f. is.full (suc i) r more next e f;
  }),
)

pub cut_is_one : (X : Type 0) → CutIsOne X
cut_is_one X page_size least size items runs some cap = grind (arith, runs_cut, cut_are_runs, runs_are_cut, cut_whole, cut_runs)
