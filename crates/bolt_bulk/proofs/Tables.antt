-- The numbers of the open buckets, what their open runs say of each row at their end, and the limits that were noted of those that have ended.
use Rattle.std.proofs.Common.{ℕ, suc, Option, List, [], ◌∷◌, ◌++◌, length, map, ap, arith, ◌≡◌, ◌∙◌, ◌+◌, ◌<◌, ◌≤◌, false, None, sym, subst}
use Rattle.std.proofs.{lemmas.List.length-append, lemmas.List.length-map, lemmas.Bool.cases_lt}
use Rattle.bolt_lemmas.proofs.Exports.{all_map}
use Rattle.bolt_format.specs.Elements.{BranchElement}
use Rattle.bolt_layout.specs.{Laid.Laid, Laid.Placed, Laid.size_of, Levels.branch_page_view, Levels.leaf_page_view, Levels.page_over}
use Rattle.bolt_layout.specs.{Limits.AreRowEnds, Limits.limit_at, Limits.limits_from_ends}
use Rattle.bolt_layout.specs.{declared.Layout.TheVariants.Plain, declared.Layout.TheVariants.Balanced, Cut.branch_cut, Layout.layout_high_water}
use Rattle.bolt_layout.specs.{Openings.limits_for, Openings.opened_in, Openings.row_ends_of, declared.Layout.Layout}
use Rattle.bolt_bulk.specs.Private.{bucket_limit, Comes, BecomesRoot, Open, Upper, upper_end, AreComingAround, AreNumbered, AreUppers, bucket_runs}
use Rattle.bolt_bulk.specs.Private.{BucketEnds, FitLimits, BucketFrame, HasNoted, PassIsOn, IsLimitTable, IsToCome, Known, limit_in, limits_with}
use Rattle.bolt_bulk.specs.Private.{Notes, run_end, runs_above, Wanted}
use Rattle.bolt_bulk.specs.{declared.branch_run.BranchRun.BranchRun, declared.limits.BucketLimits.BucketLimits, declared.limits.Limits.Limits}
use Rattle.bolt_bulk.specs.{declared.noted_limits.NotedLimits.NotedLimits}
use Rattle.bolt_bulk.specs.declared.bucket_runs.BucketRuns.{BucketRuns}
use Rattle.bolt_check.specs.Counts.{saturated}
use Rattle.bolt_layout.proofs.Exports.{last_append, right_from_ends, from_ends_right, opened_few, from_ends_by, row_ends_are_one, shorter}
use Rattle.std.specs.List.{AllByRecursion}
use Rattle.bolt_tree.specs.Tree.{Tree, end}
use Rattle.bolt_bulk.proofs.HeldSteps.{run_length}

uppers_end : (page_size : ℕ) (limits : ℕ → Option ℕ) (uppers : List Upper) (q : Laid BranchElement) (all : List (Laid BranchElement))
    (root : Laid BranchElement)
    → Comes Plain page_size limits uppers all (q ∷ []) root → AreRowEnds page_size all (map upper_end uppers)
uppers_end page_size limits [] q all root is = let one = ap (λ (pages : List (Laid BranchElement)). length pages) is.0 in omega arith
uppers_end page_size limits (upper ∷ uppers) q all root (stands, is) =
    grind (
      arith,
      length-append,
      last_append,
      uppers_end page_size (λ k. limits (suc k)) uppers (page_over branch_page_view page_size (upper.run ++ q ∷ [])) _ root is,
    )

pub bucket_rows_end : (page_size : ℕ) (state : Open) (root : Laid BranchElement) → BecomesRoot Plain page_size state [] root
    → AreRowEnds page_size state.known.leaves (map upper_end state.uppers)
bucket_rows_end page_size state root is =
    uppers_end page_size (bucket_limit state.known.limits) state.uppers (page_over leaf_page_view page_size state.run) state.known.leaves root is.comes

-- ---- a bucket is opened

pub noted_enters : (wanted : Wanted) (page_size : ℕ) (noted : NotedLimits) (known : Known) (buckets : List Known)
    → known.limits.bucket ≡ saturated known.number → Notes wanted page_size known.number known.leaves
    → HasNoted wanted page_size noted known.number buckets → HasNoted wanted page_size noted (suc known.number) (known ∷ buckets)
noted_enters wanted page_size noted known buckets number notes has = grind (arith, cases_lt)

-- ---- a bucket ends

-- its runs say what the rows say
run_ends : (page_size : ℕ) (limits : ℕ → Option ℕ) (runs : List BranchRun) (uppers : List Upper) (q : Laid BranchElement)
    (all : List (Laid BranchElement)) (root : Laid BranchElement) (b : ℕ)
    → AreUppers (runs_above runs) uppers b → Comes Plain page_size limits uppers all (q ∷ []) root → length all ≤ 18446744073709551615
    → map run_end runs ≡ map upper_end uppers
run_ends page_size limits (run ∷ runs) (upper ∷ uppers) q all root b (row, are) (stands, comes) few =
    let next : List (Laid BranchElement) = map (page_over branch_page_view page_size) (branch_cut Plain page_size size_of all) in
    let fewer = shorter Plain page_size all stands.some in
    let count = length-map (branch_cut Plain page_size size_of all) (page_over branch_page_view page_size) in
    let parts = ap (λ (rs : List (List (Laid BranchElement))). length rs) stands.cut ∙ length-append stands.runs _ in
    let items : length run.elements.items ≡ length upper.run = run_length run upper.run _ row.same in
    let rest =
    run_ends page_size (λ k. limits (suc k)) runs uppers (page_over branch_page_view page_size (upper.run ++ q ∷ [])) next root b are comes (omega arith) in
    grind arith
run_ends page_size limits runs uppers q all root b are comes few = grind arith

-- no more buckets are opened than the layout has page numbers
around_most : (wanted : Wanted) (page_size : ℕ) (limits : ℕ → ℕ → Option ℕ) (n : ℕ) (frames : List BucketFrame)
    → AreComingAround wanted page_size limits n frames → n ≤ suc (opened_in wanted.which page_size wanted.tree)
around_most wanted page_size limits n [] are = omega arith
around_most wanted page_size limits n (frame ∷ frames) are =
    let rest = around_most wanted page_size limits (n + opened_in wanted.which page_size frame.after) frames are.1 in omega arith

pub opened_most : (wanted : Wanted) (page_size : ℕ) (limits : ℕ → ℕ → Option ℕ) (n : ℕ) (frames : List BucketFrame)
    → AreComingAround wanted page_size limits n frames → n ≤ layout_high_water wanted.which page_size wanted.tree
opened_most wanted page_size limits n frames are = omega (arith, around_most, opened_few)

-- the numbers of those around it are lower
all_lower : (wanted : Wanted) (page_size below high : ℕ) (buckets : List Known) → below ≤ high → AreNumbered wanted page_size below buckets
    → AllByRecursion (λ (known : Known). known.number < high) buckets
all_lower wanted page_size below high [] low are = tt
all_lower wanted page_size below high (known ∷ buckets) low (is, are) =
    let e = is.earlier in (omega arith, all_lower wanted page_size known.number high buckets (omega arith) are)

-- its own limits join those that were noted
table_ends : (page_size : ℕ) (tree : Tree) (old new : Limits) (opened : ℕ) (known : Known) (buckets : List Known)
    → IsLimitTable page_size tree old opened (known ∷ buckets) → known.number < opened
    → AllByRecursion (λ (other : Known). other.number < known.number) buckets
    → ((level : ℕ) → limit_in new known.number level ≡ limits_for page_size tree known.number level)
    → ((b level : ℕ) → (b ≡ known.number → ⊥) → limit_in new b level ≡ limit_in old b level) → IsLimitTable page_size tree new opened buckets
table_ends page_size tree old new opened known buckets table earlier lower own others = grind (arith, all_map, cases_lt)

-- the same buckets have the same numbers, below a higher one
numbered_below : (wanted : Wanted) (page_size low high : ℕ) (buckets : List Known) → low ≤ high → AreNumbered wanted page_size low buckets
    → AreNumbered wanted page_size high buckets
numbered_below wanted page_size low high [] less are = tt
numbered_below wanted page_size low high (known ∷ buckets) less (is, are) = grind arith

pub noted_leaves : {wanted : Wanted} {page_size next opened : ℕ} {limits : ℕ → ℕ → Option ℕ} {old new : NotedLimits} {frames : List BucketFrame}
    {state : Open} {put : List Placed} (bucket : BucketRuns) (others : List Known)
    → HasNoted wanted page_size old opened (state.known ∷ others) → IsToCome wanted page_size limits opened end frames
    → PassIsOn wanted.which page_size wanted.tree frames state [] (bucket_runs bucket next) put → BucketEnds old new bucket.uppers
    → HasNoted wanted page_size new opened others
noted_leaves {wanted} {page_size} {next} {opened} {limits} {old} {new} {frames} {state} bucket others has come on ended =
    let (is, are) = has.numbered in
    let known : Known = state.known in
    record {
      numbered = numbered_below wanted page_size known.number opened others (let e = is.earlier in omega arith) are;
      asked = ended.same ∙ has.asked;
      table = λ asked which fits.
          let table = has.table asked which fits in
          let number : bucket.uppers.limits.bucket ≡ known.number =
          (let c = is.number_is in
          let e = is.earlier in
          let l = ap (λ (l : BucketLimits). l.bucket) on.kept.limits_are in
          let most = opened_most wanted page_size limits (opened + 0) frames come.around in
          omega arith) in
          let plain : BecomesRoot Plain page_size state [] on.under.root =
          subst (λ (w : Layout). BecomesRoot w page_size state [] on.under.root) which on.under.current in
          let runs : map run_end bucket.uppers.runs.items ≡ map upper_end state.uppers =
          run_ends page_size (bucket_limit known.limits) bucket.uppers.runs.items state.uppers (page_over leaf_page_view page_size state.run) known.leaves
          on.under.root _ on.kept.above plain.comes (let l = is.notes.few in omega arith) in
          let rows : map upper_end state.uppers ≡ row_ends_of page_size known.leaves =
          row_ends_are_one page_size known.leaves (map upper_end state.uppers) (bucket_rows_end page_size state on.under.root plain) in
          let fresh : (level : ℕ) → limit_in old.limits bucket.uppers.limits.bucket level ≡ None =
          λ level. ap (λ (m : ℕ). limit_in old.limits m level) number ∙ table.still_open.0 level in
          let own : (level : ℕ) → limit_in new.limits known.number level ≡ limits_for page_size wanted.tree known.number level =
          λ level. ap (λ (m : ℕ). limit_in new.limits m level) (sym number)
          ∙ (ended.noted (has.asked ∙ asked) fresh level
          ∙ (ap (λ (rs : List (ℕ × ℕ)). limit_at (limits_from_ends false rs) level) (runs ∙ rows) ∙ sym (is.notes.noted which level))) in
          table_ends page_size wanted.tree old.limits new.limits opened known others table is.earlier
          (all_lower wanted page_size known.number known.number others (omega arith) are) own
          (λ m level other. ended.others m level (λ same. other (same ∙ number)));
    }

-- ---- at the beginning, and once all buckets have ended

pub none_noted : (page_size : ℕ) (tree : Tree) (limits : Limits) (known : Known) → known.number ≡ 0
    → ((bucket level : ℕ) → limit_in limits bucket level ≡ None) → IsLimitTable page_size tree limits 1 (known ∷ [])
none_noted page_size tree limits known first none = grind arith

pub table_fits : (page_size : ℕ) (tree : Tree) (limits : Limits) (opened : ℕ) → IsLimitTable page_size tree limits opened []
    → opened ≡ suc (opened_in Plain page_size tree) → opened ≤ 18446744073709551615
    → FitLimits Balanced tree page_size (limits_with limits)
table_fits page_size tree limits opened table count few =
    let noted : (n level : ℕ) → n < suc (opened_in Plain page_size tree) → limits_with limits n level ≡ limits_for page_size tree n level =
    λ n level less. (let same : saturated n ≡ n = omega arith in ap (λ (m : ℕ). limit_in limits m level) same ∙ table.ended n level (omega arith) tt) in
    record {
      root = right_from_ends page_size (limits_with limits 0) tree (λ level. noted 0 level (omega arith));
      others = from_ends_right page_size (limits_with limits) 1 tree (from_ends_by page_size tree (limits_with limits) noted);
    }
