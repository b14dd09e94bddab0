-- Pages without gaps: nothing is reported of them, and bytes after the last page change nothing.
use Rattle.std.proofs.Common.{◌≡◌, ◌++◌, ℕ, List, [], ◌∷◌, Option, Some, None, ap, arith, refl, subst, ◌∙◌, ◌<◌}
use Rattle.bolt_commands.proofs.Vocabulary.{AreGaps, HasNoGaps, HasSoundTrees, Meta, PageGapView, gaps_of, node_at}
use Rattle.bolt_check.proofs.Exports.{IsTreePage, a_branch, a_leaf, same_nodes, tree_page}
use Rattle.bolt_check.specs.Nodes.{Nodes}
use Rattle.bolt_check.specs.Ways.{At_inline, At_page, Spot, reached}
use Rattle.bolt_etcd.proofs.Exports.{agree_more, bytes_more, count_more, flags_more}
use Rattle.bolt_etcd.specs.Check.WholeFiles.{HasAllPages}
use Rattle.bolt_format.proofs.Exports.{span_passes, span_within}
use Rattle.bolt_format.specs.{Gaps.page_gap, Pages.PageView, Pages.page_at}
use Rattle.bolt_layout.specs.NoGaps.{HasNoGap}
use Rattle.bolt_recover.specs.{PageGaps.gap_on, PageGaps.kept_gap, Surveys.SurveyedWay}
use Rattle.bolt_check.specs.declared.finding.Finding.{Finding}

module _ (file : List ℕ) (meta : Meta) where
  kept_none : (o : Option Spot) (found : Option Finding) → ((s : Spot) → o ≡ Some s → HasNoGap file meta s) → kept_gap file meta o found ≡ []
  kept_none None found none = refl
  kept_none (Some s) (Some x) none = refl
  kept_none (Some (At_page s)) None none = ap (gap_on s.number) (none (At_page s) refl)
  kept_none (Some (At_inline host inner)) None none = ap (gap_on host) (none (At_inline host inner) refl)

  none_of : (survey : List SurveyedWay) → HasNoGaps file meta → gaps_of file meta survey ≡ []
  none_of [] none = refl
  none_of (v ∷ survey) none = rw (kept_none (reached (node_at file meta) meta.root v.way) v.found (none v.way)) (none_of survey none)

  pub none_reported : HasNoGaps file meta → (gaps : List PageGapView) → AreGaps file meta gaps → gaps ≡ []
  none_reported none gaps (survey, surveys, same) = same ∙ none_of survey none

-- ---- bytes after the last page

module _ (file more : List ℕ) (meta : Meta) (all : HasAllPages file meta) (trees : HasSoundTrees file meta) where
  shown_more : (n : ℕ) (view : PageView) → page_at file meta n ≡ Some view → page_gap (file ++ more) meta n ≡ page_gap file meta n
  unfolding page_gap
  shown_more n view at =
      let passed = span_passes file meta n view at in
      let below : n < meta.high_water = omega (arith, (span_within file meta n passed).0) in
      rw (flags_more file more meta all n below, count_more file more meta all n below, bytes_more file more meta all n passed) refl

  good_more : (n : ℕ) → IsTreePage file meta n → page_gap (file ++ more) meta n ≡ page_gap file meta n
  good_more n (a_leaf view at is node) = shown_more n view at
  good_more n (a_branch view at is node) = shown_more n view at

  pub gaps_more : HasNoGaps file meta → HasNoGaps (file ++ more) meta
  gaps_more none way spot led =
      by spot (subst (λ (nodes : Nodes). reached nodes meta.root way ≡ Some spot) (same_nodes file (file ++ more) meta (agree_more file more meta all)) led)
    where
      by : (s : Spot) → reached (node_at file meta) meta.root way ≡ Some s → HasNoGap (file ++ more) meta s
      by (At_page s) here =
          let (node, at) = (trees.good way s here).1 in
          good_more s.number (tree_page file meta s.number node at) ∙ none way (At_page s) here
      by (At_inline host inner) here = none way (At_inline host inner) here
