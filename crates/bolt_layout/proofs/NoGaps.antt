-- The pages of a layout have no gap.
use Rattle.std.proofs.Common.{◌≡◌, ◌∙◌, ◌<◌, ◌^◌, ℕ, List, [], ◌∷◌, None, ap, inl, inr, length, sym}
use Rattle.bolt_layout.proofs.Words.{AllByRecursion, At_inline, At_page, IsAsked, Layout, layout_meta, layout_of, layout_pages, Meta, Placed, Tree}
use Rattle.bolt_layout.proofs.{BboltCopies.even_spot, BboltCopies.placed, BboltCopies.sound, PlacedWays.IsPlaced, Soundness.PassingIsSound}
use Rattle.bolt_layout.proofs.{SpanLemmas.IsShown}
use Rattle.bolt_format.specs.Gaps.{page_gap}
use Rattle.bolt_layout.specs.NoGaps.{HasNoGaps}

-- of a page that was placed
whole_of : (file : List ℕ) (meta : Meta) (pages : List Placed) → AllByRecursion (λ (p : Placed). IsShown file meta p.number p.view) pages
    → (n : ℕ) → IsPlaced pages n → page_gap file meta n ≡ None
whole_of file meta [] shown n placed = absurd placed
whole_of file meta (p ∷ pages) shown n (inl here) = ap (page_gap file meta) (sym here) ∙ shown.0.whole
whole_of file meta (p ∷ pages) shown n (inr later) = whole_of file meta pages shown.1 n later

module _ (passing : PassingIsSound) (which : Layout) (page_size : ℕ) (tree : Tree) (sequence : ℕ) (asked : IsAsked page_size tree sequence)
    (small : length (layout_of which page_size tree sequence) < 2 ^ 63) where
  abbrev file : List ℕ
  file = layout_of which page_size tree sequence

  abbrev meta : Meta
  meta = layout_meta which page_size tree sequence 1

  pub no_gaps : HasNoGaps file meta
  no_gaps way (At_page s) e =
      whole_of file meta (layout_pages which page_size tree) (sound passing which page_size tree sequence asked small).shown s.number
      (placed passing which page_size tree sequence asked small way s e)
  no_gaps way (At_inline host inner) e = (even_spot passing which page_size tree sequence asked small way (At_inline host inner) e).1
