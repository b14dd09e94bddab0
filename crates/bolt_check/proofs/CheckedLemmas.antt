-- What a checked file is known to be.
use Rattle.std.proofs.Common.{◌≡◌, ℕ, List, Some, subst}
use Rattle.bolt_check.proofs.Words.{At_page, bytes_of, Checked, HasSoundTrees, IsOnWay, IsSome, Meta, meta_of, node_at, page_at, PageSpot, props}
use Rattle.bolt_check.proofs.Words.{∥∥₁_elim, ∥∥₁_map}
use Rattle.bolt_check.proofs.HighWaterLemmas.{node_shown}
use Rattle.bolt_check.specs.Ways.{reached}

-- a way leads to a good page
pub good_page : (file : List ℕ) (meta : Meta) (way : List ℕ) (s : PageSpot) → HasSoundTrees file meta
    → reached (node_at file meta) meta.root way ≡ Some (At_page s) → IsSome (page_at file meta s.number)
good_page file meta way s trees leads = let good = (trees.good way s leads).1 in node_shown file meta s.number good.0 good.1

-- its trees are sound
pub checked_trees : (checked : Checked) → ∥ HasSoundTrees (bytes_of checked) (meta_of checked) ∥₁
unfolding bytes_of meta_of
checked_trees checked = ∥∥₁_map checked.sound (λ tested. tested.trees)

-- what follows of sound trees, and has one proof, holds of a checked file
pub with_trees : (checked : Checked) (P : Type 0) → IsProp P → (HasSoundTrees (bytes_of checked) (meta_of checked) → P) → P
with_trees checked P prop f = ∥∥₁_elim (checked_trees checked) prop f

-- a page that a way leads to is good
pub good_on_way : (checked : Checked) (number : ℕ) → ∥ ((depth : ℕ) × IsOnWay (bytes_of checked) (meta_of checked) number depth) ∥₁
    → IsSome (page_at (bytes_of checked) (meta_of checked) number)
good_on_way checked number on =
    ∥∥₁_elim on (Prim.hlevel props)
    (λ (depth, w). with_trees checked (IsSome (page_at (bytes_of checked) (meta_of checked) number)) (Prim.hlevel props) (λ trees.
    subst (λ (n : ℕ). IsSome (page_at (bytes_of checked) (meta_of checked) n)) w.is (good_page (bytes_of checked) (meta_of checked) w.way w.spot trees w.led)))
