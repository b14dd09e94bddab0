-- Each visit removes a page number from those that are left.
use Rattle.std.proofs.Common.{◌≡◌, ◌∙◌, ℕ, List, ◌++◌, Option, Some, Ok, refl, ap, subst, arith}
use Rattle.std.proofs.lemmas.List.{append_cancel_left}
use Rattle.bolt_lemmas.proofs.Exports.{has_number, numbers, still, without}
use Rattle.bolt_check.proofs.Words.{At_page, Before, follow, Has, HasSoundTrees, Meta, Node, node_at, Nodes, PageSpot, Reach, root_spot}
use Rattle.bolt_check.proofs.Words.{Spot}
use Rattle.bolt_check.proofs.{HighWaterLemmas.node_below, Visiting.Visits, Visiting.one_of, WayFacts.follow_append, WayFacts.one_way}
use Rattle.bolt_check.proofs.{WayOrder.before_irreflexive}
use Rattle.bolt_check.specs.Ways.{reached}

-- the pages that ways lead to are good, each led to once, and left
pub record Fits (nodes : Nodes) (left : List ℕ) (reach : Reach) : Type 0 where
  pub good : (way : List ℕ) (s : PageSpot) → reach way ≡ Some (At_page s) → (node : Node) × (nodes s.number ≡ Ok node)
  pub within : (way : List ℕ) (s : PageSpot) → reach way ≡ Some (At_page s) → Has left s.number
  pub apart : (v w : List ℕ) (s t : PageSpot) → reach v ≡ Some (At_page s) → reach w ≡ Some (At_page t) → s.number ≡ t.number → v ≡ w

module _ (nodes : Nodes) {left : List ℕ} {old : Reach} (fits : Fits nodes left old) where
  -- so it is with ways that are different ways there, and lead to pages that are still left
  fits_along : (rest : List ℕ) (new : Reach) (f : List ℕ → List ℕ) → ((b : List ℕ) (t : Spot) → new b ≡ Some t → old (f b) ≡ Some t)
      → ((a b : List ℕ) (t u : Spot) → new a ≡ Some t → new b ≡ Some u → f a ≡ f b → a ≡ b)
      → ((b : List ℕ) (t : PageSpot) → new b ≡ Some (At_page t) → Has left t.number → Has rest t.number) → Fits nodes rest new
  fits_along rest new f same one stays = grind arith

  pub fits_visited : {new : Reach} {o : Option Spot} {first : List ℕ} {f : List ℕ → List ℕ} → Visits old new o first f → Fits nodes left new
  fits_visited {new = new} {f = f} v = fits_along left new f v.same (one_of v) (λ b t e h. h)

  -- after a page's visit it isn't left
  pub fits_page : {new : Reach} {first : List ℕ} {f : List ℕ → List ℕ} (s : PageSpot) → Visits old new (Some (At_page s)) first f
      → (h : Has left s.number)
      → Fits nodes (without s.number left h) new
  fits_page {new = new} {first = first} {f = f} s v h = fits_along (without s.number left h) new f v.same (one_of v)
      (λ b t e. still s.number t.number left h (λ same.
      let at = fits.apart (f b) first t s (v.same b (At_page t) e) (v.leads (At_page s) refl) same in
      before_irreflexive first (subst (Before first) at (v.after (At_page s) refl b (At_page t) e))))

-- the ways of sound trees fit
sound_fits : (file : List ℕ) (meta : Meta) → HasSoundTrees file meta
    → Fits (node_at file meta) (numbers meta.high_water) (reached (node_at file meta) meta.root)
sound_fits file meta trees = grind (arith, has_number, node_below, one_way)

-- and so do those of a bucket that one of them leads to
pub bucket_fits : (file : List ℕ) (meta : Meta) → HasSoundTrees file meta → (way : List ℕ) (root : ℕ)
    → reached (node_at file meta) meta.root way ≡ Some (At_page (root_spot root))
    → Fits (node_at file meta) (numbers meta.high_water) (reached (node_at file meta) root)
bucket_fits file meta trees way root leads =
    let nodes = node_at file meta in
    fits_along nodes (sound_fits file meta trees) (numbers meta.high_water) (reached nodes root) (λ v. way ++ v)
    (λ v t e. follow_append nodes (Some (At_page (root_spot meta.root))) way v ∙ ap (λ (o : Option Spot). follow nodes o v) leads ∙ e)
    (λ a b _ _ _ _ e. append_cancel_left way a b e) (λ v t e h. h)
