-- If the shape holds, the tests find nothing.
use Rattle.std.proofs.{lemmas.Grind.common_steps, lemmas.Option.cond_some}
use Rattle.std.proofs.Common.{◌≡◌, ◌≢◌, ℕ, suc, ◌≤◌, Bool, true, false, not, ◌&&◌, ◌==◌, if◌then◌else◌, nat_lt, List, [], ◌∷◌, ◌++◌, length, Option}
use Rattle.std.proofs.Common.{Some, None, Ok, slice_get, ap, refl, subst, arith}
use Rattle.bolt_check.proofs.Words.{At_inline, At_page, bucket_spot, child_spot, early_finding, Entry, Finding, follow, HasShape, HasSoundTrees}
use Rattle.bolt_check.proofs.Words.{is_below, is_from, IsClaimedBefore, IsClean, IsFirstFinding, IsMetaPage, Key, key_lt, keys_of, keys_order_fault}
use Rattle.bolt_check.proofs.Words.{leads, Meta, nat_tests, Node, node_finding, Nodes, PageSpot, Passes, root_spot, same_Some, SpanHas, Spot, step}
use Rattle.bolt_check.proofs.Words.{step_entry, upper_from}
use Rattle.bolt_check.proofs.{WayOrder.before_irreflexive, Forest.follow_some, Forest.nothing_is, Judging.passes_silent, KeyOrder.key_passes}
use Rattle.bolt_check.proofs.{Shaping.snoc_reached}
use Rattle.bolt_check.specs.Ways.{reached}

-- the bounds of a spot hold of all keys below it in its bucket
abbrev pub Bounded : Nodes → Spot → Type 0
Bounded nodes (At_page s) =
    (address : List ℕ) (below j : ℕ) (key : Key) (under : Node) → leads nodes (Some s.number) address ≡ Some below → nodes below ≡ Ok under
    → slice_get (keys_of under.entries) j ≡ Some key → (is_from s.lower key ≡ true) × (is_below s.upper key ≡ true)
Bounded nodes (At_inline host inner) = Unit {0}

upper_is : (next : Option Entry) (upper : Option Key) (key : Key) → ((n : Entry) → next ≡ Some n → key_lt key n.key ≡ true)
    → is_below upper key ≡ true → is_below (upper_from next upper) key ≡ true
upper_is next upper key h e = grind arith

bucket_bounded : (nodes : Nodes) (host : ℕ) (e : Entry) (b : Bool) → Bounded nodes (if b then At_inline host e.inner else At_page (root_spot e.child))
bucket_bounded nodes host e b = grind arith

module _ (nodes : Nodes) (root : ℕ) (shape : HasShape nodes root) where
  module _ (way : List ℕ) (s : PageSpot) (e : reached nodes root way ≡ Some (At_page s)) (bound : Bounded nodes (At_page s)) (i : ℕ) where
    child_bounded : (node : Node) (p : Entry) → nodes s.number ≡ Ok node → node.is_leaf ≡ false → slice_get node.entries i ≡ Some p
        → Bounded nodes (At_page (child_spot s p (upper_from (slice_get node.entries (suc i)) s.upper)))
    child_bounded node p h leaf f = λ address below j key under l u g.
        let b = shape.bounded way address s node under i j below key p e h leaf f l u g in
        let up : leads nodes (Some s.number) (i ∷ address) ≡ Some below = rw (h, leaf, f) l in
        (ap not b.0, upper_is (slice_get node.entries (suc i)) s.upper key b.1 (bound (i ∷ address) below j key under up u g).1)

    -- a step leads into a bucket, or to a child
    entry_bounded : (node : Node) → nodes s.number ≡ Ok node → (leaf : Bool) → node.is_leaf ≡ leaf → (o : Option Entry) → slice_get node.entries i ≡ o
        → (t : Spot) → step_entry leaf s o (slice_get node.entries (suc i)) ≡ Some t → Bounded nodes t
    entry_bounded node h leaf l None g t e = absurd (nothing_is t e)
    entry_bounded node h true l (Some p) g t e = subst (Bounded nodes) (cond_some p.is_bucket (bucket_spot s.number p) t e).1
        (bucket_bounded nodes s.number p (p.child == 0))
    entry_bounded node h false l (Some p) g t e = subst (Bounded nodes) (same_Some _ t e) (child_bounded node p h l g)

  spot_bounded : (way : List ℕ) (s : Spot) → reached nodes root way ≡ Some s → Bounded nodes s → (i : ℕ) (t : Spot) → step nodes (Some s) i ≡ Some t
      → Bounded nodes t
  spot_bounded way s e bound i t st = grind (arith, entry_bounded)

  way_bounded : (w way : List ℕ) (s : Spot) → reached nodes root way ≡ Some s → Bounded nodes s → (t : Spot) → follow nodes (Some s) w ≡ Some t
      → Bounded nodes t
  way_bounded [] way s e bound t f = let same : s ≡ t = cc in rw (← same) bound
  way_bounded (i ∷ w) way s e bound t f =
      let u = follow_some nodes (step nodes (Some s) i) w t f in
      let f2 : follow nodes (step nodes (Some s) i) w ≡ Some t = f in
      let r : reached nodes root (way ++ i ∷ []) ≡ Some u.0 = snoc_reached nodes root way i s (Some u.0) e u.1 [] in
      way_bounded w (way ++ i ∷ []) u.0 r (spot_bounded way s e bound i u.0 u.1) t (rw u.1 at f2)

  all_bounded : (way : List ℕ) (t : Spot) → reached nodes root way ≡ Some t → Bounded nodes t
  all_bounded way t e = way_bounded way [] (At_page (root_spot root)) refl (λ address below j key under l u g. (refl, refl)) t e

not_empty : (leaf : Bool) (entries : List Entry) → (leaf ≡ false → entries ≢ []) → (not leaf && (length entries == 0)) ≡ false
not_empty leaf entries h = grind (arith, common_steps)

content_none : (node : Node) (s : PageSpot) → (node.is_leaf ≡ false → node.entries ≢ [])
    → keys_order_fault None s.lower s.upper (keys_of node.entries) ≡ None → node_finding node s ≡ None
content_none node s filled keys = rw (not_empty node.is_leaf node.entries filled, keys) refl

pub early_passes : (nodes : Nodes) (s : PageSpot) (node : Node) → s.depth ≤ 64 → nodes s.number ≡ Ok node → early_finding nodes s ≡ None
early_passes nodes s node h e = let b : nat_lt 64 s.depth ≡ false = grind (arith, nat_tests, h) in rw (b, e) refl

module _ (nodes : Nodes) (root : ℕ) (shape : HasShape nodes root) where
  claimed_none : (way : List ℕ) (n : ℕ) → SpanHas nodes (reached nodes root way) n → IsClaimedBefore nodes (reached nodes root) IsMetaPage way n → ⊥
  claimed_none way n here h = grind (arith, before_irreflexive)

  passes : (way : List ℕ) (s : Spot) → reached nodes root way ≡ Some s → Passes nodes (IsClaimedBefore nodes (reached nodes root) IsMetaPage way) s
  passes way (At_page s) e =
      let good = shape.good way s e in
      let node : Node = good.1.0 in
      let page : nodes s.number ≡ Ok node = good.1.1 in
      let keys = key_passes None s.lower s.upper (keys_of node.entries) (shape.rising way s node e page)
      (λ j key at. let b = all_bounded nodes root shape way (At_page s) e [] s.number j key node refl page at in (refl, b.0, b.1)) in
      record {
        node = node;
        early = early_passes nodes s node good.0 page;
        page = page;
        free = λ n i. claimed_none way n (rw e (rw page i));
        content = content_none node s (shape.filled way s node e page) keys;
      }
  passes way (At_inline host inner) e = let k = key_passes None None None inner.keys (shape.rising_inline way host inner e)
      (λ j key at. (refl, refl, refl)) in rw k refl

-- where the shape is right, the tests report nothing at any way
pub shape_passes : (nodes : Nodes) (root : ℕ) → HasShape nodes root → IsClean nodes (reached nodes root) IsMetaPage
shape_passes nodes root shape = record { passes = passes nodes root shape }

pub sound_reports_nothing : (file : List ℕ) (meta : Meta) (x : Finding) → HasSoundTrees file meta → IsFirstFinding file meta x → ⊥
sound_reports_nothing file meta x shape h = grind (arith, passes_silent, passes)
