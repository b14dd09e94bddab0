-- If the tests find nothing at any way, the shape holds.
use Rattle.std.proofs.Common.{◌≡◌, ◌≢◌, ℕ, suc, ◌≤◌, inl, inr, true, false, not, ◌&&◌, ◌==◌, List, [], ◌∷◌, ◌++◌, length, Option, Some, None, Result}
use Rattle.std.proofs.Common.{Ok, slice_get, refl, arith, ◌∙◌}
use Rattle.bolt_check.proofs.Words.{At_inline, At_page, cases_lt, child_at, child_spot, early_finding, Entry, follow, HasShape, is_below, is_from}
use Rattle.bolt_check.proofs.Words.{IsClaimedBefore, IsClean, IsMetaPage, Key, key_lt, keys_of, keys_order_fault, leads, Node, node_finding, Nodes}
use Rattle.bolt_check.proofs.Words.{not-true, PagePasses, PageSpot, Passes, Reach, SpanAt, SpanHas, Spot, step, upper_from}
use Rattle.bolt_check.proofs.{WayOrder.before_total, KeyLaws.below_less, KeyLaws.from_more, KeyOrder.key_each, KeyOrder.key_rise}
use Rattle.bolt_check.proofs.WayFacts.{follow_append, is_child, key_at, leads_some, step_child}
use Rattle.bolt_check.specs.{Ways.reached, Findings.finding_of}

-- the content's tests report nothing
pub finding_none : (o : Option ℕ) (page : ℕ) → finding_of o page ≡ None → o ≡ None
finding_none o page e = grind arith

content_parts : (node : Node) (s : PageSpot) → node_finding node s ≡ None
    → ((not node.is_leaf && (length node.entries == 0)) ≡ false) × (keys_order_fault None s.lower s.upper (keys_of node.entries) ≡ None)
content_parts node s e = grind arith

content_filled : (node : Node) (s : PageSpot) → node_finding node s ≡ None → node.is_leaf ≡ false → node.entries ≢ []
content_filled node s e leaf nil = let t : true ≡ false = rw (leaf, nil) at (content_parts node s e).0 in cc

-- the keys of this page are as its bounds say
abbrev pub KeysFine : Nodes → PageSpot → Type 0
KeysFine nodes s = (node : Node) → nodes s.number ≡ Ok node → keys_order_fault None s.lower s.upper (keys_of node.entries) ≡ None

upper_less : (next : Option Entry) (upper : Option Key) (key : Key) → ((n : Entry) → next ≡ Some n → is_below upper n.key ≡ true)
    → is_below (upper_from next upper) key ≡ true → is_below upper key ≡ true
upper_less None upper key h e = e
upper_less (Some n) upper key h e = below_less upper n.key key (h n refl) e

-- the bounds of a spot hold of all keys below it in its bucket
pub keys_below : (nodes : Nodes) (address : List ℕ) (s : PageSpot)
    → ((v : List ℕ) (t : PageSpot) → follow nodes (Some (At_page s)) v ≡ Some (At_page t) → KeysFine nodes t)
    → (below j : ℕ) (key : Key) (under : Node) → leads nodes (Some s.number) address ≡ Some below → nodes below ≡ Ok under
    → slice_get (keys_of under.entries) j ≡ Some key
    → (is_from s.lower key ≡ true) × (is_below s.upper key ≡ true)
keys_below nodes [] s fine below j key under l e g =
    let same : s.number ≡ below = cc in
    let k = key_each None s.lower s.upper (keys_of under.entries) (fine [] s refl under (rw same e)) j key g in
    (k.1, k.2)
keys_below nodes (i ∷ address) s fine below j key under l e g =
    let c = leads_some nodes (child_at nodes (Some s.number) i) address below l in
    let h = is_child nodes s i (nodes s.number) c.0 refl c.1 in
    let node = h.0 in
    let p = h.1 in
    let t = child_spot s p (upper_from (slice_get node.entries (suc i)) s.upper) in
    let st : step nodes (Some (At_page s)) i ≡ Some (At_page t) = step_child nodes s i node p h.2 h.3 h.4 in
    let l2 : leads nodes (child_at nodes (Some s.number) i) address ≡ Some below = l in
    let l3 : leads nodes (Some p.child) address ≡ Some below = rw h.5 (rw c.1 at l2) in
    let r = keys_below nodes address t (λ v u f. fine (i ∷ v) u (rw st f)) below j key under l3 e g in
    let mine = fine [] s refl node h.2 in
    let kp = key_each None s.lower s.upper (keys_of node.entries) mine i p.key (key_at node.entries i p h.4) in (
      from_more s.lower p.key key kp.1 (not-true (key_lt key p.key) r.0),
      upper_less (slice_get node.entries (suc i)) s.upper key
          (λ n f. (key_each None s.lower s.upper (keys_of node.entries) mine (suc i) n.key (key_at node.entries (suc i) n f)).2) r.1,
    )

pub snoc_reached : (nodes : Nodes) (root : ℕ) (way : List ℕ) (i : ℕ) (s : Spot) (o : Option Spot) → reached nodes root way ≡ Some s
    → step nodes (Some s) i ≡ o
    → (v : List ℕ) → reached nodes root (way ++ i ∷ v) ≡ follow nodes o v
snoc_reached nodes root way i s o e st v = grind (arith, follow_append)

early_depth : (nodes : Nodes) (s : PageSpot) → early_finding nodes s ≡ None → s.depth ≤ 64
early_depth nodes s e = grind arith

same_node : (o : Result Node ℕ) (a b : Node) → o ≡ Ok a → o ≡ Ok b → a ≡ b
same_node o a b e h = cc

-- what has a span is a page, which passes
span_free : (nodes : Nodes) (before : ℕ → Type 0) (t : Spot) (n : ℕ) → Passes nodes before t → SpanAt nodes t n → before n → ⊥
span_free nodes before t n p h b = grind arith

span_clean : (nodes : Nodes) (reach : Reach) (c : ℕ → Type 0) → IsClean nodes reach c → (w : List ℕ) (o : Option Spot) (n : ℕ) → reach w ≡ o
    → SpanHas nodes o n
    → IsClaimedBefore nodes reach c w n → ⊥
span_clean nodes reach c clean w None n e h b = h
span_clean nodes reach c clean w (Some t) n e h b = span_free nodes (IsClaimedBefore nodes reach c w) t n (clean.passes w t e) h b

fine_at : (nodes : Nodes) (root : ℕ) → IsClean nodes (reached nodes root) IsMetaPage → (way : List ℕ) (s : PageSpot)
    → reached nodes root way ≡ Some (At_page s) → KeysFine nodes s
fine_at nodes root clean way s e node h = grind (arith, clean.passes way (At_page s) e)

pub shape_of : (nodes : Nodes) (root : ℕ) → IsClean nodes (reached nodes root) IsMetaPage → HasShape nodes root
shape_of nodes root clean = record {
  good = λ way s e.
      let p : PagePasses nodes (IsClaimedBefore nodes (reached nodes root) IsMetaPage way) s = clean.passes way (At_page s) e in
      (early_depth nodes s p.early, (p.node, p.page));
  filled = λ way s node e h leaf.
      let p : PagePasses nodes (IsClaimedBefore nodes (reached nodes root) IsMetaPage way) s = clean.passes way (At_page s) e in
      content_filled node s (rw (same_node (nodes s.number) node p.node h p.page) p.content) leaf;
  apart = λ v w n h k. elim (before_total v w) [
    | inl e ↦ e
    | inr l ↦ elim l [
      | inl lt ↦ absurd (span_clean nodes (reached nodes root) IsMetaPage clean w (reached nodes root w) n refl k (inr (v, (lt, h))))
      | inr gt ↦ absurd (span_clean nodes (reached nodes root) IsMetaPage clean v (reached nodes root v) n refl h (inr (w, (gt, k))))
    ]
  ];
  above_metas = λ way n h. elim (cases_lt n 2) [
    | inl lt ↦ absurd (span_clean nodes (reached nodes root) IsMetaPage clean way (reached nodes root way) n refl h (inl lt))
    | inr ge ↦ ge
  ];
  rising = λ way s node e h. key_rise None s.lower s.upper (keys_of node.entries) (fine_at nodes root clean way s e node h);
  rising_inline =
      λ way host inner e.
      key_rise None None None inner.keys (finding_none (keys_order_fault None None None inner.keys) host (clean.passes way (At_inline host inner) e));
  bounded = λ way address s node under i j below key e q h leaf g l u k.
      let t = child_spot s e (upper_from (slice_get node.entries (suc i)) s.upper) in
      let st = step_child nodes s i node e h leaf g in
      let r =
      keys_below nodes address t
      (λ v x f. fine_at nodes root clean (way ++ i ∷ v) x (snoc_reached nodes root way i (At_page s) (Some (At_page t)) q st v ∙ f)) below j key under l u k in
      (not-true (key_lt key e.key) r.0, λ next f. rw f at r.1);
}
