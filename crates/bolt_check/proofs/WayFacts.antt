-- Ways, addresses and the pages that they lead to, for the crates above too.
use Rattle.std.proofs.Common.{◌≡◌, ◌∙◌, ℕ, suc, true, false, List, [], ◌∷◌, ◌++◌, map, Option, Some, None, Result, Ok, slice_get, refl, sym, ap}
use Rattle.std.proofs.Common.{subst, arith}
use Rattle.bolt_check.proofs.Words.{At_page, child_at, child_in, child_spot, Entry, follow, HasShape, keys_of, Kind, leads, leaf_entry, Meta, Node}
use Rattle.bolt_check.proofs.Words.{node_at, node_of, node_seen, Nodes, none-some, option_map, page_at, page_fault, PageSpot, PageView, same_Some}
use Rattle.bolt_check.proofs.Words.{slice_get-map, SpanHas, SpanOf, Spot, step, upper_from}
use Rattle.bolt_format.specs.declared.header.Kind.TheVariants as kind
use Rattle.bolt_check.specs.{Ways.reached}

-- one way after another
pub follow_append : (nodes : Nodes) (here : Option Spot) (v w : List ℕ) → follow nodes here (v ++ w) ≡ follow nodes (follow nodes here v) w
follow_append nodes here [] w = refl
follow_append nodes here (i ∷ v) w = follow_append nodes (step nodes here i) v w

-- the key of an entry
pub key_at : (entries : List Entry) (i : ℕ) (e : Entry) → slice_get entries i ≡ Some e → slice_get (keys_of entries) i ≡ Some e.key
key_at entries i e h = slice_get-map (λ (e : Entry). e.key) entries i ∙ ap (option_map (λ (e : Entry). e.key)) h

-- a step to a child of a branch
pub step_child : (nodes : Nodes) (s : PageSpot) (i : ℕ) (node : Node) (e : Entry) → nodes s.number ≡ Ok node → node.is_leaf ≡ false
    → slice_get node.entries i ≡ Some e
    → step nodes (Some (At_page s)) i ≡ Some (At_page (child_spot s e (upper_from (slice_get node.entries (suc i)) s.upper)))
step_child nodes s i node e q leaf g = rw (q, leaf, g) refl

-- no address leads on from nowhere
pub leads_none : (nodes : Nodes) (address : List ℕ) → leads nodes None address ≡ None
leads_none nodes [] = refl
leads_none nodes (i ∷ address) = leads_none nodes address

-- a child of a branch
pub is_child : (nodes : Nodes) (s : PageSpot) (i : ℕ) (o : Result Node ℕ) (c : ℕ) → nodes s.number ≡ o → child_in o i ≡ Some c
    → (node : Node) × (e : Entry) × (nodes s.number ≡ Ok node) × (node.is_leaf ≡ false) × (slice_get node.entries i ≡ Some e) × (e.child ≡ c)
is_child nodes s i o c q h = grind arith

pub leads_some : (nodes : Nodes) (o : Option ℕ) (address : List ℕ) (below : ℕ) → leads nodes o address ≡ Some below → (c : ℕ) × (o ≡ Some c)
leads_some nodes None address below e = absurd (none-some below (sym (leads_none nodes address) ∙ e))
leads_some nodes (Some c) address below e = (c, refl)

-- an address from a page is a way from it
pub leads_follow : (nodes : Nodes) (s : PageSpot) (address : List ℕ) (n : ℕ) → leads nodes (Some s.number) address ≡ Some n
    → (t : PageSpot) × (follow nodes (Some (At_page s)) address ≡ Some (At_page t)) × (t.number ≡ n)
leads_follow nodes s [] n e = (s, refl, same_Some s.number n e)
leads_follow nodes s (i ∷ address) n e =
    let (c, at) = leads_some nodes (child_at nodes (Some s.number) i) address n e in
    let (node, p, page, branch, found, same) = is_child nodes s i (nodes s.number) c refl at in
    let next = child_spot s p (upper_from (slice_get node.entries (suc i)) s.upper) in
    let led : leads nodes (Some next.number) address ≡ Some n = ap (λ (o : Option ℕ). leads nodes o address) (ap Some same ∙ sym at) ∙ e in
    let (t, way, is) = leads_follow nodes next address n led in
    (t, ap (λ (o : Option Spot). follow nodes o address) (step_child nodes s i node p page branch found) ∙ way, is)

-- a good leaf page as a node
pub leaf_node_at : (file : List ℕ) (meta : Meta) (n : ℕ) (view : PageView) → page_at file meta n ≡ Some view → view.kind ≡ kind.Leaf
    → node_at file meta n ≡ Ok (record { is_leaf = true; overflow = view.overflow; entries = map leaf_entry view.leaves })
unfolding node_at
leaf_node_at file meta n view e k = ap (λ (o : Option PageView). node_seen o (page_fault file meta n)) e ∙ ap (λ (x : Kind). node_of x view) k

-- a page lies in its own span
pub in_own_span : (nodes : Nodes) (s : PageSpot) (node : Node) → nodes s.number ≡ Ok node → SpanHas nodes (Some (At_page s)) s.number
in_own_span nodes s node e = subst (λ (r : Result Node ℕ). SpanOf r s.number s.number) (sym e) (omega arith, omega arith)

-- so two ways to one page are one
pub one_way : (nodes : Nodes) (root : ℕ) → HasShape nodes root → (v w : List ℕ) (s t : PageSpot)
    → reached nodes root v ≡ Some (At_page s) → reached nodes root w ≡ Some (At_page t) → s.number ≡ t.number → v ≡ w
one_way nodes root shape v w s t at_v at_w same =
    let good_v = (shape.good v s at_v).1 in
    let good_w = (shape.good w t at_w).1 in
    let span_v = subst (λ (o : Option Spot). SpanHas nodes o s.number) (sym at_v) (in_own_span nodes s good_v.0 good_v.1) in
    let span_w = subst (λ (o : Option Spot). SpanHas nodes o t.number) (sym at_w) (in_own_span nodes t good_w.0 good_w.1) in
    shape.apart v w t.number (subst (λ (n : ℕ). SpanHas nodes (reached nodes root v) n) same span_v) span_w
