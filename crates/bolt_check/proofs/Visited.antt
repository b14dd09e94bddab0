-- The steps of the search, and its beginning and end.
use Rattle.std.proofs.Common.{◌≡◌, ℕ, ◌↔◌, inl, List, [], ◌∷◌, ◌++◌, None, Ok, Vec, Global, length, take, drop, ap, arith}
use Rattle.std.proofs.lemmas.List.{take_at}
use Rattle.bolt_check.proofs.Words.{InlinePage, At_inline, At_page, Carries, Finding, forest, inline_finding, IsClaimed, IsClean, IsCovered, IsFirst}
use Rattle.bolt_check.proofs.Words.{IsMetaPage, IsMetaUse, IsNoted, IsSearchFault, kids, Node, Nodes, PagePasses, PageSpot, PageUse, Reach, root_spot}
use Rattle.bolt_check.proofs.Words.{Spot, spot_at, spots_of}
use Rattle.bolt_check.proofs.{Forest.clean_end, Forest.covered_end, Forest.inline_visits, Forest.page_visits, Forest.root_visits, Pendings.spots_push}
use Rattle.bolt_check.proofs.{Visiting.carries}
use Rattle.bolt_check.specs.{Private.Pending.ClaimsSpan, Ways.reached, declared.check_fault.CheckFault.CheckFault}
use Rattle.bolt_check.specs.{declared.spot.Spot.Spot as CodeSpot}

-- the beginning of the search: the root alone, and the metas claimed
pub begin_carries : (nodes : Nodes) (root : ℕ) (items : List CodeSpot) (table : List PageUse) → spots_of items ≡ At_page (root_spot root) ∷ []
    → ((n : ℕ) → IsClaimed table n ↔ IsMetaPage n) → ((n : ℕ) (u : PageUse) → IsNoted table n u → IsMetaUse n u)
    → Carries nodes (reached nodes root) IsMetaPage IsMetaUse (forest nodes (spots_of items)) (IsClaimed table) (IsNoted table)
begin_carries nodes root items table e metas uses =
    rw e (carries nodes (root_visits nodes (At_page (root_spot root)))
    (record { split = λ n h. inl ((metas n).0 h); kept = λ n. (metas n).1; span = λ n h. absurd h; uses = λ n u h. inl (uses n u h) }) tt)

-- a page's visit
pub page_carries : (nodes : Nodes) (s : PageSpot) (node : Node) (rest after : List Spot) (old new : List PageUse) → nodes s.number ≡ Ok node
    → after ≡ kids node s ++ rest → ClaimsSpan nodes (At_page s) old new → PagePasses nodes (IsClaimed old) s
    → Carries nodes (forest nodes (At_page s ∷ rest)) (IsClaimed old) (IsNoted old) (forest nodes after) (IsClaimed new) (IsNoted new)
unfolding kids
page_carries nodes s node rest after old new page pushed claims passes = rw pushed (carries nodes (page_visits nodes s node rest page) claims passes)

-- an inline bucket's visit
pub inline_carries : (nodes : Nodes) (host : ℕ) (inner : InlinePage) (rest : List Spot) (table : List PageUse) → inline_finding host inner.keys ≡ None
    → Carries nodes (forest nodes (At_inline host inner ∷ rest)) (IsClaimed table) (IsNoted table) (forest nodes rest) (IsClaimed table) (IsNoted table)
inline_carries nodes host inner rest table =
    carries nodes (inline_visits nodes host inner rest) (record { split = λ n h. inl h; kept = λ n h. h; span = λ n h. absurd h; uses = λ n u h. inl h })

-- the end: nothing is left
pub ended : (nodes : Nodes) (items : List CodeSpot) {reach : Reach} {c d : ℕ → Type 0} {a b : ℕ → PageUse → Type 0}
    → Carries nodes reach c a (forest nodes (spots_of items)) d b → items ≡ []
    → IsClean nodes reach c × ((n : ℕ) → d n ↔ IsCovered nodes reach c n)
ended nodes items {d = d} carried none =
    let h = rw none at carried in
    (h.clean (clean_end nodes d), λ n. (λ m. (h.covered n).0 (inl m), λ m. covered_end nodes d n ((h.covered n).1 m)))

-- the topmost was taken away
pub spots_pop : (items rest : List CodeSpot) (s : CodeSpot) → items ≡ rest ++ s ∷ [] → spots_of items ≡ spot_at s ∷ spots_of rest
spots_pop items rest s e = rw e (spots_push rest s)

-- the table, after it was lent as a slice
pub stored : (table : Vec PageUse Global) (lent new : List PageUse) → lent ≡ table.items → length new ≡ length lent
    → take table.len (new ++ drop (length new) table.items) ≡ new
stored table lent new was long = take_at new (drop (length new) table.items) table.len (omega (arith, long, ap length was, table.ok.0))

-- a fault reported of what is left is reported of the whole
pub reported_back : (nodes : Nodes) (old new : Reach) (c d : ℕ → Type 0) (fault : CheckFault)
    → ((x : Finding) → IsFirst nodes new d x → IsFirst nodes old c x)
    → IsSearchFault nodes new d fault → IsSearchFault nodes old c fault
reported_back nodes old new c d fault f h = grind arith
