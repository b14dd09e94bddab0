use Rattle.std.proofs.Common.{◌≡◌, ◌∙◌, ◌++◌, ◌+◌, ◌∷◌, [], Bor, List, Option, ℕ, ap, length, refl, sym, arith, rules, take}
use Rattle.bolt_recover.proofs.Words.{claims_file, claims_meta, leaf_view, LeafElement, length-append, length-map, length-take-le, map-append}
use Rattle.bolt_recover.proofs.Words.{OpenPage, option_map, option_to_list, Path, path_of, spot_site, step_path, steps_path, take-map, take_all}
use Rattle.bolt_recover.proofs.StepLemmas.{Innermost, inner, is_shallow, next_below, take_below, took_branch, took_last, took_leaf, took_nothing}
use Rattle.bolt_recover.proofs.steps.Steps.step.Goals as goal
use Rattle.bolt_recover.proofs.steps.Steps.step.Goals.{In-Some}

-- the innermost page was the last one, and stands there as an open page
pages_were : (c : In-Some) → c.args.self.now.open.items ≡ c.pop.new.self.items ++ c.in-Some.top ∷ []
pages_were c = c.pop.ensures.items ∙ ap (λ (o : Option OpenPage). c.pop.new.self.items ++ option_to_list o) c.in-Some.is

innermost_page : (c : In-Some)
    → Innermost (claims_file c.args.self.now.claims) (claims_meta c.args.self.now.claims) 0 c.pop.new.self.items c.in-Some.top
    (length (steps_path c.args.self.now))
innermost_page c = inner c.args.self.now c.pop.new.self.items c.in-Some.top c.requires.placed c.requires.ahead (pages_were c)

pub returns-in_default-clause-taken : goal.returns-in_default-clause-taken
returns-in_default-clause-taken c =
    let none : c.pop.new.self.items ≡ [] = search rules in
    took_nothing c.args.self.now c.pop.new.self c.clear.new.self c.requires.ahead (c.in_default.ensures.items ∙ rw none refl) none c.clear.ensures.items

pub returns-then-top-clause-taken : goal.returns-then-top-clause-taken
returns-then-top-clause-taken c =
    took_last c.args.self.now c.pop.new.self.items c.in-Some.top c.requires.placed c.requires.ahead
    (pages_were (goal.at.returns-then-top-clause-taken c).In-Some)
    c.args.self.now.ahead c.pop.new.self c.reserve.new.self c.if-top.true c.requires.ahead refl c.reserve.ensures.items

pub overflow_add-top : goal.overflow_add-top
overflow_add-top c =
    let inner = innermost_page (goal.at.overflow_add-top c).In-Some in
    let taken = inner.good.taken in
    let fits = inner.good.fits in
    omega arith

pub spot-spot-requires-clause-shallow : goal.spot-spot-requires-clause-shallow
spot-spot-requires-clause-shallow c =
    is_shallow _ _ c.in-Some.top.content (innermost_page (goal.at.spot-spot-requires-clause-shallow c).In-Some).good.content

pub spot-spot-requires-clause-below : goal.spot-spot-requires-clause-below
spot-spot-requires-clause-below c =
    next_below _ _ c.in-Some.top (innermost_page (goal.at.spot-spot-requires-clause-below c).In-Some).good c.if-top.false

pub leaf-requires : goal.leaf-requires
leaf-requires c =
    next_below _ _ c.in-Some.top (innermost_page (goal.at.leaf-requires c).In-Some).good c.if-top.false

pub returns-in_default-leaf-clause-taken : goal.returns-in_default-leaf-clause-taken
returns-in_default-leaf-clause-taken c =
    let s = c.args.self.now in
    let front = c.pop.new.self.items in
    let top = c.in-Some.top in
    let inner = innermost_page (goal.at.returns-in_default-leaf-clause-taken c).In-Some in
    let none = sym c.in_default-leaf.ensures.element in
    let path : Path = take top.path_len (steps_path s) in
    let same : path_of c.reserve.new.self.items ≡ steps_path s = ap path_of c.reserve.ensures.items in
    took_branch s front top c.requires.placed c.requires.ahead (pages_were (goal.at.returns-in_default-leaf-clause-taken c).In-Some)
    c.of-self.result c.push_reserved.new.self c.reserve.new.self c.if-top.false c.spot-spot.result top.path_len c.of-self.ensures c.push_reserved.ensures.items
    (c.spot-spot.ensures (claims_file s.claims) (claims_meta s.claims) path inner.good.content
    ∙ ap (λ (o : Option LeafElement). option_map (spot_site (claims_file s.claims) (claims_meta s.claims) (step_path path o)) c.spot-spot.result) none
    ∙ ap (λ (p : Path). option_map (spot_site (claims_file s.claims) (claims_meta s.claims) (take top.path_len p)) c.spot-spot.result) (sym same))
    (λ n le. ap (take n) same) (omega arith) (rw same inner.within) none c.reserve.ensures.items

pub overflow_add-top-2 : goal.overflow_add-top-2
overflow_add-top-2 c =
    let inner = innermost_page (goal.at.overflow_add-top-2 c).In-Some in
    let within = inner.within in
    let parts = length-map c.args.self.now.path.items (λ (part : Bor (List ℕ)). part.now) in
    omega (arith, within, parts)

pub returns-clause-taken : goal.returns-clause-taken
returns-clause-taken c =
    let s = c.args.self.now in
    let front = c.pop.new.self.items in
    let top = c.in-Some.top in
    let inner = innermost_page (goal.at.returns-clause-taken c).In-Some in
    let leaf = c.in-Some-leaf.leaf in
    let e : LeafElement = leaf_view leaf in
    let some = sym c.in-Some-leaf.ensures.element in
    let path : Path = take top.path_len (steps_path s) in
    let put : path_of c.push_reserved-2.new.self.items ≡ path ++ e.key ∷ [] =
    ap path_of (c.push_reserved-2.ensures.items
    ∙ ap (λ (parts : List (Bor (List ℕ))). parts ++ leaf.key ∷ []) (c.truncate.ensures.items ∙ ap (take top.path_len) c.reserve.ensures.items))
    ∙ map-append (λ (part : Bor (List ℕ)). part.now) (take top.path_len s.path.items) (leaf.key ∷ [])
    ∙ ap (λ (p : Path). p ++ e.key ∷ []) (sym (take-map (λ (part : Bor (List ℕ)). part.now) top.path_len s.path.items)) in
    let long : length (path_of c.push_reserved-2.new.self.items) ≡ top.path_len + 1 =
    ap length put ∙ length-append path (e.key ∷ []) ∙ ap (λ (n : ℕ). n + 1) (length-take-le top.path_len (steps_path s) inner.within) in
    took_leaf s front top c.requires.placed c.requires.ahead (pages_were (goal.at.returns-clause-taken c).In-Some)
    c.of-self-2.result c.push_reserved.new.self c.push_reserved-2.new.self c.if-top.false c.spot-spot.result (top.path_len + 1) c.of-self-2.ensures
    c.push_reserved.ensures.items
    (c.spot-spot.ensures (claims_file s.claims) (claims_meta s.claims) path inner.good.content
    ∙ ap (λ (o : Option LeafElement). option_map (spot_site (claims_file s.claims) (claims_meta s.claims) (step_path path o)) c.spot-spot.result) some
    ∙ ap (λ (p : Path). option_map (spot_site (claims_file s.claims) (claims_meta s.claims) p) c.spot-spot.result)
    (sym put ∙ sym (take_all (top.path_len + 1) (path_of c.push_reserved-2.new.self.items) (omega (arith, long)))))
    (λ n le. ap (take n) put ∙ take_below top.path_len n (steps_path s) (e.key ∷ []) inner.within le) (omega arith) (omega (arith, long)) e some put
