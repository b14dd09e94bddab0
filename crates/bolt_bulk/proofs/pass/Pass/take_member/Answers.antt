-- The buckets that the member isn't in are left; it is the next entry of the innermost one then.
use Rattle.std.proofs.Common.{◌≤◌, ◌≡◌, ◌-◌, ◌∷◌, [], Bor, ℕ, suc, List, ap, get_or, length, refl, arith}
use Rattle.std.proofs.lemmas.List.{length-map}
use Rattle.bolt_tree.specs.Entries as entries
use Rattle.bolt_tree.specs.{Paths.Path, Paths.last_key, Paths.path_of, ShownEntries.item_view}
use Rattle.bolt_bulk.proofs.{PassAt.steps_map, PassAt.steps_stop, PassAt.steps_then, PassEnds.has_next, PassLeft.left_same}
use Rattle.bolt_bulk.proofs.pass.Pass.take_member.Goals as goal

abbrev key_of : List (Bor (List ℕ)) → Bor (List ℕ)
key_of parts = get_or parts (length parts - 1) (record { ref_ptr = (0, 0); now = [] })

-- the last part of the path is the key
last_is : (parts : List (Bor (List ℕ))) → 1 ≤ length parts → last_key (path_of parts) ≡ (key_of parts).now
last_is [] some = absurd (omega arith)
last_is (x ∷ []) some = refl
last_is (x ∷ y ∷ parts) some =
    let n : length (x ∷ y ∷ parts) - 1 ≡ suc (length (y ∷ parts) - 1) = omega arith in
    rw n (last_is (y ∷ parts) (omega arith))

-- which is no longer than the format allows
key_fits : (parts : List (Bor (List ℕ))) → 1 ≤ length (path_of parts) → length (last_key (path_of parts)) ≤ 1073741824
    → length (key_of parts).now ≤ 1073741824
key_fits parts some fits =
    let l = length-map parts (λ (part : Bor (List ℕ)). part.now) in
    let n = ap (λ (k : List ℕ). length k) (last_is parts (omega arith)) in omega arith

pub returns-in_err-leave_to-clause-steps : goal.returns-in_err-leave_to-clause-steps
returns-in_err-leave_to-clause-steps g c = λ wanted members put has.
    let l = length-map c.args.path.now (λ (part : Bor (List ℕ)). part.now) in
    steps_stop c.from_residual.ensures.1
    (c.in_err-leave_to.ensures.steps wanted ((path_of c.args.path.now, item_view c.args.item) ∷ members) put has (omega arith))

pub take_value-requires-clause-key : goal.take_value-requires-clause-key
take_value-requires-clause-key g c = key_fits c.args.path.now c.requires.fit.0 c.requires.fit.1

pub take_bucket-requires-clause-key : goal.take_bucket-requires-clause-key
take_bucket-requires-clause-key g c = key_fits c.args.path.now c.requires.fit.0 c.requires.fit.1

pub returns-in-Value-clause-steps : goal.returns-in-Value-clause-steps
returns-in-Value-clause-steps g c = λ wanted members put has.
    let path : Path = path_of c.args.path.now in
    let item : item_view c.args.item ≡ entries.Value c.in-Value.value.now = ap item_view c.in-Value.is in
    let l = length-map c.args.path.now (λ (part : Bor (List ℕ)). part.now) in
    let last = last_is c.args.path.now (omega arith) in
    steps_then c.in_ok-leave_to.ensures.on.setup (c.in_ok-leave_to.ensures.steps wanted ((path, item_view c.args.item) ∷ members) put has (omega arith))
    (λ all mid. let deep = c.in_ok-leave_to.ensures.on.depth_is in
    let next =
    has_next wanted c.leave_to.new.self c.leave_to.new.writer.next path (key_of c.args.path.now).now (entries.Value c.in-Value.value.now) members all
    (left_same (ap (λ (i : entries.Item). (path, i) ∷ members) item) mid) (omega arith) last in
    steps_map (λ then at. record { parents = next.parents; left = next.after; at = at; members_are = next.members_are })
    (c.take_value.ensures.steps wanted next.after next.parents all next.at))

pub returns-in-Bucket-clause-steps : goal.returns-in-Bucket-clause-steps
returns-in-Bucket-clause-steps g c = λ wanted members put has.
    let path : Path = path_of c.args.path.now in
    let item : item_view c.args.item ≡ entries.Bucket c.in-Bucket.sequence = ap item_view c.in-Bucket.is in
    let l = length-map c.args.path.now (λ (part : Bor (List ℕ)). part.now) in
    let last = last_is c.args.path.now (omega arith) in
    steps_then c.in_ok-leave_to.ensures.on.setup (c.in_ok-leave_to.ensures.steps wanted ((path, item_view c.args.item) ∷ members) put has (omega arith))
    (λ all mid. let deep = c.in_ok-leave_to.ensures.on.depth_is in
    let next =
    has_next wanted c.leave_to.new.self c.leave_to.new.writer.next path (key_of c.args.path.now).now (entries.Bucket c.in-Bucket.sequence) members all
    (left_same (ap (λ (i : entries.Item). (path, i) ∷ members) item) mid) (omega arith) last in
    steps_map (λ then at. record { parents = _; left = next.inside; at = at; members_are = next.members_are })
    (c.take_bucket.ensures.steps wanted next.inside next.after next.parents all next.at))
