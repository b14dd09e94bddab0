-- The listing of a checked file is the one that is computed, and a walk has fewer members of it left after it returned one.
use Rattle.std.proofs.Common.{◌≡◌, ◌<◌, Err, List, None, Ok, Option, Result, Some, ◌∷◌, length, ap, arith}
use Rattle.bolt_tree.proofs.Words.{Checked, ForListing, GivesNext, IfOk, IfSome, IsListing, Member, bytes_of, checked_trees, item_view, meta_of}
use Rattle.bolt_tree.proofs.Words.{option_map, props, walk_checked, walk_path, ∥∥₁_elim, ∥∥₁_map}
use Rattle.bolt_tree.proofs.Existing.{is_listing}
use Rattle.bolt_tree.specs.{Walks.left_of, declared.entry.Item.Item, WalksLeft.left_number, WalksLeft.the_listing, declared.walk.Walk.Walk}

pub is_the_listing : (checked : Checked) → ∥ IsListing (bytes_of checked) (meta_of checked) (the_listing checked) ∥₁
is_the_listing checked = ∥∥₁_map (checked_trees checked) (is_listing (bytes_of checked) (meta_of checked))

pub number_falls : (old new : Walk) (member : Member) → walk_checked new ≡ walk_checked old
    → ((listing : List Member) → IsListing (bytes_of (walk_checked old)) (meta_of (walk_checked old)) listing
    → left_of old listing ≡ member ∷ left_of new listing) → left_number new < left_number old
unfolding left_number
number_falls old new member file given =
    let less : length (left_of new (the_listing (walk_checked old))) < length (left_of old (the_listing (walk_checked old))) =
    ∥∥₁_elim (is_the_listing (walk_checked old)) (hlevel props) (λ is. let n = ap length (given (the_listing (walk_checked old)) is) in omega (arith, n)) in
    grind arith

pub walk_falls : (old new : Walk) {E : Type 0} (result : Result (Option Item) E) → walk_checked new ≡ walk_checked old
    → IfOk result (λ given.
    ForListing (walk_checked old) (λ listing. GivesNext (left_of old listing) (left_of new listing) (walk_path new) (option_map item_view given)))
    → IfOk result (λ given. IfSome given (λ _. left_number new < left_number old))
walk_falls old new (Ok (Some item)) file given = number_falls old new (walk_path new, item_view item) file given
walk_falls old new (Ok None) file given = tt
walk_falls old new (Err e) file given = tt
