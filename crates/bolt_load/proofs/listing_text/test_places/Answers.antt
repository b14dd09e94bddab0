-- Each line is tested after the last one.
use Rattle.std.proofs.Common.{arith, rules, ◌≡◌, ◌∙◌, ◌+◌, Bool, None, Some, sym, ap, subst}
use Rattle.bolt_load.proofs.Words.{GivesLine, is_bucket, item_view, members_left, members_path, option_map}
use Rattle.bolt_load.proofs.PlacedLines.{HasPlaced, begun, line_placed, line_refused, path_some, slices_some}
use Rattle.bolt_load.specs.Private.OpenPaths.{fault_after}
use Rattle.bolt_load.proofs.listing_text.test_places.Goals as goal
use Rattle.bolt_load.proofs.listing_text.test_places.Goals.{After-place_fault}

pub loop-members-init : goal.loop-members-init
loop-members-init c =
    begun c.args.text.now (members_left c.new-members.result) (members_path c.new-members.result) c.requires.shaped c.new-members.ensures.left
    c.new-members.ensures.path

pub place_fault-requires : goal.place_fault-requires
place_fault-requires c =
    slices_some (members_path c.advance.new.self) c.path.result.now c.path.ensures
    (path_some c.args.text.now (members_left c.loop-members.members) (members_path c.loop-members.members) c.loop-members.is_bucket c.loop-members.line
    c.loop-members.invariant
    (members_left c.advance.new.self) (item_view c.in-Some.item) (members_path c.advance.new.self)
    (subst (λ found.
    GivesLine (members_left c.loop-members.members) (members_left c.advance.new.self) (option_map item_view found) (members_path c.advance.new.self))
    c.in-Some.is c.in_ok-item.ensures.lines))

-- the line that the members gave
given : (c : After-place_fault)
    → GivesLine (members_left c.loop-members.members) (members_left c.advance.new.self) (Some (item_view c.in-Some.item)) (members_path c.advance.new.self)
given c =
    subst (λ found.
    GivesLine (members_left c.loop-members.members) (members_left c.advance.new.self) (option_map item_view found) (members_path c.advance.new.self))
    c.in-Some.is c.in_ok-item.ensures.lines

-- what was found of its place
found : (c : After-place_fault)
    → c.place_fault.result ≡ fault_after (members_path c.loop-members.members) c.loop-members.is_bucket (members_path c.advance.new.self)
found c = grind arith

-- a line that stands where it may, whatever it is of
placed : (c : After-place_fault) {bucket : Bool} → is_bucket (item_view c.in-Some.item) ≡ bucket → c.place_fault.result ≡ None
    → HasPlaced c.args.text.now (members_left c.advance.new.self) (members_path c.advance.new.self) bucket (c.loop-members.line + 1)
placed c same none = search (rules, members_left, members_path, line_placed, item_view, given)

pub returns-in-Some-place_fault-clause-fault : goal.returns-in-Some-place_fault-clause-fault
returns-in-Some-place_fault-clause-fault c =
    let here : After-place_fault = (goal.at.returns-in-Some-place_fault-clause-fault c).After-place_fault in
    line_refused c.args.text.now (members_left c.loop-members.members) (members_path c.loop-members.members) c.loop-members.is_bucket c.loop-members.line
    c.loop-members.invariant
    (members_left c.advance.new.self) (item_view c.in-Some.item) (members_path c.advance.new.self) (given here) c.in-Some-place_fault.fault
    (sym c.in-Some-place_fault.is ∙ found here)

pub loop-members-preserved-in-Bucket : goal.loop-members-preserved-in-Bucket
loop-members-preserved-in-Bucket c =
    placed (goal.at.loop-members-preserved-in-Bucket c).After-place_fault (ap (λ item. is_bucket (item_view item)) c.in-Bucket.is) c.in_default-place_fault.is

pub loop-members-preserved : goal.loop-members-preserved
loop-members-preserved c =
    placed (goal.at.loop-members-preserved c).After-place_fault (ap (λ item. is_bucket (item_view item)) c.in_default-matches.is) c.in_default-place_fault.is
