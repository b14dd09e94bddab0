-- What is left of members that were read one ahead.
use Rattle.std.specs.Prelude.{◌≡◌, ◌⊎◌, ℕ, suc, List, [], ◌∷◌, Option, Some, None}
use Rattle.bolt_tree.specs.{Listing.Member, Paths.Path, ShownEntries.item_view, declared.ahead.Ahead.Ahead, declared.ahead.FirstMember.FirstMember}
use Rattle.bolt_tree.specs.{declared.entry.Item.Item}
use Rattle.bolt_tree.specs.declared.ahead.FirstMember.TheVariants.{Ended, Read, Unread}

abbrev pub head_of : Option Item → FirstMember
head_of None = Ended
head_of (Some item) = Read item

-- the member that was read is left too
abbrev pub left_with : FirstMember → Path → List Member → List Member
left_with Unread path left = left
left_with (Read item) path left = (path, item_view item) ∷ left
left_with Ended path left = []

abbrev pub ahead_left : {M W : Type 0} → (M → Path) → (M → W → List Member) → Ahead M → W → List Member
ahead_left {M} {W} path left ahead whole = left_with ahead.head (path ahead.members) (left ahead.members whole)

abbrev pub work_with : FirstMember → ℕ → ℕ
work_with Unread work = work
work_with (Read item) work = suc work
work_with Ended work = 0

abbrev pub ahead_work : {M : Type 0} → (M → ℕ) → Ahead M → ℕ
ahead_work {M} work ahead = work_with ahead.head (work ahead.members)

-- what has ended stays as it is, until it begins again
abbrev pub ends_with : {M : Type 0} → (M → M → Type 0) → FirstMember → M → M → Type 0
ends_with {M} ends Unread members end = ends members end
ends_with {M} ends (Read item) members end = ends members end
ends_with {M} ends Ended members end = (end ≡ members) ⊎ ends members end

abbrev pub ahead_ends : {M : Type 0} → (M → M → Type 0) → Ahead M → Ahead M → Type 0
ahead_ends {M} ends ahead end = ends_with ends ahead.head ahead.members end.members
