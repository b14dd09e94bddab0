-- Files of which nothing is lost: their trees are sound, and the kept pages are those that ways lead to.
use Rattle.std.proofs.Common.{◌≡◌, ◌↔◌, ℕ, inl, inr, List, [], Bool, true, sym}
use Rattle.bolt_check.specs.Sound.{HasSoundTrees, IsUsed}
use Rattle.bolt_check.proofs.Exports.{span_spot}
use Rattle.bolt_recover.proofs.Words.{Meta, node_at, reached}
use Rattle.bolt_recover.proofs.{KeptWays.all_kept, KeptWays.sound, LostWays.nothing_lost}
use Rattle.bolt_recover.specs.{KeptPages.AreKeptPages, Losses.AreLosses}

pub sound_trees : (file : List ℕ) (meta : Meta) → AreLosses file meta [] → HasSoundTrees file meta
sound_trees file meta (survey, is, none) = sound file meta survey is (nothing_lost file meta survey is (sym none))

pub kept_used : (file : List ℕ) (meta : Meta) (claimed : ℕ → Bool) → AreKeptPages file meta claimed → AreLosses file meta [] → (n : ℕ)
    → (claimed n ≡ true) ↔ IsUsed file meta n
kept_used file meta claimed are (survey, is, none) n =
    let (is_kept, claims) = are survey is n in
    let none_lost = nothing_lost file meta survey is (sym none) in (
      λ h. elim (is_kept h) [
        | inl m ↦ inl m
        | inr (way, (has, span)) ↦ inr (way, span)
      ],
      λ used. elim used [
        | inl m ↦ claims (inl m)
        | inr (way, span) ↦
            let (spot, (led, at)) = span_spot (node_at file meta) (reached (node_at file meta) meta.root way) n span in
            claims (inr (way, (all_kept file meta survey is none_lost way spot led, span)))
      ],
    )
