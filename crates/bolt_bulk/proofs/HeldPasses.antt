-- How many items the waiting buckets hold, as a pass counts them.
use Rattle.std.proofs.Common.{◌≡◌, ◌∙◌, ℕ, ◌+◌, List, [], ◌∷◌, ◌++◌, reverse, min, refl, ap, arith}
use Rattle.std.proofs.lemmas.List.{reverse-append}
use Rattle.bolt_bulk.specs.{Private.AreCounted, Private.items_around, Private.items_in, declared.waiting_bucket.WaitingBucket.WaitingBucket}
use Rattle.bolt_check.specs.Counts.{saturated}

pub around_push : (others : List WaitingBucket) (w : WaitingBucket) → items_around (others ++ w ∷ []) ≡ items_around others + items_in w.bucket
around_push [] w = omega arith
around_push (x ∷ others) w = let ih = around_push others w in omega arith

-- one more waits
counted_push : (before : ℕ) (others : List WaitingBucket) (w : WaitingBucket) → AreCounted before others
    → w.around ≡ saturated (before + items_around others) → AreCounted before (others ++ w ∷ [])
counted_push before [] w are at = (at ∙ ap saturated (let e : before + 0 ≡ before = omega arith in e), tt)
counted_push before (x ∷ others) w are at = grind (arith, counted_push (before + items_in x.bucket) others w are.1 (at ∙ ap saturated (omega arith)))

-- the innermost waits no longer
counted_pop : (before : ℕ) (others : List WaitingBucket) (w : WaitingBucket) → AreCounted before (others ++ w ∷ [])
    → AreCounted before others × (w.around ≡ saturated (before + items_around others))
counted_pop before [] w are = (tt, are.0 ∙ ap saturated (let e : before ≡ before + 0 = omega arith in e))
counted_pop before (x ∷ others) w are = grind (arith, counted_pop (before + items_in x.bucket) others w are.1)

-- of all waiting ones
pub waits_more : (others more : List WaitingBucket) (w : WaitingBucket) (before : ℕ) → AreCounted 0 others → w.around ≡ before
    → before ≡ saturated (items_around others) → more ≡ others ++ w ∷ [] → AreCounted 0 more
waits_more others more w before are at old pushed = grind (arith, counted_push)

pub waits_less : (others all : List WaitingBucket) (w : WaitingBucket) → AreCounted 0 all → all ≡ others ++ w ∷ []
    → AreCounted 0 others × (w.around ≡ saturated (items_around others))
waits_less others all w are popped = grind (arith, counted_pop)

pub more_around : (before after held : ℕ) (others more : List WaitingBucket) (w : WaitingBucket) → before ≡ saturated (items_around others)
    → held ≡ saturated (items_in w.bucket) → after ≡ min (before + held) 18446744073709551615 → more ≡ others ++ w ∷ []
    → after ≡ saturated (items_around more)
more_around before after held others more w old own sum pushed = omega (arith, ap items_around pushed ∙ around_push others w)

around_last : (others : List WaitingBucket) (w : WaitingBucket) → reverse (w ∷ others) ≡ reverse others ++ w ∷ []
around_last others w = reverse-append (w ∷ []) others

-- in either order
pub around_reverse : (ws : List WaitingBucket) → items_around (reverse ws) ≡ items_around ws
around_reverse [] = refl
around_reverse (w ∷ ws) = omega (arith, around_reverse ws, ap items_around (around_last ws w) ∙ around_push (reverse ws) w)
