-- Lists that rise in an order.
use Rattle.std.specs.Prelude.{Contains, List, [], ◌∷◌, ◌≡◌}
use Rattle.std.specs.declared.cmp.Ordering.{Ordering}
use Rattle.std.specs.declared.cmp.Ordering.TheVariants.{Less}

-- x comes before each of these
abbrev pub IsBelow : {A : Type 0} → (A → A → Ordering) → A → List A → Type 0
IsBelow {A} cmp x ys = (y : A) → Contains ys y → cmp x y ≡ Less

-- each comes before those after it
abbrev pub Rises : {A : Type 0} → (A → A → Ordering) → List A → Type 0
Rises cmp [] = Unit {0}
Rises cmp (x ∷ xs) = IsBelow cmp x xs × Rises cmp xs
