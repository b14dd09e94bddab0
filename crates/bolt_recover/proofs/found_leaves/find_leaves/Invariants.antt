use Rattle.std.proofs.Common.{◌≡◌, ◌⊎◌, ◌↔◌, ℕ, true, false}
use Rattle.bolt_recover.proofs.Words.{All, FoundBelow, is_listed, is_taken, IsFoundPage, IsFoundView, leftovers_file, leftovers_length}
use Rattle.bolt_recover.proofs.Words.{leftovers_meta, found_numbers}
use Rattle.bolt_recover.proofs.found_leaves.find_leaves.Given as goal

-- the pages so far are found, and they are taken
abbrev pub invariant-loop-number : goal.invariant-loop-number
invariant-loop-number l = record {
  file : leftovers_file l.leftovers ≡ leftovers_file l.fn.leftovers;
  meta : leftovers_meta l.leftovers ≡ leftovers_meta l.fn.leftovers;
  length : leftovers_length l.leftovers ≡ leftovers_length l.fn.leftovers;
  below : FoundBelow (leftovers_file l.fn.leftovers) (leftovers_meta l.fn.leftovers)
      (λ n. is_taken l.fn.leftovers n ≡ true) l.number (found_numbers l.found.items);
  taken : (n : ℕ) → (is_taken l.leftovers n ≡ true)
      ↔ ((is_taken l.fn.leftovers n ≡ true) ⊎ IsFoundPage (leftovers_file l.fn.leftovers) (leftovers_meta l.fn.leftovers) (found_numbers l.found.items) n);
  listed : (n : ℕ) → is_taken l.leftovers n ≡ false → is_listed l.leftovers n ≡ is_listed l.fn.leftovers n;
  views : All (IsFoundView (leftovers_file l.fn.leftovers) (leftovers_meta l.fn.leftovers)) l.found.items;
}
