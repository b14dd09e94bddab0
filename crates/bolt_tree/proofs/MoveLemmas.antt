-- Moves from entry to entry. Within a leaf, one element more of the page on top of a stack is taken, in place.
use Rattle.std.proofs.Common.{rules, ◌≡◌, ℕ, Bool, true, false, List, [], ◌∷◌, Some, None, length, arith, ◌+◌, suc, sym, subst}
use Rattle.bolt_tree.proofs.Words.{BucketView, Content, Contents, Frame, HasStack, IsBeside, IsEntered, IsLast, IsOn, LeafElement, LeafStandsOn}
use Rattle.bolt_tree.proofs.Words.{contents_in, elements_in, entries_to, nearer, tour_pages_in, pages_to, root_content, taken_at}
use Rattle.bolt_tree.proofs.{BackLemmas.back_none, BackLemmas.back_some, BackLemmas.left_out, BackLemmas.root_behind, StackLemmas.root_ahead}
use Rattle.bolt_tree.proofs.{StackLemmas.root_right}
use Rattle.bolt_tree.proofs.TrailLemmas.{entered_length, entered_none, entered_some, exhausted}

-- One step of a move in a direction, from a stack with this page on top: an entry is taken, or a page is opened, or the page leaves the stack.
module _ (bucket : BucketView) (f : Frame) (below : List Frame) where
  abbrev inside : Contents
  inside = contents_in bucket

  pub entry_taken : (back : Bool) (i : ℕ) (new : List Frame) (e : LeafElement) → IsBeside back f i
      → IsEntered inside back f.content i below new (Some e)
      → (entries_to back inside (f ∷ below) ≡ nearer back e (entries_to back inside new)) × IsOn new e
      × (pages_to back inside (f ∷ below) ≡ pages_to back inside new)
  entry_taken back i new e is h = search (rules, entered_some, back_some)

  pub page_opened : (back : Bool) (i : ℕ) (new : List Frame) → IsBeside back f i → IsEntered inside back f.content i below new None
      → HasStack bucket new
      → (entries_to back inside (f ∷ below) ≡ entries_to back inside new)
      × (length (pages_to back inside (f ∷ below)) ≡ suc (length (pages_to back inside new)))
  page_opened false i new is h stack = entered_none bucket f.content f.taken below new (rw (sym is.0) at h) stack
  page_opened true i new is h stack = back_none bucket f.content i f.taken below new is.0 h stack

  pub page_left : (back : Bool) → HasStack bucket (f ∷ below) → IsLast back f
      → (entries_to back inside below ≡ entries_to back inside (f ∷ below)) × (pages_to back inside below ≡ pages_to back inside (f ∷ below))
  page_left back stack last = grind (arith, exhausted, left_out)

-- The same, as a trail shows it that has gone to element i of the page.
module _ (old now : BucketView) (whole below new : List Frame) (f : Frame) (same : now ≡ old) (frames : whole ≡ f ∷ below) (back : Bool) (i : ℕ)
    (beside : IsBeside back f i) where
  pub takes : (e : LeafElement) → IsEntered (contents_in old) back f.content i below new (Some e)
      → (entries_to back (contents_in old) whole ≡ nearer back e (entries_to back (contents_in now) new)) × IsOn new e
      × (pages_to back (contents_in old) whole ≡ pages_to back (contents_in now) new)
  takes e h = rw (frames, same) (entry_taken old f below back i new e beside h)

  pub opens : IsEntered (contents_in old) back f.content i below new None → HasStack now new
      → (entries_to back (contents_in old) whole ≡ entries_to back (contents_in now) new)
      × (length (pages_to back (contents_in old) whole) ≡ suc (length (pages_to back (contents_in now) new))) × (length new ≡ suc (suc (length below)))
  opens h stack =
      let r = page_opened old f below back i new beside h (subst (λ (b : BucketView). HasStack b new) same stack) in
      (rw (frames, same) r.0, rw (frames, same) r.1, entered_length (contents_in old) back f.content i below new h)

-- at the edge of the root page, everything lies in the direction
at_root : (back : Bool) (bucket : BucketView)
    → let frames : List Frame = record { content = root_content bucket; taken = taken_at back (root_content bucket) } ∷ [] in
    (elements_in bucket ≡ entries_to back (contents_in bucket) frames)
    × (length (tour_pages_in bucket) ≡ suc (length (pages_to back (contents_in bucket) frames)))
at_root back bucket = grind (arith, root_ahead, root_right, root_behind)

pub at_edge : (back : Bool) (bucket now : BucketView) (frames : List Frame) → now ≡ bucket
    → frames ≡ record { content = root_content bucket; taken = taken_at back (root_content bucket) } ∷ []
    → (elements_in bucket ≡ entries_to back (contents_in now) frames) × (length (tour_pages_in bucket) ≡ suc (length (pages_to back (contents_in now) frames)))
at_edge back bucket now frames same at = rw (same, at) (at_root back bucket)

-- the entry on which a leaf stands then was taken
pub taken_entry : (contents : Contents) (content : Content) (i : ℕ) (below new : List Frame) (e : LeafElement) → LeafStandsOn content (i + 1) e
    → new ≡ record { content = content; taken = i + 1 } ∷ below
    → IsEntered contents false content i below new (Some e)
taken_entry contents content i below new e stands put = grind arith
