-- Which elements of found pages are candidates, as far as the recovered listing isn't looked at.
use Rattle.std.specs.Prelude.{◌&&◌, ◌||◌, ◌≡◌, ◌↔◌, ℕ, Bool, false, List, [], ◌∷◌, filter, flat_map, map, not, Option, Some, None, if◌then◌else◌}
use Rattle.std.specs.{List.Contains, Option.is_some, Ordering.ordering_then, Str.bytes_eq, declared.cmp.Ordering.Ordering}
use Rattle.bolt_lemmas.specs.Order.{Rises}
use Rattle.bolt_format.specs.{Elements.LeafElement, TreePages.leaves_on}
use Rattle.bolt_check.specs.Keys.{Key, key_cmp}
use Rattle.bolt_recover.specs.{Found.AreSought, declared.found_page.FoundPage.FoundPage, declared.lost_and_found.LostAndFound.LostAndFound}
use Rattle.bolt_tree.specs.{Entries.EntryView, Entries.entry_view}
use Rattle.bolt_repair.specs.Repaired.{elements_on}
use Rattle.bolt_etcd.specs.{Check.Misplaced.is_misplaced, Wire.RevisionKeys.revision_key, Wire.Revisions.RevisionView, Wire.Revisions.revision_of}
use Rattle.bolt_etcd.specs.{Wire.ShownRevisions.value_bytes}

abbrev pub is_in_place : Option RevisionView → Bool
is_in_place None = false
is_in_place (Some r) = not (is_misplaced r)

-- whether an entry is a revision with a record of its own transaction
abbrev pub is_candidate : EntryView → Bool
is_candidate e = is_in_place (revision_of e)

-- the entry, if it is a candidate
abbrev pub candidate_at : EntryView → Option EntryView
candidate_at e = if is_candidate e then Some e else None

-- the elements whose keys are revision keys
abbrev pub under_revision_keys : List LeafElement → List LeafElement
under_revision_keys elements = filter (λ (element : LeafElement). is_some (revision_key element.key)) elements

abbrev pub candidates_in : List LeafElement → List EntryView
candidates_in elements = filter is_candidate (map entry_view elements)

-- the elements of found pages of the code
abbrev pub found_elements : List FoundPage → List LeafElement
found_elements found = flat_map (λ (f : FoundPage). leaves_on f.page) found

-- by key, and of one key by value
abbrev pub whole_cmp : EntryView → EntryView → Ordering
whole_cmp a b = ordering_then (key_cmp a.key b.key) (key_cmp (value_bytes a) (value_bytes b))

abbrev pub is_same_entry : EntryView → EntryView → Bool
is_same_entry a b = bytes_eq a.key b.key && bytes_eq (value_bytes a) (value_bytes b)

-- the candidates among these elements, by key and value, each once
pub record AreCandidates (elements : List LeafElement) (es : List EntryView) : Type 0 where
  pub rises : Rises whole_cmp es
  pub exact : (e : EntryView) → Contains es e ↔ Contains (candidates_in elements) e

-- The candidates on the pages that a search of a file finds, in any case or only if something is lost.
abbrev pub AreSearched : LostAndFound → (search : Bool) → List EntryView → Type 0
AreSearched searched search es =
    ∥ ((found : List ℕ) × AreSought searched.file.now searched.meta search found × AreCandidates (elements_on searched.file.now searched.meta found) es) ∥₁

-- an entry has this key
abbrev pub HasKey : List EntryView → Key → Type 0
HasKey es key = (e : EntryView) × Contains es e × (e.key ≡ key)

-- a key is among these
abbrev pub among : List Key → Key → Bool
among [] key = false
among (k ∷ keys) key = bytes_eq k key || among keys key

-- entries whose keys aren't among these
abbrev pub without : List Key → List EntryView → List EntryView
without keys es = filter (λ e. not (among keys e.key)) es
