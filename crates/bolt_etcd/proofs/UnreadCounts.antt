-- An entry is a revision or a mark, or it is something else.
use Rattle.std.proofs.Common.{◌≡◌, ◌∙◌, ◌+◌, ℕ, false, List, [], ◌∷◌, cond, length, not, Option, Some, None, refl, ap, arith}
use Rattle.std.proofs.lemmas.List.{nil_from_length}
use Rattle.std.specs.{List.cons_option, Option.is_some, Option.option_to_list}
use Rattle.bolt_check.specs.{Counts.counted, Keys.Key}
use Rattle.bolt_format.specs.Elements.{LeafElement}
use Rattle.bolt_tree.specs.Entries.{EntryView, entry_view}
use Rattle.bolt_etcd.specs.{Wire.Numbered.numbered_of, Wire.UnreadEntries.UnreadView, Wire.UnreadEntries.unread_entry_of, Wire.UnreadEntries.unread_entries, Wire.Records.RecordView}
use Rattle.bolt_etcd.specs.{Wire.Revisions.RevisionView, Wire.Revisions.record_content, Wire.Revisions.revision_of, Store.Stores.unread_elements}
use Rattle.bolt_etcd.specs.{Wire.Fields.◌>>=◌}
use Rattle.bolt_etcd.specs.declared.wire.revision_key.RevisionKey.{RevisionKey}

pub one_of_two : (e : EntryView) → is_some (unread_entry_of e) ≡ not (is_some (numbered_of e))
unfolding unread_entry_of numbered_of
one_of_two e = grind arith

-- ---- a revision is no mark

-- what is under a revision key, if its value is this record
abbrev pub view : Key → RevisionKey → Option RecordView → Option RevisionView
view key k content = content >>= λ r. Some (record { stored_key = key; key = k; content = record_content k.deleted r })

pub is_numbered : (e : EntryView) (r : RevisionView) → revision_of e ≡ Some r → numbered_of e ≡ Some r
unfolding revision_of numbered_of
is_numbered e r is = grind arith

none_of : (o : Option UnreadView) → is_some o ≡ false → o ≡ None
none_of o none = grind arith

pub not_unread : (e : EntryView) (r : RevisionView) → revision_of e ≡ Some r → unread_entry_of e ≡ None
not_unread e r is = none_of (unread_entry_of e) (one_of_two e ∙ ap (λ (o : Option RevisionView). not (is_some o)) (is_numbered e r is))

-- ---- how many there are

step : (e : LeafElement) (o : Option UnreadView) (xs : List UnreadView) (es : List LeafElement) → length xs ≡ length es
    → length (cons_option o xs) ≡ length (cond (is_some o) (e ∷ es) es)
step e o xs es same = grind arith

pub as_many : (entries : List LeafElement) → length (unread_entries entries) ≡ length (unread_elements entries)
as_many [] = refl
as_many (e ∷ entries) = step e (unread_entry_of (entry_view e)) (unread_entries entries) (unread_elements entries) (as_many entries)

pub one_more : (e : LeafElement) (o : Option UnreadView) (es : List LeafElement)
    → length (cond (is_some o) (e ∷ es) es) ≡ length (option_to_list o) + length es
one_more e o es = grind arith

-- if none are counted, there are none
pub none_unread : (entries : List LeafElement) (n : ℕ) → n ≡ 0 → n ≡ counted 0 (length (unread_elements entries)) → unread_entries entries ≡ []
none_unread entries n zero counts = let same = as_many entries in nil_from_length (unread_entries entries) (omega (arith, zero, counts, same))
