-- A mark is a record without fields, and no revision.
use Rattle.std.proofs.Common.{arith, ◌≡◌, ◌∙◌, ℕ, true, List, [], ◌==◌, length, not, Option, Some, None, refl, ap}
use Rattle.std.proofs.{lemmas.Bool.and_parts, lemmas.Bool.cond-true, lemmas.Bool.eqb-true, lemmas.Bool.not-true, lemmas.List.nil_from_length}
use Rattle.bolt_etcd.specs.{Wire.Numbered.numbered_in, Wire.UnreadEntries.unread_by_record, Wire.UnreadEntries.unread_by_value, Wire.Records.empty, Wire.Records.record_of}
use Rattle.bolt_etcd.specs.{Wire.RevisionKeys.revision_key, Wire.RevisionKeys.is_mark}
use Rattle.bolt_etcd.specs.{Wire.Revisions.revision_in, declared.wire.revision_key.RevisionKey.RevisionKey}

no_fields : record_of [] ≡ Some empty
unfolding record_of
no_fields = refl

module _ (key value : List ℕ) (k : RevisionKey) (read : revision_key key ≡ Some k) (mark : is_mark k value ≡ true) where
  parts : (not k.deleted ≡ true) × ((length value == 0) ≡ true)
  parts = and_parts (not k.deleted) (length value == 0) mark

  is_empty : record_of value ≡ Some empty
  is_empty = ap record_of (nil_from_length value (eqb-true (length value) 0 parts.1)) ∙ no_fields

  pub mark_is_no_revision : revision_in key value ≡ None
  mark_is_no_revision = grind (arith, cond-true)

  pub mark_is_not_unread : unread_by_value key (Some value) ≡ None
  mark_is_not_unread = ap (λ (o : Option RevisionKey). unread_by_record key o (record_of value)) read ∙ ap (unread_by_record key (Some k)) is_empty

  pub mark_has_number : numbered_in key value ≡ Some (record { stored_key = key; key = k; content = empty })
  mark_has_number = grind (arith, is_empty, not-true)
