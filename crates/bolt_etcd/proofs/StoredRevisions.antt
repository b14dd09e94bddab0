-- What a revision of the code shows is what its key and its value say.
use Rattle.std.proofs.Common.{◌≡◌, ◌∙◌, ◌≤◌, ◌+◌, ◌++◌, ℕ, Bool, List, [], ◌∷◌, length, Option, Some, None, nat_cmp, refl, sym, ap, arith}
use Rattle.std.proofs.Common.{if◌then◌else◌}
use Rattle.std.proofs.lemmas.List.{length-append}
use Rattle.std.specs.{Option.option_map, declared.cmp.Ordering.Ordering}
use Rattle.std.specs.declared.cmp.Ordering.TheVariants.{Equal}
use Rattle.byteorder.specs.{Endian.big_bytes, Endian.big_number, Numbers.big_number-reads_back, Numbers.length-bytes_high_first}
use Rattle.bolt_lemmas.proofs.Exports.{decided}
use Rattle.bolt_check.specs.Keys.{Key, key_cmp}
use Rattle.bolt_etcd.specs.{Wire.RevisionKeys.IsSpelled, Wire.RevisionKeys.numbers_cmp, Wire.RevisionKeys.revision_key, Wire.RevisionKeys.spelling}
use Rattle.bolt_etcd.specs.{declared.wire.revision_key.RevisionKey.RevisionKey}
use Rattle.bolt_etcd.specs.{declared.wire.revision.Revision.Revision, Wire.Revisions.RevisionView, Wire.Revisions.name_of, Wire.Revisions.revision_in}
use Rattle.bolt_etcd.specs.{Wire.Revisions.revision_of}
use Rattle.bolt_etcd.specs.Wire.ShownRevisions.{entry_of, or_nothing, shown_revision}
use Rattle.bolt_etcd.proofs.{Currents.in_says, KeyNumbers.spellings_cmp, Keys.read_spelled}

some_of : (o : Option RevisionView) (name : List ℕ) → option_map name_of o ≡ Some name → (o ≡ Some (or_nothing o)) × (name_of (or_nothing o) ≡ name)
some_of None name e = cc
some_of (Some r) name e = (refl, cc)

shows : (r : Revision) → (revision_in r.key.now r.value.now ≡ Some (shown_revision r)) × (name_of (shown_revision r) ≡ r.name.now)
unfolding shown_revision
shows r = some_of (revision_in r.key.now r.value.now) r.name.now r.decodes

pub is_revision : (r : Revision) → revision_of (entry_of r) ≡ Some (shown_revision r)
unfolding revision_of
is_revision r = (shows r).0

-- its key says so of it
pub has_key : (r : Revision) → revision_key r.key.now ≡ Some (shown_revision r).key
has_key r = (in_says r.key.now r.value.now (shown_revision r) (shows r).0).1

pub has_stored_key : (r : Revision) → (shown_revision r).stored_key ≡ r.key.now
has_stored_key r = (in_says r.key.now r.value.now (shown_revision r) (shows r).0).0

-- ---- its key is spelled

is_spelled : (r : Revision) → (r.key.now ≡ spelling (shown_revision r).key) × IsSpelled (shown_revision r).key
is_spelled r = read_spelled r.key.now (shown_revision r).key r.bytes (has_key r)

abbrev end_of : Bool → List ℕ
end_of deleted = if deleted then 0x74 ∷ [] else []

spelled_main : (k : RevisionKey) → IsSpelled k → big_number 8 (spelling k) ≡ k.main
unfolding spelling
spelled_main k (low, high) = big_number-reads_back 8 k.main (0x5F ∷ (big_bytes 8 k.sub ++ end_of k.deleted)) (omega arith)

pub main_of : (r : Revision) → big_number 8 r.key.now ≡ (shown_revision r).key.main
main_of r = let (is, fits) = is_spelled r in ap (big_number 8) is ∙ spelled_main (shown_revision r).key fits

spelled_length : (k : RevisionKey) → length (spelling k) ≡ 17 + length (end_of k.deleted)
unfolding spelling
spelled_length k =
    omega (
      arith,
      length-append (big_bytes 8 k.main) (0x5F ∷ (big_bytes 8 k.sub ++ end_of k.deleted)),
      length-append (big_bytes 8 k.sub) (end_of k.deleted),
      length-bytes_high_first 8 k.main,
      length-bytes_high_first 8 k.sub,
    )

pub long : (r : Revision) → length r.key.now ≡ 17 + length (end_of (shown_revision r).key.deleted)
long r = ap length (is_spelled r).0 ∙ spelled_length (shown_revision r).key

pub enough : (r : Revision) → 8 ≤ length r.key.now
enough r = omega (arith, long r)

-- where the transactions differ, they tell
pub by_numbers : (a b : Revision) → key_cmp a.key.now b.key.now ≡ numbers_cmp (shown_revision a).key (shown_revision b).key
by_numbers a b =
    let (is, fits) = is_spelled a in
    let (also, fit) = is_spelled b in
    ap (λ (k : Key). key_cmp k b.key.now) is ∙ ap (key_cmp (spelling (shown_revision a).key)) also
    ∙ spellings_cmp (shown_revision a).key (shown_revision b).key fits fit

pub by_main : (a b : Revision) (o : Ordering) → o ≡ nat_cmp (shown_revision a).key.main (shown_revision b).key.main → (o ≡ Equal → ⊥)
    → o ≡ key_cmp a.key.now b.key.now
by_main a b o is differ = is ∙ sym (by_numbers a b ∙ decided _ _ (λ e. differ (is ∙ e)))
