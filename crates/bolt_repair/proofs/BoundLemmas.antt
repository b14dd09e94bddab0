-- The greatest of some bounds, and what lies within it.
use Rattle.std.proofs.Common.{◌≡◌, ◌∙◌, ◌≤◌, ◌&&◌, inl, inr, ℕ, Bool, true, false, List, [], ◌∷◌, Option, Some, None, ap, ap₂, arith}
use Rattle.std.proofs.Common.{cond, not, refl, subst, sym}
use Rattle.std.proofs.{lemmas.Bool.cases_lt, lemmas.Slice.Eq.bytes_eq-Decides}
use Rattle.std.specs.{Cmp.nat_cmp_is, List.Contains, Ordering.bool_cmp, Ordering.is_lt, Ordering.nat_cmp, Ordering.ordering_then, Str.bytes_eq}
use Rattle.std.specs.{declared.cmp.Ordering.Ordering, declared.cmp.Ordering.TheVariants.Greater}
use Rattle.bolt_lemmas.proofs.Exports.{contains_cases, contains_none}
use Rattle.bolt_check.specs.Keys.{Key, key_cmp}
use Rattle.bolt_format.specs.{Bytes.IsBytes, declared.meta.Meta.Meta}
use Rattle.bolt_tree.specs.{Entries.EntryView, InBuckets.entry_in, Listing.Member, Paths.Path}
use Rattle.bolt_repair.specs.{Readable.unread, Repaired.IsRepaired, Repairs.store_path}
use Rattle.bolt_repair.proofs.{ReadablePaths.readable_entry, ReadablePaths.revision_read, RepairLaws.kept}
use Rattle.bolt_recover.specs.Recovered.{IsRecovered}
use Rattle.bolt_recover.specs.Losses.{LossView, LostView, everything, parts}
use Rattle.bolt_etcd.proofs.Exports.{bind_some}
use Rattle.bolt_etcd.specs.{Wire.UnreadEntries.No_record, Wire.UnreadEntries.UnreadView, Wire.UnreadEntries.Unread_key, Wire.RevisionKeys.IsSpelled}
use Rattle.bolt_etcd.specs.{Wire.RevisionKeys.numbers_cmp, Wire.RevisionKeys.revision_key, Wire.RevisionKeys.spelling, Wire.Revisions.RevisionView}
use Rattle.bolt_etcd.specs.{Wire.Revisions.revision_in, Wire.Revisions.revision_of, Wire.Revisions.value_of}
use Rattle.bolt_etcd.specs.{declared.wire.revision_key.RevisionKey.RevisionKey}
use Rattle.bolt_etcd.specs.Store.BucketNames.{key_bucket}
use Rattle.bolt_repair.specs.Bounds.{HaveByteBounds, IsKeyBetween, IsBytesIf, IsLastOfName, MayBeTaken, IsWithinBound, LosesReported, MayHide}
use Rattle.bolt_repair.specs.Bounds.{MayLose, MayTake, MayTakeOn, bound_below, bound_of_key, bound_of_loss, bound_of_losses, bound_of_lost}
use Rattle.bolt_repair.specs.Bounds.{bound_of_entry, bound_of_unread, bound_on, greater, holds_store, is_name_before, is_name_from, repair_bound}
use Rattle.bolt_repair.specs.declared.bound.Bound.{Bound}
use Rattle.bolt_repair.specs.declared.bound.Bound.TheVariants.{Any, Nothing, UpTo}

within_left : (a b : Bound) (main : ℕ) → IsWithinBound a main → IsWithinBound (greater a b) main
within_left Nothing b main is = absurd is
within_left (UpTo n) Nothing main is = is
within_left (UpTo n) (UpTo m) main is = omega (arith, is)
within_left (UpTo n) Any main is = tt
within_left Any b main is = tt

within_right : (a b : Bound) (main : ℕ) → IsWithinBound b main → IsWithinBound (greater a b) main
within_right Nothing b main is = is
within_right (UpTo n) Nothing main is = absurd is
within_right (UpTo n) (UpTo m) main is = omega (arith, is)
within_right (UpTo n) Any main is = tt
within_right Any b main is = tt

within_less : (bound : Bound) (low high : ℕ) → low ≤ high → IsWithinBound bound high → IsWithinBound bound low
within_less Nothing low high less is = is
within_less (UpTo n) low high less is = omega (arith, less, is)
within_less Any low high less is = tt

-- ---- a loss

-- the key of an entry that is a revision
key_in : (key value : List ℕ) (r : RevisionView) → revision_in key value ≡ Some r → revision_key key ≡ Some r.key
key_in key value r is = grind (arith, bind_some)

key_read : (e : EntryView) (r : RevisionView) → revision_of e ≡ Some r → revision_key e.key ≡ Some r.key
unfolding revision_of
key_read e r is = let (value, _, inner) = bind_some (value_of e.item) (revision_in e.key) r is in key_in e.key value r inner

main_within : (a b : ℕ) (rest : Ordering) → is_lt (ordering_then (nat_cmp a b) rest) ≡ true → a ≤ b
main_within a b rest less = elim (cases_lt b a) [
  | inl above ↦
      let greater : Greater ≡ nat_cmp a b = nat_cmp_is a b Greater above in
      let wrong : is_lt (ordering_then Greater rest) ≡ true = ap (λ (o : Ordering). is_lt (ordering_then o rest)) greater ∙ less in
      absurd (cc)
  | inr not_above ↦ omega (arith, not_above)
]

-- what the laws of revision keys say
abbrev pub AreSpelled : Type 0
AreSpelled = (bytes : List ℕ) (k : RevisionKey) → IsBytes bytes → revision_key bytes ≡ Some k → (bytes ≡ spelling k) × IsSpelled k

abbrev pub AreOrdered : Type 0
AreOrdered = (a b : RevisionKey) → IsSpelled a → IsSpelled b → key_cmp (spelling a) (spelling b) ≡ numbers_cmp a b

-- the key is between the bounds of a lost page of the bucket, so that it isn't above the transaction of the second
module _ (spelled : AreSpelled) (ordered : AreOrdered) where
  main_below : (key end : Key) (k l : RevisionKey) → IsBytes key → IsBytes end → revision_key key ≡ Some k → revision_key end ≡ Some l
      → is_lt (key_cmp key end) ≡ true → k.main ≤ l.main
  main_below key end k l bytes also is ends less =
      let (at, fits) = spelled key k bytes is in
      let (to, fit) = spelled end l also ends in
      let same : key_cmp key end ≡ numbers_cmp k l = ap₂ key_cmp at to ∙ ordered k l fits fit in
      main_within k.main l.main (ordering_then (nat_cmp k.sub l.sub) (bool_cmp k.deleted l.deleted)) (sym (ap is_lt same) ∙ less)

  within_key : (key end : Key) (k : RevisionKey) (o : Option RevisionKey) → IsBytes key → IsBytes end → revision_key key ≡ Some k
      → revision_key end ≡ o → is_lt (key_cmp key end) ≡ true
      → IsWithinBound (bound_of_key o) k.main
  within_key key end k None bytes also is ends less = tt
  within_key key end k (Some l) bytes also is ends less = main_below key end k l bytes also is ends less

  within_upper : (lower upper : Option Key) (key : Key) (k : RevisionKey) → IsBytes key → IsBytesIf upper → revision_key key ≡ Some k
      → IsKeyBetween lower upper key → IsWithinBound (bound_below upper) k.main
  within_upper lower None key k bytes also is between = tt
  within_upper lower (Some end) key k bytes also is between = within_key key end k (revision_key end) bytes also is refl (between.before end refl)

  from_lower : (lower : Option Key) → ((low : Key) → lower ≡ Some low → is_lt (key_cmp key_bucket low) ≡ false) → is_name_from lower ≡ true
  from_lower None from = refl
  from_lower (Some low) from = ap not (from low refl)

  before_upper : (upper : Option Key) → ((end : Key) → upper ≡ Some end → is_lt (key_cmp key_bucket end) ≡ true) → is_name_before upper ≡ true
  before_upper None before = refl
  before_upper (Some end) before = before end refl

  within_on : (path : Path) (lower upper : Option Key) (key : Key) (k : RevisionKey) → IsBytes key → IsBytesIf upper → revision_key key ≡ Some k
      → MayTakeOn path lower upper key
      → IsWithinBound (bound_on path lower upper) k.main
  within_on [] lower upper key k bytes also is between =
      let holds : holds_store lower upper ≡ true =
      ap (λ (b : Bool). b && is_name_before upper) (from_lower lower between.from) ∙ before_upper upper between.before in
      subst (λ (b : Bool). IsWithinBound (cond b Any Nothing) k.main) (sym holds) tt
  within_on (bucket ∷ []) lower upper key k bytes also is (named, between) =
      let same : bytes_eq bucket key_bucket ≡ true = (bytes_eq-Decides bucket key_bucket).1 named in
      subst (λ (b : Bool). IsWithinBound (cond b (bound_below upper) Nothing) k.main) (sym same) (within_upper lower upper key k bytes also is between)
  within_on (bucket ∷ part ∷ path) lower upper key k bytes also is takes = absurd takes

  within_losses : (losses : List LossView) (loss : LossView) (key : Key) (k : RevisionKey) → IsBytes key → IsBytesIf loss.upper
      → revision_key key ≡ Some k → Contains losses loss → MayTake loss key
      → IsWithinBound (bound_of_losses losses) k.main
  within_losses [] loss key k bytes also is has takes = absurd (contains_none loss has)
  within_losses (x ∷ losses) loss key k bytes also is has takes = elim (contains_cases x loss losses has) [
    | inl same ↦
        within_left (bound_of_loss x) (bound_of_losses losses) k.main
        (subst (λ (l : LossView). IsWithinBound (bound_of_loss l) k.main) (sym same) (within_on loss.bucket loss.lower loss.upper key k bytes also is takes))
    | inr later ↦ within_right (bound_of_loss x) (bound_of_losses losses) k.main (within_losses losses loss key k bytes also is later takes)
  ]

  within_lost : (lost : LostView) (key : Key) (k : RevisionKey) → IsBytes key → HaveByteBounds lost → revision_key key ≡ Some k → MayLose lost key
      → IsWithinBound (bound_of_lost lost) k.main
  within_lost (everything x) key k bytes also is loses = tt
  within_lost (parts losses) key k bytes also is (loss, has, takes) = within_losses losses loss key k bytes (also loss has) is has takes

  within_entry : (other : UnreadView) (key : Key) (k : RevisionKey) → revision_key key ≡ Some k → MayHide other key
      → IsWithinBound (bound_of_entry other) k.main
  within_entry (Unread_key other) key k is hides = tt
  within_entry (No_record l) key k is hides =
      let same : k ≡ l = (let both : Some k ≡ Some l = sym is ∙ hides in cc) in subst (λ (m : RevisionKey). k.main ≤ m.main) same (omega arith)

  within_unread : (unread_views : List UnreadView) (other : UnreadView) (key : Key) (k : RevisionKey) → revision_key key ≡ Some k → Contains unread_views other
      → MayHide other key → IsWithinBound (bound_of_unread unread_views) k.main
  within_unread [] other key k is has hides = absurd (contains_none other has)
  within_unread (x ∷ unread_views) other key k is has hides = elim (contains_cases x other unread_views has) [
    | inl same ↦
        within_left (bound_of_entry x) (bound_of_unread unread_views) k.main
        (subst (λ (o : UnreadView). IsWithinBound (bound_of_entry o) k.main) (sym same) (within_entry other key k is hides))
    | inr later ↦ within_right (bound_of_entry x) (bound_of_unread unread_views) k.main (within_unread unread_views other key k is later hides)
  ]

  within_bound : (lost : LostView) (unread_views : List UnreadView) (is_older : Bool) (key : Key) (k : RevisionKey) → IsBytes key → HaveByteBounds lost
      → revision_key key ≡ Some k
      → MayBeTaken lost unread_views is_older key → IsWithinBound (repair_bound lost unread_views is_older) k.main
  within_bound lost unread_views true key k bytes also is reported = tt
  within_bound lost unread_views false key k bytes also is (inl older) = cc
  within_bound lost unread_views false key k bytes also is (inr (inl loses)) =
      within_left (bound_of_lost lost) (bound_of_unread unread_views) k.main (within_lost lost key k bytes also is loses)
  within_bound lost unread_views false key k bytes also is (inr (inr (other, has, hides))) =
      within_right (bound_of_lost lost) (bound_of_unread unread_views) k.main (within_unread unread_views other key k is has hides)

  -- what a repaired listing lacks of a whole one is taken by something that is reported
  pub lacking : (file : List ℕ) (meta : Meta) (search : Bool) (whole recovered listing : List Member) (lost : LostView) (is_older : Bool)
      → IsRecovered file meta recovered
      → IsRepaired file meta search listing → LosesReported whole recovered lost is_older → (e : EntryView) (r : RevisionView)
      → Contains whole (entry_in store_path e) → revision_of e ≡ Some r
      → (Contains listing (entry_in store_path e) → ⊥) → IsWithinBound (repair_bound lost (unread recovered) is_older) r.key.main
  lacking file meta search whole recovered listing lost is_older recovers is loses e r has reads lacks = elim (loses.but e has) [
    | inl there ↦
        absurd (lacks (kept file meta search listing recovered (entry_in store_path e) is recovers there (readable_entry e (revision_read e r reads)).0))
    | inr reported ↦ within_bound lost (unread recovered) is_older e.key r.key (loses.keys e has) loses.bounds (key_read e r reads) reported
  ]

  -- what isn't within it is the last of its name
  pub last_above : (file : List ℕ) (meta : Meta) (search : Bool) (whole recovered listing : List Member) (lost : LostView) (is_older : Bool)
      → IsRecovered file meta recovered
      → IsRepaired file meta search listing → LosesReported whole recovered lost is_older → (last : RevisionView) → IsLastOfName listing last
      → (IsWithinBound (repair_bound lost (unread recovered) is_older) last.key.main → ⊥) → IsLastOfName whole last
  last_above file meta search whole recovered listing lost is_older recovers is loses last newest above e r has reads names =
      elim (cases_lt last.key.main r.key.main) [
        | inl later ↦
            let gone : Contains listing (entry_in store_path e) → ⊥ = λ there. let early = newest e r there reads names in omega (arith, early, later) in
            let within = lacking file meta search whole recovered listing lost is_older recovers is loses e r has reads gone in
            absurd (above (within_less (repair_bound lost (unread recovered) is_older) last.key.main r.key.main (omega (arith, later)) within))
        | inr not_later ↦ omega (arith, not_later)
      ]
