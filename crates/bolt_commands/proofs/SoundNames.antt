-- With sound trees, `keys`, `buckets` and `get` print with `--recover` what they print without it.
use Rattle.std.proofs.Common.{◌≡◌, ◌≢◌, ◌∙◌, ◌↔◌, ◌⊎◌, ◌-◌, arith, ℕ, Bool, true, false, List, [], ◌∷◌, Err, None, Option, ap, filter, inl, inr}
use Rattle.std.proofs.Common.{length, refl, subst, take}
use Rattle.bolt_commands.proofs.Vocabulary.{Active, Answer, CheckFault, Contains, Failure, HasSoundTrees, HoldsIn, HoldsNone, Holds, IsEntriesAnswer}
use Rattle.bolt_commands.proofs.Vocabulary.{IsEntry, IsFailureOf, IsListing, IsMetaOf, IsReadAnswer, Key, LeadsTo, LeafElement, Member, Meta}
use Rattle.bolt_commands.proofs.Vocabulary.{MetaChoice, Names, Path, Root_page, Shortfall, Start, Value, has_bucket, has_listing, item_of, keys_text}
use Rattle.bolt_commands.proofs.Vocabulary.{path_above, owned_path, props, refused, start_of, ∥∥₁_elim}
use Rattle.bolt_commands.proofs.{EntryNames.names_are_keys, ListedBuckets.has_named, ListedBuckets.named_has, ListedBuckets.none_named}
use Rattle.bolt_commands.proofs.{ReadFiles.read_meta}
use Rattle.bolt_commands.proofs.{SoundReads.keeps_root, SoundReads.unread, SoundReads.unrecovered, OtherMetas.no_hidden, OtherMetas.none_hidden}
use Rattle.bolt_commands.proofs.SoundRecovery.{Below, names_one, no_losses, recovers_alike, under}
use Rattle.bolt_commands.specs.{KeyAnswers.IsGetAnswer, KeyAnswers.IsNamesAnswer, KeyAnswers.IsRecoveredAnswer, KeyAnswers.IsRecoveredValue}
use Rattle.bolt_commands.specs.{KeyAnswers.no_value, Alike.HidesNoState}
use Rattle.bolt_check.specs.declared.check_fault.CheckFault.TheVariants as check
use Rattle.bolt_commands.specs.declared.failure.Failure.TheVariants as failure
use Rattle.bolt_job.specs.declared.bucket_commands.GetJob.{GetJob}
use Rattle.bolt_recover.specs.Losses.{parts}
use Rattle.bolt_report.specs.MemberNames.{WantedNames}
use Rattle.bolt_text.specs.declared.forms.Form.{Form}
use Rattle.bolt_tree.proofs.Exports.{all_entries}

memory_fails : (fault : CheckFault) (why : Failure) → fault ≡ check.Memory → IsFailureOf fault why → why ≡ failure.Memory
memory_fails fault why same of = subst (λ (f : CheckFault). IsFailureOf f why) same of

-- ---- the names of a listing are those of entries

module _ (file : List ℕ) (meta : Meta) (trees : HasSoundTrees file meta) (listing : List Member) (lists : IsListing file meta listing) (answer : Answer) where
  module _ (form : Form) (want : WantedNames) (is_named : LeafElement → Bool) (same : (e : LeafElement) → want e.key (item_of e) ≡ is_named e)
      (path : Path) where
    abbrev IsNames : Type 0
    IsNames = IsNamesAnswer form want path listing None answer

    abbrev IsKeys : Type 0
    IsKeys = IsEntriesAnswer file path form (λ entries. keys_text form (filter is_named entries)) meta answer

    keys_there : answer.ending ≢ Err failure.Memory → IsNames → (has : Bool) → has_bucket path listing ≡ has → IsKeys
    keys_there whole (inr (front, rest, split, may, cut)) has e = absurd (whole (ap (λ (a : Answer). a.ending) cut))
    keys_there whole (inl ended) true e =
        let (bucket, leads) = named_has file meta listing lists path e in
        let (entries, are) = all_entries file meta trees path bucket leads in
        inl (
          bucket,
          entries,
          leads,
          are,
          inl (rw (names_are_keys form want is_named same file meta trees listing lists path bucket leads entries are, e) at ended),
        )
    keys_there whole (inl ended) false e =
        let none : (bucket : Start) → LeadsTo file meta path bucket → ⊥ =
        λ bucket leads. (let has = has_named file meta listing lists path bucket leads in cc) in
        inr (none, rw e at ended)

    keys_back : IsKeys → IsNames
    keys_back (inl (bucket, entries, leads, are, shown)) =
        rw (
          names_are_keys form want is_named same file meta trees listing lists path bucket leads entries are,
          has_named file meta listing lists path bucket leads,
        )
        (elim shown [ inl ended ↦ inl ended | inr (front, rest, split, may, cut) ↦ inr (front, rest, split, tt, cut) ])
    keys_back (inr (nowhere, none)) = rw (none_named file meta listing lists path nowhere) (inl none)

-- ---- a value of a listing is what its path holds

-- what a path holds, the bucket before its last part has
held_parent : (Entry : Start → LeafElement → Type 0) (from : Start) (key : Key) (path : Path) (value : List ℕ)
    → Holds Entry from (key ∷ path) (Value value)
    → (bucket : Start) × Names Entry from (take (length path) (key ∷ path)) bucket
held_parent Entry from key [] value held = (from, refl)
held_parent Entry from key (next ∷ path) value (e, is, k, b, held) =
    let (bucket, names) = held_parent Entry (start_of e.value) next path value held in
    (bucket, (e, is, k, b, names))

parent_of : (file : List ℕ) (meta : Meta) (path : Path) (value : List ℕ) → HoldsIn file meta path (Value value)
    → (bucket : Start) × LeadsTo file meta (path_above path) bucket
parent_of file meta [] value held = absurd held
parent_of file meta (key ∷ path) value held =
    let one : length (key ∷ path) - 1 ≡ length path = omega arith in
    rw one (held_parent (IsEntry file meta) (Root_page meta.root) key path value held)

module _ (file : List ℕ) (meta : Meta) (listing : List Member) (lists : IsListing file meta listing) where
  abbrev IsWhy : Path → Failure → Type 0
  IsWhy path reason = HoldsNone file path meta reason

  why_there : (path : Path) → ((value : List ℕ) → Contains listing (path, Value value) → ⊥) → (has : Bool)
      → has_bucket (path_above path) listing ≡ has
      → IsWhy path (no_value path listing None)
  why_there path none true e =
      let (bucket, leads) = named_has file meta listing lists (path_above path) e in
      rw e (inl (refl, (λ value held. none value ((lists.exact path (Value value)).1 held)), (bucket, ∣ leads ∣₁)))
  why_there path none false e =
      rw e (inr (refl, λ bucket leads. (let has = has_named file meta listing lists (path_above path) bucket leads in cc)))

  has_led : (path : Path) (bucket : Start) → ∥ LeadsTo file meta path bucket ∥₁ → has_bucket path listing ≡ true
  has_led path bucket known = ∥∥₁_elim known (hlevel props) (has_named file meta listing lists path bucket)

  why_back : (path : Path) (reason : Failure) → IsWhy path reason
      → ((value : List ℕ) → Contains listing (path, Value value) → ⊥) × (reason ≡ no_value path listing None)
  why_back path reason (inl (no_key, none, (bucket, known))) =
      ((λ value has. none value ((lists.exact path (Value value)).0 has)), rw (has_led (path_above path) bucket known) no_key)
  why_back path reason (inr (no_bucket, nowhere)) = (
    (λ value has. let (bucket, leads) = parent_of file meta path value ((lists.exact path (Value value)).0 has) in nowhere bucket leads),
    rw (none_named file meta listing lists (path_above path) nowhere) no_bucket,
  )

  value_there : (job : GetJob) (answer : Answer) → IsRecoveredValue job listing None answer → IsGetAnswer file job meta answer
  value_there job answer (inl (value, has, shown)) = inl (value, (lists.exact (owned_path job.path.items) (Value value)).0 has, shown)
  value_there job answer (inr (none, is)) =
      let path = owned_path job.path.items in
      inr (no_value path listing None, why_there path none (has_bucket (path_above path) listing) refl, is)

  value_back : (job : GetJob) (answer : Answer) → IsGetAnswer file job meta answer → IsRecoveredValue job listing None answer
  value_back job answer (inl (value, held, shown)) = inl (value, (lists.exact (owned_path job.path.items) (Value value)).1 held, shown)
  value_back job answer (inr (reason, why, is)) =
      let (none, same) = why_back (owned_path job.path.items) reason why in
      inr (none, is ∙ ap refused same)

-- ---- the answers

module _ (b : Below) (file : List ℕ) (meta : Meta) (trees : HasSoundTrees file meta) (wanted named : MetaChoice) (shown : IsMetaOf file wanted meta)
    (shown_named : IsMetaOf file named meta) (hides : HidesNoState file wanted) (alone : named ≢ Active) (answer : Answer) where
  -- With `--recover` it is an answer of the listing, or memory ran out;
  recovered_there : (IsWanted : List Member → Option Shortfall → Answer → Type 0) → IsRecoveredAnswer file wanted IsWanted answer
      → ((listing : List Member) × IsListing file meta listing × IsWanted listing None answer) ⊎ (answer ≡ refused failure.Memory)
  recovered_there IsWanted (inl (other, listing, lost, read, lacking, (slot, are, lacks), is)) =
      let (same, (read_under, lists, none, found)) =
      (recovers_alike b file meta trees wanted named shown shown_named hides alone).there.read other listing lost [] read in
      let nothing : lacking ≡ None = lacks ∙ rw (none, none_hidden file wanted hides slot are) refl in
      inl (listing, lists, subst (λ (l : Option Shortfall). IsWanted listing l answer) nothing is)
  recovered_there IsWanted (inr (why, (fault, refused_for, of), is)) =
      let memory = unrecovered file meta trees wanted fault (names_one b file wanted meta shown) shown refused_for in
      inr (is ∙ ap refused (memory_fails fault why memory of))

  recovered_back : (IsWanted : List Member → Option Shortfall → Answer → Type 0) → (listing : List Member) → IsListing file meta listing
      → IsWanted listing None answer
      → IsRecoveredAnswer file wanted IsWanted answer
  recovered_back IsWanted listing lists is =
      inl (
        meta,
        listing,
        parts [],
        (
          (shown, keeps_root file meta trees),
          b.recovered file meta listing trees lists,
          ([], no_losses b file meta trees, refl),
          refl,
        ),
        None,
        (None, no_hidden file wanted meta shown hides, refl),
        is,
      )

  -- and without it, one of the file, or memory ran out.
  sound_there : (IsAccepted : Meta → Answer → Type 0) → IsReadAnswer file named IsAccepted answer
      → IsAccepted meta answer ⊎ (answer ≡ refused failure.Memory)
  sound_there IsAccepted (inl (other, read, is)) =
      inl (subst (λ (m : Meta). IsAccepted m answer) (names_one b file named meta shown_named other (read_meta file named other read)) is)
  sound_there IsAccepted (inr (fault, refused_for, (why, of, is))) =
      let memory =
      unread file meta trees named fault (names_one b file named meta shown_named) (under b file meta trees wanted named shown shown_named hides alone)
      refused_for in
      inr (is ∙ ap refused (memory_fails fault why memory of))

  sound_back : (IsAccepted : Meta → Answer → Type 0) → IsAccepted meta answer ⊎ (answer ≡ refused failure.Memory)
      → IsReadAnswer file named IsAccepted answer
  sound_back IsAccepted (inl is) = inl (meta, under b file meta trees wanted named shown shown_named hides alone, is)
  sound_back IsAccepted (inr none) = inr (check.Memory, tt, (failure.Memory, refl, none))

  no_memory_there : (IsWanted : List Member → Option Shortfall → Answer → Type 0) → answer ≡ refused failure.Memory
      → IsRecoveredAnswer file wanted IsWanted answer
  no_memory_there IsWanted none = inr (failure.Memory, (check.Memory, tt, refl), none)

  module _ (form : Form) (want : WantedNames) (is_named : LeafElement → Bool) (same : (e : LeafElement) → want e.key (item_of e) ≡ is_named e) (path : Path)
      (whole : answer.ending ≢ Err failure.Memory) where
    abbrev IsKeysOf : Meta → Answer → Type 0
    IsKeysOf = IsEntriesAnswer file path form (λ entries. keys_text form (filter is_named entries))

    names_there : IsRecoveredAnswer file wanted (IsNamesAnswer form want path) answer → IsReadAnswer file named IsKeysOf answer
    names_there is = elim (recovered_there (IsNamesAnswer form want path) is) [
      | inl (listing, lists, names) ↦
          sound_back IsKeysOf (inl (keys_there file meta trees listing lists answer form want is_named same path whole names (has_bucket path listing) refl))
      | inr none ↦ sound_back IsKeysOf (inr none)
    ]

    names_back : IsReadAnswer file named IsKeysOf answer → IsRecoveredAnswer file wanted (IsNamesAnswer form want path) answer
    names_back is = elim (sound_there IsKeysOf is) [
      | inl keys ↦
          let (listing, lists) = has_listing file meta trees in
          recovered_back (IsNamesAnswer form want path) listing lists (keys_back file meta trees listing lists answer form want is_named same path keys)
      | inr none ↦ no_memory_there (IsNamesAnswer form want path) none
    ]

    pub names_the_same : IsRecoveredAnswer file wanted (IsNamesAnswer form want path) answer ↔ IsReadAnswer file named IsKeysOf answer
    names_the_same = (names_there, names_back)

  module _ (job : GetJob) where
    got_there : IsRecoveredAnswer file wanted (IsRecoveredValue job) answer → IsReadAnswer file named (IsGetAnswer file job) answer
    got_there is = elim (recovered_there (IsRecoveredValue job) is) [
      | inl (listing, lists, value) ↦ sound_back (IsGetAnswer file job) (inl (value_there file meta listing lists job answer value))
      | inr none ↦ sound_back (IsGetAnswer file job) (inr none)
    ]

    got_back : IsReadAnswer file named (IsGetAnswer file job) answer → IsRecoveredAnswer file wanted (IsRecoveredValue job) answer
    got_back is = elim (sound_there (IsGetAnswer file job) is) [
      | inl value ↦
          let (listing, lists) = has_listing file meta trees in
          recovered_back (IsRecoveredValue job) listing lists (value_back file meta listing lists job answer value)
      | inr none ↦ no_memory_there (IsRecoveredValue job) none
    ]

    pub gets_the_same : IsRecoveredAnswer file wanted (IsRecoveredValue job) answer ↔ IsReadAnswer file named (IsGetAnswer file job) answer
    gets_the_same = (got_there, got_back)
