-- A copy of a listing that is that of one tree, and its hash: what holds of both.
use Rattle.std.proofs.Common.{◌≡◌, ◌∙◌, ◌+◌, ◌*◌, ◌-◌, ◌^◌, ◌%◌, ◌<◌, ◌==◌, ℕ, zero, suc, List, [], ◌∷◌, ◌++◌, map, Bool, true, false, IsTrue, Some}
use Rattle.std.proofs.Common.{arith, ap}
use Rattle.std.proofs.Common.{inl, inr, length, length-append, subst, sym, take}
use Rattle.std.proofs.Math.Nat.{mul-mod_left, mul_assoc}
use Rattle.bolt_commands.proofs.Vocabulary.{AllByRecursion, HasBothMetas, HasGoodCopies, HasNoGaps, IsAsked, IsActive, IsGoodCopy, IsListing}
use Rattle.bolt_commands.proofs.Vocabulary.{IsOfOneTree, IsPageSize, IsSnapshot, IsSound, IsSoundCopy, Layout, Member, Meta, One, RefusesFile}
use Rattle.bolt_commands.proofs.Vocabulary.{RefusesPrefixes, Slot, cases_lt, cut_hash_fault, eqb-true, finding, hash_fault, layout_of_listing}
use Rattle.bolt_commands.proofs.Vocabulary.{length-sha256, list_any, or_cases, page_size_count, page_sizes, range_with_len, sha256, snapshot_of}
use Rattle.bolt_commands.proofs.Vocabulary.{take-append-le, too_many}
use Rattle.bolt_commands.proofs.NoGaps.{gaps_more}
use Rattle.bolt_check.specs.declared.check_fault.CheckFault.TheVariants as check
use Rattle.bolt_format.specs.{declared.page_fault.TheConstants.PageFault.CUT, declared.meta.MetaFault.TheVariants.Cut}
use Rattle.bolt_layout.specs.{Layout.layout_high_water, Layout.layout_meta, Layout.layout_of, Layout.layout_root, Storable.IsStorable}
use Rattle.bolt_etcd.specs.Check.WholeFiles.{HasAllPages}
use Rattle.bolt_tree.specs.Tree.{Tree, tree_of}

-- ---- an accepted page size has whole blocks of 512 bytes

abbrev HasBlocks : ℕ → Type 0
HasBlocks size = (blocks : ℕ) × (size ≡ blocks * 512)

sizes_have : (k n : ℕ) → AllByRecursion HasBlocks (map (λ k. 1024 * 2 ^ k) (range_with_len k n))
sizes_have k zero = tt
sizes_have k (suc n) = ((2 * 2 ^ k, omega arith), sizes_have (k + 1) n)

one_has : (sizes : List ℕ) (n : ℕ) → AllByRecursion HasBlocks sizes → IsTrue (list_any (λ size. size == n) sizes) → HasBlocks n
one_has [] n all h = absurd (cc)
one_has (x ∷ sizes) n all h = elim (or_cases (x == n) (list_any (λ size. size == n) sizes) h) [
  | inl same ↦ (all.0.0, sym (eqb-true x n same) ∙ all.0.1)
  | inr rest ↦ one_has sizes n all.1 rest
]

blocks_of : (high_water size long : ℕ) → IsPageSize size → long ≡ high_water * size → long % 512 ≡ 0
blocks_of high_water size long accepted is =
    let (blocks, same) = one_has page_sizes size (sizes_have 0 page_size_count) accepted in
    ap (λ n. n % 512) (is ∙ ap (λ n. high_water * n) same ∙ sym (mul_assoc high_water blocks 512)) ∙ mul-mod_left (high_water * blocks) 512

-- ---- the laws that this stands on

pub record Laws : Type 0 where
  pub sound : (which : Layout) (listing : List Member) (page_size sequence : ℕ) → IsOfOneTree listing → IsPageSize page_size → sequence < 2 ^ 64
      → length (layout_of_listing which page_size listing sequence) < 2 ^ 63 → IsSoundCopy which page_size (tree_of listing) sequence listing
  pub long : (which : Layout) (page_size : ℕ) (tree : Tree) (sequence : ℕ) → IsPageSize page_size → IsStorable tree
      → length (layout_of which page_size tree sequence) ≡ layout_high_water which page_size tree * page_size
  pub prefixes : (which : Layout) (page_size : ℕ) (tree : Tree) (sequence : ℕ) → IsAsked page_size tree sequence
      → length (layout_of which page_size tree sequence) < 2 ^ 63 → RefusesPrefixes (layout_of which page_size tree sequence) (layout_root which page_size tree)
  pub whole : (which : Layout) (page_size : ℕ) (tree : Tree) (sequence : ℕ) → IsAsked page_size tree sequence
      → length (layout_of which page_size tree sequence) < 2 ^ 63
      → HasNoGaps (layout_of which page_size tree sequence) (layout_meta which page_size tree sequence 1)
  pub metas_more : (file more : List ℕ) → HasBothMetas file → HasBothMetas (file ++ more)
  pub chosen_more : (file more : List ℕ) (slot : Slot) (meta : Meta) (accounts : Bool) → HasAllPages file meta → IsSound file meta accounts
      → IsActive file slot meta
      → IsActive (file ++ more) slot meta
  pub sound_more : (file more : List ℕ) (meta : Meta) (accounts : Bool) → HasAllPages file meta → IsSound file meta accounts
      → IsSound (file ++ more) meta accounts
  pub listing_more : (file more : List ℕ) (meta : Meta) (listing : List Member) → HasAllPages file meta → IsListing file meta listing
      → IsListing (file ++ more) meta listing
  pub snapshot : (file : List ℕ) → length file % 512 ≡ 0 → IsSnapshot (snapshot_of file)
  pub cut : (file : List ℕ) (n : ℕ) → length file % 512 ≡ 0 → n < 32
      → hash_fault (take (length file + n) (snapshot_of file)) ≡ Some (cut_hash_fault n)

module _ (laws : Laws) (listing : List Member) (sequence : ℕ) (one : IsOfOneTree listing) (fits : sequence < 2 ^ 64) (which : Layout) (page_size : ℕ)
    (size : IsPageSize page_size)
    (few : length (layout_of_listing which page_size listing sequence) < too_many) where
  abbrev layout : List ℕ
  layout = layout_of_listing which page_size listing sequence

  abbrev own_meta : Meta
  own_meta = layout_meta which page_size (tree_of listing) sequence 1

  long : length layout ≡ layout_high_water which page_size (tree_of listing) * page_size
  long = laws.long which page_size (tree_of listing) sequence size one.storable

  blocks : length layout % 512 ≡ 0
  blocks = blocks_of (layout_high_water which page_size (tree_of listing)) page_size (length layout) size long

  all_pages : HasAllPages layout own_meta
  all_pages = record { size = size; long = omega (arith, long) }

  copy_sound : IsSoundCopy which page_size (tree_of listing) sequence listing
  copy_sound = laws.sound which listing page_size sequence one size fits few

  no_gaps : HasNoGaps layout own_meta
  no_gaps = laws.whole which page_size (tree_of listing) sequence (record { size = size; storable = one.storable; sequence_fits = fits }) few

  refuses : (n : ℕ) → n < length layout → RefusesFile (take n layout)
  refuses n less =
      let cuts = laws.prefixes which page_size (tree_of listing) sequence (record { size = size; storable = one.storable; sequence_fits = fits }) few in
      elim (cases_lt n 80) [
        | inl early ↦ (check.Open Cut, λ same. cc, cuts.before_metas n less early)
        | inr late ↦ (check.Structure (finding CUT (layout_root which page_size (tree_of listing))), λ same. cc, cuts.at_root n less late)
      ]

  good : (snapshot : Bool) → IsGoodCopy snapshot layout listing
  good false = record {
    accepted = (One, own_meta, copy_sound.chosen, copy_sound.sound, copy_sound.lists, no_gaps);
    metas = copy_sound.metas;
    hash = λ asked. absurd (cc);
    cut_layout = refuses;
    cut_hash = λ n from less. absurd (omega (arith, from, less));
  }
  good true = record {
    accepted = (
      One,
      own_meta,
      laws.chosen_more layout (sha256 layout) One own_meta true all_pages copy_sound.sound copy_sound.chosen,
      laws.sound_more layout (sha256 layout) own_meta true all_pages copy_sound.sound,
      laws.listing_more layout (sha256 layout) own_meta listing all_pages copy_sound.lists,
      gaps_more layout (sha256 layout) own_meta all_pages copy_sound.sound.trees no_gaps,
    );
    metas = laws.metas_more layout (sha256 layout) copy_sound.metas;
    hash = λ asked. laws.snapshot layout blocks;
    cut_layout = λ n less. subst RefusesFile (sym (take-append-le n layout (sha256 layout) (omega (arith, less)))) (refuses n less);
    cut_hash = λ n from less.
        let part : n - length layout < 32 = omega (arith, from, less, length-append layout (sha256 layout), length-sha256 layout) in
        let sum : length layout + (n - length layout) ≡ n = omega (arith, from) in
        subst (λ k. hash_fault (take k (snapshot_of layout)) ≡ Some (cut_hash_fault (n - length layout))) sum (laws.cut layout (n - length layout) blocks part);
  }

pub good_copies : Laws → (listing : List Member) (sequence : ℕ) → IsOfOneTree listing → sequence < 2 ^ 64 → HasGoodCopies listing sequence
good_copies laws listing sequence one fits which snapshot page_size size few = good laws listing sequence one fits which page_size size few snapshot
