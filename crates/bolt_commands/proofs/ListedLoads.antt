-- What `list` prints of a file is loaded as the listing of the file.
use Rattle.std.proofs.Common.{◌≡◌, ◌∙◌, ◌<◌, ℕ, List, [], ◌∷◌, Ok, ap, arith, inl, inr, length, subst, sym}
use Rattle.bolt_commands.proofs.Vocabulary.{Answer, Ghosts, JobEnding, Sound, HasSoundTrees, IsListedAnswer, IsListing, IsListingText, IsPrinted}
use Rattle.bolt_commands.proofs.Vocabulary.{IsLoadFault, IsOfOneTree, IsReadUnder, Loads, LoadsListing, Member, Meta, MetaChoice, Rises}
use Rattle.bolt_commands.proofs.Vocabulary.{filter_all, listing_lines, member_cmp, not, part_below, listing_part_text, path_cmp, rest_from}
use Rattle.bolt_commands.proofs.Vocabulary.{text_members}
use Rattle.bolt_commands.proofs.ReadFiles.{read_trees}
use Rattle.bolt_commands.specs.Answers.{Late}
use Rattle.std.specs.Ordering.{is_lt}
use Rattle.bolt_format.specs.Bytes.{IsBytes}
use Rattle.bolt_job.specs.declared.choices.CopyKind.{CopyKind}
use Rattle.bolt_load.specs.{ByteMembers.AreOfBytes, declared.load_fault.LineFault.LineFault, declared.load_fault.LineFault.TheVariants.CutOff}
use Rattle.bolt_load.specs.declared.load_fault.LoadFault.TheVariants.{Line, Memory}
use Rattle.bolt_text.specs.{Lines.Text, declared.forms.ListForm.TheVariants.Hex, ListLines.listing_text}
use Rattle.bolt_tree.proofs.Exports.{after_end}

pub record Below : Type 0 where
  pub below_root : (listing : List Member) → part_below [] listing ≡ listing
  pub hex_lines : (listing : List Member) → listing_lines Hex listing ≡ listing_text listing
  pub one_tree : (file : List ℕ) (meta : Meta) (listing : List Member) → IsBytes file → HasSoundTrees file meta → IsListing file meta listing
      → IsOfOneTree listing
  pub of_bytes : (file : List ℕ) (meta : Meta) (listing : List Member) → IsBytes file → IsListing file meta listing → AreOfBytes listing
  pub right : (listing : List Member) → 0 < length listing → IsOfOneTree listing → Rises member_cmp listing → AreOfBytes listing
      → IsListingText (listing_text listing)
  pub read_back : (listing : List Member) → IsOfOneTree listing → Rises member_cmp listing → AreOfBytes listing
      → text_members (listing_text listing) ≡ listing
  pub no_text : (number : ℕ) (fault : LineFault) → IsLoadFault (listing_text []) (Line number fault) → (number ≡ 1) × (fault ≡ CutOff)
  pub no_listing : IsListingText (listing_text []) → ⊥
  pub no_fault : (text : Text) (number : ℕ) (fault : LineFault) → IsListingText text → IsLoadFault text (Line number fault) → ⊥

module _ (below : Below) where
  rest_all : (listing : List Member) → rest_from [] listing ≡ listing
  rest_all listing = filter_all (λ m. not (is_lt (path_cmp m.0 []))) listing (λ m has. ap not (after_end m.0))

  whole_text : (listing : List Member) → listing_part_text Hex [] [] listing ≡ listing_text listing
  whole_text listing =
      ap (λ part. listing_lines Hex (rest_from [] part)) (below.below_root listing) ∙ ap (listing_lines Hex) (rest_all listing) ∙ below.hex_lines listing

  -- what is printed with status 0 is the whole text
  printed : (listing : List Member) (ending : JobEnding) (answer : Answer) → IsPrinted Late (listing_part_text Hex [] [] listing) ending answer
      → answer.ending ≡ Ok 0
      → answer.out ≡ listing_text listing
  printed listing ending answer (inl is) good = ap (λ (a : Answer). a.out) is ∙ whole_text listing
  printed listing ending answer (inr (front, rest, parts, late, is)) good = absurd (let bad = rw is at good in cc)

  module _ {O T : Type 0} (out : Ghosts O) (target : Ghosts T) where
    abbrev LoadsText : List Member → List ℕ → Type 0
    LoadsText listing text = (out_old out_new : O) (target_old target_new : T) (page_size sequence : ℕ) (kind : CopyKind) (ending : JobEnding)
        → Loads out out_old out_new target target_old target_new text page_size sequence kind ending
        → LoadsListing out out_old out_new target target_old target_new listing text page_size sequence kind ending

    some_loads : (member : Member) (listing : List Member) (text : List ℕ) → IsListingText text → text_members text ≡ member ∷ listing
        → LoadsText (member ∷ listing) text
    some_loads member listing text right same out_old out_new target_old target_new page_size sequence kind ending (inl (is, writes)) =
        inl (rw same at writes)
    some_loads member listing text right same out_old out_new target_old target_new page_size sequence kind ending (inr (Memory, is, (out, target, ends))) =
        inr (out, target, inl ends)
    some_loads member listing text right same out_old out_new target_old target_new page_size sequence kind ending (inr (Line number fault, is, stops)) =
        absurd (below.no_fault text number fault right is)

    none_loads : LoadsText [] (listing_text [])
    none_loads out_old out_new target_old target_new page_size sequence kind ending (inl (is, writes)) = absurd (below.no_listing is)
    none_loads out_old out_new target_old target_new page_size sequence kind ending (inr (Memory, is, (out, target, ends))) = (out, target, inr ends)
    none_loads out_old out_new target_old target_new page_size sequence kind ending (inr (Line number fault, is, (out, target, ends))) =
        let (line, cut) = below.no_text number fault is in (out, target, inl (rw (line, cut) at ends))

    text_loads : (listing : List Member) → IsOfOneTree listing → Rises member_cmp listing → AreOfBytes listing → LoadsText listing (listing_text listing)
    text_loads [] one rises own = none_loads
    text_loads (member ∷ listing) one rises own =
        some_loads member listing (listing_text (member ∷ listing)) (below.right (member ∷ listing) (omega arith) one rises own)
        (below.read_back (member ∷ listing) one rises own)

    pub listed_loads : (file : List ℕ) (choice : MetaChoice) (answer : Answer) → IsBytes file → IsListedAnswer Sound file choice Hex [] [] answer
        → answer.ending ≡ Ok 0
        → (meta : Meta) × (listing : List Member) × IsReadUnder file choice meta × IsListing file meta listing × LoadsText listing answer.out
    listed_loads file choice answer bytes (inl (meta, listing, lost, found, (under, lists, none, unfound), lacking, why, ended)) good =
        let one = below.one_tree file meta listing bytes (read_trees file choice meta under) lists in
        let own = below.of_bytes file meta listing bytes lists in
        let loads = subst (LoadsText listing) (sym (printed listing _ answer ended good)) (text_loads listing one lists.rises own) in
        (meta, listing, under, lists, loads)
    listed_loads file choice answer bytes (inr (why, unread, is)) good = absurd (let bad = rw is at good in cc)
