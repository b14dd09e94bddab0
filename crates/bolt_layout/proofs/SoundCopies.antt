-- The layout of a tree is sound, and lists what the tree lists.
use Rattle.std.proofs.Common.{◌≡◌, ◌<◌, ◌^◌, ℕ, List, Some, length, arith}
use Rattle.bolt_lemmas.proofs.Exports.{all_weaker}
use Rattle.bolt_layout.proofs.Words.{IsAsked, IsEntry, IsPageSize, IsStorable, IsTreeOf, Layout, layout_meta, layout_of, layout_pages, layout_root}
use Rattle.bolt_layout.proofs.Words.{listing_of, Meta, One, page_at, Placed, root_of, Root_page, size_bounds, Start, Tree}
use Rattle.bolt_layout.proofs.{Holding.ArePages, Showing.root_tree}
use Rattle.bolt_layout.proofs.{Soundness.IsSoundLayout, Soundness.PassingIsSound, Soundness.laid_out, Soundness.layout_sound, SpanLemmas.IsShown}
use Rattle.bolt_tree.specs.Listing.{Lists}
use Rattle.bolt_layout.specs.Copies.{IsSoundCopy}

-- what a bucket's tree lists is the bucket's listing
abbrev pub TreeLists : Type 0
TreeLists =
    (file : List ℕ) (meta : Meta) (bucket : Start) (tree : Tree) → IsTreeOf (IsEntry file meta) bucket tree → Lists (IsEntry file meta) bucket (listing_of tree)

pub layout_tree : (which : Layout) (page_size : ℕ) (tree : Tree) (sequence : ℕ) → IsPageSize page_size → IsStorable tree
    → IsSoundLayout which page_size tree sequence
    → IsTreeOf (IsEntry (layout_of which page_size tree sequence) (layout_meta which page_size tree sequence 1))
    (Root_page (layout_root which page_size tree)) tree
unfolding root_of
layout_tree which page_size tree sequence size storable sound =
    let bounds = size_bounds page_size size in
    let file = layout_of which page_size tree sequence in
    let meta = layout_meta which page_size tree sequence 1 in
    let shown : ArePages file meta (layout_pages which page_size tree) =
    all_weaker (λ (p : Placed). IsShown file meta p.number p.view) (λ (p : Placed). page_at file meta p.number ≡ Some p.view) (λ p s. s.shows)
    (layout_pages which page_size tree) sound.shown in
    root_tree file meta which page_size 3 tree (omega arith) (omega arith) storable.lengths storable.rising storable.rising_inside (omega arith)
    sound.room shown

pub sound_copy : PassingIsSound → TreeLists → (which : Layout) (page_size : ℕ) (tree : Tree) (sequence : ℕ) → IsAsked page_size tree sequence
    → length (layout_of which page_size tree sequence) < 2 ^ 63 → IsSoundCopy which page_size tree sequence (listing_of tree)
sound_copy passing lists which page_size tree sequence asked short =
    let sound =
    layout_sound passing which page_size tree sequence asked.size
    (laid_out which page_size tree sequence asked.size asked.storable asked.sequence_fits short) in
    let file = layout_of which page_size tree sequence in
    let meta = layout_meta which page_size tree sequence 1 in
    record {
      metas = sound.metas;
      chosen = sound.chosen;
      sound = record { slot = One; valid = sound.chosen.valid; trees = sound.trees; right = λ tested. sound.accounts };
      full = sound.full;
      lists = lists file meta (Root_page (layout_root which page_size tree)) tree (layout_tree which page_size tree sequence asked.size asked.storable sound);
    }
