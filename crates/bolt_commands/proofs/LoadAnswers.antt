-- What `load` copies.
use Rattle.std.proofs.Common.{◌≡◌, ◌∙◌, List, ap, refl, subst, sym}
use Rattle.bolt_commands.proofs.Vocabulary.{IsListingText, IsOfOneTree, Member, text_members, ∥∥₁_map}
use Rattle.bolt_bulk.specs.WholeListings.{IsWholeListing}
use Rattle.bolt_load.specs.{ShownMembers.members_left, ShownMembers.members_text, declared.line_members.LineMembers.LineMembers}
use Rattle.bolt_text.specs.{Lines.Text}

-- what the lines of a right text tell are all members of a listing that is of one tree
pub whole_members : (members : LineMembers) (text : Text) → members_text members ≡ text → members_left members ≡ text → ∥ IsListingText text ∥₁
    → ((text : Text) → IsListingText text → IsOfOneTree (text_members text))
    → IsWholeListing (λ (m : LineMembers) (listing : List Member). listing ≡ text_members (members_text m)) (λ listing. listing)
    (λ (m : LineMembers) (listing : List Member). text_members (members_left m)) members
whole_members members text told left right one = record {
  some = ∣ (text_members (members_text members), refl) ∣₁;
  all = λ listing is. ap text_members (left ∙ sym told) ∙ sym is;
  one = λ listing is. ∥∥₁_map right (λ r. subst IsOfOneTree (sym (is ∙ ap text_members told)) (one text r));
}
