use Rattle.std.proofs.Common.{◌∙◌, subst, sym}
use Rattle.bolt_tree.proofs.Words.{Checked, IsListing, bytes_of, meta_of}
use Rattle.bolt_tree.proofs.members.WalkMembers.restart.Goals as goal

-- the walk is over the same file
pub returns-clause-reads : goal.returns-clause-reads
returns-clause-reads c = λ listing. rw (c.new.ensures.checked ∙ c.checked.ensures) (λ h. h, λ h. h)

pub returns-clause-all : goal.returns-clause-all
returns-clause-all c =
    λ listing lists. c.new.ensures.all listing (subst (λ (file : Checked). IsListing (bytes_of file) (meta_of file) listing) (sym c.checked.ensures) lists)
