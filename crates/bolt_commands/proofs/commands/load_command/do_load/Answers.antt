-- The database is whole and then reported, or it isn't whole, or a line isn't right.
use Rattle.std.proofs.Common.{◌∙◌, ap, inl, inr, length, refl, sym}
use Rattle.bolt_commands.specs.{Answers.done, CopyAnswers.lengths_line}
use Rattle.bolt_commands.proofs.{Vocabulary.text_members, CopyAnswers.copy_stopped, CopyAnswers.copy_written, Doing.ends_as}
use Rattle.bolt_commands.proofs.{LoadAnswers.whole_members}
use Rattle.bolt_commands.proofs.commands.load_command.do_load.Goals as goal

pub returns-in_err-listing : goal.returns-in_err-listing
returns-in_err-listing g c = inr (_, c.in_err-listing.ensures.fault, (refl, refl, ends_as _ _ c.from_residual.ensures.1))

pub copy_members-requires : goal.copy_members-requires
copy_members-requires g c κs =
    let text = c.in_ok-listing.ensures.text in
    let members = c.members-members.ensures in (
      (refl, tt),
      whole_members c.members-members.result c.args.input.file.now (members.text ∙ text) (members.left ∙ text) ∣ c.in_ok-listing.ensures.right ∣₁
          c.a_text_is_of_one_tree.ensures.tree,
    )

pub returns-in_err-copy : goal.returns-in_err-copy
returns-in_err-copy g c =
    let told = ap text_members (sym (c.members-members.ensures.text ∙ c.in_ok-listing.ensures.text)) in
    let copy = rw c.layout.ensures at (c.in_err-copy.ensures.copied (text_members c.args.input.file.now) told) in
    inl (
      c.in_ok-listing.ensures.right,
      copy_stopped g.O.Sink _ (λ copy. done (lengths_line (length c.args.input.file.now) copy)) _ _ copy (ends_as _ _ c.from_residual-in_err-copy.ensures.1),
    )

pub returns : goal.returns
returns g c =
    let told = ap text_members (sym (c.members-members.ensures.text ∙ c.in_ok-listing.ensures.text)) in
    let copy = rw c.layout.ensures at (c.in_ok-copy.ensures.copied (text_members c.args.input.file.now) told) in
    inl (
      c.in_ok-listing.ensures.right,
      copy_written g.O.Sink (λ copy. done (lengths_line (length c.args.input.file.now) copy)) _ _ copy (rw c.none.ensures at c.end_copy.ensures),
    )
