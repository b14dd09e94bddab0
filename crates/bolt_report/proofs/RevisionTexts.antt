-- Texts of revisions, line by line.
use Rattle.std.proofs.Common.{◌≡◌, ◌++◌, ℕ, Bool, true, false, List, [], ◌∷◌, cond, flat_map, refl, ap}
use Rattle.bolt_text.specs.declared.forms.Form.{Form}
use Rattle.bolt_report.specs.{RevisionLines.begins, RevisionLines.named_with, RevisionLines.prefix_line, RevisionLines.revision_line}
use Rattle.bolt_report.specs.{RevisionLines.revision_lines}
use Rattle.bolt_etcd.specs.{Wire.Revisions.RevisionView}

module _ (prefix : List ℕ) (form : Form) (values : Bool) where
  named_step : (r : RevisionView) (rs : List RevisionView) (b : Bool)
      → flat_map (prefix_line prefix form values) rs ≡ revision_lines form values (named_with prefix rs)
      → (cond b (revision_line form values r) [] ++ flat_map (prefix_line prefix form values) rs)
      ≡ revision_lines form values (cond b (r ∷ named_with prefix rs) (named_with prefix rs))
  named_step r rs true later = ap (λ (text : List ℕ). revision_line form values r ++ text) later
  named_step r rs false later = later

  -- the lines of those that are named so
  pub named_lines : (rs : List RevisionView) → flat_map (prefix_line prefix form values) rs ≡ revision_lines form values (named_with prefix rs)
  named_lines [] = refl
  named_lines (r ∷ rs) = named_step r rs (begins prefix r) (named_lines rs)

-- in the same form, with values or without as before
pub same_line : (prefix : List ℕ) (old new : Form) (values asked : Bool) (r : RevisionView) → new ≡ old → asked ≡ values
    → prefix_line prefix new asked r ≡ prefix_line prefix old values r
same_line prefix old new values asked r form same = rw (form, same) refl
