-- The forms that a command line names, each by its word: docs/COMMANDS.md, "Arguments".
use Rattle.std.specs.Prelude.{List, [], ◌∷◌, ◌++◌, Option, Some, None, Result, Ok, Err, codes, if◌then◌else◌, map}
use Rattle.std.specs.Str.{bytes_eq}
use Rattle.bolt_text.specs.{declared.forms.FigureForm.FigureForm, declared.forms.Form.Form, declared.forms.ListForm.ListForm, Lines.Text}
use Rattle.bolt_text.specs.declared.forms.FigureForm.TheVariants as figure_form
use Rattle.bolt_text.specs.declared.forms.Form.TheVariants as form
use Rattle.bolt_text.specs.declared.forms.ListForm.TheVariants as list_form

-- what can be printed of keys, of a listing, and of figures
abbrev forms : List (Text × Form)
forms =
    (codes "printable", form.Printable) ∷ (codes "hex", form.Hex) ∷ (codes "bytes", form.Bytes) ∷ (codes "text", form.Text) ∷ (codes "mixed", form.Mixed)
    ∷ (codes "json", form.Json) ∷ (codes "json-hex", form.JsonHex) ∷ []

abbrev list_forms : List (Text × ListForm)
list_forms = (codes "hex", list_form.Hex) ∷ (codes "json", list_form.Json) ∷ (codes "json-hex", list_form.JsonHex) ∷ []

abbrev figure_forms : List (Text × FigureForm)
figure_forms = (codes "lines", figure_form.Lines) ∷ (codes "json", figure_form.Json) ∷ []

-- words with commas between them, and `or` before the last
abbrev choice_of : List Text → Text
choice_of [] = []
choice_of (word ∷ []) = word
choice_of (word ∷ last ∷ []) = word ++ codes " or " ++ last
choice_of (word ∷ words) = word ++ codes ", " ++ choice_of words

module _ {F : Type 0} where
  -- a word that isn't in the table is refused with those that are
  abbrev or_refused : List (Text × F) → Option F → Result F Text
  or_refused table (Some form) = Ok form
  or_refused table None = Err (codes "bad form: use " ++ choice_of (map (λ entry. entry.0) table))

  abbrev form_among : List (Text × F) → Text → Option F
  form_among [] word = None
  form_among (entry ∷ table) word = if bytes_eq word entry.0 then Some entry.1 else form_among table word

  abbrev form_in : List (Text × F) → F → Option Text → Result F Text
  form_in table default None = Ok default
  form_in table default (Some word) = or_refused table (form_among table word)

-- the form that the word of `--form` names, if it is given
abbrev pub form_by : Option Text → Result Form Text
form_by word = form_in forms form.Printable word

abbrev pub list_form_by : Option Text → Result ListForm Text
list_form_by word = form_in list_forms list_form.Hex word

abbrev pub figure_form_by : Option Text → Result FigureForm Text
figure_form_by word = form_in figure_forms figure_form.Lines word
