-- Revisions as lines: docs/COMMANDS.md, "etcd-revisions".
use Rattle.std.specs.Prelude.{ℕ, Bool, false, List, [], ◌++◌, codes, decimal, filter, flat_map, ◌==◌, length, if◌then◌else◌}
use Rattle.std.specs.{Fmt.digits, List.starts_with}
use Rattle.bolt_text.specs.{Forms.is_json, Forms.item_text, declared.forms.Form.Form}
use Rattle.bolt_etcd.specs.Wire.Revisions.{RevisionView}

-- the numbers of a revision, each followed by a space
unfoldable pub columns : RevisionView → List ℕ
columns r =
    decimal r.key.main ++ (codes " " ++ (decimal r.key.sub ++ (codes " " ++ (decimal r.content.version ++ (codes " " ++ (digits 16 false r.content.lease
    ++ (codes " " ++ (decimal (length r.content.value) ++ codes " "))))))))

-- the numbers of a revision as the beginning of an object, up to its name
unfoldable pub members : RevisionView → List ℕ
members r =
    codes "{\"revision\":" ++ (decimal r.key.main ++ (codes ",\"sub\":" ++ (decimal r.key.sub ++ (codes ",\"created\":" ++ (decimal r.content.created
    ++ (codes ",\"version\":" ++ (decimal r.content.version ++ (codes ",\"lease\":\"" ++ (digits 16 false r.content.lease
    ++ (codes "\",\"bytes\":" ++ (decimal (length r.content.value) ++ codes ",\"name\":")))))))))))

abbrev pub head : Form → RevisionView → List ℕ
head form r = if is_json form then members r else columns r

-- what precedes the value of a revision, if values are wanted
abbrev pub value_mark : Form → List ℕ
value_mark form = if is_json form then codes ",\"value\":" else codes " = "

abbrev pub value_part : Form → (values : Bool) → RevisionView → List ℕ
value_part form values r = if values then value_mark form ++ item_text form r.content.value else []

abbrev pub line_end : Form → List ℕ
line_end form = if is_json form then codes "}\n" else codes "\n"

abbrev pub revision_line : Form → (values : Bool) → RevisionView → List ℕ
revision_line form values r = head form r ++ (item_text form r.content.name ++ (value_part form values r ++ line_end form))

-- the lines of revisions, one after another
abbrev pub revision_lines : Form → (values : Bool) → List RevisionView → List ℕ
revision_lines form values rs = flat_map (revision_line form values) rs

-- the name of a revision begins with these bytes
abbrev pub begins : List ℕ → RevisionView → Bool
begins prefix r = starts_with (λ a b. a == b) r.content.name prefix

abbrev pub named_with : List ℕ → List RevisionView → List RevisionView
named_with prefix rs = filter (begins prefix) rs

-- what one revision adds to the lines of those whose names begin with these bytes
abbrev pub prefix_line : List ℕ → Form → (values : Bool) → RevisionView → List ℕ
prefix_line prefix form values r = if begins prefix r then revision_line form values r else []
