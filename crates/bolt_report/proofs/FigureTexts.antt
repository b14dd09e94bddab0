-- Figures as an object, piece by piece.
use Rattle.std.proofs.Common.{arith, ◌≡◌, ◌∙◌, ◌++◌, ◌∷◌, [], ℕ, List, Bool, true, false, Option, Some, None, ap, append_assoc, codes, refl}
use Rattle.bolt_report.proofs.Words.{bytes_allocated, bytes_used, decimal, end_object, escape_byte, Form, json_text, json_tokens, line, print_from}
use Rattle.bolt_report.proofs.Words.{size_json, Stats}
use Rattle.std.specs.Prelude.{fold}
use Rattle.json.proofs.Printed.Tokens.{print_from-append}
use Rattle.json.specs.{Json.Json, Print.ends}
use Rattle.bolt_report.specs.{FigureForms.figures_text, FigureForms.number_or, SizeLines.size_members}
use Rattle.bolt_text.specs.Forms.{is_json, item_text, json_in}
use Rattle.bolt_text.specs.declared.forms.FigureForm.TheVariants as figure_form
use Rattle.bolt_text.specs.declared.forms.Form.TheVariants as form

-- of a meta, of which the freelist may have no number
pub meta_object : (page_size slot txid root sequence high_water : ℕ) (freelist : Option ℕ)
    → codes "{\"page_size\":" ++ (decimal page_size ++ (codes ",\"meta\":" ++ (decimal slot ++ (codes ",\"txid\":" ++ (decimal txid
    ++ (codes ",\"root\":" ++ (decimal root
    ++ (codes ",\"sequence\":"
    ++ (decimal sequence ++ (codes ",\"freelist\":"
    ++ (number_or (codes "null") freelist ++ (codes ",\"high_water\":" ++ (decimal high_water ++ (codes "}\n" ++ []))))))))))))))
    ≡ figures_text figure_form.Json
    ((codes "page size", Some page_size) ∷ (codes "meta", Some slot) ∷ (codes "txid", Some txid) ∷ (codes "root", Some root)
    ∷ (codes "sequence", Some sequence) ∷ (codes "freelist", freelist) ∷ (codes "high water", Some high_water) ∷ [])
unfolding print_from escape_byte
meta_object page_size slot txid root sequence high_water None = simp append_assoc
meta_object page_size slot txid root sequence high_water (Some n) = simp append_assoc

-- of a store, of which three figures may have no number
pub status_object : (revision newest compacted keys revisions : ℕ) (index term hash : Option ℕ)
    → codes "{\"revision\":"
    ++ (decimal revision ++ (codes ",\"newest\":" ++ (decimal newest ++ (codes ",\"compacted\":" ++ (decimal compacted ++ (codes ",\"keys\":" ++ (decimal keys
    ++ (codes ",\"revisions\":"
    ++ (decimal revisions ++ (codes ",\"consistent_index\":" ++ (number_or (codes "null") index ++ (codes ",\"term\":" ++ (number_or (codes "null") term
    ++ (codes ",\"hash\":" ++ (number_or (codes "null") hash ++ (codes "}\n" ++ []))))))))))))))))
    ≡ figures_text figure_form.Json
    ((codes "revision", Some revision) ∷ (codes "newest", Some newest) ∷ (codes "compacted", Some compacted) ∷ (codes "keys", Some keys)
    ∷ (codes "revisions", Some revisions)
    ∷ (codes "consistent index", index) ∷ (codes "term", term) ∷ (codes "hash", hash) ∷ [])
unfolding print_from escape_byte
status_object revision newest compacted keys revisions None None None = simp append_assoc
status_object revision newest compacted keys revisions None None (Some h) = simp append_assoc
status_object revision newest compacted keys revisions None (Some t) None = simp append_assoc
status_object revision newest compacted keys revisions None (Some t) (Some h) = simp append_assoc
status_object revision newest compacted keys revisions (Some i) None None = simp append_assoc
status_object revision newest compacted keys revisions (Some i) None (Some h) = simp append_assoc
status_object revision newest compacted keys revisions (Some i) (Some t) None = simp append_assoc
status_object revision newest compacted keys revisions (Some i) (Some t) (Some h) = simp append_assoc

-- ---- the sizes of a bucket, and its name

closes : (b : Bool) → print_from b (end_object ∷ []) ≡ codes "}"
unfolding print_from
closes true = refl
closes false = refl

-- a value, and then the end of the object
value_closes : (value : Json) → print_from false (json_tokens value ++ end_object ∷ []) ≡ json_text value ++ codes "}"
value_closes value =
    print_from-append false (json_tokens value) (end_object ∷ [])
    ∙ ap (λ (text : List ℕ). json_text value ++ text) (closes (fold (λ _ t. ends t) false (json_tokens value)))

-- what stands before the name, and the name
abbrev opened : Stats → List ℕ → List ℕ
opened stats name =
    codes "{\"keys\":" ++ (decimal stats.keys
    ++ (codes ",\"used\":" ++ (decimal (bytes_used stats) ++ (codes ",\"allocated\":" ++ (decimal (bytes_allocated stats) ++ (codes ",\"name\":" ++ name))))))

size_object : (stats : Stats) (name : Json) → size_members stats ++ (json_text name ++ codes "}\n") ≡ line (json_text (size_json stats name))
unfolding print_from escape_byte
size_object stats name = grind (arith, append_assoc, value_closes)

-- an item in a form that is JSON
json_item : (f : Form) (bytes : List ℕ) → is_json f ≡ true → item_text f bytes ≡ json_text (json_in f bytes)
json_item form.Json bytes is = refl
json_item form.JsonHex bytes is = refl
json_item _ bytes is = absurd (cc)

pub sized_item : (stats : Stats) (f : Form) (name : List ℕ) → is_json f ≡ true
    → size_members stats ++ (item_text f name ++ codes "}\n") ≡ line (json_text (size_json stats (json_in f name)))
sized_item stats f name is = ap (λ (text : List ℕ). size_members stats ++ (text ++ codes "}\n")) (json_item f name is) ∙ size_object stats (json_in f name)
