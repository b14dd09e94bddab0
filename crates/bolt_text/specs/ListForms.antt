-- The forms of a listing: docs/COMMANDS.md, "list".
use Rattle.std.specs.Prelude.{ℕ, List, flat_map}
use Rattle.bolt_tree.specs.Listing.{Member}
use Rattle.bolt_text.specs.{Forms.digits_json, Forms.item_json, JsonLines.json_line, ListLines.member_line, declared.forms.ListForm.ListForm}
use Rattle.bolt_text.specs.{declared.forms.ListForm.TheVariants.Hex, declared.forms.ListForm.TheVariants.Json}
use Rattle.bolt_text.specs.{declared.forms.ListForm.TheVariants.JsonHex, declared.member_lines.LineWriter.LineWriter}
use Rattle.bolt_text.specs.declared.member_lines.MemberLines.{MemberLines}
use Rattle.bolt_text.specs.declared.member_lines.LineWriter.TheVariants as writer

-- the line of a member
abbrev pub list_line : ListForm → Member → List ℕ
list_line Hex m = member_line m
list_line Json m = json_line item_json m
list_line JsonHex m = json_line digits_json m

-- a line for each member
abbrev pub listing_lines : ListForm → List Member → List ℕ
listing_lines form listing = flat_map (list_line form) listing

-- ---- what writes lines

-- the form of lines, by what writes them
abbrev pub writer_form : LineWriter → ListForm
writer_form writer.Hex = Hex
writer_form (writer.Json json) = Json
writer_form writer.JsonHex = JsonHex

abbrev pub lines_form : MemberLines → ListForm
lines_form lines = writer_form lines.writer
