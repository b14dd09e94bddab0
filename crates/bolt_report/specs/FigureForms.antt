-- Figures by their names, as lines or as one JSON object: docs/COMMANDS.md, "What is printed".
use Rattle.std.specs.Prelude.{ℕ, ◌==◌, List, [], ◌∷◌, ◌++◌, Option, Some, None, codes, decimal, flat_map, map, if◌then◌else◌}
use Rattle.json.specs.Json as json
use Rattle.json.specs.Json.{Members, member, no_members, null, number, object}
use Rattle.bolt_text.specs.{Forms.json_text, Lines.figure_line, Lines.line, declared.forms.FigureForm.FigureForm}
use Rattle.bolt_text.specs.declared.forms.FigureForm.TheVariants.{Json, Lines}

-- a name, and its number if there is one
abbrev pub Named : Type 0
Named = List ℕ × Option ℕ

-- the line of a figure
abbrev pub named_line : List ℕ → Option ℕ → List ℕ
named_line name (Some n) = figure_line name n
named_line name None = name ++ codes " none\n"

-- the name of a figure in JSON has underscores (95) for spaces (32)
abbrev pub json_name : List ℕ → List ℕ
json_name name = map (λ byte. if byte == 32 then 95 else byte) name

abbrev pub number_json : Option ℕ → json.Json
number_json (Some n) = number (decimal n)
number_json None = null

-- the number of a figure as a text, or the text `none` if there is no number
abbrev pub number_or : List ℕ → Option ℕ → List ℕ
number_or none (Some n) = decimal n
number_or none None = none

-- figures, and then other members of an object
abbrev pub figures_then : List Named → Members → Members
figures_then [] later = later
figures_then (figure ∷ figures) later = member (json_name figure.0) (number_json figure.1) (figures_then figures later)

abbrev pub figures_json : List Named → json.Json
figures_json figures = object (figures_then figures no_members)

abbrev pub figures_text : FigureForm → List Named → List ℕ
figures_text Lines figures = flat_map (λ figure. named_line figure.0 figure.1) figures
figures_text Json figures = line (json_text (figures_json figures))
