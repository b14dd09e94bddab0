-- A page as a text: docs/COMMANDS.md, "page".
use Rattle.std.specs.Prelude.{ℕ, List, [], ◌++◌, codes, decimal, flat_map, length, if◌then◌else◌, Option, Some, None}
use Rattle.std.specs.Option.{option_map}
use Rattle.hex.specs.Hex.{encode_lower}
use Rattle.bolt_format.specs.{Elements.BranchElement, Elements.LeafElement, Elements.head_root, Elements.head_sequence, Pages.PageView}
use Rattle.bolt_format.specs.{ShownIds.shown_ids}
use Rattle.bolt_format.specs.{declared.header.Kind.Kind, declared.ids.FreeIds.FreeIds}
use Rattle.bolt_format.specs.declared.header.Kind.TheVariants as kind
use Rattle.bolt_text.specs.{Lines.figure_line, Lines.line, ListLines.value_end}

abbrev pub kind_text : Kind → List ℕ
kind_text kind.Branch = codes "branch"
kind_text kind.Leaf = codes "leaf"
kind_text kind.Meta = codes "meta"
kind_text kind.Freelist = codes "freelist"

-- The first four lines of a page.
unfoldable pub head_lines : ℕ → Kind → ℕ → ℕ → List ℕ
head_lines id kind items overflow =
    figure_line (codes "page") id
    ++ line (codes "type " ++ kind_text kind)
    ++ figure_line (codes "items") items
    ++ figure_line (codes "overflow") overflow

-- A branch's element leads from a key to a child.
unfoldable pub branch_line : BranchElement → List ℕ
branch_line e = encode_lower e.key ++ line (codes " -> " ++ decimal e.child)

-- A leaf's element is a bucket, with its root page and its sequence, or a value.
unfoldable pub bucket_end : List ℕ → List ℕ
bucket_end value = line (codes " bucket " ++ decimal (head_root value) ++ codes " " ++ decimal (head_sequence value))

unfoldable pub leaf_line : LeafElement → List ℕ
leaf_line e = encode_lower e.key ++ (if e.is_bucket then bucket_end e.value else value_end e.value)

unfoldable pub id_line : ℕ → List ℕ
id_line id = line (decimal id)

-- the ids that were read of a page, none if it is no freelist
abbrev pub known_ids : Option (List ℕ) → List ℕ
known_ids (Some ids) = ids
known_ids None = []

-- the ids that were read of a page, as the code has them
abbrev pub read_ids : Option FreeIds → List ℕ
read_ids ids = known_ids (option_map shown_ids ids)

-- The items of a branch or a leaf are its elements, those of a freelist its ids; a meta page has none.
abbrev pub items_on : Kind → ℕ → List ℕ → ℕ
items_on kind.Branch count ids = count
items_on kind.Leaf count ids = count
items_on kind.Meta count ids = 0
items_on kind.Freelist count ids = length ids

-- a line for each item
abbrev pub item_lines : Kind → PageView → List ℕ → List ℕ
item_lines kind.Branch view ids = flat_map branch_line view.branches
item_lines kind.Leaf view ids = flat_map leaf_line view.leaves
item_lines kind.Meta view ids = []
item_lines kind.Freelist view ids = flat_map id_line ids

abbrev pub page_head : ℕ → PageView → List ℕ → List ℕ
page_head id view ids = head_lines id view.kind (items_on view.kind view.count ids) view.overflow

-- what page `id` shows, with its ids if it is a freelist
abbrev pub page_lines : ℕ → PageView → List ℕ → List ℕ
page_lines id view ids = page_head id view ids ++ item_lines view.kind view ids
