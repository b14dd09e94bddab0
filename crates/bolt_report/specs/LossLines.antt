-- The lines of losses: docs/COMMANDS.md, "Recovery".
use Rattle.std.specs.Prelude.{ℕ, List, [], ◌∷◌, ◌++◌, Option, Some, None, codes, flat_map, length}
use Rattle.std.specs.{Borrow.Bor, Option.option_map}
use Rattle.bolt_check.specs.Keys.{Key}
use Rattle.bolt_tree.specs.Paths.{Path}
use Rattle.bolt_recover.specs.Losses.{LossView, LostView, everything, parts}
use Rattle.bolt_report.specs.FaultWords.{finding_sentence}
use Rattle.bolt_text.specs.{Lines.line, NamedPaths.named_key, NamedPaths.named_path}

-- the bucket that a lost page belongs to
abbrev pub bucket_words : Path → List ℕ
bucket_words [] = codes "root bucket"
bucket_words (part ∷ path) = codes "bucket " ++ named_path (part ∷ path)

-- the bounds of a lost page's keys, where it lies below a branch
abbrev pub upper_words : Option Key → List ℕ
upper_words None = []
upper_words (Some key) = codes " to below " ++ named_key key

abbrev pub bounds_words : Option Key → Option Key → List ℕ
bounds_words None upper = []
bounds_words (Some key) upper = codes ", keys from " ++ (named_key key ++ upper_words upper)

-- the end of a line with bounds that the code holds as slices
abbrev pub bounds_line : (lower upper : Option (Bor Key)) → List ℕ
bounds_line lower upper = line (bounds_words (option_map (λ (key : Bor Key). key.now) lower) (option_map (λ (key : Bor Key). key.now) upper))

-- the line of a finding, and what is lost with it
unfoldable pub loss_text : LossView → List ℕ
loss_text loss = (finding_sentence loss.finding ++ codes "; lost: ") ++ (bucket_words loss.bucket ++ line (bounds_words loss.lower loss.upper))

-- the line of each loss
abbrev pub losses_text : List LossView → List ℕ
losses_text losses = flat_map loss_text losses

-- the lines of what is lost; if the root page is lost, everything is
abbrev pub lost_lines : LostView → List ℕ
lost_lines (everything x) = finding_sentence x ++ codes "; lost: everything\n"
lost_lines (parts losses) = losses_text losses

abbrev pub lost_count : LostView → ℕ
lost_count (everything x) = 1
lost_count (parts losses) = length losses
