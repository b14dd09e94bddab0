-- The lines of found pages, after those of losses: docs/COMMANDS.md, "Lost and found".
use Rattle.std.specs.Prelude.{◌≢◌, ◌+◌, ◌-◌, ℕ, List, [], ◌++◌, codes, decimal, flat_map, length, option_map, slice_get, unwrap_or}
use Rattle.std.specs.List.{filter}
use Rattle.bolt_format.specs.{Elements.LeafElement, TreePages.leaves_on}
use Rattle.bolt_check.specs.Keys.{Key}
use Rattle.bolt_recover.specs.{PageGaps.PageGapView, Losses.LostView, declared.found_page.FoundPage.FoundPage}
use Rattle.bolt_report.specs.{FaultWords.count_line, GapLines.gaps_text, LossLines.lost_count, LossLines.lost_lines}
use Rattle.bolt_text.specs.{Lines.line, NamedPaths.named_key}

-- a leaf page by its number and its elements
pub record FoundView : Type 0 where
  pub number : ℕ
  pub elements : List LeafElement

abbrev pub found_view : FoundPage → FoundView
found_view found = record { number = found.number; elements = leaves_on found.page }

-- a found page has at least one element
pub record IsFoundLeaf (found : FoundPage) : Type 0 where
  pub some : leaves_on found.page ≢ []

-- the key of an element
abbrev pub key_at : List LeafElement → ℕ → Key
key_at elements i = unwrap_or (option_map (λ (e : LeafElement). e.key) (slice_get elements i)) []

abbrev pub bucket_count : List LeafElement → ℕ
bucket_count elements = length (filter (λ (e : LeafElement). e.is_bucket) elements)

-- the number of the page, how many entries it has and how many of them are buckets, and the keys of the first and of the last
unfoldable pub found_line : FoundView → List ℕ
found_line found =
    codes "page " ++ (decimal found.number
    ++ (codes ": nothing leads to it; found: " ++ (decimal (length found.elements) ++ (codes " entries, " ++ (decimal (bucket_count found.elements)
    ++ (codes " of them buckets, keys from "
    ++ (named_key (key_at found.elements 0) ++ (codes " to " ++ line (named_key (key_at found.elements (length found.elements - 1)))))))))))

abbrev pub found_text : List FoundView → List ℕ
found_text found = flat_map found_line found

-- the line of each loss, and then that of each found page
abbrev pub lost_text : LostView → List FoundView → List ℕ
lost_text lost found = lost_lines lost ++ found_text found

-- the lines of the losses, of the gaps and of the found pages, and then how many losses and gaps there are, with the errors before
abbrev pub counted_lost_text : (earlier : ℕ) → LostView → List PageGapView → List FoundView → List ℕ
counted_lost_text earlier lost gaps found =
    lost_lines lost ++ (gaps_text gaps ++ (found_text found ++ count_line (earlier + lost_count lost + length gaps)))
