-- What the end of a pass leaves, and what is known of the members of a listing.
use Rattle.std.specs.Prelude.{◌≡◌, ◌<◌, ◌≤◌, List, ◌++◌, length, true, Result, IfErr, IfOk, OnErr}
use Rattle.bolt_check.specs.{Counts.saturated}
use Rattle.bolt_format.specs.{ElementLengths.IsValueLength, Sinks.AppendsProperPrefix, Wrote.Wrote, declared.sink.Sink.Ghosts}
use Rattle.bolt_tree.specs.{Entries.Bucket, Entries.Item, Entries.Value, Listing.Member, Paths.last_key}
use Rattle.bolt_layout.specs.{Laid.Placed, Layout.layout_held, Layout.layout_high_water, Layout.layout_pages, Layout.layout_root, Layout.placed_bytes}
use Rattle.bolt_layout.specs.declared.Layout.TheVariants.{Balanced, Plain}
use Rattle.bolt_bulk.specs.{Private.FormatLimits.longest_key, Private.Passes.FitLimits, Private.Passes.Wanted, Private.Passes.limits_with}
use Rattle.bolt_bulk.specs.{declared.page_setup.PageSetup.PageSetup}
use Rattle.bolt_bulk.specs.{declared.bulk_fault.BulkFault.BulkFault, declared.pass.PassEnd.PassEnd, BulkEndings.bulk_ending}
use Rattle.bolt_bulk.specs.declared.bulk_fault.BulkFault.TheVariants as fault

-- The root page, the high-water mark and the number of items held are returned and, if they are asked for, the limits that yield the balanced
-- layout.
pub record ReturnsEnded (wanted : Wanted) (setup : PageSetup) (result : Result PassEnd BulkFault) : Type 0 where
  pub root : IfOk result (λ ended. ended.root ≡ layout_root wanted.which setup.page_size wanted.tree)
  pub high_water : IfOk result (λ ended. ended.high_water ≡ layout_high_water wanted.which setup.page_size wanted.tree)
  pub within : IfOk result (λ ended. ended.high_water ≤ setup.greatest_high_water)
  pub noted : IfOk result (λ ended. wanted.notes ≡ true → wanted.which ≡ Plain → FitLimits Balanced wanted.tree setup.page_size (limits_with ended.noted))
  pub held : IfOk result (λ ended. ended.held ≡ saturated (layout_held wanted.which setup.page_size wanted.tree))
  pub large : IfErr result (λ e. e ≡ fault.TooLarge → setup.greatest_high_water < layout_high_water wanted.which setup.page_size wanted.tree)

-- The pages `put` were written earlier. The others of the layout are written, or a proper prefix of their bytes.
pub record EndsPass {S : Type 0} (wanted : Wanted) (sink : Ghosts S) (old new : S) (setup : PageSetup) (put : List Placed)
    (result : Result PassEnd BulkFault) : Type 0 where
  pub others : List Placed
  pub all : layout_pages wanted.which setup.page_size wanted.tree ≡ put ++ others
  pub puts : Wrote sink old new (placed_bytes setup.page_size others) (bulk_ending result)
  pub short : OnErr result (AppendsProperPrefix (sink.taken old) (sink.taken new) (placed_bytes setup.page_size others))
  pub returned : ReturnsEnded wanted setup result

-- a member has a path, with keys and values of lengths that the format allows
abbrev pub HasItemLength : Item → Type 0
HasItemLength (Value value) = IsValueLength (length value)
HasItemLength (Bucket sequence) = Unit {0}

abbrev pub HasMemberLengths : Member → Type 0
HasMemberLengths member = (1 ≤ length member.0) × (length (last_key member.0) ≤ longest_key) × HasItemLength member.1
