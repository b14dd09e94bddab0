-- The next member of a listing in a pass, the beginning of a pass, and its end.
use Rattle.std.proofs.{lemmas.Grind.common_steps, lemmas.Result.err_from_is_err_and, lemmas.List.length-append}
use Rattle.bolt_lemmas.proofs.Exports.{all_append}
use Rattle.std.specs.Prelude.{IfOk, IsErrAnd}
use Rattle.std.specs.List.{AllByRecursion}
use Rattle.std.proofs.Common.{◌≡◌, ◌≢◌, ◌∙◌, ℕ, suc, true, ◌+◌, ◌≤◌, List, [], ◌∷◌, ◌++◌, length, map, None, Result, Ok, Err, refl, sym, ap, subst}
use Rattle.std.proofs.Common.{arith, append_assoc}
use Rattle.bolt_check.specs.{Keys.Key, Counts.saturated}
use Rattle.bolt_format.specs.{declared.sink.Sink.Ghosts}
use Rattle.bolt_tree.specs.{Entries.Item, Listing.Member, Paths.Path, Tree.Tree, Tree.end, Tree.listing_below, Tree.listing_of, Tree.with_bucket}
use Rattle.bolt_tree.specs.{Paths.last_key, Tree.with_value}
use Rattle.bolt_layout.specs.{Laid.Placed, Layout.first_page, Layout.layout_held, Layout.layout_high_water, Layout.layout_pages, Layout.layout_root}
use Rattle.bolt_layout.specs.{Layout.placed_bytes, Storable.HasLengths}
use Rattle.bolt_layout.specs.{Openings.leaf_pages, Openings.opened_in, declared.Layout.Layout, declared.Layout.TheVariants.Balanced}
use Rattle.bolt_layout.specs.{declared.Layout.TheVariants.Plain, Items.items_of}
use Rattle.bolt_bulk.specs.Private.{AreComingAround, AreOpenRuns, bucket_end_next, bucket_runs, BucketEnds, BucketRunsView, Closes, ClosesBucket}
use Rattle.bolt_bulk.specs.Private.{pass_depth, EndsPass}
use Rattle.bolt_bulk.specs.Private.{FitLimits, BucketFrame, HasLeft, HasNoted, held_so_far, PassIsAt, HasMemberLengths, PassIsOn, Known}
use Rattle.bolt_bulk.specs.Private.{Parent, parent_of, limit_in, limits_by, limits_with, no_leaves, nothing_open, Open, open_in, runs_end}
use Rattle.bolt_bulk.specs.Private.{runs_end_put, Steps, Wanted}
use Rattle.bolt_bulk.specs.{declared.page_setup.PageSetup.PageSetup, declared.bulk_fault.BulkFault.BulkFault, declared.pass.PassEnd.PassEnd}
use Rattle.bolt_bulk.specs.{declared.bucket_runs.BucketRuns.BucketRuns, declared.page_writer.PageWriter.PageWriter, declared.pass.Pass.Pass}
use Rattle.bolt_bulk.specs.declared.noted_limits.NotedLimits.{NotedLimits}
use Rattle.bolt_bulk.proofs.{PassSteps.pass_begins, PassSteps.pass_ends, HeldSteps.end_held}
use Rattle.bolt_bulk.proofs.{Members.all_left, Members.left_after, Members.next_entry, Members.next_short, Members.none_at_all, Members.with_item}
use Rattle.bolt_bulk.proofs.{KeptRuns.nothing_runs, KeptRuns.runs_ended}
use Rattle.bolt_bulk.proofs.{OpenRunLemmas.ends, Openings.all_coming, Openings.root_notes, PassAt.on_of, PassLeft.depth_parents}
use Rattle.bolt_bulk.proofs.{Tables.none_noted, Tables.noted_leaves, Tables.opened_most, Tables.table_fits, PutsLemmas.bytes-append}
use Rattle.bolt_bulk.proofs.{PutsLemmas.pages_some, PutsLemmas.short_then}
use Rattle.bolt_format.proofs.Exports.{Wrote-then}

-- ---- the next member

pub last_pushed : (path : Path) (key : Key) → last_key (path ++ key ∷ []) ≡ key
last_pushed (part ∷ next ∷ path) key = last_pushed (next ∷ path) key
last_pushed path key = grind arith

pub record HasNext (wanted : Wanted) (pass : Pass) (next : ℕ) (key : Key) (item : Item) (members : List Member) (put : List Placed) : Type 0 where
  pub parents : List Parent
  pub inside : Tree
  pub after : Tree
  pub at : PassIsAt wanted pass next parents (with_item key item inside after) put
  pub members_are : left_after parents key item inside after ≡ members

pub has_next : (wanted : Wanted) (pass : Pass) (next : ℕ) (path : Path) (key : Key) (item : Item) (members : List Member) (put : List Placed)
    → HasLeft wanted pass next ((path, item) ∷ members) put → pass_depth pass ≤ length path → last_key path ≡ key
    → HasNext wanted pass next key item members put
has_next wanted pass next path key item members put has deep last =
    let d = depth_parents wanted pass next has.parents has.left put has.at in
    let short = next_short has.parents has.left (path, item) members has.members_are in
    let entry = next_entry has.parents has.left path item members has.members_are (omega arith) in
    grind (arith, last_pushed, with_item, left_after)

-- The members of the listing of a tree that can be stored fit.
one_part : (path : Path) (key : Key) → length key ≤ 1073741824
    → (1 ≤ length (path ++ key ∷ [])) × (length (last_key (path ++ key ∷ [])) ≤ 1073741824)
one_part path key short = grind (arith, length-append, last_pushed)

pub members_fit : (path : Path) (tree : Tree) → HasLengths tree → AllByRecursion HasMemberLengths (listing_below path tree)
members_fit path end lengths = tt
members_fit path (with_value key value after) (key_fits, value_fits, others) =
    let (some, last) = one_part path key key_fits.1 in ((some, last, value_fits), members_fit path after others)
members_fit path (with_bucket key sequence inside after) (key_fits, sequence_fits, inner, others) =
    let (some, last) = one_part path key key_fits.1 in (
      (some, last, tt),
      all_append HasMemberLengths (listing_below (path ++ key ∷ []) inside) (listing_below path after) (members_fit (path ++ key ∷ []) inside inner)
          (members_fit path after others),
    )

-- ---- the beginning

pub has_begun : (wanted : Wanted) (pass : Pass) → pass.waiting.items ≡ [] → pass.pending ≡ None
    → bucket_runs pass.bucket first_page ≡ record { leaves = no_leaves; uppers = []; limits = record { all = pass.limits; bucket = 0 }; next = first_page }
    → pass.most ≡ 0 → pass.opened ≡ 1
    → pass.noted.notes ≡ wanted.notes → ((bucket level : ℕ) → limit_in pass.noted.limits bucket level ≡ None)
    → FitLimits wanted.which wanted.tree pass.setup.page_size (limits_by pass) → HasLeft wanted pass first_page (listing_of wanted.tree) []
has_begun wanted pass none nothing runs fresh first asked unnoted fit =
    let P : ℕ = pass.setup.page_size in
    let known : Known = record { number = 0; limits = record { all = pass.limits; bucket = 0 }; leaves = leaf_pages P (items_of wanted.which P wanted.tree) } in
    record {
      parents = [];
      left = wanted.tree;
      at = record {
        frames = [];
        state = nothing_open known;
        rest = wanted.tree;
        on = record {
          under = pass_begins wanted.which P known wanted.tree refl fit.root;
          kept = subst (λ (r : BucketRunsView). AreOpenRuns r (nothing_open known) first_page) (sym runs) (nothing_runs known first_page);
          put_is = refl;
        };
        waits = rw none tt;
        pends = rw nothing (refl, refl);
        held = omega arith;
        opened = 1;
        opened_is = omega arith;
        coming = record { inside = all_coming wanted P (limits_by pass) fit.others; around = omega arith };
        noted = record {
          numbered = (record { earlier = omega arith; number_is = refl; notes = root_notes wanted P }, tt);
          asked = asked;
          table = λ _ _ _. none_noted P wanted.tree pass.noted.limits known refl unnoted;
        };
      };
      members_are = all_left wanted.tree;
    }

-- ---- the end

no_parents : (parents : List Parent) → suc (length parents) ≤ 1 → parents ≡ []
no_parents parents h = grind (arith, common_steps)

no_frames : (frames : List BucketFrame) → [] ≡ map parent_of frames → frames ≡ []
no_frames [] e = refl
no_frames (frame ∷ frames) e = absurd cc

no_pending : (pass : Pass) → pass_depth pass ≤ 1 → pass.pending ≡ None
no_pending pass h = grind arith

pub record HasEnd (wanted : Wanted) (pass : Pass) (next : ℕ) (put : List Placed) : Type 0 where
  pub pages : layout_pages wanted.which pass.setup.page_size wanted.tree ≡ put ++ runs_end_put pass.setup.page_size (bucket_runs pass.bucket next)
  pub root : runs_end pass.setup.page_size (bucket_runs pass.bucket next) ≡ layout_root wanted.which pass.setup.page_size wanted.tree
  pub high_water : bucket_end_next pass.setup.page_size (bucket_runs pass.bucket next) ≡ layout_high_water wanted.which pass.setup.page_size wanted.tree
  pub held : pass.most ≡ saturated (layout_held wanted.which pass.setup.page_size wanted.tree)
  pub noted : (noted : NotedLimits) → BucketEnds pass.noted noted pass.bucket.uppers → wanted.notes ≡ true → wanted.which ≡ Plain
      → layout_high_water wanted.which pass.setup.page_size wanted.tree ≤ 18446744073709551615
      → FitLimits Balanced wanted.tree pass.setup.page_size (limits_with noted.limits)

root_ended : (page_size : ℕ) (wanted : Wanted) (state : Open) (runs : BucketRunsView) (put : List Placed)
    → PassIsOn wanted.which page_size wanted.tree [] state [] runs put
    → (layout_pages wanted.which page_size wanted.tree ≡ put ++ runs_end_put page_size runs)
    × (runs_end page_size runs ≡ layout_root wanted.which page_size wanted.tree)
    × (bucket_end_next page_size runs ≡ layout_high_water wanted.which page_size wanted.tree)
    × (held_so_far [] state ≡ layout_held wanted.which page_size wanted.tree)
root_ended page_size wanted state runs put on =
    let ended = runs_ended page_size runs state first_page on.kept in
    grind (arith, ends, pass_ends, end_held)

pub has_end : (wanted : Wanted) (pass : Pass) (next : ℕ) (put : List Placed) → HasLeft wanted pass next [] put → pass_depth pass ≤ 1
    → HasEnd wanted pass next put
has_end wanted pass next put has shallow =
    let d = depth_parents wanted pass next has.parents has.left put has.at in
    let none = no_parents has.parents (omega arith) in
    let left : has.left ≡ end = none_at_all has.parents has.left has.members_are in
    let at =
    subst (λ (t : Tree). PassIsAt wanted pass next [] t put) left (subst (λ (ls : List Parent). PassIsAt wanted pass next ls has.left put) none has.at) in
    let (same, on, coming) = on_of at (no_pending pass shallow) in
    let frames = no_frames at.frames same in
    let (pages, root, high_water, held) = root_ended pass.setup.page_size wanted at.state (bucket_runs pass.bucket next) put
    (subst (λ (fs : List BucketFrame). PassIsOn wanted.which pass.setup.page_size wanted.tree fs at.state [] (bucket_runs pass.bucket next) put)
    frames on) in
    record {
      pages = pages;
      root = root;
      high_water = high_water;
      held = at.held ∙ ap saturated (ap (λ (fs : List BucketFrame). held_so_far fs at.state) frames ∙ held);
      noted = λ noted ended asked which fits.
          let P : ℕ = pass.setup.page_size in
          let last =
          noted_leaves pass.bucket [] (subst (λ (fs : List BucketFrame). HasNoted wanted P pass.noted at.opened (open_in at.state fs)) frames at.noted)
          coming on ended in
          let all = subst (λ (fs : List BucketFrame). AreComingAround wanted P (limits_by pass) (at.opened + 0) fs) frames coming.around in
          let most = opened_most wanted P (limits_by pass) (at.opened + 0) at.frames coming.around in
          let count : suc (opened_in wanted.which P wanted.tree) ≡ suc (opened_in Plain P wanted.tree) =
          ap (λ (w : Layout). suc (opened_in w P wanted.tree)) which in
          table_fits P wanted.tree noted.limits at.opened (last.table asked which fits) (omega arith) (omega arith);
    }

-- the bucket closes, in terms of the setup that the pass has
pub closes_by : {S : Type 0} {sink : Ghosts S} {old new : PageWriter S} {setup : PageSetup} {bucket : BucketRuns} {result : Result ℕ BulkFault}
    → old.setup ≡ setup → ClosesBucket sink old new bucket result
    → Closes sink old.sink.now new.sink.now setup (runs_end_put setup.page_size (bucket_runs bucket old.next))
    (bucket_end_next setup.page_size (bucket_runs bucket old.next)) new.next result
    × IfOk result (λ root. root ≡ runs_end setup.page_size (bucket_runs bucket old.next))
closes_by {sink = sink} {old = old} {new = new} {bucket = bucket} {result = result} same closed =
    subst (λ (b : PageSetup).
    Closes sink old.sink.now new.sink.now b (runs_end_put b.page_size (bucket_runs bucket old.next)) (bucket_end_next b.page_size (bucket_runs bucket old.next))
    new.next result
    × IfOk result (λ root. root ≡ runs_end b.page_size (bucket_runs bucket old.next)))
    same (closed.closes, closed.root)

-- A prefix of a text isn't the whole of a longer one.
some_more : (xs ys : List ℕ) → ys ≢ [] → (xs ++ ys) ≢ []
some_more [] ys some = some
some_more (x ∷ xs) ys some = λ e. cc

rest_some : (page_size : ℕ) (pages : List Placed) → 1 ≤ length pages → placed_bytes page_size pages ≢ []
rest_some page_size [] some = absurd (omega arith)
rest_some page_size (page ∷ pages) some = pages_some page_size page pages

-- what the sink has accepted, in other words
pub ends_to : {S : Type 0} {wanted : Wanted} {sink : Ghosts S} {setup : PageSetup} {old mid new : S} {put : List Placed} {result : Result PassEnd BulkFault}
    → mid ≡ new → EndsPass wanted sink old mid setup put result → EndsPass wanted sink old new setup put result
ends_to {S} {wanted} {sink} {setup} {old} {put = put} {result = result} same ends = subst (λ (s : S). EndsPass wanted sink old s setup put result) same ends

module _ {S : Type 0} {wanted : Wanted} {sink : Ghosts S} {setup : PageSetup} {old new : S} {put : List Placed} {At : List Placed → Type 0}
    {result : Result PassEnd BulkFault} where
  -- a step failed on the way
  pub ends_early : {A : Type 0} {e : BulkFault} → IsErrAnd result (λ f. f ≡ e) → Steps {A = A} wanted sink old new setup put At (Err e)
      → EndsPass wanted sink old new setup put result
  ends_early same steps = let e = err_from_is_err_and result same in rw (e.1, e.2) (grind (arith, bytes-append, append_assoc, rest_some, some_more))

  -- after steps that went well
  pub ends_after : {A : Type 0} {later : PageSetup} {mid : S} {x : A} → later ≡ setup → Steps wanted sink old mid setup put At (Ok x)
      → ((all : List Placed) → At all → EndsPass wanted sink mid new later all result)
      → EndsPass wanted sink old new setup put result
  ends_after {mid} later_is one two = grind (arith, bytes-append, append_assoc, Wrote-then, short_then)
