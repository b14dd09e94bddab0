-- Each run does its deeds in order.
use Rattle.std.proofs.Common.{◌≡◌, ◌≢◌, ◌∙◌, ◌⊎◌, sym, inl, inr, arith, ℕ, zero, suc, List, [], ◌∷◌, Bool, true, false, Option, Some, None, Ok, Err}
use Rattle.std.proofs.Common.{refl, rules}
use Rattle.bolt_cli.proofs.Vocabulary.{Asks, Choose, Closed, Closes, Deed, DoesAsked, Dropped, Ended, JobEnding, Ends, Fails, FailsGathered}
use Rattle.bolt_cli.proofs.Vocabulary.{FailsLacking, FailsUnended, Ghosts, Goes, IsReported, IsRun, Job, Lacked, Made, Opened, PrintsBuffered}
use Rattle.bolt_cli.proofs.Vocabulary.{PrintsText, Read, ReadFirst, ReadOn, Reads, ReadsMetas, ReadsRest, Refusal, Refuses, Said, Shows, Text}
use Rattle.bolt_cli.proofs.Vocabulary.{WritesOut, needs_metas_alone, string_bytes, target_name}
use Rattle.bolt_cli.specs.{Orders.HasNone, Orders.is_made, Orders.is_read, Sources.is_changed}
use Rattle.bolt_cli.proofs.Sentences.{IsOrdered, MakesOfRead, MakesOnly, makes_none, none_made_of_read}
use Rattle.bolt_job.specs.declared.refusal.Refusal.TheVariants as refusal
use Rattle.bolt_cli.specs.{declared.outside.OutputFault.TheVariants.ReaderLeft, declared.outside.OutputFault.TheVariants.Failed}
use Rattle.bolt_cli.specs.{declared.outside.Source.Source}

-- ---- what is left to do

-- this is said, and with this status
abbrev IsSaid : {T O : Type 0} → List (Deed T O) → (code wanted : ℕ) → Type 0
IsSaid (Said text ∷ []) code wanted = code ≡ wanted
IsSaid (Lacked failures line ∷ []) code wanted = code ≡ wanted
IsSaid deeds code wanted = ⊥

-- This is in order, by itself and once OUT is on the disk. FILE isn't read, and no OUT is made.
pub record Prints {T O : Type 0} (deeds : List (Deed T O)) (code : ℕ) : Type 0 where
  pub ordered : IsOrdered deeds code
  pub after_out : (name : List ℕ) (permissions : ℕ) (target ended : T) (done : Unit {0})
      → IsOrdered (Made name permissions (Ok target) ∷ Ended ended (Ok done) ∷ deeds) code
  pub none_read : HasNone is_read deeds
  pub none_made : HasNone is_made deeds

not_0 : (code : ℕ) → code ≡ 1 → code ≢ 0
not_0 code is none = omega (arith, is, none)

module _ {T O : Type 0} where
  Ends-said : (line : List ℕ) (deeds : List (Deed T O)) (code wanted : ℕ) → Ends line deeds → code ≡ wanted → IsSaid deeds code wanted
  Ends-said line (Said text ∷ []) code wanted ends is = is
  Ends-said line deeds code wanted ends is = absurd ends

  Fails-said : (line : List ℕ) (deeds : List (Deed T O)) (code : ℕ) → Fails line deeds code → IsSaid deeds code 1
  Fails-said line deeds code (ends, failed) = Ends-said line deeds code 1 ends failed

  FailsLacking-said : (deeds : List (Deed T O)) (code : ℕ) → FailsLacking deeds code → IsSaid deeds code 1
  FailsLacking-said (Lacked failures line ∷ []) code (some, is, failed) = failed
  FailsLacking-said deeds code fails = absurd fails

  FailsGathered-said : (line : List ℕ) (deeds : List (Deed T O)) (code : ℕ) → FailsGathered line deeds code → IsSaid deeds code 1
  FailsGathered-said line deeds code (inl fails) = Fails-said line deeds code fails
  FailsGathered-said line deeds code (inr fails) = FailsLacking-said deeds code fails

  FailsUnended-said : (ending : JobEnding) (deeds : List (Deed T O)) (code : ℕ) → FailsUnended ending deeds code → IsSaid deeds code 1
  FailsUnended-said (Ok status) deeds code fails = Fails-said _ deeds code fails
  FailsUnended-said (Err failure) deeds code fails = FailsGathered-said _ deeds code fails

  said : (deeds : List (Deed T O)) (code wanted : ℕ) → IsSaid deeds code wanted → wanted ≢ 0 → Prints deeds code
  said (Said text ∷ []) code wanted is some = let not : code ≢ 0 = (λ none. some (sym is ∙ none)) in search rules
  said (Lacked failures line ∷ []) code wanted is some = let not : code ≢ 0 = (λ none. some (sym is ∙ none)) in search rules
  said deeds code wanted is some = absurd is

  failed : (deeds : List (Deed T O)) (code : ℕ) → IsSaid deeds code 1 → Prints deeds code
  failed deeds code is = said deeds code 1 is (λ none. omega (arith, none))

  unopened : (fault : _) (deeds : List (Deed T O)) (code : ℕ) → IsSaid deeds code 1 → Prints (Opened (Err fault) ∷ deeds) code
  unopened fault (Said text ∷ []) code is = let some = not_0 code is in search rules
  unopened fault (Lacked failures line ∷ []) code is = let some = not_0 code is in search rules
  unopened fault deeds code is = absurd is

  unprinted : (before output : O) (deeds : List (Deed T O)) (code : ℕ) → IsSaid deeds code 1
      → Prints (Opened (Ok before) ∷ Closed output (Err Failed) ∷ deeds) code
  unprinted before output (Said text ∷ []) code is = let some = not_0 code is in search rules
  unprinted before output (Lacked failures line ∷ []) code is = let some = not_0 code is in search rules
  unprinted before output deeds code is = absurd is

  reader_left : (before output : O) (deeds : List (Deed T O)) (code : ℕ) → deeds ≡ [] → code ≡ 1
      → Prints (Opened (Ok before) ∷ Closed output (Err ReaderLeft) ∷ deeds) code
  reader_left before output [] code none is = let some = not_0 code is in search rules
  reader_left before output (deed ∷ deeds) code none is = absurd (cc)

  dropped : (before output : O) (deeds : List (Deed T O)) (code : ℕ) → IsSaid deeds code 1
      → Prints (Opened (Ok before) ∷ Dropped output Failed ∷ deeds) code
  dropped before output (Said text ∷ []) code is = let some = not_0 code is in search rules
  dropped before output (Lacked failures line ∷ []) code is = let some = not_0 code is in search rules
  dropped before output deeds code is = absurd is

  dropped_left : (before output : O) (deeds : List (Deed T O)) (code : ℕ) → deeds ≡ [] → code ≡ 1
      → Prints (Opened (Ok before) ∷ Dropped output ReaderLeft ∷ deeds) code
  dropped_left before output [] code none is = let some = not_0 code is in search rules
  dropped_left before output (deed ∷ deeds) code none is = absurd (cc)

  printed : (before output : O) (done : Unit {0}) (deeds : List (Deed T O)) (code : ℕ) → IsSaid deeds code 1
      → Prints (Opened (Ok before) ∷ Closed output (Ok done) ∷ deeds) code
  printed before output done (Said text ∷ []) code is = let some = not_0 code is in search rules
  printed before output done (Lacked failures line ∷ []) code is = let some = not_0 code is in search rules
  printed before output done deeds code is = absurd is

  reported : (before output : O) (done : Unit {0}) (ending : JobEnding) (deeds : List (Deed T O)) (code : ℕ) → IsReported ending deeds code
      → Prints (Opened (Ok before) ∷ Closed output (Ok done) ∷ deeds) code
  reported before output done (Ok status) [] code (none, is) = search rules
  reported before output done (Ok status) (deed ∷ deeds) code (none, is) = absurd (cc)
  reported before output done (Err failure) deeds code fails = printed before output done deeds code (FailsGathered-said _ deeds code fails)

-- FILE is read before OUT is made, which has this name, if there is one
record Asked {T O : Type 0} (out : Option Text) (deeds : List (Deed T O)) (code : ℕ) : Type 0 where
  pub ordered : IsOrdered deeds code
  pub of_read : MakesOfRead deeds
  pub makes : MakesOnly out deeds

-- the same after FILE was read
pub record Going {T O : Type 0} (out : Option Text) (deeds : List (Deed T O)) (code : ℕ) : Type 0 where
  pub ordered : IsOrdered deeds code
  pub makes : MakesOnly out deeds

later : {T O : Type 0} {out : Option Text} {deeds : List (Deed T O)} {code : ℕ} → Asked out deeds code → Going out deeds code
later asked = record { ordered = asked.ordered; makes = asked.makes }

module _ {T O : Type 0} where
  unended : (name : List ℕ) (permissions : ℕ) (target ended : T) (fault : _) (deeds : List (Deed T O)) (code : ℕ) → IsSaid deeds code 1
      → Going (Some name) (Made name permissions (Ok target) ∷ Ended ended (Err fault) ∷ deeds) code
  unended name permissions target ended fault (Said text ∷ []) code is = let some = not_0 code is in search rules
  unended name permissions target ended fault (Lacked failures line ∷ []) code is = let some = not_0 code is in search rules
  unended name permissions target ended fault deeds code is = absurd is

  unmade : (name : List ℕ) (permissions : ℕ) (fault : _) (deeds : List (Deed T O)) (code : ℕ) → IsSaid deeds code 1
      → Going (Some name) (Made name permissions (Err fault) ∷ deeds) code
  unmade name permissions fault (Said text ∷ []) code is = let some = not_0 code is in search rules
  unmade name permissions fault (Lacked failures line ∷ []) code is = let some = not_0 code is in search rules
  unmade name permissions fault deeds code is = absurd is

  unread : (out : Option Text) (name : List ℕ) (fault : _) (deeds : List (Deed T O)) (code : ℕ) → IsSaid deeds code 1
      → Asked out (Read name (Err fault) ∷ deeds) code
  unread out name fault (Said text ∷ []) code is = let some = not_0 code is in search rules
  unread out name fault (Lacked failures line ∷ []) code is = let some = not_0 code is in search rules
  unread out name fault deeds code is = absurd is

  unopened_file : (out : Option Text) (name : List ℕ) (count : ℕ) (fault : _) (deeds : List (Deed T O)) (code : ℕ) → IsSaid deeds code 1
      → Asked out (ReadFirst name count (Err fault) ∷ deeds) code
  unopened_file out name count fault (Said text ∷ []) code is = let some = not_0 code is in search rules
  unopened_file out name count fault (Lacked failures line ∷ []) code is = let some = not_0 code is in search rules
  unopened_file out name count fault deeds code is = absurd is

  unread_rest : (out : Option Text) (first : List ℕ) (count : ℕ) (fault : _) (deeds : List (Deed T O)) (code : ℕ) → IsSaid deeds code 1
      → Going out (ReadOn first count (Err fault) ∷ deeds) code
  unread_rest out first count fault (Said text ∷ []) code is = let some = not_0 code is in search rules
  unread_rest out first count fault (Lacked failures line ∷ []) code is = let some = not_0 code is in search rules
  unread_rest out first count fault deeds code is = absurd is

  read : (out : Option Text) (name : List ℕ) (source : Source) (deeds : List (Deed T O)) (code : ℕ) → Going out deeds code
      → Asked out (Read name (Ok source) ∷ deeds) code
  read out name source deeds code going = let is = going.ordered in let makes = going.makes in search rules

  read_first : (out : Option Text) (name : List ℕ) (count : ℕ) (first : List ℕ) (deeds : List (Deed T O)) (code : ℕ) → Going out deeds code
      → Asked out (ReadFirst name count (Ok first) ∷ deeds) code
  read_first out name count first deeds code going = let is = going.ordered in let makes = going.makes in search rules

  read_on : (out : Option Text) (first : List ℕ) (count : ℕ) (bytes : List ℕ) (deeds : List (Deed T O)) (code : ℕ) → Going out deeds code
      → Going out (ReadOn first count (Ok bytes) ∷ deeds) code
  read_on out first count bytes deeds code going = let is = going.ordered in let makes = going.makes in search rules

  -- no OUT is made
  going : (out : Option Text) (deeds : List (Deed T O)) (code : ℕ) → Prints deeds code → Going out deeds code
  going out deeds code prints = record { ordered = prints.ordered; makes = makes_none out deeds prints.none_made }

-- ---- from the last stage of a run to the first

Choose-either : (again : Bool) {A B C : Type 0} → (A → C) → (B → C) → Choose again A B → C
Choose-either true first second chosen = first chosen
Choose-either false first second chosen = second chosen

module _ {T O : Type 0} (output : Ghosts O) where
  closes : (before after : O) (ending : JobEnding) (deeds : List (Deed T O)) (code : ℕ) → Closes output after ending deeds code
      → Prints (Opened (Ok before) ∷ deeds) code
  closes before after ending (Closed printed (Ok done) ∷ deeds) code are = reported before printed done ending deeds code are.2
  closes before after ending (Closed printed (Err ReaderLeft) ∷ deeds) code (is, sound, (none, failed)) = reader_left before printed deeds code none failed
  closes before after ending (Closed printed (Err Failed) ∷ deeds) code (is, sound, fails) = unprinted before printed deeds code (Fails-said _ deeds code fails)
  closes before after ending (Dropped printed ReaderLeft ∷ deeds) code (is, less, (none, failed)) = dropped_left before printed deeds code none failed
  closes before after ending (Dropped printed Failed ∷ deeds) code (is, less, fails) = dropped before printed deeds code (Fails-said _ deeds code fails)
  closes before after ending deeds code are = absurd are

  prints : (text : List ℕ) (ending : JobEnding) (deeds : List (Deed T O)) (code : ℕ) → PrintsText output text ending deeds code → Prints deeds code
  prints text ending (Opened (Ok before) ∷ deeds) code (fresh, after, takes, is) = closes before after ending deeds code is
  prints text ending (Opened (Err fault) ∷ deeds) code are = unopened fault deeds code (Fails-said _ deeds code are)
  prints text ending deeds code are = absurd are

  pub shows : (file : List ℕ) (job : Job) (deeds : List (Deed T O)) (code : ℕ) → Shows output file job deeds code → Prints deeds code
  shows file job (Opened (Ok before) ∷ deeds) code (fresh, after, ending, does, is) = closes before after ending deeds code is
  shows file job (Opened (Err fault) ∷ deeds) code are = unopened fault deeds code (Fails-said _ deeds code are)
  shows file job deeds code are = absurd are

  module _ (out : Option Text) (job : Job) where
    reads_rest : (first : List ℕ) (deeds : List (Deed T O)) (code : ℕ) → ReadsRest output job first deeds code → Going out deeds code
    reads_rest first (ReadOn begun count (Ok bytes) ∷ deeds) code (is, end, are) =
        read_on out begun count bytes deeds code (going out deeds code (shows bytes job deeds code are))
    reads_rest first (ReadOn begun count (Err fault) ∷ deeds) code (is, end, fails) =
        unread_rest out begun count fault deeds code (FailsGathered-said _ deeds code fails)
    reads_rest first deeds code are = absurd are

    reads_metas : (deeds : List (Deed T O)) (code : ℕ) → ReadsMetas output job deeds code → Asked out deeds code
    reads_metas (ReadFirst name count (Ok first) ∷ deeds) code (is, at_most, are) = read_first out name count first deeds code (reads_rest first deeds code are)
    reads_metas (ReadFirst name count (Err fault) ∷ deeds) code (is, at_most, fails) =
        unopened_file out name count fault deeds code (FailsGathered-said _ deeds code fails)
    reads_metas deeds code are = absurd are

  prints_buffered : (failures : ℕ) (text : List ℕ) (ending : JobEnding) (deeds : List (Deed T O)) (code : ℕ)
      → PrintsBuffered output failures text ending deeds code → Prints deeds code
  prints_buffered zero text ending deeds code are = prints text ending deeds code are
  prints_buffered (suc more) text ending deeds code are = failed deeds code (FailsLacking-said deeds code are)

module _ {T O : Type 0} (target : Ghosts T) (output : Ghosts O) where
  writes : (name : List ℕ) (permissions : ℕ) (made : T) (file : List ℕ) (job : Job) (deeds : List (Deed T O)) (code : ℕ)
      → WritesOut target output made file job deeds code → Going (Some name) (Made name permissions (Ok made) ∷ deeds) code
  writes name permissions made file job (Ended after (Ok done) ∷ deeds) code (buffered, ending, does, are) =
      let later = prints_buffered output buffered.failures buffered.text ending deeds code are in
      record { ordered = later.after_out name permissions made after done; makes = (refl, makes_none (Some name) deeds later.none_made) }
  writes name permissions made file job (Ended after (Err fault) ∷ deeds) code (buffered, ending, does, fails) =
      unended name permissions made after fault deeds code (FailsUnended-said ending deeds code fails)
  writes name permissions made file job deeds code are = absurd are

  pub goes : (out : Option Text) (source : Source) (job : Job) (deeds : List (Deed T O)) (code : ℕ)
      → Goes target output out source job deeds code → Going out deeds code
  goes (Some out) source job (Made name permissions (Ok made) ∷ deeds) code (is, bits, fresh, are) =
      rw (← is) (writes name permissions made source.bytes.items job deeds code are)
  goes (Some out) source job (Made name permissions (Err fault) ∷ deeds) code (is, bits, fails) =
      rw (← is) (unmade name permissions fault deeds code (FailsGathered-said _ deeds code fails))
  goes (Some out) source job deeds code are = absurd are
  goes None source job deeds code are = going None deeds code (shows output source.bytes.items job deeds code are)

  reads : (left : ℕ) (job : Job) (deeds : List (Deed T O)) (code : ℕ) → Reads target output left job deeds code → Asked (target_name job) deeds code
  reads zero job (Said text ∷ []) code (is, one) = let some = not_0 code one in search rules
  reads zero job deeds code fails = absurd fails.0
  reads (suc left) job (Read name (Ok source) ∷ deeds) code (is, are) =
      read (target_name job) name source deeds code
      (Choose-either (is_changed source) (λ again. later (reads left job deeds code again)) (goes (target_name job) source job deeds code) are)
  reads (suc left) job (Read name (Err fault) ∷ deeds) code (is, fails) = unread (target_name job) name fault deeds code (FailsGathered-said _ deeds code fails)
  reads (suc left) job deeds code are = absurd are

  does_asked : (job : Job) (deeds : List (Deed T O)) (code : ℕ) → DoesAsked target output job deeds code → Asked (target_name job) deeds code
  does_asked job deeds code are =
      Choose-either (needs_metas_alone job) (reads_metas output (target_name job) job deeds code) (reads 3 job deeds code) are

  refuses : (why : Refusal) (deeds : List (Deed T O)) (code : ℕ) → Refuses target output why deeds code → Prints deeds code
  refuses refusal.Memory deeds code fails = failed deeds code (Fails-said _ deeds code fails)
  refuses (refusal.Help text) deeds code are = prints output (string_bytes text) (Ok 0) deeds code are
  refuses (refusal.Version text) deeds code are = prints output (string_bytes text) (Ok 0) deeds code are
  refuses (refusal.Usage text) deeds code (inl (ends, is)) = said deeds code 2 (Ends-said _ deeds code 2 ends is) (λ none. omega (arith, none))
  refuses (refusal.Usage text) deeds code (inr fails) = failed deeds code (FailsLacking-said deeds code fails)
  refuses (refusal.Word why) deeds code (ends, is) = said deeds code 2 (Ends-said _ deeds code 2 ends is) (λ none. omega (arith, none))

-- what holds of the deeds of each run
pub record InOrder {T O : Type 0} (words : List Text) (deeds : List (Deed T O)) (code : ℕ) : Type 0 where
  pub ordered : IsOrdered deeds code
  pub of_read : MakesOfRead deeds
  pub refused : ((job : Job) → Asks words job → ⊥) → HasNone is_read deeds × HasNone is_made deeds
  pub asked : ((job : Job) × Asks words job × MakesOnly (target_name job) deeds) ⊎ HasNone is_made deeds

pub run_ordered : {T O : Type 0} (target : Ghosts T) (output : Ghosts O) (words : List Text) (deeds : List (Deed T O)) (code : ℕ)
    → IsRun target output words deeds code → InOrder words deeds code
run_ordered target output words deeds code (inl (job, asks, are)) =
    let asked = does_asked target output job deeds code are in
    record { ordered = asked.ordered; of_read = asked.of_read; refused = λ none. absurd (none job asks); asked = inl (job, asks, asked.makes) }
run_ordered target output words deeds code (inr (why, is, are)) =
    let prints = refuses target output why deeds code are in
    record {
      ordered = prints.ordered;
      of_read = none_made_of_read deeds prints.none_made;
      refused = λ none. (prints.none_read, prints.none_made);
      asked = inr prints.none_made;
    }
