-- The sentences of specs/Orders hold of deeds of which this can be computed.
use Rattle.std.proofs.Common.{◌≡◌, ℕ, List, [], ◌∷◌, ◌++◌, Bool, true, false, Option, Some, Result, refl, subst, not, ◌&&◌, ◌||◌}
use Rattle.bolt_cli.proofs.Vocabulary.{Choose, Deed, Made, Text}
use Rattle.bolt_cli.specs.declared.outside.CreateFault.{CreateFault}
use Rattle.bolt_cli.specs.Orders.{AfterEach, BeforeEach, HasNone, HasOne, MakesOnce, OpensOnce, SucceedsOnlyWithoutFailures, has_failed}
use Rattle.bolt_cli.specs.Orders.{has_no_reader, is_closed, is_ended, is_made, is_opened, is_read, is_said, was_ended, was_made, was_opened, was_read}
use Rattle.std.specs.Prelude.{IsTrue}
use Rattle.std.specs.List.{list_any}

unless : (other : Bool) {A : Type 0} → A → Choose other (Unit {0}) A
unless true is = tt
unless false is = is

either : (other rest : Bool) {A : Type 0} → Choose other (Unit {0}) A → (A → IsTrue rest) → IsTrue (other || rest)
either true rest are later = refl
either false rest are later = later are

module _ {D : Type 0} where
  abbrev pub After : (is_kind : D → Bool) → (List D → Type 0) → List D → Type 0
  After is_kind Are [] = Unit {0}
  After is_kind Are (deed ∷ after) = Choose (is_kind deed) (Are after) (Unit {0}) × After is_kind Are after

  abbrev pub Before : (is_kind is_other : D → Bool) → List D → Type 0
  Before is_kind is_other [] = Unit {0}
  Before is_kind is_other (deed ∷ after) = (is_kind deed ≡ false) × Choose (is_other deed) (Unit {0}) (Before is_kind is_other after)

  module _ (is_kind : D → Bool) where
    after_at : (Are : List D → Type 0) (before : List D) (deed : D) (after : List D) → After is_kind Are (before ++ deed ∷ after)
        → IsTrue (is_kind deed) → Are after
    after_at Are [] deed after are kind = rw kind at are.0
    after_at Are (first ∷ before) deed after are kind = after_at Are before deed after are.1 kind

    pub after_each : (Are : List D → Type 0) (deeds : List D) → After is_kind Are deeds → AfterEach is_kind Are deeds
    after_each Are deeds are before deed after is kind = after_at Are before deed after (subst (After is_kind Are) is are) kind

    before_at : (is_other : D → Bool) (before : List D) (deed : D) (after : List D) → Before is_kind is_other (before ++ deed ∷ after)
        → IsTrue (is_kind deed)
        → IsTrue (list_any is_other before)
    before_at is_other [] deed after are kind = absurd (let other = are.0 in cc)
    before_at is_other (first ∷ before) deed after are kind = either (is_other first) _ are.1 (λ later. before_at is_other before deed after later kind)

    pub before_each : (is_other : D → Bool) (deeds : List D) → Before is_kind is_other deeds → BeforeEach is_kind is_other deeds
    before_each is_other deeds are before deed after is kind = before_at is_other before deed after (subst (Before is_kind is_other) is are) kind

-- all but that FILE was read before OUT is made
pub record IsOrdered {T O : Type 0} (deeds : List (Deed T O)) (code : ℕ) : Type 0 where
  pub reads_first : After (λ deed. not (was_read deed)) (HasNone is_read) deeds
  pub makes_once : MakesOnce deeds
  pub ends_what_is_made : After was_made (HasOne is_ended) deeds
  pub opens_once : OpensOnce deeds
  pub closes_what_is_opened : After was_opened (HasOne is_closed) deeds
  pub copies_before_opening : After was_made (Before is_opened was_ended) deeds
  pub says_last : After is_said (λ after. after ≡ []) deeds
  pub stops_after_failures : After has_failed (HasNone (λ deed. not (is_said deed))) deeds
  pub says_failures : After (λ deed. has_failed deed && not (has_no_reader deed)) (HasOne is_said) deeds
  pub stops_without_reader : After has_no_reader (λ after. after ≡ []) deeds
  pub succeeds : SucceedsOnlyWithoutFailures deeds code
  pub fails_with_1 : After has_failed (λ after. code ≡ 1) deeds

abbrev pub MakesOfRead : {T O : Type 0} → List (Deed T O) → Type 0
MakesOfRead = Before is_made was_read

-- each OUT that is made has this name
abbrev pub MakesOnly : {T O : Type 0} → Option Text → List (Deed T O) → Type 0
MakesOnly out [] = Unit {0}
MakesOnly out (Made name permissions result ∷ deeds) = (out ≡ Some name) × MakesOnly out deeds
MakesOnly out (deed ∷ deeds) = MakesOnly out deeds

module _ {T O : Type 0} where
  -- none is made
  pub makes_none : (out : Option Text) (deeds : List (Deed T O)) → HasNone is_made deeds → MakesOnly out deeds
  makes_none out [] none = tt
  makes_none out (Made name permissions result ∷ deeds) none = absurd (cc)
  makes_none out (deed ∷ deeds) none = makes_none out deeds none

  pub none_made_of_read : (deeds : List (Deed T O)) → HasNone is_made deeds → MakesOfRead deeds
  none_made_of_read [] none = tt
  none_made_of_read (deed ∷ deeds) none = by (is_made deed) refl (none_made_of_read deeds)
    where
      by : (made : Bool) → is_made deed ≡ made → (HasNone is_made deeds → MakesOfRead deeds) → MakesOfRead (deed ∷ deeds)
      by true is later = absurd (let some = rw is at none in cc)
      by false is later = (is, unless (was_read deed) (later (rw is at none)))

  pub made_at : (out : Option Text) (before : List (Deed T O)) (name : Text) (permissions : ℕ) (result : Result T CreateFault) (after : List (Deed T O))
      → MakesOnly out (before ++ Made name permissions result ∷ after) → out ≡ Some name
  made_at out [] name permissions result after makes = makes.0
  made_at out (Made other bits made ∷ before) name permissions result after makes = made_at out before name permissions result after makes.1
  made_at out (deed ∷ before) name permissions result after makes = made_at out before name permissions result after makes

  pub none_made_at : (before : List (Deed T O)) (name : Text) (permissions : ℕ) (result : Result T CreateFault) (after : List (Deed T O))
      → HasNone is_made (before ++ Made name permissions result ∷ after) → ⊥
  none_made_at [] name permissions result after none = absurd (cc)
  none_made_at (Made other bits made ∷ before) name permissions result after none = absurd (cc)
  none_made_at (deed ∷ before) name permissions result after none = none_made_at before name permissions result after none
