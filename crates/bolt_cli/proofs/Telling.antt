-- One deed after another.
use Rattle.std.proofs.Common.{List, [], ◌∷◌, ◌++◌, subst, sym, append_assoc, append-nil}
use Rattle.bolt_cli.proofs.Vocabulary.{Adds}
use Rattle.bolt_cli.specs.Deeds.{DoesDeeds}

-- no deed
pub DoesDeeds-none : {D : Type 0} {Before : List D → Type 0} {Are : List D → Type 0} → Are [] → DoesDeeds Before Before Are
DoesDeeds-none {D} {Before} are = record { deeds = []; added = λ earlier before. subst Before (sym (append-nil earlier)) before; are = are }

-- one deed alone
pub DoesDeeds-one : {D : Type 0} {Before After : List D → Type 0} (deed : D) {Are : List D → Type 0}
    → Adds Before After (deed ∷ []) → Are (deed ∷ []) → DoesDeeds Before After Are
DoesDeeds-one deed added are = record { deeds = deed ∷ []; added = added; are = are }

-- a deed, and then the others
pub DoesDeeds-after : {D : Type 0} {Before Between After : List D → Type 0} (deed : D) {Are Were : List D → Type 0}
    → Adds Before Between (deed ∷ []) → DoesDeeds Between After Are → ((deeds : List D) → Are deeds → Were (deed ∷ deeds)) → DoesDeeds Before After Were
DoesDeeds-after {D} {Before} {Between} {After} deed added rest step = record {
  deeds = deed ∷ rest.deeds;
  added = λ earlier before. subst After (append_assoc earlier (deed ∷ []) rest.deeds) (rest.added (earlier ++ deed ∷ []) (added earlier before));
  are = step rest.deeds rest.are;
}

-- the same deeds, seen otherwise
pub DoesDeeds-as : {D : Type 0} {Before After : List D → Type 0} {Are Were : List D → Type 0}
    → DoesDeeds Before After Are → ((deeds : List D) → Are deeds → Were deeds) → DoesDeeds Before After Were
DoesDeeds-as does step = record { deeds = does.deeds; added = does.added; are = step does.deeds does.are }
