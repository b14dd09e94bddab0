-- One text after another on a sink: a caller of several puts joins their clauses by these.
use Rattle.std.proofs.Common.{◌∙◌, ℕ, List, [], ◌∷◌, ◌++◌, Option, ap, append_assoc, append-nil, refl, sym}
use Rattle.std.proofs.KnownBytes.{Appends-nil, Appends-trans}
use Rattle.std.specs.Prelude.{◌≢◌}
use Rattle.std.specs.Io.KnownBytes.{Appends}
use Rattle.bolt_format.specs.Sinks.{AppendsPrefix, AppendsProperPrefix}

-- a text that was taken whole is a prefix of itself
pub AppendsPrefix-whole : (old new : Option (List ℕ)) (text : List ℕ) → Appends old new text → AppendsPrefix old new text
AppendsPrefix-whole old new text taken = record { front = text; rest = []; parts = sym (append-nil text); taken = taken }

-- nothing is a prefix of any text
pub AppendsPrefix-none : (old : Option (List ℕ)) (text : List ℕ) → AppendsPrefix old old text
AppendsPrefix-none old text = record { front = []; rest = text; parts = refl; taken = Appends-nil old }

-- a prefix of the first text is one of both
pub AppendsPrefix-first : (old new : Option (List ℕ)) (first second : List ℕ) → AppendsPrefix old new first → AppendsPrefix old new (first ++ second)
AppendsPrefix-first old new first second begun = record {
  front = begun.front;
  rest = begun.rest ++ second;
  parts = ap (λ text. text ++ second) begun.parts ∙ append_assoc begun.front begun.rest second;
  taken = begun.taken;
}

-- the first text whole, and then a prefix of the second
pub AppendsPrefix-second : (old mid new : Option (List ℕ)) (first second : List ℕ) → Appends old mid first → AppendsPrefix mid new second
    → AppendsPrefix old new (first ++ second)
AppendsPrefix-second old mid new first second taken begun = record {
  front = first ++ begun.front;
  rest = begun.rest;
  parts = ap (λ text. first ++ text) begun.parts ∙ sym (append_assoc first begun.front begun.rest);
  taken = Appends-trans old mid new first begun.front taken begun.taken;
}

pub more_some : (xs ys : List ℕ) → xs ≢ [] → xs ++ ys ≢ []
more_some [] ys some none = some refl
more_some (x ∷ xs) ys some none = absurd (cc)

-- a proper prefix is a prefix,
pub AppendsProperPrefix-prefix : (old new : Option (List ℕ)) (text : List ℕ) → AppendsProperPrefix old new text → AppendsPrefix old new text
AppendsProperPrefix-prefix old new text begun = record { front = begun.front; rest = begun.rest; parts = begun.parts; taken = begun.taken }

-- a prefix that leaves some of the text is a proper one,
proper : (old new : Option (List ℕ)) (text : List ℕ) (begun : AppendsPrefix old new text) → begun.rest ≢ [] → AppendsProperPrefix old new text
proper old new text begun short = record { front = begun.front; rest = begun.rest; parts = begun.parts; short = short; taken = begun.taken }

-- one of the first text is one of both,
pub AppendsProperPrefix-first : (old new : Option (List ℕ)) (first second : List ℕ) → AppendsProperPrefix old new first
    → AppendsProperPrefix old new (first ++ second)
unfolding AppendsPrefix-first AppendsProperPrefix-prefix
AppendsProperPrefix-first old new first second begun = proper old new (first ++ second)
    (AppendsPrefix-first old new first second (AppendsProperPrefix-prefix old new first begun)) (more_some begun.rest second begun.short)

-- and so is the whole first text with one of the second
pub AppendsProperPrefix-second : (old mid new : Option (List ℕ)) (first second : List ℕ) → Appends old mid first → AppendsProperPrefix mid new second
    → AppendsProperPrefix old new (first ++ second)
unfolding AppendsPrefix-second AppendsProperPrefix-prefix
AppendsProperPrefix-second old mid new first second taken begun = proper old new (first ++ second)
    (AppendsPrefix-second old mid new first second taken (AppendsProperPrefix-prefix mid new second begun)) begun.short
