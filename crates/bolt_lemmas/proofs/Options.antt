-- What holds of an option or a result, by whether it has a value.
use Rattle.std.proofs.Common.{Err, List, None, Ok, Option, Result, Some, arith, false, if◌then◌else◌, true, ◌≡◌}
use Rattle.std.specs.Option.{IfNone, option_or}
use Rattle.std.specs.Prelude.{IfErr, IfSome, IsErrAnd, OnOk, is_some}
use Rattle.std.specs.Result.{is_err, is_ok, result_ok}

pub is_there : {A : Type 0} (found : Option A) → is_some found ≡ true → (a : A) × (found ≡ Some a)
is_there found is = grind arith

pub is_absent : {A : Type 0} (found : Option A) → is_some found ≡ false → found ≡ None
is_absent found is = grind arith

pub ok_is : {A E : Type 0} (r : Result A E) (a : A) → result_ok r ≡ Some a → r ≡ Ok a
ok_is r a is = grind arith

pub if_none : {X P Q : Type 0} (o : Option X) → (P → Q) → IfNone o P → IfNone o Q
if_none o to h = grind arith

pub if_given : {A P : Type 0} (o : Option A) → P → IfSome o (λ _. P)
if_given None p = tt
if_given (Some x) p = p

-- the later of two values, or the earlier one
pub some_later : {A : Type 0} {P Q : A → Type 0} (found before value : Option A) → value ≡ option_or found before → IfSome found Q → IfSome before P
    → ((a : A) → Q a → P a) → IfSome value P
some_later (Some a) before value is here there from = rw is (from a here)
some_later None before value is here there from = rw is there

pub none_later : {A : Type 0} {F N M : Type 0} (found before value : Option A) → value ≡ option_or found before → IfNone found F → IfNone before N
    → (F → N → M) → IfNone value M
none_later (Some a) before value is here there both = rw is tt
none_later None (Some a) value is here there both = rw is tt
none_later None None value is here there both = rw is (both here there)

-- a fault that is passed on as it is
pub passed_on : {T E : Type 0} (r : Result T E) (fault : E) (P : E → Type 0) → P fault → IsErrAnd r (λ e. e ≡ fault) → IfErr r P
passed_on r fault P reported e = grind arith

pub on_any : {A E X : Type 0} (result : Result A E) → X → OnOk result X
on_any (Ok a) x = x
on_any (Err e) x = tt

pub on_ok_both : {A E : Type 0} {P Q R : Type 0} (result : Result A E) → OnOk result P → OnOk result Q → (P → Q → R) → OnOk result R
on_ok_both result p q f = grind arith

pub was_pushed : {X E : Type 0} {A : Type 0} (r : Result X E) (a b : List A) → is_err r ≡ false → (if is_ok r then a else b) ≡ a
was_pushed r a b e = grind arith
