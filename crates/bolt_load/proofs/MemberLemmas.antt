-- What the words of a line tell, and what their bytes are.
use Rattle.std.proofs.Common.{arith, ◌≡◌, ◌∙◌, ℕ, Bool, true, false, List, Option, Some, None, length, refl, ap}
use Rattle.bolt_load.proofs.Words.{hex_bytes_in, is_long_item, is_long_key, is_some, Item, line_member, list_any, Member, member_bytes}
use Rattle.bolt_load.proofs.Words.{option_and_then, option_map, Path, shape_fault, Text, Value, ValueTooLong}
use Rattle.bolt_load.proofs.PathLemmas.{halved}
use Rattle.std.specs.Prelude.{◌/◌, nat_lt}

abbrev pub member_of : Option Path → Option Item → Option Member
member_of path item = option_and_then (λ path. option_map (λ item. (path, item)) item) path

pub long_value : (digits : Text) (item : Item) → option_map Value (hex_bytes_in digits) ≡ Some item
    → nat_lt 0x7FFFFFFE (length digits / 2) ≡ is_long_item item
long_value digits item is = at (hex_bytes_in digits) refl is
  where
    at : (found : Option (List ℕ)) → hex_bytes_in digits ≡ found → option_map Value found ≡ Some item
        → nat_lt 0x7FFFFFFE (length digits / 2) ≡ is_long_item item
    at None found is = absurd (let f : None ≡ Some item = is in cc)
    at (Some value) found is =
        let f : Some (Value value) ≡ Some item = is in
        let same : Value value ≡ item = cc in
        ap (nat_lt 0x7FFFFFFE) (halved digits value found) ∙ ap is_long_item same

module _ (line : Text) (path : Option Path) (item : Option Item) (said : line_member line ≡ member_of path item)
    (some : is_some (option_map member_bytes (member_of path item)) ≡ true) where
  pub value_is_long : (long_key long : Bool) → ((p : Path) → path ≡ Some p → long_key ≡ list_any is_long_key p)
      → ((i : Item) → item ≡ Some i → long ≡ is_long_item i) → long_key ≡ false → long ≡ true → Some ValueTooLong ≡ shape_fault line
  value_is_long long_key long keys values short is = grind arith

  pub shape_is_right : (long_key long : Bool) → ((p : Path) → path ≡ Some p → long_key ≡ list_any is_long_key p)
      → ((i : Item) → item ≡ Some i → long ≡ is_long_item i) → long_key ≡ false → long ≡ false → None ≡ shape_fault line
  shape_is_right long_key long keys values short is = grind arith
