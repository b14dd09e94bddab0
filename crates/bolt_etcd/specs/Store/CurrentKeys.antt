-- How it is known of a revision or a mark whether it is current: by a list of the current revisions, and if it is of the name without bytes, which is
-- that of marks too, by the key of the current one of that name.
use Rattle.std.specs.Prelude.{ℕ, ◌==◌, ◌&&◌, ◌||◌, Bool, false, List, [], ◌∷◌, length, not, Option, Some, None, option_map, if◌then◌else◌}
use Rattle.std.specs.{List.list_any, Option.is_some, Str.bytes_eq}
use Rattle.bolt_check.specs.Keys.{Key}
use Rattle.bolt_etcd.specs.{Store.HashKv.live_in, Histories.Transactions.live_of, Store.Newest.is_until, Store.Newest.newest, Store.Newest.until}
use Rattle.bolt_etcd.specs.{Wire.Revisions.RevisionView, Wire.Revisions.name_of}

-- the name without bytes
abbrev pub is_nameless : List ℕ → Bool
is_nameless name = length name == 0

-- the key of the current one of the name without bytes
abbrev pub nameless_key : (up_to : ℕ) → List RevisionView → Option Key
nameless_key up_to rs = option_map (λ r. r.stored_key) (live_in (newest [] (until up_to rs)))

-- the key of the current revision of the name without bytes, after one revision more, if it was `before` until then
abbrev pub nameless_with : (up_to : ℕ) → Option RevisionView → Option Key → Option Key
nameless_with up_to None before = before
nameless_with up_to (Some r) before = if is_until up_to r && is_nameless (name_of r) then option_map (λ x. x.stored_key) (live_of r) else before

-- whether a key is the one that is known, if any is
abbrev pub is_this : Key → Option Key → Bool
is_this key None = false
is_this key (Some other) = bytes_eq other key

-- whether a revision or a mark with a name and a key is current, and whether any is
abbrev pub is_current_by : Option Key → (is_listed : Bool) → (name : List ℕ) → Key → Bool
is_current_by nameless is_listed name key = if is_nameless name then is_this key nameless else is_listed

abbrev pub any_current_by : Option Key → List RevisionView → Bool
any_current_by nameless current = is_some nameless || list_any (λ r. not (is_nameless (name_of r))) current

-- whether the first of these revisions has a key, and the list without it, if it has
abbrev pub begins_with_key : Key → List RevisionView → Bool
begins_with_key key [] = false
begins_with_key key (r ∷ rs) = bytes_eq r.stored_key key

abbrev pub without_first : Key → List RevisionView → List RevisionView
without_first key [] = []
without_first key (r ∷ rs) = if bytes_eq r.stored_key key then rs else r ∷ rs
