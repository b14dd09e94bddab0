-- The headers of a page's elements, written one after another.
use Rattle.std.proofs.Common.{◌≡◌, ◌∙◌, ℕ, ◌+◌, ◌*◌, ◌<◌, ◌≤◌, List, ◌++◌, length, drop, get_or, Result, Ok, Err, ap, arith, append_assoc}
use Rattle.std.proofs.Common.{append-nil}
use Rattle.std.proofs.lemmas.List.{drop_all, length-drop}
use Rattle.std.specs.Prelude.{IsErr}
use Rattle.bolt_lemmas.proofs.Exports.{next_is}
use Rattle.bolt_bulk.specs.Private.{Buffers, data_of, data_size, heads_from}
use Rattle.bolt_format.proofs.Exports.{WroteFront, front_more, front_return, Wrote-then}
use Rattle.bolt_format.specs.{Wrote.Wrote, Endings.Ending, Endings.page_ending, declared.sink.Sink.Ghosts}

-- the data that are left
pub data_left : {X : Type 0} (key value : X → List ℕ) (xs : List X) (i : ℕ) (x : X) → i < length xs → x ≡ get_or xs i x
    → data_of key value (drop i xs) ≡ key x ++ (value x ++ data_of key value (drop (i + 1) xs))
data_left key value xs i x h is = ap (data_of key value) (next_is xs i x h is)

-- the buffer loses at its front what is written, and so does the text that is left
gathered_left : (buffer kept put rest : List ℕ) → buffer ≡ put ++ kept → buffer ++ rest ≡ put ++ (kept ++ rest)
gathered_left buffer kept put rest parts = ap (λ (r : List ℕ). r ++ rest) parts ∙ append_assoc put kept rest

module _ {X : Type 0} (head : ℕ → ℕ → ℕ → X → List ℕ) (key : X → List ℕ) (value_length : X → ℕ) where
  -- The headers up to number i, of which the last are still in the buffer: where a key is follows from how much data came before it.
  pub record HeadsPut {S : Type 0} (sink : Ghosts S) (old new : S) (buffer : List ℕ) (xs : List X) (i pos : ℕ) : Type 0 where
    pub before : ℕ
    pub front : WroteFront sink old new (heads_from head key value_length 0 xs) (buffer ++ heads_from head key value_length before (drop i xs))
    pub place : pos ≡ 16 * length (drop i xs) + before
    pub room : before + data_size key value_length (drop i xs) ≡ data_size key value_length xs

module _ {S X : Type 0} {head : ℕ → ℕ → ℕ → X → List ℕ} {key : X → List ℕ} {value_length : X → ℕ} {sink : Ghosts S} {old mid : S} {buffer : List ℕ}
    {xs : List X} {i pos : ℕ}
    (put : HeadsPut head key value_length sink old mid buffer xs i pos) where
  pub heads_stop : {new : S} {A E B F : Type 0} {kept : List ℕ} {e : E} (result : Result B F) → Buffers {A = A} sink mid new buffer kept (Err e)
      → IsErr result
      → Wrote sink old new (heads_from head key value_length 0 xs) (page_ending result)
  heads_stop {kept = kept} result gathers err =
      front_return _ result put.front gathers.puts
      (gathered_left buffer kept gathers.put (heads_from head key value_length put.before (drop i xs)) gathers.parts) err

  -- what is known of the next header
  pub record NextHead (x : X) : Type 0 where
    pub low : 16 ≤ pos
    pub fits : pos + (length (key x) + value_length x) ≤ 16 * length xs + data_size key value_length xs

  module _ (x : X) (h : i < length xs) (is : x ≡ get_or xs i x) where
    pub heads_next : NextHead x
    heads_next = grind (arith, next_is, length-drop, put.place, put.room)

    pub heads_more : {new : S} {A E : Type 0} {kept after : List ℕ} {a : A} (next : ℕ) → next + 16 ≡ pos + (length (key x) + value_length x)
        → after ≡ kept ++ head pos (length (key x)) (value_length x) x
        → Buffers {A = A} {E = E} sink mid new buffer kept (Ok a) → HeadsPut head key value_length sink old new after xs (i + 1) next
    heads_more {kept = kept} {after = after} next step pushed gathers =
        let at = next_is xs i x h is in grind (arith, gathered_left, append_assoc, front_more, at, put.place, put.room)

  -- if all headers are in the buffer or were written, the buffer is what is left
  pub heads_all : {new : S} {end : Ending} → length xs ≤ i → Wrote sink mid new buffer end
      → Wrote sink old new (heads_from head key value_length 0 xs) end
  heads_all h rest = grind (arith, drop_all, append-nil, Wrote-then)
