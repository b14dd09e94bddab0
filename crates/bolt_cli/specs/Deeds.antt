-- What the program does to what lies outside of it: the files and the streams.
use Rattle.std.specs.Prelude.{ℕ, List, [], ◌∷◌, ◌++◌, Result}
use Rattle.bolt_cli.specs.{declared.outside.Source.Source, declared.outside.ReadFault.ReadFault, declared.outside.CreateFault.CreateFault}
use Rattle.bolt_cli.specs.{declared.outside.EndFault.EndFault, declared.outside.OpenFault.OpenFault, declared.outside.OutputFault.OutputFault}

-- A deed is what is asked for, and the answer. OUT is a T, and standard output an O, each in its state at that time.
pub data Deed (T O : Type 0) : Type 0 where
  -- the whole of FILE is read
  Read : (name : List ℕ) → Result Source ReadFault → Deed T O
  -- at most so many bytes of FILE are read, from its start on
  ReadFirst : (name : List ℕ) (count : ℕ) → Result (List ℕ) ReadFault → Deed T O
  -- at most so many more are read after those; the answer has both
  ReadOn : (first : List ℕ) (count : ℕ) → Result (List ℕ) ReadFault → Deed T O
  -- OUT is made with these permission bits, and lent
  Made : (name : List ℕ) (permissions : ℕ) → Result T CreateFault → Deed T O
  -- OUT comes back, and is ended
  Ended : T → Result (Unit {0}) EndFault → Deed T O
  -- standard output is lent: before this nothing can be printed
  Opened : Result O OpenFault → Deed T O
  -- standard output comes back, and what is gathered is printed
  Closed : O → Result (Unit {0}) OutputFault → Deed T O
  -- standard output comes back after a failure, and what is gathered isn't printed
  Dropped : O → OutputFault → Deed T O
  -- a text goes to standard error
  Said : (text : List ℕ) → Deed T O
  -- a line goes to standard error in place of a text for which there was no memory: the sink that the text was put to has failed `failures` times
  Lacked : (failures : ℕ) (line : List ℕ) → Deed T O

-- whatever the deeds were before, these were added
abbrev pub Adds : {D : Type 0} → (List D → Type 0) → (List D → Type 0) → List D → Type 0
Adds Before After deeds = (earlier : List _) → Before earlier → After (earlier ++ deeds)

-- some deeds of this kind were added, and no others
pub record DoesDeeds {D : Type 0} (Before After : List D → Type 0) (Are : List D → Type 0) : Type 0 where
  pub deeds : List D
  pub added : Adds Before After deeds
  pub are : Are deeds

-- some deeds were added, and with the status after them they are so
abbrev pub Does : {O D : Type 0} → (done : O → List D → Type 0) → (old new : O) → (code : ℕ) → (List D → ℕ → Type 0) → Type 0
Does done old new code Are = DoesDeeds (done old) (done new) (λ deeds. Are deeds code)

-- pieces of a text, one after another
abbrev pub joined : List (List ℕ) → List ℕ
joined [] = []
joined (piece ∷ []) = piece
joined (piece ∷ pieces) = piece ++ joined pieces
