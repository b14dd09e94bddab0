-- The deeds that a log in memory holds.
use Rattle.std.specs.Prelude.{◌≡◌, ◌⊎◌, ℕ, List, [], ◌∷◌, map, Bool, true, false, Option, Some, None, Ok, Err, IsTrue}
use Rattle.bolt_cli.specs.{Deeds.Adds, Deeds.Deed, Sources.is_changed, declared.outside.OutputFault.TheVariants.ReaderLeft}
use Rattle.bolt_cli.specs.{declared.outside.OutputFault.TheVariants.Failed}
use Rattle.bolt_cli.specs.Deeds as deeds
use Rattle.test_calls.specs.{declared.log.Kind.Kind, declared.log.Record.Record, declared.log.Log.Log}
use Rattle.test_calls.specs.declared.log.Kind.TheVariants as kind

-- what a log keeps of a deed
pub record Look : Type 0 where
  pub kind : Kind
  pub name : List ℕ
  pub bytes : List ℕ
  pub permissions : ℕ

abbrev pub look_of : Kind → List ℕ → List ℕ → ℕ → Look
look_of k name bytes permissions = record { kind = k; name = name; bytes = bytes; permissions = permissions }

abbrev bytes_in : Option (List ℕ) → List ℕ
bytes_in (Some bytes) = bytes
bytes_in None = []

abbrev pub read_kind : (changes : Bool) → Kind
read_kind true = kind.ReadChanged
read_kind false = kind.Read

abbrev pub look : {S : Type 0} → (taken : S → Option (List ℕ)) → Deed S S → Look
look taken (deeds.Read name (Ok source)) = look_of (read_kind (is_changed source)) name source.bytes.items source.permissions
look taken (deeds.Read name (Err fault)) = look_of kind.Unread name [] 0
look taken (deeds.ReadFirst name count (Ok first)) = look_of kind.ReadFirst name first 0
look taken (deeds.ReadFirst name count (Err fault)) = look_of kind.Unread name [] 0
look taken (deeds.ReadOn first count (Ok bytes)) = look_of kind.ReadOn [] bytes 0
look taken (deeds.ReadOn first count (Err fault)) = look_of kind.NotReadOn [] [] 0
look taken (deeds.Made name permissions (Ok target)) = look_of kind.Made name [] permissions
look taken (deeds.Made name permissions (Err fault)) = look_of kind.Unmade name [] permissions
look taken (deeds.Ended target (Ok done)) = look_of kind.Ended [] (bytes_in (taken target)) 0
look taken (deeds.Ended target (Err fault)) = look_of kind.Unended [] (bytes_in (taken target)) 0
look taken (deeds.Opened (Ok output)) = look_of kind.Opened [] [] 0
look taken (deeds.Opened (Err fault)) = look_of kind.Unopened [] [] 0
look taken (deeds.Closed output (Ok done)) = look_of kind.Printed [] (bytes_in (taken output)) 0
look taken (deeds.Closed output (Err ReaderLeft)) = look_of kind.Left [] (bytes_in (taken output)) 0
look taken (deeds.Closed output (Err Failed)) = look_of kind.Unprinted [] (bytes_in (taken output)) 0
look taken (deeds.Dropped output ReaderLeft) = look_of kind.Left [] (bytes_in (taken output)) 0
look taken (deeds.Dropped output Failed) = look_of kind.Unprinted [] (bytes_in (taken output)) 0
look taken (deeds.Said text) = look_of kind.Said [] text 0
look taken (deeds.Lacked failures line) = look_of kind.Said [] line 0

abbrev pub look_at : Record → Look
look_at record_ = look_of record_.kind record_.name.items record_.bytes.items record_.permissions

-- the log has lost a deed, or it has all deeds
abbrev pub Holds : {S : Type 0} → (taken : S → Option (List ℕ)) → Log → List (Deed S S) → Type 0
Holds taken log all = IsTrue log.has_lost ⊎ (map look_at log.records.items ≡ map (look taken) all)

-- a deed that looks so was added to it, or lost
abbrev pub Notes : {S : Type 0} → (taken : S → Option (List ℕ)) → (old new : Log) → Look → Type 0
Notes {S} taken old new seen = (deed : Deed S S) → look taken deed ≡ seen → Adds (Holds taken old) (Holds taken new) (deed ∷ [])
