-- What a command leaves behind: the files that were stored, and standard output.
use Rattle.std.specs.Prelude.{◌≡◌, ℕ, Bool, true, false, List, [], ◌∷◌, ◌++◌, Option, IfSome, IsSome, Result, Ok, Err, take}
use Rattle.std.specs.Option.{option_map}
use Rattle.std.specs.Io.KnownBytes.{Keeps}
use Rattle.commands.specs.declared.files.FileFault.{FileFault}
use Rattle.commands.specs.declared.files.FileFault.TheVariants as file
use Rattle.commands.specs.declared.text.CommandFault.{CommandFault}
use Rattle.commands.specs.declared.text.CommandFault.TheVariants as fault

-- what a load of a path may answer
abbrev pub LoadAnswers : Type 1
LoadAnswers = List ℕ → Result (List ℕ) FileFault → Type 0

-- what a reader of the path tells is what a load of it may answer, and where the store tells, the reader does
pub record IsOpened (gives : LoadAnswers) (tells : Bool) (path : List ℕ) (known : Option (List ℕ)) : Type 0 where
  pub bytes : IfSome known (λ bytes. gives path (Ok bytes))
  pub told : tells ≡ true → IsSome known

-- a file that was asked for, to be loaded whole or to be read piece by piece
pub record TakenFile : Type 0 where
  pub path : List ℕ
  pub whole : Bool

abbrev pub loaded_file : List ℕ → TakenFile
loaded_file path = record { path = path; whole = true }

abbrev pub opened_file : List ℕ → TakenFile
opened_file path = record { path = path; whole = false }

-- the files that were asked for so far, where they are known, and then more
abbrev pub with_taken : Option (List TakenFile) → List TakenFile → Option (List TakenFile)
with_taken taken more = option_map (λ known. known ++ more) taken

-- Where all was done, just these files were asked for, each once and in this order; else a beginning of them, and no other.
abbrev pub TakesFiles : {T : Type 0} → List TakenFile → Option (List TakenFile) → Option (List TakenFile) → Result T CommandFault → Type 0
TakesFiles files before after (Ok done) = after ≡ with_taken before files
TakesFiles files before after (Err stop) = (count : ℕ) × (after ≡ with_taken before (take count files))

-- a file that was handed over to be written, whole, and whether it was
pub record Stored : Type 0 where
  pub path : List ℕ
  pub bytes : List ℕ
  pub done : Bool

abbrev pub written_file : List ℕ → List ℕ → Stored
written_file path bytes = record { path = path; bytes = bytes; done = true }

abbrev pub unwritten_file : List ℕ → List ℕ → Stored
unwritten_file path bytes = record { path = path; bytes = bytes; done = false }

-- the stores so far, where they are known, and then one more
abbrev pub with_store : Option (List Stored) → Stored → Option (List Stored)
with_store stores last = option_map (λ known. known ++ (last ∷ [])) stores

-- The stores after one, by its answer. For want of memory none was begun.
abbrev pub stores_after : Option (List Stored) → List ℕ → List ℕ → Result (Unit {0}) FileFault → Option (List Stored)
stores_after stores path bytes (Ok done) = with_store stores (written_file path bytes)
stores_after stores path bytes (Err file.Failed) = with_store stores (unwritten_file path bytes)
stores_after stores path bytes (Err file.OutOfMemory) = stores

-- the fault says that the path's file was not written, for itself or for want of memory
abbrev pub IsUnstored : List ℕ → List ℕ → Option (List Stored) → Option (List Stored) → CommandFault → Type 0
IsUnstored text bytes before after (fault.Write path) = (path.now ≡ text) × (after ≡ with_store before (unwritten_file text bytes))
IsUnstored text bytes before after fault.OutOfMemory = after ≡ before
IsUnstored text bytes before after _ = ⊥

-- the stores so far, and the bytes of standard output, as far as they are known
pub record Left : Type 0 where
  pub stores : Option (List Stored)
  pub out : Option (List ℕ)

abbrev pub left_behind : Option (List Stored) → Option (List ℕ) → Left
left_behind stores out = record { stores = stores; out = out }

-- nothing was stored and nothing written
abbrev pub LeavesUntouched : Left → Left → Type 0
LeavesUntouched before after = (after.stores ≡ before.stores) × Keeps before.out after.out
