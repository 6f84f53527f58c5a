-- What files in memory hold, and what a load of them may answer.
use Rattle.std.specs.Prelude.{◌≡◌, ◌≢◌, ◌⊎◌, ℕ, List, Some, slice_get, Result, Ok, Err}
use Rattle.commands.specs.declared.files.FileFault.{FileFault}
use Rattle.commands.specs.declared.files.FileFault.TheVariants.{Failed, OutOfMemory}
use Rattle.commands.specs.Files.{Stored, written_file}

-- one of the files has this path and these bytes, and was written
abbrev pub HasFile : List Stored → List ℕ → List ℕ → Type 0
HasFile files path bytes = (at : ℕ) × (slice_get files at ≡ Some (written_file path bytes))

-- none of them has this path
abbrev pub LacksFile : List Stored → List ℕ → Type 0
LacksFile files path = (at : ℕ) (file : Stored) → slice_get files at ≡ Some file → file.path ≢ path

-- The bytes are those of a file of the path that was stored, or was there before. It fails only where none was there, since no other is written.
abbrev pub MayAnswerLoad : (given stored : List Stored) → List ℕ → Result (List ℕ) FileFault → Type 0
MayAnswerLoad given stored path (Ok bytes) = HasFile stored path bytes ⊎ HasFile given path bytes
MayAnswerLoad given stored path (Err Failed) = LacksFile given path
MayAnswerLoad given stored path (Err OutOfMemory) = Unit {0}
