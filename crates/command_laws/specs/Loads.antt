-- Which bytes of files a command has seen.
use Rattle.std.specs.Prelude.{◌≡◌, ℕ, Bool, true, List, Option, Some, Result, Ok}
use Rattle.page_layout.specs.declared.geometry.Geometry.{Geometry}
use Rattle.command_words.specs.declared.words.FileWords.{FileWords}
use Rattle.commands.specs.declared.files.FileFault.{FileFault}
use Rattle.commands.specs.Files.{IsOpened}
use Rattle.commands.specs.Format.{HasInput}

-- THE BYTES OF AN OPENED FILE are known where the store tells, and a load of its path may answer them
abbrev pub KnownLaw : {F : Type 0} → (F → List ℕ → Result (List ℕ) FileFault → Type 0) → (F → Bool) → Type 0
KnownLaw {F} gives tells = (store : F) (path : List ℕ) (known : Option (List ℕ)) → IsOpened (gives store) (tells store) path known → tells store ≡ true
    → (bytes : List ℕ) × (known ≡ Some bytes) × gives store path (Ok bytes)

-- WHAT A FORMAT READS is what a load of its file answered
abbrev pub InputLaw : {F : Type 0} → (F → List ℕ → Result (List ℕ) FileFault → Type 0) → Type 0
InputLaw {F} gives = (store : F) (words : FileWords) (g : Geometry) (bytes : List ℕ) → HasInput (gives store) words g bytes → gives store words.input.now (Ok bytes)
