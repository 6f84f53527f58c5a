-- What `clap` makes of the words of a command line.
use Rattle.std.specs.Prelude.{◌≡◌, ◌≢◌, ◌⊎◌, ℕ, zero, suc, Bool, true, false, List, [], Option, Some, None, map, option_map}
use Rattle.std.specs.Borrow.{Bor}
use Rattle.clap.specs.declared.error.Error.{Error}
use Rattle.clap.specs.declared.error.kind.ErrorKind.{ErrorKind}
use Rattle.clap.specs.declared.error.kind.ErrorKind.TheVariants.{DisplayHelp, DisplayVersion, OutOfMemory}
use Rattle.clap.specs.Words.{App, Row, fault_of, found_of, kind_of, rows_of, subcommand_of, IsAmong}
use Rattle.program_words.specs.declared.met.CommandWords.{CommandWords}
use Rattle.program_words.specs.declared.met.Met.{Met}
use Rattle.program_words.specs.declared.met.Met.TheVariants as met

-- the texts behind references
abbrev pub texts : List (Bor (List ℕ)) → List (List ℕ)
texts words = map (λ word. word.now) words

-- whether a word that may stand once stood, by how often it did
abbrev pub once : ℕ → Option Bool
once zero = Some false
once (suc zero) = Some true
once (suc (suc n)) = None

-- whether a word stood, however often, by how often it did
abbrev pub stood : ℕ → Bool
stood zero = false
stood (suc n) = true

-- ---- an error

-- it is the text of help or of the version
abbrev pub IsTextFor : Error → Type 0
IsTextFor e = (kind_of e ≡ DisplayHelp) ⊎ (kind_of e ≡ DisplayVersion)

-- it is of another kind, and memory didn't run out
pub record IsOther (k : ErrorKind) : Type 0 where
  pub help : k ≢ DisplayHelp
  pub version : k ≢ DisplayVersion
  pub memory : k ≢ OutOfMemory

abbrev pub IsOtherKind : Error → Type 0
IsOtherKind e = IsOther (kind_of e)

-- ---- the words, by a grammar

-- they ask for help or for the version
abbrev pub AsksText : App → List (List ℕ) → Type 0
AsksText g words = IsAmong DisplayHelp (fault_of g words) ⊎ IsAmong DisplayVersion (fault_of g words)

-- `clap` finds a fault of another kind in them
pub record HasFault (g : App) (words : List (List ℕ)) : Type 0 where
  pub kind : ErrorKind
  pub among : IsAmong kind (fault_of g words)
  pub other : IsOther kind

-- the entries of the words of a command
abbrev pub command_entries : CommandWords → List Row
command_entries words = rows_of (found_of words.matches)

-- the command that was met has this name, and its words these entries
pub record Names (met : Option (List ℕ × List Row)) (name : List ℕ) (rows : List Row) : Type 0 where
  pub named : option_map (λ p. p.0) met ≡ Some name
  pub entries : option_map (λ p. p.1) met ≡ Some rows

-- WHAT THEY CAME TO: no fault is found in them, and they name this command with these words; or they ask for a text
abbrev pub IsMet : App → List (List ℕ) → Met → Type 0
IsMet g words (met.Command name given) = (fault_of g words ≡ []) × Names (subcommand_of g words) name.now (command_entries given)
IsMet g words (met.Text text) = AsksText g words

-- a fault is found in them, or they name no command
abbrev pub IsUnmet : App → List (List ℕ) → Type 0
IsUnmet g words = HasFault g words ⊎ (fault_of g words ≡ []) × (subcommand_of g words ≡ None)

-- ---- what they ask for, where a command with such words asks for such a thing

-- the command that was met asks for it
pub record IsCommandOf {A : Type 0} (at : List ℕ → List Row → A → Type 0) (met : Option (List ℕ × List Row)) (found : A) : Type 0 where
  pub name : List ℕ
  pub rows : List Row
  pub names : Names met name rows
  pub read : at name rows found

-- no fault is found in the words, and they name a command that asks for it
abbrev pub NamesCommand : {A : Type 0} → (List ℕ → List Row → A → Type 0) → App → List (List ℕ) → A → Type 0
NamesCommand at g words found = (fault_of g words ≡ []) × IsCommandOf at (subcommand_of g words) found

-- no fault is found in them, and they name no command with its words
pub record NamesNone {A : Type 0} (at : List ℕ → List Row → A → Type 0) (g : App) (words : List (List ℕ)) : Type 0 where
  pub taken : fault_of g words ≡ []
  pub none : (found : A) → ¬ IsCommandOf at (subcommand_of g words) found

abbrev pub IsNoCommand : {A : Type 0} → (List ℕ → List Row → A → Type 0) → App → List (List ℕ) → Type 0
IsNoCommand at g words = HasFault g words ⊎ NamesNone at g words
