-- What a run of the program comes to.
use Rattle.std.specs.Prelude.{◌≡◌, ◌⊎◌, ℕ, Bool, List, [], ◌∷◌, Option, Result, Ok, Err}
use Rattle.std.specs.Io.KnownBytes.{Keeps}
use Rattle.commands.specs.Files.{LoadAnswers, Left, LeavesUntouched, TakenFile, TakesFiles, loaded_file, opened_file}
use Rattle.commands.specs.declared.text.CommandFault.{CommandFault}
use Rattle.commands.specs.declared.text.CommandFault.TheVariants.{NoSuchCommand, OutOfMemory}
use Rattle.command_words.specs.declared.words.Order.{Order}
use Rattle.command_words.specs.declared.words.Order.TheVariants as order
use Rattle.command_words.specs.Words.{IsOrder}
use Rattle.commands.specs.Sector.{DoesSector}
use Rattle.commands.specs.Show.{DoesShow}
use Rattle.commands.specs.Check.{DoesCheck}
use Rattle.commands.specs.Mount.{DoesMount}
use Rattle.commands.specs.Format.{DoesFormat}
use Rattle.commands.specs.Serve.{DoesServe}
use Rattle.commands.specs.Migrate.{DoesMigrate}
use Rattle.commands.specs.Text.{IsCommandFaultTold}

-- What an order came to, with what standard input had before and after. `serve` alone reads it: with each other order it has what it had.
abbrev pub OrderComesTo : LoadAnswers → Bool → Order → Option (List ℕ) → Option (List ℕ) → Left → Left → Result (Unit {0}) CommandFault → Type 0
OrderComesTo gives tells (order.Sector words) unread left before after result = DoesSector gives words before.out after.out result × (after.stores ≡ before.stores) × Keeps unread left
OrderComesTo gives tells (order.Show words) unread left before after result = DoesShow gives words before.out after.out result × (after.stores ≡ before.stores) × Keeps unread left
OrderComesTo gives tells (order.Format words) unread left before after result = DoesFormat gives words before after result × Keeps unread left
OrderComesTo gives tells (order.Check words) unread left before after result = DoesCheck gives tells words before.out after.out result × (after.stores ≡ before.stores) × Keeps unread left
OrderComesTo gives tells (order.Mount words) unread left before after result = DoesMount gives words before after result × Keeps unread left
OrderComesTo gives tells (order.Serve words) unread left before after result = DoesServe gives words unread left before after result
OrderComesTo gives tells (order.Migrate words) unread left before after result = DoesMigrate gives words before after result × Keeps unread left

-- the words are an order, and it came to this
abbrev pub DoesOrder : LoadAnswers → Bool → List (List ℕ) → Option (List ℕ) → Option (List ℕ) → Left → Left → Result (Unit {0}) CommandFault → Type 0
DoesOrder gives tells words unread left before after result = (order : Order) × IsOrder words order × OrderComesTo gives tells order unread left before after result

-- What the words came to, with what standard input had, and the stores and the bytes of standard output before and after. Words that are
-- no order leave all three as they were.
abbrev pub Obeys : LoadAnswers → Bool → List (List ℕ) → Option (List ℕ) → Option (List ℕ) → Left → Left → Result (Unit {0}) CommandFault → Type 0
Obeys gives tells words unread left before after (Err NoSuchCommand) = LeavesUntouched before after × Keeps unread left × ((order : Order) → ¬ IsOrder words order)
Obeys gives tells words unread left before after (Err OutOfMemory) = (LeavesUntouched before after × Keeps unread left) ⊎ DoesOrder gives tells words unread left before after (Err OutOfMemory)
Obeys gives tells words unread left before after result = DoesOrder gives tells words unread left before after result

-- The files that an order asks for. `check` alone does not load its image whole: it has a reader of it.
abbrev pub files_of : Order → List TakenFile
files_of (order.Sector words) = loaded_file words.image.now ∷ []
files_of (order.Show words) = loaded_file words.image.now ∷ []
files_of (order.Format words) = loaded_file words.input.now ∷ []
files_of (order.Check words) = opened_file words.image.now ∷ (loaded_file words.certificate.now ∷ [])
files_of (order.Mount words) = loaded_file words.image.now ∷ []
files_of (order.Serve words) = loaded_file words.image.now ∷ (loaded_file words.certificate.now ∷ [])
files_of (order.Migrate words) = loaded_file words.image.now ∷ (loaded_file words.certificate.now ∷ [])

-- the words are an order, and no files but its own were asked for
pub record TakesItsFiles (words : List (List ℕ)) (before after : Option (List TakenFile)) (result : Result (Unit {0}) CommandFault) : Type 0 where
  pub order : Order
  pub is : IsOrder words order
  pub takes : TakesFiles (files_of order) before after result

-- The files that the words have asked for: those of their order, or none where they are none.
abbrev pub ObeyingTakes : List (List ℕ) → Option (List TakenFile) → Option (List TakenFile) → Result (Unit {0}) CommandFault → Type 0
ObeyingTakes words before after (Ok done) = TakesItsFiles words before after (Ok done)
ObeyingTakes words before after (Err stop) = (after ≡ before) ⊎ TakesItsFiles words before after (Err stop)

-- Status 0 and nothing on standard error where all was done; else the fault's line there, and its status.
abbrev pub TellsFaultAndStatus : Result (Unit {0}) CommandFault → Option (List ℕ) → Option (List ℕ) → ℕ → Type 0
TellsFaultAndStatus (Ok done) before after status = (status ≡ 0) × Keeps before after
TellsFaultAndStatus (Err fault) before after status = IsCommandFaultTold fault before after status

-- what the words came to and what was told of it: the stores and standard output, the files that were asked for, and standard error, each before and after, and the status
abbrev pub CommandRuns : LoadAnswers → Bool → List (List ℕ) → Option (List ℕ) → Option (List ℕ) → Left → Left → Option (List TakenFile) → Option (List TakenFile) → Option (List ℕ) → Option (List ℕ) → ℕ → Type 0
CommandRuns gives tells words unread left before after taken taking told telling status =
    (done : Result (Unit {0}) CommandFault) × Obeys gives tells words unread left before after done × ObeyingTakes words taken taking done × TellsFaultAndStatus done told telling status
