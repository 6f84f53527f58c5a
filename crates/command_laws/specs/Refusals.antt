-- What a refusal says of what the command was given.
use Rattle.std.specs.Prelude.{◌≡◌, ◌⊎◌, ◌<◌, ◌≤◌, ℕ, Bool, List, [], ◌++◌, Option, Some, None, Result, Ok, Err}
use Rattle.std.specs.Borrow.{Bor}
use Rattle.std.specs.Io.KnownBytes.{Keeps}
use Rattle.page_layout.specs.declared.geometry.Geometry.{Geometry}
use Rattle.page_layout.specs.Geometry.{need, row_count}
use Rattle.page_layout.specs.Raw.{raw_image}
use Rattle.mount.specs.Formatted.{good_after}
use Rattle.mount.specs.declared.format_fault.FormatFault.TheVariants.{TooFewGood}
use Rattle.image_check.specs.declared.scan.SectorFault.TheVariants.{OutOfRange}
use Rattle.program_words.specs.Numbers.{number_of}
use Rattle.command_words.specs.declared.words.ImageWords.{ImageWords}
use Rattle.command_words.specs.declared.words.FileWords.{FileWords}
use Rattle.command_words.specs.declared.words.ServeWords.{ServeWords}
use Rattle.command_words.specs.declared.words.Order.{Order}
use Rattle.command_words.specs.declared.words.Order.TheVariants as order
use Rattle.command_words.specs.Words.{IsOrder}
use Rattle.commands.specs.declared.files.FileFault.{FileFault}
use Rattle.commands.specs.declared.files.FileFault.TheVariants.{Failed}
use Rattle.commands.specs.declared.text.CommandFault.{CommandFault}
use Rattle.commands.specs.declared.text.CommandFault.TheVariants as fault
use Rattle.commands.specs.declared.text.ServeStop.{ServeStop}
use Rattle.commands.specs.Files.{Left, LeavesUntouched, TakenFile, with_store, unwritten_file}
use Rattle.commands.specs.Sector.{AsksForNumber, DoesSector}
use Rattle.commands.specs.Show.{DoesShow}
use Rattle.commands.specs.Format.{DoesFormat, IsGeometry}
use Rattle.commands.specs.Serve.{DoesServe, HasServedImage, stop_in}
use Rattle.commands.specs.Text.{command_fault_line, stop_words}
use Rattle.commands.specs.Commands.{CommandRuns, OrderComesTo}

-- A ROW OF THE DIE IS NOT REFUSED: where `show` says `RowRange`, the row that its words ask for is past the die
abbrev pub RowPastDieLaw : {F : Type 0} → (F → List ℕ → Result (List ℕ) FileFault → Type 0) → Type 0
RowPastDieLaw {F} gives = (store : F) (words : ImageWords) (before after : Option (List ℕ)) → DoesShow (gives store) words before after (Err fault.RowRange)
    → (g : Geometry) (row : ℕ) → AsksForNumber words g row → row_count g ≤ row

-- NOR IS A SECTOR OF THE GEOMETRY: where `sector` says `OutOfRange`, the one that its words ask for is past the last
abbrev pub SectorPastLastLaw : {F : Type 0} → (F → List ℕ → Result (List ℕ) FileFault → Type 0) → Type 0
SectorPastLastLaw {F} gives = (store : F) (words : ImageWords) (before after : Option (List ℕ)) → DoesSector (gives store) words before after (Err (fault.Sector OutOfRange))
    → (g : Geometry) (n : ℕ) → AsksForNumber words g n → g.sectors ≤ n

-- `format` SAYS TOO FEW GOOD BLOCKS where there are too few: of the two numbers that it tells the first is less. It is of the blocks that are unmarked in
-- an image that IN may hold, and the second is what the geometry needs.
abbrev pub TooFewGoodLaw : {F : Type 0} → (F → List ℕ → Result (List ℕ) FileFault → Type 0) → Type 0
TooFewGoodLaw {F} gives = (store : F) (words : FileWords) (before after : Left) (good asked : ℕ) → DoesFormat (gives store) words before after (Err (fault.Format (TooFewGood good asked)))
    → (good < asked) × ((g : Geometry) → IsGeometry words g
    → (asked ≡ need g) × ((bytes : List ℕ) × gives store words.input.now (Ok bytes) × (good ≡ good_after g (raw_image g bytes) [])))

-- the order has a word for the cache's capacity, which is this number
abbrev pub GivesCapacity : Order → ℕ → Type 0
GivesCapacity (order.Check words) n = number_of words.capacity.now ≡ Some n
GivesCapacity (order.Mount words) n = number_of words.capacity.now ≡ Some n
GivesCapacity (order.Serve words) n = number_of words.capacity.now ≡ Some n
GivesCapacity (order.Migrate words) n = number_of words.capacity.now ≡ Some n
GivesCapacity _ n = ⊥

-- A CAPACITY FROM 1 TO 65536 IS NOT REFUSED, by any command: one that says `Capacity` was given 0, or more
abbrev pub CapacityLaw : {F : Type 0} → (F → List ℕ → Result (List ℕ) FileFault → Type 0) → Type 0
CapacityLaw {F} gives = (store : F) (tells : Bool) (asked : Order) (unread left : Option (List ℕ)) (before after : Left)
    → OrderComesTo (gives store) tells asked unread left before after (Err fault.Capacity) → (n : ℕ) × GivesCapacity asked n × ((n ≡ 0) ⊎ (65536 < n))

-- the path is that of the file that `check` reads as it goes
abbrev pub IsCheckedFile : Order → List ℕ → Type 0
IsCheckedFile (order.Check words) path = path ≡ words.image.now
IsCheckedFile _ path = ⊥

-- `fault read PATH` IS SAID by no command of a file that each load gives; of the image of `check` it may be
abbrev pub UnreadFileLaw : {F : Type 0} → (F → List ℕ → Result (List ℕ) FileFault → Type 0) → Type 0
UnreadFileLaw {F} gives = (store : F) (tells : Bool) (asked : Order) (unread left : Option (List ℕ)) (before after : Left) (path : Bor (List ℕ))
    → OrderComesTo (gives store) tells asked unread left before after (Err (fault.Read path)) → gives store path.now (Err Failed) ⊎ IsCheckedFile asked path.now

-- its line begins with what stopped the server
abbrev pub TellsStop : ServeStop → CommandFault → Type 0
TellsStop stopped told = (more : List ℕ) × (command_fault_line told ≡ stop_words stopped ++ more)

-- WHAT STOPPED A SERVER IS WHAT IT TELLS. Where `serve` was not done, it read nothing and left all as it was; or it served, and its line begins with
-- the stop that came. Where none came, it is the store that was not done.
abbrev pub StopToldLaw : {F : Type 0} → (F → List ℕ → Result (List ℕ) FileFault → Type 0) → Type 0
StopToldLaw {F} gives = (store : F) (words : ServeWords) (unread left : Option (List ℕ)) (before after : Left) (told : CommandFault)
    → DoesServe (gives store) words unread left before after (Err told)
    → (LeavesUntouched before after × Keeps unread left)
    ⊎ ((ran : HasServedImage (gives store) words unread left before after (Err told))
    × ((stopped : ServeStop) → stop_in ran.came ≡ Some stopped → TellsStop stopped told)
    × (stop_in ran.came ≡ None → (after.stores ≡ with_store before.stores (unwritten_file words.output.now ran.image)) ⊎ (after.stores ≡ before.stores)))

-- STANDARD INPUT is as it was after a run, unless its words are those of `serve`
abbrev pub InputKeptLaw : {F : Type 0} → (F → List ℕ → Result (List ℕ) FileFault → Type 0) → Type 0
InputKeptLaw {F} gives = (store : F) (tells : Bool) (words : List (List ℕ)) (unread left : Option (List ℕ)) (before after : Left) (taken taking : Option (List TakenFile)) (told telling : Option (List ℕ)) (status : ℕ)
    → CommandRuns (gives store) tells words unread left before after taken taking told telling status → Keeps unread left ⊎ ((serve : ServeWords) × IsOrder words (order.Serve serve))
