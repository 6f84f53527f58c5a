-- WHAT IS LOST OF THE DISK AT A PATH: the list beside it, and what its pages show.
use Rattle.std.specs.Prelude.{◌≡◌, ◌≢◌, ◌⊎◌, ◌+◌, ℕ, ◌≤◌, nat_le, ◌==◌, ◌&&◌, Bool, true, false, List, [], ◌∷◌, length, replicate, sum_by, Option, if◌then◌else◌}
use Rattle.std.specs.Borrow.{Bor}
use Rattle.std.specs.Io.KnownBytes.{Appends}
use Rattle.certificate.specs.Claim.{Claim}
use Rattle.file_die.specs.Store.{Held}
use Rattle.coded_store.specs.declared.coded.Mended.{Mended}
use Rattle.disk_commands.specs.declared.shapes.Code.{Code}
use Rattle.mount.specs.Mounted.{IsMounted}
use Rattle.lost_sectors.specs.Lost.{Adds, DropsNone, is_lost}
use Rattle.disk_damage.specs.declared.list_text.ListFault.{ListFault}
use Rattle.disk_damage.specs.declared.list_text.ListFault.TheVariants as listing
use Rattle.disk_damage.specs.Found.{IsUnfound}
use Rattle.disk_damage.specs.ListText.{IsListText, IsNoList}
use Rattle.disk_damage.specs.Numbers.{listed_sectors}
use Rattle.disk_server.specs.declared.opened.OpenStoreFault.{OpenStoreFault}
use Rattle.disk_server.specs.declared.opened.OpenStoreFault.TheVariants as why
use Rattle.disk_server.specs.Opened.{HasCome}
use Rattle.image_check.specs.declared.refusal.Refusal.TheVariants as refusal
use Rattle.disk_commands.specs.declared.files.DiskFileFault.{DiskFileFault}
use Rattle.disk_commands.specs.declared.files.DiskFileFault.TheVariants as file
use Rattle.disk_commands.specs.declared.mark.FoundMark.{FoundMark}
use Rattle.disk_commands.specs.declared.shape_text.DiskText.{DiskText}
use Rattle.disk_commands.specs.declared.text.DiskCommandFault.{DiskCommandFault}
use Rattle.disk_commands.specs.declared.text.DiskCommandFault.TheVariants as fault
use Rattle.disk_commands.specs.Files.{DiskFileAnswers}
use Rattle.disk_commands.specs.Info.{lost_lines, mended_lines}
use Rattle.disk_commands.specs.Opening.{IsMarkAt, IsNotAt, IsStoreAt, IsTextAt}

-- ---- the list beside a disk

-- by whether its shape says that one stands there: what its file says of each sector, which is read far enough to see that no more stands there; else none is lost
abbrev pub IsListBy : (listed : Bool) → DiskFileAnswers → (path : List ℕ) → (sectors : ℕ) → List Bool → Type 0
IsListBy false a path sectors lost = lost ≡ replicate sectors false
IsListBy true a path sectors lost = (text : List ℕ) × a.lists path (sectors + 2) text × IsListText text sectors lost

abbrev pub IsListAt : DiskFileAnswers → (path : List ℕ) → DiskText → List Bool → Type 0
IsListAt a path told lost = IsListBy told.lost a path told.shape.geometry.sectors lost

-- how it is told that it could not be read, or is none
abbrev pub unread_list : DiskFileFault → Bor (List ℕ) → DiskCommandFault
unread_list file.OutOfMemory path = fault.OutOfMemory
unread_list why path = fault.ReadList path

abbrev pub no_list : ListFault → Bor (List ℕ) → DiskCommandFault
no_list listing.OutOfMemory path = fault.OutOfMemory
no_list why path = fault.List path why

-- WHY THERE IS NONE, where one is to stand there: its file could not be read, or is no list of so many sectors; or a growth was refused
abbrev pub IsNoListAt : DiskFileAnswers → (path : List ℕ) → DiskText → DiskCommandFault → Type 0
IsNoListAt a path told (fault.List at why) = (told.lost ≡ true) × (at.now ≡ path) × ((text : List ℕ) × a.lists path (told.shape.geometry.sectors + 2) text × IsNoList text told.shape.geometry.sectors why)
IsNoListAt a path told (fault.ReadList at) = (told.lost ≡ true) × (at.now ≡ path) × ((why : DiskFileFault) × a.fails path why × (why ≢ file.OutOfMemory))
IsNoListAt a path told fault.OutOfMemory = Unit {0}
IsNoListAt a path told _ = ⊥

-- ---- the disk

-- A DISK THAT WAS LOOKED AT: the store at the path came back of a mount with its certificate. Lost are the sectors on the list beside the disk, and those of the store's pages at the mark
pub record IsLookedAt {S : Type 0} (held : S → Held) (honest : S → Bool) (a : DiskFileAnswers) (path : List ℕ) (told : DiskText) (found : FoundMark) (store : S) (certificate : Claim) (lost : List Bool) : Type 0 where
  pub first : S
  pub at : IsStoreAt held honest a path told first
  pub mark : IsMarkAt a path told.marked found
  pub back : HasCome held honest first store
  pub mounted : honest first ≡ true → IsMounted (held first).geometry 65536 (held first).pages certificate
  pub list : List Bool
  pub listed : IsListAt a path told list
  pub lost_are : honest first ≡ true → Adds (is_lost (held first).geometry (held first).pages found.mark.flushed) 0 (held first).geometry.sectors list lost
  pub kept : DropsNone list lost

-- whether a store has no disk since a growth was refused: that is told by itself
abbrev pub wants_memory : OpenStoreFault → Bool
wants_memory why.OutOfMemory = true
wants_memory (why.Mount refusal.OutOfMemory) = true
wants_memory other = false

-- HOW IT IS TOLD THAT THE STORE OF A FILE HAS NO DISK
abbrev pub no_disk : Bor (List ℕ) → OpenStoreFault → DiskCommandFault
no_disk path why = if wants_memory why then fault.OutOfMemory else fault.Open path why

-- the store at the path was not mounted, or its lost sectors were not found
abbrev pub IsNoneFound : {S : Type 0} → (S → Held) → (honest : S → Bool) → (failed : S → ℕ) → DiskFileAnswers → (path : List ℕ) → DiskCommandFault → Type 0
IsNoneFound {S} held honest failed a path (fault.Open at why) = (at.now ≡ path) × (wants_memory why ≡ false) × ((told : DiskText) × (store given : S) × IsStoreAt held honest a path told store × IsUnfound held honest failed store given why)
IsNoneFound held honest failed a path _ = ⊥

-- a growth was refused
abbrev pub IsOutOfMemory : DiskCommandFault → Type 0
IsOutOfMemory fault.OutOfMemory = Unit {0}
IsOutOfMemory _ = ⊥

-- why it was not: the disk was not opened, or its mark not read; its list was not read; its store was not mounted; or a growth was refused
abbrev pub IsUnlookedAt : {S : Type 0} → (S → Held) → (honest : S → Bool) → (failed : S → ℕ) → DiskFileAnswers → (path : List ℕ) → DiskCommandFault → Type 0
IsUnlookedAt held honest failed a path why =
    IsNotAt a path why
    ⊎ (IsOutOfMemory why
    ⊎ (((told : DiskText) × IsTextAt a path told × IsNoListAt a path told why)
    ⊎ IsNoneFound held honest failed a path why))

-- ---- what is told of it

-- nothing where no sector is lost
abbrev pub named_text : List ℕ → List ℕ
named_text [] = []
named_text (n ∷ ns) = lost_lines (n ∷ ns)

-- THE LOST SECTORS WERE NAMED
abbrev pub NamesLost : (lost : List Bool) → (before after : Option (List ℕ)) → Type 0
NamesLost lost before after = Appends before after (named_text (listed_sectors lost))

-- WHAT WAS WRONG WITH ITS PAGES WAS TOLD: nothing where nothing was, or where they have no code
abbrev pub told_mended : Code → Mended → List ℕ
told_mended code mended = if mended.turned == 0 && mended.lost == 0 then [] else mended_lines code mended

abbrev pub NamesMended : Code → Mended → (before after : Option (List ℕ)) → Type 0
NamesMended code mended before after = Appends before after (told_mended code mended)

-- both, one after the other
abbrev pub NamesAll : (lost : List Bool) → Code → Mended → (before after : Option (List ℕ)) → Type 0
NamesAll lost code mended before after = (between : Option (List ℕ)) × NamesLost lost before between × NamesMended code mended between after
