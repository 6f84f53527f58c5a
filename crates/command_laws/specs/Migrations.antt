-- What bringing an image forward comes to.
use Rattle.std.specs.Prelude.{◌≡◌, ◌⊎◌, ℕ, zero, suc, ◌+◌, ◌≤◌, true, false, List, [], ◌++◌, codes, Option, Result, Ok, Err}
use Rattle.std.specs.Io.KnownBytes.{Appends, Keeps}
use Rattle.page_layout.specs.View.{View}
use Rattle.page_layout.specs.declared.geometry.Geometry.{Geometry}
use Rattle.page_layout.specs.declared.record.Key.{Key}
use Rattle.page_layout.specs.Array.{array_of}
use Rattle.page_layout.specs.Flash.{Flash, Leads}
use Rattle.page_layout.specs.Sound.{version_for}
use Rattle.page_layout.specs.Raw.{raw_image, raw_bytes}
use Rattle.page_layout.specs.Version.{is_old, old_pages}
use Rattle.certificate.specs.Claim.{Claim}
use Rattle.promises.specs.Legal.{IsLegal}
use Rattle.image_check.specs.Mountable.{IsMountable}
use Rattle.image_check.specs.Stale.{stale_sectors}
use Rattle.nand_die.specs.Made.{loaded_flash}
use Rattle.mount.specs.Log.{failures}
use Rattle.allocation.specs.State.{free_count}
use Rattle.collection.specs.Safe.{ram, image_in}
use Rattle.collection.specs.Renew.{IsNextDue}
use Rattle.ftl_device.specs.declared.device.Device.{Device}
use Rattle.ftl_device.specs.Begin.{is_bad_in}
use Rattle.ftl_device.specs.Renewed.{HasOldTablesOnly}
use Rattle.ftl_device.specs.Brings.{BringsOne}
use Rattle.ftl_device.specs.declared.fault.DeviceFault.{DeviceFault}
use Rattle.command_words.specs.declared.words.ServeWords.{ServeWords}
use Rattle.commands.specs.declared.files.FileFault.{FileFault}
use Rattle.commands.specs.declared.text.CommandFault.{CommandFault}
use Rattle.commands.specs.Check.{AsksForCapacity}
use Rattle.commands.specs.Files.{Left, Stored, with_store, written_file, unwritten_file}
use Rattle.commands.specs.Migrate.{CallsMigrate, DoesMigrate, EndsShort, MigratesDie, migrated_line}
use Rattle.commands.specs.Serve.{Driver, bad_in, checked_words, flash_behind, driver_view}
use Rattle.commands.specs.Text.{device_words, command_fault_line}

-- WHATEVER CAME OF THE CALLS, the bytes are those of the die's pages. Its array is that of the image before, and it mounts. One legal log leads to the die,
-- and of a die that was loaded with the certificate's bad blocks no program and no erase in it failed.
abbrev pub MigratedLaw : Type 0
MigratedLaw = (g : Geometry) (capacity : ℕ) (c : Claim) (s : Flash) (after : List ℕ) (came : Result ℕ DeviceFault) (m : MigratesDie g capacity c s after came)
    → (after ≡ raw_bytes (flash_behind m.last.engine.nand).image) × (raw_image g after ≡ (flash_behind m.last.engine.nand).image)
    × (array_of g (raw_image g after) ≡ array_of g s.image)
    × (capacity + g.pages ≤ 65536 → IsMountable g (capacity + g.pages) (raw_image g after))
    × Leads s m.went.log (flash_behind m.last.engine.nand) × IsLegal g s.image (is_bad_in c) m.went.log
    × ((before : List ℕ) → s ≡ loaded_flash g before (bad_in g c) → failures m.went.log ≡ 0)

-- WHERE NO CALL WAS REFUSED no newest page is of version 1, whatever it is of, no sector is stale, and the image mounts with any cache
abbrev pub SettledLaw : Type 0
SettledLaw = (g : Geometry) (capacity : ℕ) (c : Claim) (s : Flash) (after : List ℕ) (count : ℕ) → MigratesDie g capacity c s after (Ok count)
    → ((key : Key) → is_old (raw_image g after) key ≡ false) × (stale_sectors g (raw_image g after) ≡ [])
    × ((n : ℕ) → 1 ≤ n → n ≤ 65536 → IsMountable g n (raw_image g after))

-- its line begins with the device's refusal
abbrev pub TellsRefusal : DeviceFault → CommandFault → Type 0
TellsRefusal refused stop = (more : List ℕ) × (command_fault_line stop ≡ codes "refused migrate " ++ (device_words refused ++ more))

-- one file was handed over to be written after the others, whether it was, or not, or none was
abbrev pub HasTriedToStore : List ℕ → List ℕ → Option (List Stored) → Option (List Stored) → Type 0
HasTriedToStore path image before after = (after ≡ with_store before (written_file path image)) ⊎ (after ≡ with_store before (unwritten_file path image)) ⊎ (after ≡ before)

-- HOW IT ENDS SHORT: a call that was refused is told, and the image is stored all the same, or that is tried; where none was, it ends short since the
-- image could not be stored
abbrev pub EndsShortLaw : Type 0
EndsShortLaw = (path image : List ℕ) (came : Result ℕ DeviceFault) (before after : Option (List Stored)) (stop : CommandFault) → EndsShort path image came before after stop
    → ((refused : DeviceFault) → came ≡ Err refused → TellsRefusal refused stop × HasTriedToStore path image before after)
    × ((count : ℕ) → came ≡ Ok count → (after ≡ with_store before (unwritten_file path image)) ⊎ (after ≡ before))

-- the words ask for this geometry and capacity, and a load of IMAGE may answer these bytes
abbrev pub ReadsImage : {F : Type 0} → (F → List ℕ → Result (List ℕ) FileFault → Type 0) → F → ServeWords → Geometry → ℕ → List ℕ → Type 0
ReadsImage {F} gives store words g capacity bytes = AsksForCapacity (checked_words words) g capacity × gives store words.image.now (Ok bytes)

-- A MIGRATION THAT IS DONE has stored under OUT an image with the array of IMAGE, of which no newest page is of version 1, and then printed its line
abbrev pub MigrateDoneLaw : {F : Type 0} → (F → List ℕ → Result (List ℕ) FileFault → Type 0) → Type 0
MigrateDoneLaw {F} gives = (store : F) (words : ServeWords) (before after : Left) → DoesMigrate (gives store) words before after (Ok tt)
    → (g : Geometry) × (capacity : ℕ) × (bytes image : List ℕ) × (count : ℕ) × ReadsImage gives store words g capacity bytes
    × (array_of g (raw_image g image) ≡ array_of g (raw_image g bytes)) × ((key : Key) → is_old (raw_image g image) key ≡ false)
    × (after.stores ≡ with_store before.stores (written_file words.output.now image)) × Appends before.out after.out (migrated_line count)

-- ONE THAT IS NOT DONE has left all as it was, or it has run: then an image with the array of IMAGE was stored under OUT, or that was tried
abbrev pub MigrateStopsLaw : {F : Type 0} → (F → List ℕ → Result (List ℕ) FileFault → Type 0) → Type 0
MigrateStopsLaw {F} gives = (store : F) (words : ServeWords) (before after : Left) (stop : CommandFault) → DoesMigrate (gives store) words before after (Err stop)
    → ((after.stores ≡ before.stores) × Keeps before.out after.out)
    ⊎ ((g : Geometry) × (capacity : ℕ) × (bytes image : List ℕ) × ReadsImage gives store words g capacity bytes
    × (array_of g (raw_image g image) ≡ array_of g (raw_image g bytes)) × HasTriedToStore words.output.now image before.stores after.stores)

-- ---- the number that is printed

-- so many calls, each of which answered true, and began with nine free blocks
abbrev pub RenewsWithRoom : {N : Type 0} → (view : View N)
    → ℕ → Device N → Device N → Type 0
RenewsWithRoom view zero old new = new ≡ old
RenewsWithRoom {N} view (suc count) old new =
    (mid : Device N) × RenewsWithRoom view count old mid × (9 ≤ free_count (ram mid.engine).blocks)
    × CallsMigrate view mid (Ok true) new

-- THE NUMBER OF CALLS THAT ANSWERED TRUE IS ONE, where nine blocks are free as each begins: two tellings of calls from one device to one image have as
-- many. So none tells two calls as one.
abbrev pub CallsCountedLaw : {N : Type 0} → (view : View N) → Type 0
CallsCountedLaw {N} view = (count count' : ℕ) (first last last' : Device N) → version_for first.engine.geometry ≡ 2
    → image_in view.flash last'.engine ≡ image_in view.flash last.engine
    → RenewsWithRoom view count first last
    → RenewsWithRoom view count' first last' → count ≡ count'

-- THE NUMBER IS NO MORE THAN THE PAGES OF VERSION 1 that are newest in the image before, whatever room was made; and it is 0 where only table pages are
abbrev pub NumberLaw : Type 0
NumberLaw = (g : Geometry) (capacity : ℕ) (c : Claim) (s : Flash) (after : List ℕ) (count : ℕ) → MigratesDie g capacity c s after (Ok count)
    → (count ≤ old_pages g s.image) × (HasOldTablesOnly s.image → count ≡ 0)

-- THE FIRST CALL begins with the lowest row of IMAGE that has a page to be brought forward
abbrev pub FirstBringsLowestLaw : Type 0
FirstBringsLowestLaw = (g : Geometry) (capacity : ℕ) (c : Claim) (s : Flash) (after : List ℕ) (count : ℕ) → (m : MigratesDie g capacity c s after (Ok (suc count)))
    → (next : Device Driver) × (one : BringsOne driver_view m.first next) × IsNextDue 0 one.row s.image
