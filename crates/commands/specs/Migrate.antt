-- What the command `migrate` comes to.
use Rattle.std.specs.Prelude.{◌≡◌, ◌≢◌, ◌⊎◌, ℕ, zero, suc, ◌+◌, ◌<◌, ◌≤◌, Bool, true, false, List, [], ◌∷◌, ◌++◌, codes, Option, Result, Ok, Err, IfOk, OnOk}
use Rattle.std.specs.Io.KnownBytes.{Appends, Keeps}
use Rattle.std.specs.Fmt.{decimal}
use Rattle.page_layout.specs.View.{View}
use Rattle.page_layout.specs.declared.geometry.Geometry.{Geometry}
use Rattle.page_layout.specs.Array.{array_of}
use Rattle.page_layout.specs.Counter.{HasRisen}
use Rattle.page_layout.specs.Flash.{Flash}
use Rattle.page_layout.specs.OnlyReads.{OnlyReads}
use Rattle.page_layout.specs.Raw.{raw_image, raw_bytes}
use Rattle.page_layout.specs.Page.{Image}
use Rattle.certificate.specs.Claim.{Claim}
use Rattle.nand_die.specs.Made.{loaded_flash}
use Rattle.image_check.specs.declared.refusal.Refusal.TheVariants as refusals
use Rattle.image_check.specs.Agrees.{Agrees}
use Rattle.image_check.specs.Mountable.{IsMountable}
use Rattle.image_check.specs.Refused.{IsFirstWrong}
use Rattle.image_check.specs.Stale.{stale_sectors}
use Rattle.promises.specs.Legal.{IsLegal, accounts_of}
use Rattle.promises.specs.Step.{Flush, Turn}
use Rattle.mount.specs.Log.{failures}
use Rattle.allocation.specs.View.{state}
use Rattle.collection.specs.Log.{IsAccounted, Went}
use Rattle.collection.specs.Safe.{image_in, ram}
use Rattle.ftl_device.specs.declared.device.Device.{Device}
use Rattle.ftl_device.specs.declared.fault.DeviceFault.{DeviceFault}
use Rattle.ftl_device.specs.declared.fault.DeviceFault.TheVariants.{BusFault}
use Rattle.ftl_device.specs.Device.{IsDevice}
use Rattle.ftl_device.specs.Begin.{free_in, is_bad_in, is_scarce}
use Rattle.ftl_device.specs.Calls.{IsWell, array_in}
use Rattle.ftl_device.specs.Changes.{Upkeeps}
use Rattle.ftl_device.specs.Migrate.{ended, HasMovedOn, Migrates}
use Rattle.ftl_device.specs.Brings.{HasBrought, BringsOne}
use Rattle.ftl_device.specs.Renewed.{HasNoneOld, HasOldTablesOnly}
use Rattle.block_server.specs.Checked.{IsBegunFromClaim}
use Rattle.command_words.specs.declared.words.ServeWords.{ServeWords}
use Rattle.commands.specs.declared.text.CommandFault.{CommandFault}
use Rattle.commands.specs.declared.text.CommandFault.TheVariants as fault
use Rattle.commands.specs.Check.{HasImageLength}
use Rattle.commands.specs.Files.{LoadAnswers, Left, LeavesUntouched, Stored, with_store, written_file, unwritten_file}
use Rattle.commands.specs.Lines.{IsLineUnprinted}
use Rattle.commands.specs.Serve.{Driver, HasClaim, IsDieUnmade, IsUnclaimed, bad_in}
use Rattle.commands.specs.Serve.{flash_behind, recorded_of, driver_view}

-- ---- one call after another, of a device on an honest die whose pages have room for version 2

-- WHAT ONE CALL PROMISES: all that a turn promises of the array; where it answered true there are fewer newest pages of version 1 than before, and where it
-- answered false none but table pages, and nothing was programmed or erased. One that answered true made room and brought one page: the one that its look found, or none
-- where making room had moved it; and the cursor went past its row.
pub record CallsMigrate {N : Type 0} (view : View N)
    (old : Device N) (result : Result Bool DeviceFault) (new : Device N) : Type 0 where
  pub upkeeps : Upkeeps view Turn old (ended result) new
  pub migrates : IfOk result (λ found. Migrates found old.engine.geometry (image_in view.flash old.engine) (image_in view.flash new.engine))
  pub rests : IfOk result (λ found. found ≡ false → OnlyReads view old.engine.nand new.engine.nand)
  pub brought : result ≡ Ok true → HasBrought (ram old.engine) (ram new.engine)
  pub brings : result ≡ Ok true → BringsOne view old new
  pub stays : result ≢ Ok true → new.cursor ≡ old.cursor
  pub moves_on : result ≡ Ok true → HasMovedOn old.cursor (image_in view.flash old.engine) new.cursor

-- so many calls, each of which answered true
abbrev pub RenewsInCalls : {N : Type 0} → (view : View N)
    → ℕ → Device N → Device N → Type 0
RenewsInCalls view zero old new = new ≡ old
RenewsInCalls {N} view (suc count) old new =
    (mid : Device N) × RenewsInCalls view count old mid
    × CallsMigrate view mid (Ok true) new

-- ALL CALLS: so many answered true and the next one false, or after so many one was refused
abbrev pub RenewsAll : {N : Type 0} → (view : View N)
    → Device N → Result ℕ DeviceFault → Device N → Type 0
RenewsAll {N} view old (Ok count) new =
    (mid : Device N) × RenewsInCalls view count old mid
    × CallsMigrate view mid (Ok false) new
RenewsAll {N} view old (Err refused) new =
    (count : ℕ) × (mid : Device N) × RenewsInCalls view count old mid
    × CallsMigrate view mid (Err refused) new

-- and then, where none was refused, a flush
abbrev pub RenewsThenFlushes : {N : Type 0} → (view : View N)
    → Device N → Result ℕ DeviceFault → Device N → Type 0
RenewsThenFlushes {N} view old (Ok count) new =
    (mid : Device N) × RenewsAll view old (Ok count) mid
    × Upkeeps view Flush mid (Ok tt) new
RenewsThenFlushes {N} view old (Err refused) new =
    RenewsAll view old (Err refused) new
    ⊎ ((count : ℕ) × (mid : Device N) × RenewsAll view old (Ok count) mid
    × Upkeeps view Flush mid (Err refused) new)

-- WHAT STAYS, whether or not a call was refused: the array, the capacity of the cache, and the share. The memory is true of the image; and one log, that of all
-- calls, leads from the one die to the other.
pub record KeepsAll {N : Type 0} (view : View N) (old new : Device N) : Type 0 where
  pub well : IsWell view.flash new
  pub array : array_in view.flash new ≡ array_in view.flash old
  pub capacity : new.engine.mapping.capacity ≡ old.engine.mapping.capacity
  pub share : new.engine.mapping.share ≡ old.engine.mapping.share
  pub went : Went (ram old.engine) (view.flash old.engine.nand) (view.recorded old.engine.nand) (ram new.engine) (view.flash new.engine.nand) (view.recorded new.engine.nand)

-- WHERE THE CALLS BEGIN: a device that goes on, on an honest die of this geometry whose pages have room for version 2
pub record IsRenewable {N : Type 0} (view : View N) (g : Geometry) (d : Device N) : Type 0 where
  pub device : IsDevice view.flash d
  pub honest : view.honest d.engine.nand ≡ true
  pub well : IsWell view.flash d
  pub sized : d.engine.geometry ≡ g
  pub roomy : 40 ≤ g.spare_bytes

-- WHAT THE CALLS COME TO, of which the last answered false or was refused
pub record HasRenewed {N : Type 0} (view : View N) (g : Geometry) (old : Device N) (result : Result ℕ DeviceFault) (new : Device N) : Type 0 where
  pub device : IsDevice view.flash new
  pub sized : new.engine.geometry ≡ g
  pub began : old.engine.geometry ≡ g
  pub still : view.honest new.engine.nand ≡ true
  pub le : view.failed old.engine.nand ≤ view.failed new.engine.nand
  pub renews : RenewsAll view old result new
  pub keeps : result ≢ Err BusFault → KeepsAll view old new
  pub rose : result ≡ Err BusFault → HasRisen (view.failed old.engine.nand) (view.failed new.engine.nand)
  pub none : OnOk result (HasOldTablesOnly (image_in view.flash new.engine))

-- WHAT AN IMAGE IS WORTH after all calls and the flush: it has a certificate at every capacity, no entry is stale, and no newest page is of version 1
pub record IsSettled (g : Geometry) (image : Image) : Type 0 where
  pub anywhere : (capacity : ℕ) → 1 ≤ capacity → capacity ≤ 65536 → IsMountable g capacity image
  pub fresh : stale_sectors g image ≡ []
  pub none : HasNoneOld image

-- and then the flush, where none was refused
pub record IsRenewedThenFlushed {N : Type 0} (view : View N) (g : Geometry) (old : Device N) (result : Result ℕ DeviceFault) (new : Device N) : Type 0 where
  pub device : IsDevice view.flash new
  pub sized : new.engine.geometry ≡ g
  pub le : view.failed old.engine.nand ≤ view.failed new.engine.nand
  pub renews : RenewsThenFlushes view old result new
  pub keeps : result ≢ Err BusFault → KeepsAll view old new
  pub rose : result ≡ Err BusFault → HasRisen (view.failed old.engine.nand) (view.failed new.engine.nand)
  pub settled : OnOk result (IsSettled g (image_in view.flash new.engine))

-- ---- an image in place

-- The certificate was accepted for a die in memory whose pages have room for version 2, and a device was started over it: its memory is true of the image
-- and agrees with the accounts of it, it is read-only just where fewer than five blocks are free, and it looks from row 0 on first.
pub record StartsOver (g : Geometry) (capacity : ℕ) (c : Claim) (nand : Driver) (first : Device Driver) : Type 0 where
  pub agrees : Agrees g capacity (flash_behind nand).image c
  pub roomy : 40 ≤ g.spare_bytes
  pub begun : IsBegunFromClaim driver_view nand g 0 c first
  pub sized : first.engine.geometry ≡ g
  pub well : IsWell flash_behind first
  pub cursor : first.cursor ≡ 0
  pub free : first.read_only ≡ is_scarce (free_in g c (flash_behind nand).image)
  pub accounts : IsAccounted (accounts_of g (flash_behind nand).image (is_bad_in c)) (state first.engine.blocks)

-- THE PAGES OF A DIE IN MEMORY WERE BROUGHT FORWARD by the calls of a device that was started over it, and `after` is the image that it holds then. Its
-- array is that of the image before. It mounts for as many stale sectors as the cache holds and a block has pages, and for any cache where no call was
-- refused. The log of the calls is legal; and of a die that was loaded with the certificate's bad blocks no program and no erase in it failed.
pub record MigratesDie (g : Geometry) (capacity : ℕ) (c : Claim) (s : Flash) (after : List ℕ) (came : Result ℕ DeviceFault) : Type 0 where
  pub nand : Driver
  pub first : Device Driver
  pub last : Device Driver
  pub held : flash_behind nand ≡ s
  pub starts : StartsOver g capacity c nand first
  pub comes : RenewsThenFlushes driver_view first came last
  pub pages : raw_image g after ≡ (flash_behind last.engine.nand).image
  pub bytes : after ≡ raw_bytes (flash_behind last.engine.nand).image
  pub array : array_of g (raw_image g after) ≡ array_of g s.image
  pub mountable : capacity + g.pages ≤ 65536 → IsMountable g (capacity + g.pages) (raw_image g after)
  pub settled : OnOk came (IsSettled g (raw_image g after))
  pub went : Went (ram first.engine) s (recorded_of nand) (ram last.engine) (flash_behind last.engine.nand) (recorded_of last.engine.nand)
  pub legal : IsLegal g s.image (is_bad_in c) went.log
  pub passed : (before : List ℕ) → s ≡ loaded_flash g before (bad_in g c) → failures went.log ≡ 0

-- why a die in memory was not: it answers each read
abbrev pub IsUnmigratedDie : Geometry → ℕ → Claim → Flash → CommandFault → Type 0
IsUnmigratedDie g capacity c s (fault.Check refusal) = (refusal ≡ refusals.OutOfMemory) ⊎ IsFirstWrong g capacity s.image c refusal
IsUnmigratedDie g capacity c s fault.SpareSize = Agrees g capacity s.image c × (g.spare_bytes < 40)
IsUnmigratedDie g capacity c s fault.Start = Agrees g capacity s.image c × (40 ≤ g.spare_bytes)
IsUnmigratedDie g capacity c s _ = ⊥

-- ---- the command

-- both files were read, but of the image no die was made, or none that was accepted and started
pub record IsClaimUnmigrated (gives : LoadAnswers) (words : ServeWords) (stopped : CommandFault) : Type 0 where
  pub geometry : Geometry
  pub capacity : ℕ
  pub bytes : List ℕ
  pub claim : Claim
  pub has : HasClaim gives words geometry capacity bytes claim
  pub unmigrated : IsDieUnmade geometry bytes stopped
      ⊎ (HasImageLength geometry bytes × IsUnmigratedDie geometry capacity claim (loaded_flash geometry bytes (bad_in geometry claim)) stopped)

-- Why the command ended before a device was started.
abbrev pub IsMigrationUnbegun : LoadAnswers → ServeWords → CommandFault → Type 0
IsMigrationUnbegun gives words stopped = IsUnclaimed gives words stopped ⊎ IsClaimUnmigrated gives words stopped

-- it ran: this is the image then
pub record HasMigrated (gives : LoadAnswers) (words : ServeWords) (image : List ℕ) (came : Result ℕ DeviceFault) : Type 0 where
  pub geometry : Geometry
  pub capacity : ℕ
  pub bytes : List ℕ
  pub claim : Claim
  pub has : HasClaim gives words geometry capacity bytes claim
  pub migrates : MigratesDie geometry capacity claim (loaded_flash geometry bytes (bad_in geometry claim)) image came

-- no call was refused: so many answered true
abbrev pub RefusesNoCall : Result ℕ DeviceFault → Type 0
RefusesNoCall came = (count : ℕ) × (came ≡ Ok count)

-- How it ended after the run: the device's refusal is told, and the image was stored all the same; or it could not be stored, and that is told, after
-- the refusal where there is one.
abbrev pub EndsShort : List ℕ → List ℕ → Result ℕ DeviceFault → Option (List Stored) → Option (List Stored) → CommandFault → Type 0
EndsShort path image came before after (fault.Migrate refused) = (came ≡ Err refused) × (after ≡ with_store before (written_file path image))
EndsShort path image came before after (fault.MigrateUnstored refused text) = (came ≡ Err refused) × (text.now ≡ path)
    × ((after ≡ with_store before (unwritten_file path image)) ⊎ (after ≡ before))
EndsShort path image came before after (fault.Write text) = RefusesNoCall came × (text.now ≡ path) × (after ≡ with_store before (unwritten_file path image))
EndsShort path image came before after fault.OutOfMemory = RefusesNoCall came × (after ≡ before)
EndsShort path image came before after _ = ⊥

-- the line
abbrev pub migrated_line : ℕ → List ℕ
migrated_line count = codes "migrated " ++ (decimal count ++ (10 ∷ []))

-- What the command came to, with the stores and the bytes of standard output before and after. Where no device was started nothing is
-- stored and nothing printed. The line is printed once the image is stored.
abbrev pub DoesMigrate : LoadAnswers → ServeWords → Left → Left → Result (Unit {0}) CommandFault → Type 0
DoesMigrate gives words before after (Ok done) = (image : List ℕ) × (count : ℕ) × HasMigrated gives words image (Ok count)
    × (after.stores ≡ with_store before.stores (written_file words.output.now image)) × Appends before.out after.out (migrated_line count)
DoesMigrate gives words before after (Err stop) =
    (LeavesUntouched before after × IsMigrationUnbegun gives words stop)
    ⊎ ((image : List ℕ) × (came : Result ℕ DeviceFault) × HasMigrated gives words image came × EndsShort words.output.now image came before.stores after.stores stop
    × Keeps before.out after.out)
    ⊎ ((image : List ℕ) × (count : ℕ) × HasMigrated gives words image (Ok count) × (after.stores ≡ with_store before.stores (written_file words.output.now image))
    × IsLineUnprinted (migrated_line count) before.out after.out stop)
