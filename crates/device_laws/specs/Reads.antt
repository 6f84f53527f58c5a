-- Which faults a read answers, and what it leaves in memory.
use Rattle.std.specs.Prelude.{◌≡◌, ◌≢◌, ◌⊎◌, ℕ, List, Err}
use Rattle.page_layout.specs.Page.{Page}
use Rattle.mapping_cache.specs.Mapping.{pending}
use Rattle.collection.specs.State.{Ram}
use Rattle.ftl_device.specs.declared.fault.DeviceFault.{DeviceFault}
use Rattle.ftl_device.specs.declared.fault.DeviceFault.TheVariants.{OutOfRange, Damaged, BusFault}
use Rattle.ftl_device.specs.Read.{HasRead, IsReadRefusal, LeavesRead}

-- A READ LOSES NO ROW that a translation page lacks
abbrev pub KeepsRowsLaw : Type 0
KeepsRowsLaw = (n sector : ℕ) (old new : Ram) (entries_page sector_page : Page) (bytes : List ℕ) → HasRead n old new entries_page sector_page bytes
    → pending new.mapping sector ≡ pending old.mapping sector

-- A REFUSED READ LEAVES ALL AS IT WAS, unless the die gave the fault
abbrev pub RefusedReadLaw : Type 0
RefusedReadLaw = (n : ℕ) (fault : DeviceFault) (old new : Ram) (entries_page sector_page : Page) (bytes : List ℕ) → fault ≢ BusFault
    → LeavesRead n (Err fault) old new entries_page sector_page bytes → new ≡ old

-- A READ IS REFUSED for its sector's number, for damage or by the die alone: it needs no memory, no room and no sequence
abbrev pub ReadFaultsLaw : Type 0
ReadFaultsLaw = (fault : DeviceFault) → IsReadRefusal fault → (fault ≡ OutOfRange) ⊎ (fault ≡ Damaged) ⊎ (fault ≡ BusFault)
