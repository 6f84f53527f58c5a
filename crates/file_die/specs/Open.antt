-- A DIE OVER A STORE AS IT IS OPENED, and why none is.
use Rattle.std.specs.Prelude.{◌≡◌, ℕ, Bool, true, List, replicate, Result, Ok, Err}
use Rattle.page_layout.specs.declared.geometry.Geometry.{Geometry}
use Rattle.page_layout.specs.Geometry.{page_bytes}
use Rattle.page_layout.specs.Flash.{NextState}
use Rattle.page_layout.specs.Counter.{HasRisen}
use Rattle.onfi_cycles.specs.Cycles.{Unreset}
use Rattle.nand_die.specs.Made.{IsFirstMisnamed}
use Rattle.file_die.specs.declared.die.SyncWhen.{SyncWhen}
use Rattle.file_die.specs.declared.open.OpenDieFault.{OpenDieFault}
use Rattle.file_die.specs.declared.open.OpenDieFault.TheVariants.{OutOfMemory, BadBlock, Store}
use Rattle.file_die.specs.Store.{Held}
use Rattle.file_die.specs.Die.{FileState}

-- a die that was not yet reset, and of which nothing was asked
abbrev pub newly_opened : {S : Type 0} → S → Geometry → List NextState → SyncWhen → FileState S
newly_opened store g next_pages sync_when = record {
  store = store;
  next_pages = next_pages;
  abuse = 0;
  phase = Unreset;
  register = replicate (page_bytes g) 255;
  status = 0xE0;
  sync_when = sync_when;
}

-- a store was looked at alone: what it holds is as it was
pub record OnlyLooks {S : Type 0} (held : S → Held) (honest : S → Bool) (old new : S) : Type 0 where
  pub same : honest old ≡ true → held new ≡ held old
  pub geometry : (held new).geometry ≡ (held old).geometry
  pub as_honest : honest new ≡ honest old

-- the store's count of failures: it rose where a load failed, and there alone
abbrev pub CountsAs : OpenDieFault → ℕ → ℕ → Type 0
CountsAs OutOfMemory old new = new ≡ old
CountsAs (BadBlock block) old new = new ≡ old
CountsAs Store old new = HasRisen old new

abbrev pub CountsFailedLoads : {A : Type 0} → Result A OpenDieFault → ℕ → ℕ → Type 0
CountsFailedLoads (Ok x) old new = new ≡ old
CountsFailedLoads (Err fault) old new = CountsAs fault old new

-- no page was read: the store is the one that was handed in, but where a load failed
abbrev pub LeavesUnread : {S : Type 0} → OpenDieFault → (old new : S) → Type 0
LeavesUnread OutOfMemory old new = new ≡ old
LeavesUnread (BadBlock block) old new = new ≡ old
LeavesUnread Store old new = Unit {0}

-- the fault says which block is misnamed
abbrev pub IsCause : Geometry → List ℕ → OpenDieFault → Type 0
IsCause g bad OutOfMemory = Unit {0}
IsCause g bad (BadBlock block) = IsFirstMisnamed g bad block
IsCause g bad Store = Unit {0}
