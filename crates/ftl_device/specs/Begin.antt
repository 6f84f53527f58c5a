-- A device as an accepted certificate begins it.
use Rattle.std.specs.Prelude.{◌≡◌, ℕ, not, nat_lt, Bool, true, false, List, [], map, reverse, get_or, replicate, None}
use Rattle.page_layout.specs.Geometry.{translation_pages}
use Rattle.page_layout.specs.declared.geometry.Geometry.{Geometry}
use Rattle.page_layout.specs.Page.{Image, IsImage}
use Rattle.bad_blocks.specs.Table.{good_count}
use Rattle.certificate.specs.declared.block_state.BlockState.{BlockState}
use Rattle.certificate.specs.Claim.{Claim, is_good_state, good_blocks}
use Rattle.certificate.specs.Spelling.{Fits}
use Rattle.mapping_cache.specs.declared.slot.Slot.{Slot}
use Rattle.mapping_cache.specs.Mapping.{MappingState}
use Rattle.allocation.specs.State as blocks
use Rattle.allocation.specs.State.{State}
use Rattle.allocation.specs.Begun.{begun}
use Rattle.promises.specs.Log as logs
use Rattle.promises.specs.Legal.{accounts_of}
use Rattle.image_check.specs.Stale.{stale_sectors}
use Rattle.image_check.specs.Agrees.{Agrees}
use Rattle.collection.specs.State.{Ram}
use Rattle.collection.specs.Truth.{IsTrue}
use Rattle.collection.specs.Log.{IsAccounted}

-- ---- the memory that a certificate gives

-- a stale sector with the row that the certificate has for it, which its translation page lacks
abbrev pub stale_entry : Claim → ℕ → ℕ × Slot
stale_entry c n = (n, record { row = get_or c.sectors n None; dirty = true })

-- the stale sectors were cached one after another, so the last is the most recently used
abbrev pub begun_mapping : Geometry → (share : ℕ) → Claim → List ℕ → MappingState
begun_mapping g share c stale = record { geometry = g; capacity = c.capacity; share = share; cached = map (stale_entry c) (reverse stale); moved = [] }

-- the memory of an engine that nothing was asked of yet
abbrev pub begun_ram : Geometry → (share : ℕ) → Claim → List ℕ → Ram
begun_ram g share c stale = record {
  geometry = g;
  directory = c.directory;
  mapping = begun_mapping g share c stale;
  blocks = begun g c.blocks;
  next = c.next;
  fault = None;
  pin = record { block = None; marks = replicate (translation_pages g) false };
}

-- ---- what it says of the image

-- what a block past the last counts as
abbrev pub no_block : BlockState
no_block = record { class = 0; pointer = 0; live = 0; wear = 0 }

-- the blocks to which the certificate gives class 4 or 5
abbrev pub is_bad_in : Claim → ℕ → Bool
is_bad_in c block = not (is_good_state (get_or c.blocks block no_block))

-- the erase counts that the certificate gives
abbrev pub certified_wear : Claim → ℕ → ℕ
certified_wear c block = (get_or c.blocks block no_block).wear

-- how many blocks are free: neither bad by the certificate nor with a page programmed
abbrev pub free_in : Geometry → Claim → Image → ℕ
free_in g c image = logs.free_count_after g (is_bad_in c) [] image

-- fewer than five blocks are free
abbrev pub is_scarce : ℕ → Bool
is_scarce free = nat_lt free 5

-- ---- laws

-- a certificate that agrees with the image gives a memory that does
abbrev pub BeginLaw : Type 0
BeginLaw = (g : Geometry) (share capacity : ℕ) (image : Image) (c : Claim) → IsImage g image → Agrees g capacity image c → IsTrue None (begun_ram g share c (stale_sectors g image)) image

-- the free blocks are those that the image shows
abbrev pub FreeAsShownLaw : Type 0
FreeAsShownLaw = (g : Geometry) (capacity : ℕ) (image : Image) (c : Claim) → IsImage g image → Agrees g capacity image c → blocks.free_count (begun g c.blocks) ≡ free_in g c image

-- the good blocks are those to which the certificate gives no bad class
abbrev pub GoodByClaimLaw : Type 0
GoodByClaimLaw = (g : Geometry) (c : Claim) → Fits c → good_count (begun g c.blocks).table ≡ good_blocks c

-- a log that begins with this image has the accounts of the blocks that the memory has
abbrev pub BegunAccountsLaw : Type 0
BegunAccountsLaw = (g : Geometry) (capacity : ℕ) (image : Image) (c : Claim) → IsImage g image → Agrees g capacity image c → IsAccounted (accounts_of g image (is_bad_in c)) (begun g c.blocks)
