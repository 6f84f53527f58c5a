-- What bytes over others are, what a file may make of a call, and the rows of a file.
use Rattle.std.specs.Prelude.{◌≡◌, ◌⊎◌, ◌<◌, ◌≤◌, ℕ, suc, ◌+◌, false, List, length, take, slice_get, Result, IfOk}
use Rattle.page_layout.specs.declared.geometry.Geometry.{Geometry}
use Rattle.page_layout.specs.Geometry.{row_count, page_bytes}
use Rattle.page_layout.specs.Raw.{raw_image}
use Rattle.onfi_cycles.specs.Cycles.{page_of}
use Rattle.file_die.specs.declared.bytes.ByteFault.{ByteFault}
use Rattle.file_die.specs.Bytes.{Bytes, SyncsBytes, WritesBytes, over}
use Rattle.file_die.specs.Rows.{read_rows}

-- the bytes stand in their place, and before them and behind them stands what stood there
pub record IsOver (at : ℕ) (given xs left : List ℕ) : Type 0 where
  pub before : (i : ℕ) → i < at → slice_get left i ≡ slice_get xs i
  pub within : (i : ℕ) → i < length given → slice_get left (at + i) ≡ slice_get given i
  pub behind : (i : ℕ) → at + length given ≤ i → slice_get left i ≡ slice_get xs i

abbrev pub OverLaw : Type 0
OverLaw = (at : ℕ) (given xs : List ℕ) → at ≤ length xs → IsOver at given xs (over at given xs)

-- A WRITE MAY HAVE WRITTEN THE FIRST OF ITS BYTES ALONE, failed or done; and those last, or what lasted before
abbrev pub PartWriteLaw : Type 0
PartWriteLaw = (s t : Bytes) (at n : ℕ) (given : List ℕ) (answer : Result ℕ ByteFault) → at ≤ length s.bytes → n ≤ length given → IfOk answer (λ moved. moved ≡ n)
    → t.bytes ≡ over at (take n given) s.bytes → (t.durable ≡ s.durable) ⊎ (t.durable ≡ t.bytes) → t.failed_syncs ≡ s.failed_syncs → WritesBytes s at given answer t

-- a sync that failed may have made all last, or nothing
abbrev pub FailedSyncLaw : Type 0
FailedSyncLaw = (s t : Bytes) → t.bytes ≡ s.bytes → (t.durable ≡ s.durable) ⊎ (t.durable ≡ s.bytes) → t.failed_syncs ≡ suc s.failed_syncs → SyncsBytes s false t

-- rows of pages without codes are the pages of the raw image that the bytes are
abbrev pub RawLaw : Type 0
RawLaw = (g : Geometry) (bytes : List ℕ) → read_rows (page_of g) (page_bytes g) (row_count g) bytes ≡ raw_image g bytes
