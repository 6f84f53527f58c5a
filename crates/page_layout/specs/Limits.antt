-- The limits of a die, as facts on its five numbers.
use Rattle.std.specs.Prelude.{ℕ, ◌≤◌, ◌*◌, ◌/◌, IsTrue}
use Rattle.std.specs.Int.{is_power_of_two}

-- a power of two from 64 to 4096
pub record IsDataSize (data_bytes : ℕ) : Type 0 where
  pub power : IsTrue (is_power_of_two data_bytes)
  pub least : 64 ≤ data_bytes
  pub most : data_bytes ≤ 4096

-- 32 to 256
pub record IsSpareSize (spare_bytes : ℕ) : Type 0 where
  pub least : 32 ≤ spare_bytes
  pub most : spare_bytes ≤ 256

-- a power of two from 4 to 256
pub record IsPageCount (pages : ℕ) : Type 0 where
  pub power : IsTrue (is_power_of_two pages)
  pub least : 4 ≤ pages
  pub most : pages ≤ 256

-- 12 to 4096, and at most as many as one block of table pages has entries for
pub record IsBlockCount (data_bytes pages blocks : ℕ) : Type 0 where
  pub least : 12 ≤ blocks
  pub most : blocks ≤ 4096
  pub within_table : blocks ≤ data_bytes / 4 * pages

-- 1 to 1048576
pub record IsSectorCount (sectors : ℕ) : Type 0 where
  pub least : 1 ≤ sectors
  pub most : sectors ≤ 1048576

-- the five numbers are those of a die
pub record IsWithinLimits (data_bytes spare_bytes pages blocks sectors : ℕ) : Type 0 where
  pub data_size : IsDataSize data_bytes
  pub spare_size : IsSpareSize spare_bytes
  pub page_count : IsPageCount pages
  pub block_count : IsBlockCount data_bytes pages blocks
  pub sector_count : IsSectorCount sectors
