-- How the spare area of a sound page begins, and what was hashed of a page.
use Rattle.std.specs.Prelude.{ℕ, ◌==◌, ◌≤◌, ◌*◌, ◌&&◌, ◌||◌, Bool, List, take, slice_index}
use Rattle.sha2.specs.Hashers.{Holds256}
use Rattle.lab_mend.specs.declared.seal.Prefix.{Prefix}

-- as that of a record in one of the two versions
abbrev pub begins_as_record : List ℕ → Bool
begins_as_record spare = (slice_index spare 0 == 255) && (slice_index spare 1 == 255) && ((slice_index spare 2 == 1) || (slice_index spare 2 == 2))

-- the hasher has taken the first bytes of a data area of this size, none of them from the byte of this bit on
pub record HasHashedPrefix (size : ℕ) (bytes : List ℕ) (bit : ℕ) (prefix : Prefix) : Type 0 where
  pub holds : Holds256 prefix.hasher (take prefix.taken bytes)
  pub within : prefix.taken ≤ size
  pub behind : 8 * prefix.taken ≤ bit
