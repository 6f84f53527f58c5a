-- What each fault of reading says of the bytes: it stands in them, and none that is looked for earlier does.
use Rattle.std.specs.Prelude.{◌≡◌, ℕ, ◌<◌, ◌≤◌, ◌⊎◌, List, length, take, codes, All, Any, IsSomeAnd}
use Rattle.page_layout.specs.Limits.{IsWithinLimits}
use Rattle.page_layout.specs.Word.{row_of_word}
use Rattle.certificate.specs.declared.block_state.BlockState.{BlockState}
use Rattle.certificate.specs.declared.fault.CertFault.{CertFault}
use Rattle.certificate.specs.declared.fault.CertFault.TheVariants.{Magic, Short, Long, Limit, RowRange, ClassRange, OutOfMemory}
use Rattle.certificate.specs.Claim.{Sizes}
use Rattle.certificate.specs.Spelling.{magic, layout, rows_of}
use Rattle.certificate.specs.Reading.{sizes_in, capacity_in, blocks_in, directory_in, sectors_in}

-- the first eight bytes are the magic
abbrev pub HasMagic : List ℕ → Type 0
HasMagic bytes = take 8 bytes ≡ magic

-- a die of these sizes and a cache of this capacity are within their limits
pub record AreSizesWithinLimits (s : Sizes) (capacity : ℕ) : Type 0 where
  pub limits : IsWithinLimits s.data_bytes s.spare_bytes s.pages s.blocks s.sectors
  pub capacity_least : 1 ≤ capacity
  pub capacity_most : capacity ≤ 65536

-- a whole head, with its magic
pub record HasHead (bytes : List ℕ) : Type 0 where
  pub magic : HasMagic bytes
  pub long : 40 ≤ length bytes

-- a whole head with numbers within their limits
pub record HasLimits (bytes : List ℕ) : Type 0 where
  pub head : HasHead bytes
  pub within : AreSizesWithinLimits (sizes_in bytes) (capacity_in bytes)

-- as many bytes as the head promises
pub record HasPromisedBytes (bytes : List ℕ) : Type 0 where
  pub numbers : HasLimits bytes
  pub length_is : length bytes ≡ layout (sizes_in bytes)

-- the word stands for a row past the last
abbrev pub IsRowPast : ℕ → ℕ → Type 0
IsRowPast rows w = IsSomeAnd (row_of_word w) (λ r. rows ≤ r)

abbrev pub HasClasses : List ℕ → Type 0
HasClasses bytes = All (λ (s : BlockState). s.class ≤ 5) (blocks_in (sizes_in bytes) bytes)

-- a row of the directory, or of a sector, past the last
abbrev pub HasRowPast : List ℕ → Type 0
HasRowPast bytes = Any (IsRowPast (rows_of (sizes_in bytes))) (directory_in (sizes_in bytes) bytes) ⊎ Any (IsRowPast (rows_of (sizes_in bytes))) (sectors_in (sizes_in bytes) bytes)

-- the bytes end within the magic, within the head, or within what the head promises
abbrev pub IsCertificateCut : List ℕ → Type 0
IsCertificateCut bytes = (length bytes < 8) ⊎ ((HasMagic bytes × (length bytes < 40)) ⊎ (HasLimits bytes × (length bytes < layout (sizes_in bytes))))

-- Memory is asked for only for bytes that are as many as their head promises.
abbrev pub IsFirstCertificateFault : List ℕ → CertFault → Type 0
IsFirstCertificateFault bytes Magic = (8 ≤ length bytes) × (¬ HasMagic bytes)
IsFirstCertificateFault bytes Short = IsCertificateCut bytes
IsFirstCertificateFault bytes Limit = HasHead bytes × (¬ AreSizesWithinLimits (sizes_in bytes) (capacity_in bytes))
IsFirstCertificateFault bytes Long = HasLimits bytes × (layout (sizes_in bytes) < length bytes)
IsFirstCertificateFault bytes ClassRange = HasPromisedBytes bytes × Any (λ (s : BlockState). 5 < s.class) (blocks_in (sizes_in bytes) bytes)
IsFirstCertificateFault bytes RowRange = HasPromisedBytes bytes × HasClasses bytes × HasRowPast bytes
IsFirstCertificateFault bytes OutOfMemory = HasPromisedBytes bytes

-- the number and the name of why bytes are no certificate
abbrev pub certificate_words : CertFault → List ℕ
certificate_words Magic = codes "1 Magic"
certificate_words Short = codes "2 Short"
certificate_words Long = codes "3 Long"
certificate_words Limit = codes "4 Limit"
certificate_words RowRange = codes "5 RowRange"
certificate_words ClassRange = codes "6 ClassRange"
certificate_words OutOfMemory = codes "7 OutOfMemory"
