-- What bytes say, read as a certificate, whatever they are: the head by its places, then the parts that it promises.
use Rattle.std.specs.Prelude.{ℕ, ◌*◌, List, [], ◌∷◌, take, drop, slice_index}
use Rattle.std.specs.Int.{w16, w32, w64, from_le_bytes}
use Rattle.page_layout.specs.Word.{word_at}
use Rattle.certificate.specs.declared.block_state.BlockState.{BlockState}
use Rattle.certificate.specs.Claim.{Sizes, Claim, claim_from}
use Rattle.certificate.specs.Spelling.{directory_rows, directory_at, sectors_at}

-- words of four bytes, as many as there are
unfoldable pub words_of : List ℕ → List ℕ
words_of (a ∷ b ∷ c ∷ d ∷ rest) = from_le_bytes w32 (a ∷ b ∷ c ∷ d ∷ []) ∷ words_of rest
words_of _ = []

-- states of nine bytes, as many as there are
unfoldable pub blocks_of : List ℕ → List BlockState
blocks_of (c ∷ p ∷ q ∷ l ∷ m ∷ w ∷ x ∷ y ∷ z ∷ rest) =
    record { class = c; pointer = from_le_bytes w16 (p ∷ q ∷ []); live = from_le_bytes w16 (l ∷ m ∷ []); wear = from_le_bytes w32 (w ∷ x ∷ y ∷ z ∷ []) } ∷ blocks_of rest
blocks_of _ = []

-- the five numbers of the geometry, behind the magic
abbrev pub sizes_in : List ℕ → Sizes
sizes_in bytes = record { data_bytes = word_at bytes 8; spare_bytes = word_at bytes 12; pages = word_at bytes 16; blocks = word_at bytes 20; sectors = word_at bytes 24 }

abbrev pub capacity_in : List ℕ → ℕ
capacity_in bytes = word_at bytes 28

-- the next sequence, of eight bytes
abbrev pub next_sequence_in : List ℕ → ℕ
next_sequence_in bytes = from_le_bytes w64 (slice_index bytes 32 ∷ slice_index bytes 33 ∷ slice_index bytes 34 ∷ slice_index bytes 35 ∷ slice_index bytes 36 ∷ slice_index bytes 37 ∷ slice_index bytes 38 ∷ slice_index bytes 39 ∷ [])

abbrev pub blocks_in : Sizes → List ℕ → List BlockState
blocks_in s bytes = blocks_of (take (9 * s.blocks) (drop 40 bytes))

-- the words of the directory
abbrev pub directory_in : Sizes → List ℕ → List ℕ
directory_in s bytes = words_of (take (4 * directory_rows s) (drop (directory_at s) bytes))

-- the words of the sectors' rows
abbrev pub sectors_in : Sizes → List ℕ → List ℕ
sectors_in s bytes = words_of (take (4 * s.sectors) (drop (sectors_at s) bytes))

-- what bytes say whose head gives these sizes
unfoldable pub claim_at : Sizes → List ℕ → Claim
claim_at s bytes = claim_from s (capacity_in bytes) (next_sequence_in bytes) (blocks_in s bytes) (directory_in s bytes) (sectors_in s bytes)

abbrev pub claim_in : List ℕ → Claim
claim_in bytes = claim_at (sizes_in bytes) bytes
