-- WHAT A LOOK FINDS of a store that was mounted, by the states that the certificate has of its blocks.
use Rattle.std.specs.Prelude.{◌≡◌, ℕ, ◌/◌, ◌==◌, ◌&&◌, nat_le, not, Bool, List, filter, length, slice_get, Option, Some, None}
use Rattle.std.specs.List.{range_with_len}
use Rattle.page_layout.specs.declared.geometry.Geometry.{Geometry}
use Rattle.page_layout.specs.Geometry.{row_count}
use Rattle.page_layout.specs.Page.{Image}
use Rattle.page_layout.specs.Block.{is_broken}
use Rattle.certificate.specs.declared.block_state.BlockState.{BlockState}
use Rattle.certificate.specs.Claim.{Claim}
use Rattle.file_die.specs.Store.{page_in}
use Rattle.image_check.specs.Agrees.{Agrees, IsCertificateOf}
use Rattle.image_check.specs.Blocks.{is_factory, is_good_block}

-- the class of a state, or 0 of none
abbrev pub class_of_state : Option BlockState → ℕ
class_of_state None = 0
class_of_state (Some s) = s.class

abbrev pub class_in : List BlockState → (block : ℕ) → ℕ
class_in blocks block = class_of_state (slice_get blocks block)

-- the factory marked it, or it has grown bad
abbrev pub has_bad_class_in : List BlockState → (block : ℕ) → Bool
has_bad_class_in blocks block = nat_le 4 (class_in blocks block)

-- the factory marked it
abbrev pub is_factory_in : List BlockState → (block : ℕ) → Bool
is_factory_in blocks block = class_in blocks block == 4

-- THE BAD BLOCKS, rising
unfoldable pub bad_numbers : List BlockState → List ℕ
bad_numbers blocks = filter (has_bad_class_in blocks) (range_with_len 0 (length blocks))

-- the row's page is neither erased nor sound, and the factory did not mark its block
abbrev pub is_unsound_unmarked : Geometry → Image → List BlockState → (row : ℕ) → Bool
is_unsound_unmarked g image blocks row = not (is_factory_in blocks (row / g.pages)) && is_broken (page_in image row)

-- THE ROWS of such pages, rising
unfoldable pub unsound_numbers : Geometry → Image → List BlockState → List ℕ
unsound_numbers g image blocks = filter (is_unsound_unmarked g image blocks) (range_with_len 0 (row_count g))

-- ---- laws: of a certificate that agrees with the image

-- THE BAD BLOCKS are those that the image shows as bad
abbrev pub BadNumbersLaw : Type 0
BadNumbersLaw = (g : Geometry) (capacity : ℕ) (image : Image) (c : Claim) → Agrees g capacity image c → IsCertificateOf g c
    → bad_numbers c.blocks ≡ filter (λ b. not (is_good_block g image b)) (range_with_len 0 g.blocks)

-- THE UNSOUND ROWS are those of the pages neither erased nor sound of the blocks that the image does not show as marked by the factory
abbrev pub UnsoundNumbersLaw : Type 0
UnsoundNumbersLaw = (g : Geometry) (capacity : ℕ) (image : Image) (c : Claim) → Agrees g capacity image c
    → unsound_numbers g image c.blocks ≡ filter (λ row. not (is_factory g image (row / g.pages)) && is_broken (page_in image row)) (range_with_len 0 (row_count g))
