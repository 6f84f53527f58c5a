-- What a look at a store finds is what its image shows.
use Rattle.std.proofs.Common.{◌≡◌, ◌∙◌, ℕ, ◌+◌, ◌/◌, ◌<◌, ◌≤◌, Bool, true, false, not, ap, arith, refl}
use Rattle.std.specs.Prelude.{◌==◌, ◌&&◌, if◌then◌else◌, filter, nat_le}
use Rattle.std.specs.List.{range_with_len}
use Rattle.page_layout.specs.declared.geometry.Geometry.{Geometry}
use Rattle.page_layout.specs.Block.{is_broken}
use Rattle.page_layout.specs.Geometry.{row_count}
use Rattle.page_layout.specs.Page.{Image}
use Rattle.certificate.specs.Claim.{Claim}
use Rattle.file_die.specs.Store.{page_in}
use Rattle.image_check.specs.Agrees.{Agrees}
use Rattle.image_check.specs.Blocks.{class, is_factory, is_good_block, is_grown, is_of_data, is_shown_free, is_shown_open}
use Rattle.image_check.proofs.StaleLemmas.{filter_same}
use Rattle.mount.proofs.BlockLemmas.{row_block}
use Rattle.disk_damage.specs.Look.{BadNumbersLaw, UnsoundNumbersLaw, bad_numbers, class_in, class_of_state, has_bad_class_in, is_unsound_unmarked, unsound_numbers}

abbrev class_by : (factory grown free open_block data_block : Bool) → ℕ
class_by factory grown free open_block data_block =
    if factory then 4 else (
    if grown then 5 else (
    if free then 0 else (
    if open_block then (if data_block then 1 else 2) else 3)))

four_is : (factory grown free open_block data_block : Bool) → (class_by factory grown free open_block data_block == 4) ≡ factory
four_is true grown free open_block data_block = refl
four_is false true free open_block data_block = refl
four_is false false true open_block data_block = refl
four_is false false false true true = refl
four_is false false false true false = refl
four_is false false false false data_block = refl

bad_is : (factory grown free open_block data_block : Bool) → nat_le 4 (class_by factory grown free open_block data_block) ≡ not (not factory && not grown)
bad_is true grown free open_block data_block = refl
bad_is false true free open_block data_block = refl
bad_is false false true open_block data_block = refl
bad_is false false false true true = refl
bad_is false false false true false = refl
bad_is false false false false data_block = refl

factory_class : (g : Geometry) (image : Image) (b : ℕ) → (class g image b == 4) ≡ is_factory g image b
unfolding class
factory_class g image b = four_is (is_factory g image b) (is_grown g image b) (is_shown_free g image b) (is_shown_open g image b) (is_of_data g image b)

bad_class : (g : Geometry) (image : Image) (b : ℕ) → nat_le 4 (class g image b) ≡ not (is_good_block g image b)
unfolding class is_good_block
bad_class g image b = bad_is (is_factory g image b) (is_grown g image b) (is_shown_free g image b) (is_shown_open g image b) (is_of_data g image b)

class_is : (g : Geometry) (capacity : ℕ) (image : Image) (c : Claim) → Agrees g capacity image c → (b : ℕ) → b < g.blocks → class_in c.blocks b ≡ class g image b
class_is g capacity image c agrees b within = ap class_of_state (agrees.states.state b within).1 ∙ (agrees.states.state b within).2.0

pub bad_are : BadNumbersLaw
unfolding bad_numbers
bad_are g capacity image c agrees of =
    ap (λ n. filter (has_bad_class_in c.blocks) (range_with_len 0 n)) of.blocks
    ∙ filter_same (has_bad_class_in c.blocks) (λ b. not (is_good_block g image b)) 0 g.blocks
    (λ b low high. ap (nat_le 4) (class_is g capacity image c agrees b (omega (arith, high))) ∙ bad_class g image b)

pub unsound_are : UnsoundNumbersLaw
unfolding unsound_numbers
unsound_are g capacity image c agrees =
    filter_same (is_unsound_unmarked g image c.blocks) (λ row. not (is_factory g image (row / g.pages)) && is_broken (page_in image row)) 0 (row_count g)
    (λ row low high. ap (λ k. not k && is_broken (page_in image row))
    (ap (λ k. k == 4) (class_is g capacity image c agrees (row / g.pages) (row_block g row (omega (arith, high)))) ∙ factory_class g image (row / g.pages)))
