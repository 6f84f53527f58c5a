-- A chip has one geometry without its codes.
use Rattle.std.proofs.Common.{◌≡◌, ℕ, ◌+◌, ◌*◌, ◌≤◌, Option, IfSome, List, length, Some, None, sym, ap, ◌∙◌, arith}
use Rattle.std.specs.Int.{div_ceil}
use Rattle.std.proofs.Math.Nat.{mul-le-mul}
use Rattle.page_layout.specs.declared.geometry.Geometry.{Geometry}
use Rattle.page_layout.specs.Geometry.{row_count}
use Rattle.page_code.specs.Chip.{IsChipOf}
use Rattle.lab_dump.proofs.GeometryLemmas.{geometry_by}

pub one_geometry : (g h chip : Geometry) → IsChipOf g chip → IsChipOf h chip → g ≡ h
one_geometry g h chip a b =
    let area : g.data_bytes ≡ h.data_bytes = sym a.data_is ∙ b.data_is in
    let outer : g.spare_bytes + 3 * (div_ceil g.data_bytes 256 + 1) ≡ h.spare_bytes + 3 * (div_ceil h.data_bytes 256 + 1) = sym a.spare_is ∙ b.spare_is in
    let chunks : div_ceil g.data_bytes 256 ≡ div_ceil h.data_bytes 256 = ap (λ d. div_ceil d 256) area in
    let spare : g.spare_bytes ≡ h.spare_bytes = omega arith in
    geometry_by g h area spare (sym a.pages_is ∙ b.pages_is) (sym a.blocks_is ∙ b.blocks_is) (sym a.sectors_is ∙ b.sectors_is)

-- as many rows
pub rows_same : (g chip : Geometry) → IsChipOf g chip → row_count chip ≡ row_count g
rows_same g chip h = ap (λ b. b * chip.pages) h.blocks_is ∙ ap (λ p. g.blocks * p) h.pages_is

pub sized_as : (g chip : Geometry) (pieces : Option (List (List ℕ))) → IsChipOf g chip → IfSome pieces (λ ps. length ps ≡ row_count g) → IfSome pieces (λ ps. length ps ≡ row_count chip)
sized_as g chip None of h = tt
sized_as g chip (Some ps) of h = h ∙ sym (rows_same g chip of)

pub few_rows : (g : Geometry) → row_count g ≤ 1048576
few_rows g =
    let most : row_count g ≤ 4096 * 256 = mul-le-mul g.limits.block_count.most g.limits.page_count.most in
    omega arith
