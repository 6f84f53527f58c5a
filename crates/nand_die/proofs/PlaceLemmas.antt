-- Where a page and a block lie in an array of bytes.
use Rattle.std.proofs.Common.{◌≡◌, ℕ, suc, ◌+◌, ◌*◌, ◌<◌, ◌≤◌, sym, subst, arith, ap, ◌∙◌}
use Rattle.std.proofs.Math.Nat.{mul-le-mul_right}
use Rattle.page_layout.specs.declared.geometry.Geometry.{Geometry}
use Rattle.page_layout.specs.Geometry.{page_bytes, row_count}
use Rattle.nand_die.proofs.PagesLemmas.{block_within}

pub page_ends : (g : Geometry) (row size : ℕ) → row < row_count g → size ≡ page_bytes g → row * size + size ≤ row_count g * page_bytes g
page_ends g row size lt e =
    let h : suc row * page_bytes g ≤ row_count g * page_bytes g = mul-le-mul_right (page_bytes g) lt in
    subst (λ z. row * z + z ≤ row_count g * page_bytes g) (sym e) (omega (arith, h))

pub block_places : (g : Geometry) (block size : ℕ) → block < g.blocks → size ≡ g.pages * page_bytes g → (block * size ≡ block * g.pages * page_bytes g) × (block * size + size ≤ row_count g * page_bytes g)
block_places g block size lt e =
    let at : block * size ≡ block * g.pages * page_bytes g = ap (λ z. block * z) e ∙ omega arith in
    let h : (block * g.pages + g.pages) * page_bytes g ≤ row_count g * page_bytes g = mul-le-mul_right (page_bytes g) (block_within g block lt) in
    let all : (block * g.pages + g.pages) * page_bytes g ≡ block * g.pages * page_bytes g + g.pages * page_bytes g = omega arith in
    (at, omega (arith, at, e, h, all))
