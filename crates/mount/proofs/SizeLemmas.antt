-- All table pages fit into one block.
use Rattle.std.proofs.Common.{ℕ, inl, inr, ◌+◌, ◌*◌, ◌<◌, ◌≤◌, arith}
use Rattle.std.proofs.Math.Nat.{mul-le-mul}
use Rattle.std.proofs.lemmas.Bool.{cases_lt}
use Rattle.std.proofs.lemmas.Grind.{div_ceil_times}
use Rattle.page_layout.specs.declared.geometry.Geometry.{Geometry}
use Rattle.page_layout.specs.Geometry.{entries, table_pages}

pub table_pages_fit : (g : Geometry) → table_pages g ≤ g.pages
table_pages_fit g =
    let e : ℕ = entries g in
    let some : 0 < e = omega (arith, g.limits.data_size.least) in
    let times = (div_ceil_times g.blocks e some).1 in
    let most : g.blocks ≤ e * g.pages = g.limits.block_count.within_table in
    elim (cases_lt g.pages (table_pages g)) [
      | inl more ↦
          let too_many : (g.pages + 1) * e ≤ table_pages g * e = mul-le-mul (omega arith) (omega arith) in
          absurd (omega arith)
      | inr fits ↦ fits
    ]
