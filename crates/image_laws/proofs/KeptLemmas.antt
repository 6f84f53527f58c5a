-- What stays, place by place.
use Rattle.std.proofs.Common.{◌≡◌, suc, ◌+◌, ◌-◌, ◌*◌, ◌≤◌, ◌⊎◌, true, false, inl, inr, refl, arith}
use Rattle.std.specs.Prelude.{Bool, not, ◌||◌}
use Rattle.std.proofs.lemmas.Bool.{cases_order, cases_lt}
use Rattle.std.proofs.Math.Nat.{mul-le-mul_right}
use Rattle.page_layout.specs.Geometry.{table_pages}
use Rattle.promises.specs.Log.{failed_in}
use Rattle.bad_blocks.specs.Marks.{is_marked}
use Rattle.image_laws.specs.Kept.{OtherTableRowsLaw, OtherPagesLaw, LowestTableLaw}

pub other_rows : OtherTableRowsLaw
other_rows entries u v i old new kept apart within = elim (cases_order v u) [
  | inl same ↦ absurd (apart same)
  | inr (inl below) ↦
      let room : suc v * entries ≤ u * entries = mul-le-mul_right entries below in
      let one : suc v * entries ≡ v * entries + entries = omega arith in
      kept.others (v * entries + i) (inl (omega arith))
  | inr (inr above) ↦
      let room : suc u * entries ≤ v * entries = mul-le-mul_right entries above in
      let one : suc u * entries ≡ u * entries + entries = omega arith in
      kept.others (v * entries + i) (inr (omega arith))
]

pub other_pages : OtherPagesLaw
other_pages g needed old new good row f within is_good apart = elim (cases_lt row (f.block * g.pages)) [
  | inl below ↦ f.others row within is_good (inl below)
  | inr above ↦ elim (cases_lt row (f.block * g.pages + table_pages g)) [
    | inl inside ↦ absurd (apart (row - f.block * g.pages) (omega arith) (omega arith))
    | inr after ↦ f.others row within is_good (inr after)
  ]
]

not_good : (a b : Bool) → not (a || b) ≡ false → (a ≡ true) ⊎ (b ≡ true)
not_good true b is = inl refl
not_good false true is = inr refl
not_good false false is = absurd cc

pub lowest_table : LowestTableLaw
lowest_table g old new log block lower table below =
    not_good (is_marked g old.image lower) (failed_in g.pages log lower) (table.lowest lower below)
