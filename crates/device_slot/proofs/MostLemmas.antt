-- The greatest erase count, block after block.
use Rattle.std.proofs.Common.{◌≡◌, inl, inr, ℕ, ◌+◌, ◌<◌, ◌≤◌, max, List, length, refl, ap, arith}
use Rattle.std.proofs.lemmas.Bool.{cases_lt}
use Rattle.bad_blocks.specs.declared.table.TableRow.{TableRow}
use Rattle.bad_blocks.specs.Table.{wear_at}
use Rattle.device_slot.specs.Slot.{IsMostWorn}

-- of so many blocks
pub record IsMostUpTo (table : List TableRow) (n most : ℕ) : Type 0 where
  pub above : (b : ℕ) → b < n → wear_at table b ≤ most
  pub some : 0 < n → (b : ℕ) × (b < n) × (wear_at table b ≡ most)
  pub none : n ≡ 0 → most ≡ 0

pub most_none : (table : List TableRow) → IsMostUpTo table 0 0
most_none table = record {
  above = λ b lt. absurd (omega (arith, lt));
  some = λ lt. absurd (omega (arith, lt));
  none = λ e. refl;
}

above_next : (table : List TableRow) (n most w r b : ℕ) → IsMostUpTo table n most → wear_at table n ≡ w → r ≡ max w most → b < n + 1 → wear_at table b ≤ r
above_next table n most w r b so here is lt = elim (cases_lt b n) [
  | inl below ↦ omega (arith, so.above b below, is)
  | inr at ↦ (let same : b ≡ n = omega (arith, at, lt) in omega (arith, ap (wear_at table) same, here, is))
]

some_next : (table : List TableRow) (n most w r : ℕ) → IsMostUpTo table n most → wear_at table n ≡ w → r ≡ max w most → (b : ℕ) × (b < n + 1) × (wear_at table b ≡ r)
some_next table n most w r so here is = elim (cases_lt most w) [
  | inl more ↦ (n, omega arith, omega (arith, here, is, more))
  | inr most_is ↦ elim (cases_lt 0 n) [
    | inl any ↦ (let its = so.some any in (its.0, omega (arith, its.1), omega (arith, its.2, is, most_is)))
    | inr none ↦ (n, omega arith, omega (arith, here, is, most_is, so.none (omega (arith, none))))
  ]
]

pub most_next : (table : List TableRow) (n most w r : ℕ) → IsMostUpTo table n most → wear_at table n ≡ w → r ≡ max w most → IsMostUpTo table (n + 1) r
most_next table n most w r so here is = record {
  above = λ b lt. above_next table n most w r b so here is lt;
  some = λ lt. some_next table n most w r so here is;
  none = λ e. absurd (omega (arith, e));
}

pub most_all : (table : List TableRow) (n most : ℕ) → length table ≤ n → n ≤ length table → IsMostUpTo table n most → IsMostWorn table most
most_all table n most low high so = record {
  above = λ b lt. so.above b (omega (arith, lt, high, low));
  some = λ any. (let its = so.some (omega (arith, any, low)) in (its.0, omega (arith, its.1, high), its.2));
  none = λ e. so.none (omega (arith, e, low));
}
