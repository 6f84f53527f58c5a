-- What the counts of wrong bits come to, as one statement each.
use Rattle.std.specs.Prelude.{◌≡◌, ◌≢◌, ℕ, ◌+◌, ◌-◌, ◌/◌, ◌^◌, ◌<◌, true, false, length, slice_index}
use Rattle.page_layout.specs.declared.geometry.Geometry.{Geometry}
use Rattle.page_layout.specs.Page.{Page}
use Rattle.page_code.specs.Layout.{coded}
use Rattle.page_code.specs.Wrong.{bits_wrong}
use Rattle.corrected_nand.specs.Shown.{is_shown}
use Rattle.corrected_nand.specs.Errors.{Errors}
use Rattle.corrected_nand.specs.Corrected.{after_read}

-- a page that is read as it was written has no wrong bit
abbrev pub CleanLaw : Type 0
CleanLaw = (g : Geometry) (p : Page) → bits_wrong g p (coded g p) ≡ 0

-- a read of a page that is shown raises the bits of its block, and of all, by those that were wrong, below the greatest u64
pub record RaisesTurned (g : Geometry) (row bits : ℕ) (old new : Errors) : Type 0 where
  pub all : old.turned + bits < 2 ^ 64 → new.turned ≡ old.turned + bits
  pub block : slice_index old.turned_in (row / g.pages) + bits < 2 ^ 64 → slice_index new.turned_in (row / g.pages) ≡ slice_index old.turned_in (row / g.pages) + bits
  pub others : (k : ℕ) → k ≢ row / g.pages → slice_index new.turned_in k ≡ slice_index old.turned_in k
  pub lost : new.lost ≡ old.lost
  pub lost_in : new.lost_in ≡ old.lost_in

abbrev pub RaisesTurnedLaw : Type 0
RaisesTurnedLaw = (g : Geometry) (row : ℕ) (put shown : Page) (e : Errors) → row / g.pages < length e.turned_in → is_shown shown ≡ true → RaisesTurned g row (bits_wrong g shown put) e (after_read g row put shown e)

-- one of a page that is lost raises the lost ones by one
pub record RaisesLost (g : Geometry) (row : ℕ) (old new : Errors) : Type 0 where
  pub all : old.lost + 1 < 2 ^ 64 → new.lost ≡ old.lost + 1
  pub block : slice_index old.lost_in (row / g.pages) + 1 < 2 ^ 64 → slice_index new.lost_in (row / g.pages) ≡ slice_index old.lost_in (row / g.pages) + 1
  pub others : (k : ℕ) → k ≢ row / g.pages → slice_index new.lost_in k ≡ slice_index old.lost_in k
  pub turned : new.turned ≡ old.turned
  pub turned_in : new.turned_in ≡ old.turned_in

abbrev pub RaisesLostLaw : Type 0
RaisesLostLaw = (g : Geometry) (row : ℕ) (put shown : Page) (e : Errors) → row / g.pages < length e.lost_in → is_shown shown ≡ false → RaisesLost g row e (after_read g row put shown e)

-- a count that is the greatest u64 stays, whatever is read
pub record KeepsTopCounts (old new : Errors) : Type 0 where
  pub turned : old.turned ≡ 2 ^ 64 - 1 → new.turned ≡ 2 ^ 64 - 1
  pub lost : old.lost ≡ 2 ^ 64 - 1 → new.lost ≡ 2 ^ 64 - 1
  pub turned_in : (k : ℕ) → slice_index old.turned_in k ≡ 2 ^ 64 - 1 → slice_index new.turned_in k ≡ 2 ^ 64 - 1
  pub lost_in : (k : ℕ) → slice_index old.lost_in k ≡ 2 ^ 64 - 1 → slice_index new.lost_in k ≡ 2 ^ 64 - 1

abbrev pub StaysAtTopLaw : Type 0
StaysAtTopLaw = (g : Geometry) (row : ℕ) (put shown : Page) (e : Errors) → KeepsTopCounts e (after_read g row put shown e)
