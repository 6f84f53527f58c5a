-- THE LIST OF LOST SECTORS IS KEPT FIRST.
use Rattle.std.specs.Prelude.{◌≡◌, ◌⊎◌, ℕ, Bool, true, false, List}
use Rattle.std.specs.List.{list_any}
use Rattle.page_layout.specs.Counter.{HasRisen}

-- whether any sector is on a list
abbrev pub any_on : List Bool → Bool
any_on lost = list_any (λ is_lost. is_lost) lost

-- WHERE ANY SECTOR IS LOST the list lasts. WHERE NONE IS no list is written: its place is as it was
pub record KeepsIfAny {K : Type 0} (kept : K → List Bool) (lost : List Bool) (keeper left : K) : Type 0 where
  pub lasts : any_on lost ≡ true → kept left ≡ lost
  pub unwritten : any_on lost ≡ false → left ≡ keeper

-- IT WAS NOT KEPT: some sector is lost, the failure was counted, and the list that lasts is the one before or this one
pub record IsUnkept {K : Type 0} (kept : K → List Bool) (failed : K → ℕ) (lost : List Bool) (keeper left : K) : Type 0 where
  pub some : any_on lost ≡ true
  pub lasts : (kept left ≡ kept keeper) ⊎ (kept left ≡ lost)
  pub rose : HasRisen (failed keeper) (failed left)
