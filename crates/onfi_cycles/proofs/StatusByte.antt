-- The status byte that is put out.
use Rattle.std.proofs.Common.{◌≡◌, ℕ, ◌+◌, Bool, List, sym, ◌∙◌, ap, get_or, true, false, length, drop}
use Rattle.std.specs.Prelude.{nat_le, if◌then◌else◌}
use Rattle.page_layout.specs.Geometry.{page_bytes}
use Rattle.onfi_cycles.specs.Cycles.{DieState, Phase, Output, NoOutput, PageOut, StatusOut, IdentityOut, Unreset, Ready, Taking, Confirming, Loading}
use Rattle.onfi_cycles.specs.Cycles.{DataOut, CycleStep, Does, Moves, Refuses, data_out_due, bytes_out}
use Rattle.onfi_cycles.specs.Spelling.{done}
use Rattle.onfi_cycles.specs.declared.nand.BusFault.TheVariants.{ColumnRange}

-- a page or an identity that is put out stays the output
page_stays : (t : Bool) (a b : DieState) (row column : ℕ) → Does (if t then Moves (Ready (PageOut row column)) else Refuses ColumnRange) a b → b.phase ≡ Ready StatusOut → ⊥
page_stays true a b row column does at = let e : Ready (PageOut row column) ≡ Ready StatusOut = sym (ap (λ (d : DieState). d.phase) does) ∙ at in cc
page_stays false a b row column does at = does

identity_stays : (t : Bool) (a b : DieState) (left : List ℕ) → Does (if t then Moves (Ready (IdentityOut left)) else Refuses ColumnRange) a b → b.phase ≡ Ready StatusOut → ⊥
identity_stays true a b left does at = let e : Ready (IdentityOut left) ≡ Ready StatusOut = sym (ap (λ (d : DieState). d.phase) does) ∙ at in cc
identity_stays false a b left does at = does

by_output : (out : Output) (a b : DieState) (bytes : List ℕ) → Does (data_out_due a.flash.geometry (Ready out) 1) a b → b.phase ≡ Ready StatusOut → bytes ≡ bytes_out a (Ready out) 1 → get_or bytes 0 0 ≡ b.status
unfolding data_out_due bytes_out
by_output NoOutput a b bytes does at read = absurd does
by_output (PageOut row column) a b bytes does at read = absurd (page_stays (nat_le (column + 1) (page_bytes a.flash.geometry)) a b row (column + 1) does at)
by_output StatusOut a b bytes does at read = ap (λ xs. get_or xs 0 0) read ∙ sym (ap (λ (d : DieState). d.status) does)
by_output (IdentityOut left) a b bytes does at read = absurd (identity_stays (nat_le 1 (length left)) a b (drop 1 left) does at)

by_phase : (p : Phase) (a b : DieState) (bytes : List ℕ) → Does (data_out_due a.flash.geometry p 1) a b → b.phase ≡ Ready StatusOut → bytes ≡ bytes_out a p 1 → get_or bytes 0 0 ≡ b.status
unfolding data_out_due
by_phase Unreset a b bytes does at read = absurd does
by_phase (Ready out) a b bytes does at read = by_output out a b bytes does at read
by_phase (Taking purpose got) a b bytes does at read = absurd does
by_phase (Confirming purpose row column) a b bytes does at read = absurd does
by_phase (Loading row column register) a b bytes does at read = absurd does

-- data out that leaves the status to be put out again has put out the status
pub status_out : (a b : DieState) (bytes : List ℕ) → CycleStep a (DataOut 1) done b → b.phase ≡ Ready StatusOut → bytes ≡ bytes_out a a.phase 1 → get_or bytes 0 0 ≡ b.status
status_out a b bytes step at read = by_phase a.phase a b bytes step at read
