-- Which answers the state of a die allows its format.
use Rattle.std.proofs.Common.{◌≡◌, ℕ, inl, inr, ◌+◌, Ok, Err, arith}
use Rattle.std.proofs.lemmas.Bool.{cases_order, cases_eq, both_ways}
use Rattle.page_layout.specs.declared.geometry.Geometry.{Geometry}
use Rattle.page_layout.specs.Geometry.{row_count}
use Rattle.page_layout.specs.Flash.{Flash}
use Rattle.mount.specs.declared.format_fault.FormatFault.TheVariants.{TooFewGood, Bus, OutOfMemory, WriteFailed, NotFresh}
use Rattle.mount.specs.Log.{failures}
use Rattle.mount.specs.Fresh.{is_used, IsFirstPass, IsFresh}
use Rattle.mount.specs.FormatLaws.{FewLaw, UsedLaw, FreshLaw}

pub few : FewLaw
few g needed old new (Ok good) short formats = absurd (omega (arith, formats.fewer, formats.enough, short))
few g needed old new (Err (TooFewGood good asked)) short formats =
    elim (cases_eq (failures formats.log) 0) [
      | inl none ↦ (omega (arith, formats.fewer, none), formats.asked_is, formats.untouched none)
      | inr some ↦ (let last : good + 1 ≡ needed = formats.just (omega arith) in absurd (omega (arith, formats.fewer, short)))
    ]
few g needed old new (Err Bus) short formats = tt
few g needed old new (Err OutOfMemory) short formats = tt
few g needed old new (Err WriteFailed) short formats = absurd (omega (arith, formats.fewer, formats.enough, short))
few g needed old new (Err (NotFresh row)) short formats = absurd (omega (arith, formats.enough, short))

-- a fresh die has no used row
fresh_unused : (g : Geometry) (old : Flash) (row : ℕ) → IsFresh g old.image → IsFirstPass (is_used g old.image) 0 (row_count g) row → ⊥
fresh_unused g old row fresh first = both_ways (is_used g old.image row) (fresh.none row (omega arith) first.within) first.pass

pub used : UsedLaw
used g needed old new row (Ok good) enough first formats = absurd (fresh_unused g old row formats.fresh first)
used g needed old new row (Err (TooFewGood good asked)) enough first formats =
    elim (cases_eq (failures formats.log) 0) [
      | inl none ↦ absurd (omega (arith, formats.fewer, formats.few, none, enough))
      | inr some ↦ absurd (fresh_unused g old row (formats.fresh (omega arith)) first)
    ]
used g needed old new row (Err Bus) enough first formats = tt
used g needed old new row (Err OutOfMemory) enough first formats = tt
used g needed old new row (Err WriteFailed) enough first formats = absurd (fresh_unused g old row formats.fresh first)
used g needed old new row (Err (NotFresh other)) enough first formats = elim (cases_order other row) [
  | inl same ↦ same
  | inr (inl below) ↦ absurd (both_ways (is_used g old.image other) (first.before.none other (omega arith) below) formats.first.pass)
  | inr (inr above) ↦ absurd (both_ways (is_used g old.image row) (formats.first.before.none row (omega arith) above) first.pass)
]

pub fresh : FreshLaw
fresh g needed old new (Ok good) enough is formats = omega (arith, formats.fewer)
fresh g needed old new (Err (TooFewGood good asked)) enough is formats =
    elim (cases_eq (failures formats.log) 0) [
      | inl none ↦ absurd (omega (arith, formats.fewer, formats.few, none, enough))
      | inr some ↦ (omega (arith, formats.few, enough), formats.just (omega arith))
    ]
fresh g needed old new (Err Bus) enough is formats = tt
fresh g needed old new (Err OutOfMemory) enough is formats = tt
fresh g needed old new (Err WriteFailed) enough is formats = omega (arith, formats.fewer, formats.enough)
fresh g needed old new (Err (NotFresh row)) enough is formats = absurd (fresh_unused g old row is formats.first)
