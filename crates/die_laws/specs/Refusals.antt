-- What a cycle that is refused leaves of the bus's count and of the buffer.
use Rattle.std.specs.Prelude.{◌≡◌, ℕ, List}
use Rattle.onfi_cycles.specs.declared.nand.BusFault.{BusFault}
use Rattle.onfi_cycles.specs.declared.nand.BusFault.TheVariants.{NoReset, UnknownCommand, OutOfTurn, AddressRange, ColumnRange}
use Rattle.onfi_cycles.specs.Cycles.{IsUncounted, IsUntouched}

-- so it is of each fault but the device's
abbrev pub OfEachRefusal : (BusFault → Type 0) → Type 0
OfEachRefusal holds = holds NoReset × holds UnknownCommand × holds OutOfTurn × holds AddressRange × holds ColumnRange

-- A CYCLE THAT IS REFUSED leaves the count of the bus's faults as it was
abbrev pub UncountedLaw : Type 0
UncountedLaw = (old new : ℕ) → OfEachRefusal (λ fault. IsUncounted old new fault → new ≡ old)

-- A DATA OUT THAT IS REFUSED leaves each byte of the buffer as it was
abbrev pub KeptBufferLaw : Type 0
KeptBufferLaw = (old new : List ℕ) → OfEachRefusal (λ fault. IsUntouched old new fault → new ≡ old)
