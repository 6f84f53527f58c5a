-- What a refused cycle leaves: none of its faults is the device's.
use Rattle.std.proofs.Common.{◌≡◌, ◌≢◌, ℕ, List}
use Rattle.onfi_cycles.specs.declared.nand.BusFault.TheVariants.{NoReset, UnknownCommand, OutOfTurn, AddressRange, ColumnRange, Device}
use Rattle.die_laws.specs.Refusals.{UncountedLaw, KeptBufferLaw}

no_reset : NoReset ≢ Device
no_reset e = cc

unknown : UnknownCommand ≢ Device
unknown e = cc

out_of_turn : OutOfTurn ≢ Device
out_of_turn e = cc

address : AddressRange ≢ Device
address e = cc

column : ColumnRange ≢ Device
column e = cc

pub uncounted : UncountedLaw
uncounted old new = (λ h. h no_reset, λ h. h unknown, λ h. h out_of_turn, λ h. h address, λ h. h column)

pub kept_buffer : KeptBufferLaw
kept_buffer old new = (λ h. h no_reset, λ h. h unknown, λ h. h out_of_turn, λ h. h address, λ h. h column)
