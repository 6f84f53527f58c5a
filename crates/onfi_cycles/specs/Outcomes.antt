-- Outcomes, faults and status bytes.
use Rattle.std.specs.Prelude.{ℕ, Bool, true, false, ◌==◌, Option, Some, None, Result, Ok, Err, if◌then◌else◌}
use Rattle.std.specs.Int.RustNames.{bit_and}
use Rattle.onfi_cycles.specs.declared.nand.BusFault.{BusFault}
use Rattle.onfi_cycles.specs.declared.nand.BusFault.TheVariants.{NoReset, UnknownCommand, OutOfTurn, AddressRange, ColumnRange, Device}
use Rattle.onfi_cycles.specs.declared.nand.Outcome.{Outcome}
use Rattle.onfi_cycles.specs.declared.nand.Outcome.TheVariants.{Passed, Failed}

-- whether the operation passed
abbrev pub is_passed : Outcome → Bool
is_passed Passed = true
is_passed Failed = false

-- what is told of a program or an erase: whether it passed, or a fault
abbrev pub passed_in : Result Outcome BusFault → Option Bool
passed_in (Ok outcome) = Some (is_passed outcome)
passed_in (Err fault) = None

-- the byte has all of these bits
abbrev pub has_bits : ℕ → ℕ → Bool
has_bits byte bits = bit_and byte bits == bits

-- What a status byte says. Of a die that has done its operation the bits 80h (not write protected), 40h (ready) and 20h (array
-- ready) are set: else the device failed, whatever the other bits say. 01h is FAIL, and the rest is not looked at.
abbrev pub outcome_of : ℕ → Result Outcome BusFault
outcome_of byte = if has_bits byte 0xE0 then (if has_bits byte 0x01 then Ok Failed else Ok Passed) else Err Device

-- the number of a fault
abbrev pub bus_fault_number : BusFault → ℕ
bus_fault_number NoReset = 1
bus_fault_number UnknownCommand = 2
bus_fault_number OutOfTurn = 3
bus_fault_number AddressRange = 4
bus_fault_number ColumnRange = 5
bus_fault_number Device = 6
