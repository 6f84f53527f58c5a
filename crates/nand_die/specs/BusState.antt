-- Where the die stands between two cycles and what a cycle asks for, as the code keeps them, seen as the protocol has them.
use Rattle.std.specs.Prelude.{◌≡◌, ◌≢◌, ℕ, ◌<◌, ◌≤◌, List, [], ◌∷◌, drop, replicate}
use Rattle.page_layout.specs.declared.geometry.Geometry.{Geometry}
use Rattle.page_layout.specs.Geometry.{row_count, page_bytes}
use Rattle.page_layout.specs.Raw.{bytes_of_page}
use Rattle.page_layout.specs.Flash.{Flash, page_at}
use Rattle.onfi_cycles.specs.Cycles as cycles
use Rattle.onfi_cycles.specs.declared.nand.BusFault.{BusFault}
use Rattle.onfi_cycles.specs.declared.nand.BusFault.TheVariants.{Device}
use Rattle.nand_die.specs.declared.bus_state.OutputSource.{OutputSource}
use Rattle.nand_die.specs.declared.bus_state.OutputSource.TheVariants as source
use Rattle.nand_die.specs.declared.bus_state.AddressUse.{AddressUse}
use Rattle.nand_die.specs.declared.bus_state.AddressUse.TheVariants as purpose
use Rattle.nand_die.specs.declared.bus_state.AddressBytes.{AddressBytes}
use Rattle.nand_die.specs.declared.bus_state.AddressBytes.TheVariants as sent
use Rattle.nand_die.specs.declared.bus_state.BusState.{BusState}
use Rattle.nand_die.specs.declared.bus_state.BusState.TheVariants as state
use Rattle.nand_die.specs.declared.bus_state.AddressProgress.{AddressProgress}
use Rattle.nand_die.specs.declared.bus_state.AddressProgress.TheVariants as progress
use Rattle.nand_die.specs.declared.bus_state.AddressStep.{AddressStep}
use Rattle.nand_die.specs.declared.bus_state.AddressStep.TheVariants as address
use Rattle.nand_die.specs.declared.bus_state.CommandStep.{CommandStep}
use Rattle.nand_die.specs.declared.bus_state.CommandStep.TheVariants as command

-- "ONFI", and the two bytes at address 00h
abbrev pub output_of : OutputSource → cycles.Output
output_of source.Nothing = cycles.NoOutput
output_of (source.Page row column) = cycles.PageOut row column
output_of source.Status = cycles.StatusOut
output_of (source.Identity taken) = cycles.IdentityOut (drop taken (0x4F ∷ 0x4E ∷ 0x46 ∷ 0x49 ∷ []))
output_of (source.Zeros taken) = cycles.IdentityOut (drop taken (0 ∷ 0 ∷ []))

-- what the address cycles are for, with the register that a change of column goes on with
abbrev pub purpose_of : List ℕ → AddressUse → cycles.Purpose
purpose_of register purpose.Read = cycles.ForRead
purpose_of register purpose.Program = cycles.ForProgram
purpose_of register purpose.Erase = cycles.ForErase
purpose_of register (purpose.ReadColumn row) = cycles.ForReadColumn row
purpose_of register (purpose.WriteColumn row) = cycles.ForWriteColumn row register
purpose_of register purpose.Identity = cycles.ForIdentity

-- the address cycles taken so far
abbrev pub address_bytes : AddressBytes → List ℕ
address_bytes sent.Zero = []
address_bytes (sent.One a) = a ∷ []
address_bytes (sent.Two a b) = a ∷ b ∷ []
address_bytes (sent.Three a b c) = a ∷ b ∷ c ∷ []
address_bytes (sent.Four a b c d) = a ∷ b ∷ c ∷ d ∷ []

-- the phase of the protocol that the die's state stands for
abbrev pub phase_of : List ℕ → BusState → cycles.Phase
phase_of register state.Unreset = cycles.Unreset
phase_of register (state.Ready source) = cycles.Ready (output_of source)
phase_of register (state.Addressing purpose bytes) = cycles.Taking (purpose_of register purpose) (address_bytes bytes)
phase_of register (state.Confirming purpose row column) = cycles.Confirming (purpose_of register purpose) row column
phase_of register (state.Loading row column) = cycles.Loading row column register

-- what the protocol asks for, where the die answers a command so
abbrev pub command_step_due : Geometry → List ℕ → CommandStep → cycles.Due
command_step_due g register (command.Moves to) = cycles.Moves (phase_of register to)
command_step_due g register command.Resets = cycles.Resets
command_step_due g register (command.Programs row) = cycles.Programs row (cycles.page_of g register)
command_step_due g register (command.Erases block) = cycles.Erases block
command_step_due g register (command.Refuses fault) = cycles.Refuses fault

-- what the protocol asks for, where the die answers an address cycle so
abbrev pub address_step_due : Geometry → List ℕ → AddressStep → cycles.Due
address_step_due g register (address.Moves to) = cycles.Moves (phase_of register to)
address_step_due g register (address.Loads row column) = cycles.Moves (cycles.Loading row column (replicate (page_bytes g) 255))
address_step_due g register (address.Refuses fault) = cycles.Refuses fault

-- the same of the address cycles of a page, a row or a column, which lead `to` where their use says
abbrev pub page_progress_due : (ℕ → ℕ → cycles.Phase) → cycles.Purpose → AddressProgress → cycles.Due
page_progress_due to purpose (progress.More bytes) = cycles.Moves (cycles.Taking purpose (address_bytes bytes))
page_progress_due to purpose (progress.Complete row column) = cycles.Moves (to row column)
page_progress_due to purpose (progress.Refused fault) = cycles.Refuses fault

abbrev pub row_progress_due : AddressProgress → cycles.Due
row_progress_due (progress.More bytes) = cycles.Moves (cycles.Taking cycles.ForErase (address_bytes bytes))
row_progress_due (progress.Complete row column) = cycles.Moves (cycles.Confirming cycles.ForErase row 0)
row_progress_due (progress.Refused fault) = cycles.Refuses fault

abbrev pub column_progress_due : (ℕ → cycles.Phase) → cycles.Purpose → AddressProgress → cycles.Due
column_progress_due to purpose (progress.More bytes) = cycles.Moves (cycles.Taking purpose (address_bytes bytes))
column_progress_due to purpose (progress.Complete row column) = cycles.Moves (to column)
column_progress_due to purpose (progress.Refused fault) = cycles.Refuses fault

-- the bytes are those of the page that is put out, where one is
abbrev pub ShowsPagePutOut : Flash → OutputSource → List ℕ → Type 0
ShowsPagePutOut s source.Nothing bytes = Unit {0}
ShowsPagePutOut s (source.Page row column) bytes = bytes_of_page (page_at s row) ≡ bytes
ShowsPagePutOut s source.Status bytes = Unit {0}
ShowsPagePutOut s (source.Identity taken) bytes = Unit {0}
ShowsPagePutOut s (source.Zeros taken) bytes = Unit {0}

-- ---- what holds of them

-- a fault of the protocol, and not of the device
abbrev pub IsProtocolFault : BusFault → Type 0
IsProtocolFault fault = fault ≢ Device

-- rows and columns that were taken lie in the die
abbrev pub IsOutputWithin : Geometry → OutputSource → Type 0
IsOutputWithin g source.Nothing = Unit {0}
IsOutputWithin g (source.Page row column) = (row < row_count g) × (column ≤ page_bytes g)
IsOutputWithin g source.Status = Unit {0}
IsOutputWithin g (source.Identity taken) = taken ≤ 4
IsOutputWithin g (source.Zeros taken) = taken ≤ 2

abbrev pub IsColumnWithin : Geometry → AddressBytes → Type 0
IsColumnWithin g sent.Zero = Unit {0}
IsColumnWithin g (sent.One a) = Unit {0}
IsColumnWithin g (sent.Two a b) = cycles.column_of a b < page_bytes g
IsColumnWithin g (sent.Three a b c) = cycles.column_of a b < page_bytes g
IsColumnWithin g (sent.Four a b c d) = cycles.column_of a b < page_bytes g

abbrev pub IsUseWithin : Geometry → AddressUse → AddressBytes → Type 0
IsUseWithin g purpose.Read bytes = IsColumnWithin g bytes
IsUseWithin g purpose.Program bytes = IsColumnWithin g bytes
IsUseWithin g purpose.Erase bytes = Unit {0}
IsUseWithin g (purpose.ReadColumn row) bytes = row < row_count g
IsUseWithin g (purpose.WriteColumn row) bytes = row < row_count g
IsUseWithin g purpose.Identity bytes = Unit {0}

abbrev pub IsWithin : Geometry → BusState → Type 0
IsWithin g state.Unreset = Unit {0}
IsWithin g (state.Ready source) = IsOutputWithin g source
IsWithin g (state.Addressing purpose bytes) = IsUseWithin g purpose bytes
IsWithin g (state.Confirming purpose row column) = (row < row_count g) × (column ≤ page_bytes g)
IsWithin g (state.Loading row column) = (row < row_count g) × (column ≤ page_bytes g)

-- what is said of a complete address
abbrev pub IfComplete : AddressProgress → (ℕ → ℕ → Type 0) → Type 0
IfComplete (progress.More bytes) p = Unit {0}
IfComplete (progress.Complete row column) p = p row column
IfComplete (progress.Refused fault) p = IsProtocolFault fault

abbrev pub IsProgressWithin : Geometry → AddressProgress → Type 0
IsProgressWithin g (progress.More bytes) = IsColumnWithin g bytes
IsProgressWithin g (progress.Complete row column) = (row < row_count g) × (column < page_bytes g)
IsProgressWithin g (progress.Refused fault) = IsProtocolFault fault

abbrev pub IsAddressStepWithin : Geometry → AddressStep → Type 0
IsAddressStepWithin g (address.Moves to) = IsWithin g to
IsAddressStepWithin g (address.Loads row column) = (row < row_count g) × (column ≤ page_bytes g)
IsAddressStepWithin g (address.Refuses fault) = IsProtocolFault fault

-- a program comes after data
abbrev pub IsCommandStepWithin : Geometry → BusState → CommandStep → Type 0
IsCommandStepWithin g «from» (command.Moves to) = IsWithin g to
IsCommandStepWithin g «from» command.Resets = Unit {0}
IsCommandStepWithin g «from» (command.Programs row) = (column : ℕ) × («from» ≡ state.Loading row column) × (row < row_count g)
IsCommandStepWithin g «from» (command.Erases block) = block < g.blocks
IsCommandStepWithin g «from» (command.Refuses fault) = IsProtocolFault fault
