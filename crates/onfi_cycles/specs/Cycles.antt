-- The cycles of a bus: what each asks of the die, and what it leaves.
use Rattle.std.specs.Prelude.{◌≡◌, ◌≢◌, ℕ, Bool, true, false, ◌==◌, ◌+◌, ◌*◌, ◌/◌, nat_lt, nat_le, List, [], ◌∷◌, ◌++◌, length, take, drop}
use Rattle.std.specs.Prelude.{replicate, if◌then◌else◌, Result, Ok, Err}
use Rattle.page_layout.specs.declared.geometry.Geometry.{Geometry}
use Rattle.page_layout.specs.Geometry.{row_count, page_bytes}
use Rattle.page_layout.specs.Page.{Page, page}
use Rattle.page_layout.specs.Raw.{bytes_of_page}
use Rattle.page_layout.specs.Counter.{HasRisen}
use Rattle.page_layout.specs.Flash.{Flash, Operation, Program, Erase, Steps, page_at, block_at}
use Rattle.onfi_cycles.specs.declared.nand.BusFault.{BusFault}
use Rattle.onfi_cycles.specs.declared.nand.BusFault.TheVariants.{NoReset, UnknownCommand, OutOfTurn, AddressRange, ColumnRange, Device}

-- a cycle of the bus: one command byte, one address byte, bytes for the page register, or a number of bytes to be put out
pub data Cycle : Type 0 where
  Command : (code : ℕ) → Cycle
  Address : (byte : ℕ) → Cycle
  DataIn : (bytes : List ℕ) → Cycle
  DataOut : (count : ℕ) → Cycle

-- what data out gives
pub data Output : Type 0 where
  NoOutput : Output
  PageOut : (row column : ℕ) → Output
  StatusOut : Output
  IdentityOut : (bytes : List ℕ) → Output

-- what address cycles are for
pub data Purpose : Type 0 where
  ForRead : Purpose
  ForProgram : Purpose
  ForErase : Purpose
  ForReadColumn : (row : ℕ) → Purpose
  ForWriteColumn : (row : ℕ) (register : List ℕ) → Purpose
  ForIdentity : Purpose

-- where the die stands between two cycles: not yet reset; idle, and putting something out; taking address cycles, these so far; before a
-- confirm cycle (of a read, an erase or a column of a read: programs wait in Loading, identities need none); or taking data in
pub data Phase : Type 0 where
  Unreset : Phase
  Ready : (out : Output) → Phase
  Taking : (purpose : Purpose) (got : List ℕ) → Phase
  Confirming : (purpose : Purpose) (row column : ℕ) → Phase
  Loading : (row column : ℕ) (register : List ℕ) → Phase

-- a die between two cycles: its flash, where it stands, and its status byte
pub record DieState : Type 0 where
  pub flash : Flash
  pub phase : Phase
  pub status : ℕ

-- what a cycle asks for: to go on to a phase, to reset, to program or erase, or to be refused
pub data Due : Type 0 where
  Moves : (phase : Phase) → Due
  Resets : Due
  Programs : (row : ℕ) (page : Page) → Due
  Erases : (block : ℕ) → Due
  Refuses : (fault : BusFault) → Due

-- a register as a page
abbrev pub page_of : Geometry → List ℕ → Page
page_of g register = page (take g.data_bytes register) (drop g.data_bytes register)

-- whether the code stands in the table of commands
abbrev pub is_known : ℕ → Bool
is_known code = if code == 0x00 then true else if code == 0x05 then true else if code == 0x10 then true else if code == 0x30 then true
    else if code == 0x60 then true else if code == 0x70 then true else if code == 0x80 then true else if code == 0x85 then true
    else if code == 0x90 then true else if code == 0xD0 then true else if code == 0xE0 then true else code == 0xFF

-- a command that isn't due now: out of turn, or none that there is
abbrev pub not_due : ℕ → Due
not_due code = if is_known code then Refuses OutOfTurn else Refuses UnknownCommand

-- 05h is due only while the page of the last read is being put out
abbrev pub change_read_due : Output → Due
change_read_due (PageOut row column) = Moves (Taking (ForReadColumn row) [])
change_read_due NoOutput = Refuses OutOfTurn
change_read_due StatusOut = Refuses OutOfTurn
change_read_due (IdentityOut bytes) = Refuses OutOfTurn

-- a command other than Reset
abbrev pub command_due' : Geometry → Phase → ℕ → Due
command_due' g Unreset code = Refuses NoReset
command_due' g (Ready out) code =
    if code == 0x00 then Moves (Taking ForRead [])
    else if code == 0x60 then Moves (Taking ForErase [])
    else if code == 0x70 then Moves (Ready StatusOut)
    else if code == 0x80 then Moves (Taking ForProgram [])
    else if code == 0x90 then Moves (Taking ForIdentity [])
    else if code == 0x05 then change_read_due out
    else not_due code
command_due' g (Taking purpose got) code = not_due code
command_due' g (Confirming ForRead row column) code = if code == 0x30 then Moves (Ready (PageOut row column)) else not_due code
command_due' g (Confirming ForErase row column) code = if code == 0xD0 then Erases (row / g.pages) else not_due code
command_due' g (Confirming (ForReadColumn r) row column) code = if code == 0xE0 then Moves (Ready (PageOut row column)) else not_due code
command_due' g (Confirming ForProgram row column) code = not_due code
command_due' g (Confirming (ForWriteColumn r kept) row column) code = not_due code
command_due' g (Confirming ForIdentity row column) code = not_due code
command_due' g (Loading row column register) code =
    if code == 0x10 then Programs row (page_of g register)
    else if code == 0x85 then Moves (Taking (ForWriteColumn row register) [])
    else not_due code

-- a command: Reset at any time
unfoldable pub command_due : Geometry → Phase → ℕ → Due
command_due g phase code = if code == 0xFF then Resets else command_due' g phase code

-- numbers of two and three address cycles, least significant byte first
abbrev pub column_of : ℕ → ℕ → ℕ
column_of low high = low + 256 * high

abbrev pub row_of : ℕ → ℕ → ℕ → ℕ
row_of low middle high = low + 256 * middle + 65536 * high

-- the cycles of column and row: the column is looked at when its second cycle comes, the row at its third
abbrev pub page_address_due : Geometry → (ℕ → ℕ → Phase) → Purpose → List ℕ → ℕ → Due
page_address_due g to purpose [] b = Moves (Taking purpose (b ∷ []))
page_address_due g to purpose (c0 ∷ []) b = if nat_lt (column_of c0 b) (page_bytes g) then Moves (Taking purpose (c0 ∷ b ∷ [])) else Refuses ColumnRange
page_address_due g to purpose (c0 ∷ c1 ∷ []) b = Moves (Taking purpose (c0 ∷ c1 ∷ b ∷ []))
page_address_due g to purpose (c0 ∷ c1 ∷ r0 ∷ []) b = Moves (Taking purpose (c0 ∷ c1 ∷ r0 ∷ b ∷ []))
page_address_due g to purpose (c0 ∷ c1 ∷ r0 ∷ r1 ∷ rest) b = if nat_lt (row_of r0 r1 b) (row_count g) then Moves (to (row_of r0 r1 b) (column_of c0 c1)) else Refuses AddressRange

-- the cycles of a row alone
abbrev pub row_address_due : Geometry → List ℕ → ℕ → Due
row_address_due g [] b = Moves (Taking ForErase (b ∷ []))
row_address_due g (r0 ∷ []) b = Moves (Taking ForErase (r0 ∷ b ∷ []))
row_address_due g (r0 ∷ r1 ∷ rest) b = if nat_lt (row_of r0 r1 b) (row_count g) then Moves (Confirming ForErase (row_of r0 r1 b) 0) else Refuses AddressRange

-- the cycles of a column alone
abbrev pub column_address_due : Geometry → (ℕ → Phase) → Purpose → List ℕ → ℕ → Due
column_address_due g to purpose [] b = Moves (Taking purpose (b ∷ []))
column_address_due g to purpose (c0 ∷ rest) b = if nat_lt (column_of c0 b) (page_bytes g) then Moves (to (column_of c0 b)) else Refuses ColumnRange

-- an address cycle, by what the address is for. After 80h the page register is all FFh. Read ID gives "ONFI" at 20h
abbrev pub address_for : Geometry → Purpose → List ℕ → ℕ → Due
address_for g ForRead got b = page_address_due g (λ row column. Confirming ForRead row column) ForRead got b
address_for g ForProgram got b = page_address_due g (λ row column. Loading row column (replicate (page_bytes g) 255)) ForProgram got b
address_for g ForErase got b = row_address_due g got b
address_for g (ForReadColumn row) got b = column_address_due g (λ column. Confirming (ForReadColumn row) row column) (ForReadColumn row) got b
address_for g (ForWriteColumn row register) got b = column_address_due g (λ column. Loading row column register) (ForWriteColumn row register) got b
address_for g ForIdentity got b =
    if b == 0x20 then Moves (Ready (IdentityOut (0x4F ∷ 0x4E ∷ 0x46 ∷ 0x49 ∷ [])))
    else if b == 0x00 then Moves (Ready (IdentityOut (0 ∷ 0 ∷ [])))
    else Refuses AddressRange

-- an address cycle: due only where an address is being taken
unfoldable pub address_due : Geometry → Phase → ℕ → Due
address_due g Unreset b = Refuses NoReset
address_due g (Ready out) b = Refuses OutOfTurn
address_due g (Taking purpose got) b = address_for g purpose got b
address_due g (Confirming purpose row column) b = Refuses OutOfTurn
address_due g (Loading row column register) b = Refuses OutOfTurn

-- bytes in their place in the register
abbrev pub replaced : List ℕ → ℕ → List ℕ → List ℕ
replaced register column bytes = take column register ++ bytes ++ drop (column + length bytes) register

-- data in: due only between the last address cycle of a program and its confirm cycle; past the last column it moves nothing
unfoldable pub data_in_due : Geometry → Phase → List ℕ → Due
data_in_due g Unreset bytes = Refuses NoReset
data_in_due g (Ready out) bytes = Refuses OutOfTurn
data_in_due g (Taking purpose got) bytes = Refuses OutOfTurn
data_in_due g (Confirming purpose row column) bytes = Refuses OutOfTurn
data_in_due g (Loading row column register) bytes =
    if nat_le (column + length bytes) (page_bytes g) then Moves (Loading row (column + length bytes) (replaced register column bytes)) else Refuses ColumnRange

-- data out, by what is put out: past its end it moves nothing, and the status never ends
abbrev pub output_due : Geometry → Output → ℕ → Due
output_due g NoOutput n = Refuses OutOfTurn
output_due g (PageOut row column) n = if nat_le (column + n) (page_bytes g) then Moves (Ready (PageOut row (column + n))) else Refuses ColumnRange
output_due g StatusOut n = Moves (Ready StatusOut)
output_due g (IdentityOut bytes) n = if nat_le n (length bytes) then Moves (Ready (IdentityOut (drop n bytes))) else Refuses ColumnRange

-- data out: due only where something is put out
unfoldable pub data_out_due : Geometry → Phase → ℕ → Due
data_out_due g Unreset n = Refuses NoReset
data_out_due g (Ready out) n = output_due g out n
data_out_due g (Taking purpose got) n = Refuses OutOfTurn
data_out_due g (Confirming purpose row column) n = Refuses OutOfTurn
data_out_due g (Loading row column register) n = Refuses OutOfTurn

-- what is put out
abbrev pub bytes_for : DieState → Output → ℕ → List ℕ
bytes_for d NoOutput n = []
bytes_for d (PageOut row column) n = take n (drop column (bytes_of_page (page_at d.flash row)))
bytes_for d StatusOut n = replicate n d.status
bytes_for d (IdentityOut bytes) n = take n bytes

-- the bytes that a data out gives where it is taken
unfoldable pub bytes_out : DieState → Phase → ℕ → List ℕ
bytes_out d Unreset n = []
bytes_out d (Ready out) n = bytes_for d out n
bytes_out d (Taking purpose got) n = []
bytes_out d (Confirming purpose row column) n = []
bytes_out d (Loading row column register) n = []

-- what a cycle asks for, where the die stands so
abbrev pub due_of : Geometry → Phase → Cycle → Due
due_of g phase (Command code) = command_due g phase code
due_of g phase (Address byte) = address_due g phase byte
due_of g phase (DataIn bytes) = data_in_due g phase bytes
due_of g phase (DataOut count) = data_out_due g phase count

-- a fault gives up the unfinished command
abbrev pub given_up : Phase → Phase
given_up Unreset = Unreset
given_up (Ready out) = Ready NoOutput
given_up (Taking purpose got) = Ready NoOutput
given_up (Confirming purpose row column) = Ready NoOutput
given_up (Loading row column register) = Ready NoOutput

-- the die in this phase, all else as it was
abbrev pub to_phase : Phase → DieState → DieState
to_phase phase d = record { flash = d.flash; phase = phase; status = d.status }

-- the status byte after a program or an erase
abbrev pub status_of : Bool → ℕ
status_of true = 0xE0
status_of false = 0xE1

-- an operation was done, and the die is ready with its status
pub record Performs (old : DieState) (op : Bool → Operation) (new : DieState) : Type 0 where
  pub passed : Bool
  pub step : Steps old.flash (op passed) new.flash
  pub phase : new.phase ≡ Ready NoOutput
  pub status : new.status ≡ status_of passed

-- what was due is done. A program or an erase has its outcome, by the law of the die's operations
abbrev pub Does : Due → DieState → DieState → Type 0
Does (Moves phase) old new = new ≡ to_phase phase old
Does Resets old new = new ≡ record { flash = old.flash; phase = Ready NoOutput; status = 0xE0 }
Does (Programs row page) old new = Performs old (λ passed. Program row page passed (page_at new.flash row)) new
Does (Erases block) old new = Performs old (λ passed. Erase block passed (block_at new.flash block)) new
Does (Refuses fault) old new = ⊥

-- a device's fault may come at any cycle; any other just where the cycle is refused with it, and it gives up the command alone
abbrev pub FailsBy : Due → DieState → DieState → BusFault → Type 0
FailsBy due old new Device = new.phase ≡ given_up old.phase
FailsBy due old new NoReset = (due ≡ Refuses NoReset) × (new ≡ to_phase (given_up old.phase) old)
FailsBy due old new UnknownCommand = (due ≡ Refuses UnknownCommand) × (new ≡ to_phase (given_up old.phase) old)
FailsBy due old new OutOfTurn = (due ≡ Refuses OutOfTurn) × (new ≡ to_phase (given_up old.phase) old)
FailsBy due old new AddressRange = (due ≡ Refuses AddressRange) × (new ≡ to_phase (given_up old.phase) old)
FailsBy due old new ColumnRange = (due ≡ Refuses ColumnRange) × (new ≡ to_phase (given_up old.phase) old)

-- what follows from what is due: it was done, or the cycle failed
abbrev pub Follows : {A : Type 0} → Due → DieState → DieState → Result A BusFault → Type 0
Follows due old new (Ok x) = Does due old new
Follows due old new (Err fault) = FailsBy due old new fault

-- THE BUS PROTOCOL: in this state of the die this cycle may have this answer, and leave the die in this state.
-- What a data out puts out is `bytes_out`.
abbrev pub CycleStep : {A : Type 0} → DieState → Cycle → Result A BusFault → DieState → Type 0
CycleStep old cycle answer new = Follows (due_of old.flash.geometry old.phase cycle) old new answer

-- a device's fault comes only where the count rose, or stands at its greatest value
abbrev pub IsCounted : ℕ → ℕ → BusFault → Type 0
IsCounted old new fault = fault ≡ Device → HasRisen old new

-- any other fault leaves the count
abbrev pub IsUncounted : ℕ → ℕ → BusFault → Type 0
IsUncounted old new fault = fault ≢ Device → new ≡ old

-- a data out that is refused with any other fault leaves the buffer
abbrev pub IsUntouched : List ℕ → List ℕ → BusFault → Type 0
IsUntouched old new fault = fault ≢ Device → new ≡ old
