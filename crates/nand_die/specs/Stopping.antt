-- How a die may stop at a program or an erase: before it, after it, or with its page torn.
use Rattle.std.specs.Prelude.{◌≡◌, ◌≢◌, IsSome, Bool, true, false, ◌*◌, List, [], ◌∷◌, length, slice_set, None, if◌then◌else◌}
use Rattle.page_layout.specs.declared.geometry.Geometry.{Geometry}
use Rattle.page_layout.specs.Geometry.{page_bytes}
use Rattle.page_layout.specs.Page.{Page, Image}
use Rattle.page_layout.specs.Sound.{record_of}
use Rattle.page_layout.specs.Counter.{counted}
use Rattle.page_layout.specs.Flash.{Flash, Operation, Program, Erase, may_program, may_erase}
use Rattle.onfi_cycles.specs.Cycles.{Due, Moves, Resets, Programs, Erases, Refuses, page_of, to_phase, given_up}
use Rattle.nand_die.specs.declared.fault.Stop.{Stop}
use Rattle.nand_die.specs.declared.fault.Stop.TheVariants.{Before, After, Torn}
use Rattle.nand_die.specs.declared.fault.DieFault.{DieFault}
use Rattle.nand_die.specs.declared.fault.DieFault.TheVariants.{WrongLength, BadMark, OutOfMemory, SoundFaultPage}
use Rattle.nand_die.specs.ChipValue.{ChipValue, answered, in_state, program_passes, program_left, erase_passes, erase_left}

-- whether a program or an erase is due
abbrev pub is_change : Due → Bool
is_change (Moves phase) = false
is_change Resets = false
is_change (Programs row page) = true
is_change (Erases block) = true
is_change (Refuses fault) = false

-- the program or the erase that is due, with its outcome and what it leaves where all of it is done; or none
abbrev pub operation_due : Due → ChipValue → List Operation
operation_due (Moves phase) d = []
operation_due Resets d = []
operation_due (Programs row page) d = Program row page (program_passes d row) (program_left d row page) ∷ []
operation_due (Erases block) d = Erase block (erase_passes d block) (erase_left d block) ∷ []
operation_due (Refuses fault) d = []

-- the pages after a torn program or erase: this page in its row, or in page 0 of its block; one that was not allowed changes nothing
abbrev pub torn_image : Due → Flash → Page → Image
torn_image (Moves phase) s left = s.image
torn_image Resets s left = s.image
torn_image (Programs row page) s left = if may_program s row then slice_set s.image row left else s.image
torn_image (Erases block) s left = if may_erase s block then slice_set s.image (block * s.geometry.pages) left else s.image
torn_image (Refuses fault) s left = s.image

-- the die with these pages
abbrev pub with_image : Image → ChipValue → ChipValue
with_image image d = in_state (record { flash = record { geometry = d.state.flash.geometry; image = image; next_pages = d.state.flash.next_pages; abuse = d.state.flash.abuse }; phase = d.state.phase; status = d.state.status }) d

-- the die with its unfinished command given up
abbrev pub quit : ChipValue → ChipValue
quit d = in_state (to_phase (given_up d.state.phase) d.state) d

-- the die after a program or an erase that was asked for and not done: it is counted all the same
abbrev pub missed : ChipValue → ChipValue
missed d = record { state = d.state; faults = d.faults; asked = d.asked; changes = counted d.changes }

-- what a stop leaves of the program or erase that was due: nothing of it, all of it, or the torn page
abbrev pub left_by_stop : Stop → Due → ChipValue → ChipValue
left_by_stop Before due d = missed d
left_by_stop After due d = answered due d
left_by_stop (Torn bytes) due d = with_image (torn_image due d.state.flash (page_of d.state.flash.geometry bytes.items)) (missed d)

-- a stop that may be set: torn bytes are a page without a sound record
abbrev pub IsStop : Geometry → Stop → Type 0
IsStop g Before = Unit {0}
IsStop g After = Unit {0}
IsStop g (Torn bytes) = (length bytes.items ≡ page_bytes g) × (record_of (page_of g bytes.items) ≡ None)

-- why a stop is refused: the length is looked at first
abbrev pub IsWrongStop : Geometry → Stop → DieFault → Type 0
IsWrongStop g Before fault = ⊥
IsWrongStop g After fault = ⊥
IsWrongStop g (Torn bytes) WrongLength = length bytes.items ≢ page_bytes g
IsWrongStop g (Torn bytes) (BadMark block) = ⊥
IsWrongStop g (Torn bytes) OutOfMemory = ⊥
IsWrongStop g (Torn bytes) SoundFaultPage = (length bytes.items ≡ page_bytes g) × IsSome (record_of (page_of g bytes.items))
