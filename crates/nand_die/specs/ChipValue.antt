-- A die in memory but for its stop: what it does where a cycle asks for something, as a function of its value and a case of the bus protocol.
use Rattle.std.specs.Prelude.{◌≡◌, ℕ, ◌+◌, Bool, not, ◌&&◌, List, [], length, Option, is_some, Result, IfErr}
use Rattle.page_layout.specs.declared.geometry.Geometry.{Geometry}
use Rattle.page_layout.specs.Geometry.{page_bytes}
use Rattle.page_layout.specs.Page.{Page}
use Rattle.page_layout.specs.Raw.{IsRaw}
use Rattle.page_layout.specs.Counter.{counted}
use Rattle.page_layout.specs.Flash.{Flash, Program, Erase, after, page_at, block_at, may_program, may_erase, IsWhole}
use Rattle.onfi_cycles.specs.Cycles.{DieState, Unreset, Ready, NoOutput, Due, Moves, Resets, Programs, Erases, Refuses, to_phase, given_up, status_of, Follows}
use Rattle.onfi_cycles.specs.Spelling.{done, refused}
use Rattle.onfi_cycles.specs.declared.nand.BusFault.{BusFault}
use Rattle.nand_die.specs.declared.fault.Fault.{Fault}
use Rattle.nand_die.specs.declared.bus_state.BusState.{BusState}
use Rattle.nand_die.specs.declared.change.NextPage.{NextPage}
use Rattle.nand_die.specs.BusState.{IsWithin, IsProtocolFault}
use Rattle.nand_die.specs.Faults.{fault_at, left_by, ArePagesLeft}
use Rattle.nand_die.specs.NextPages.{left_page, left_block}

-- what its bus shows, the faults that are set on it, how many programs and erases were asked for since, and how many in all
pub record ChipValue : Type 0 where
  pub state : DieState
  pub faults : List Fault
  pub asked : ℕ
  pub changes : ℕ

-- one that was not yet reset, with no faults set
abbrev pub fresh : Flash → ChipValue
fresh flash = record { state = record { flash = flash; phase = Unreset; status = 0xE0 }; faults = []; asked = 0; changes = 0 }

-- the fault that strikes the next program or erase, where one does
abbrev pub fault_next : ChipValue → Option Fault
fault_next d = fault_at d.faults (d.asked + 1)

-- a program or an erase passes just where it is legal and no fault strikes it
abbrev pub program_passes : ChipValue → ℕ → Bool
program_passes d row = may_program d.state.flash row && not (is_some (fault_next d))

-- the same of an erase
abbrev pub erase_passes : ChipValue → ℕ → Bool
erase_passes d block = may_erase d.state.flash block && not (is_some (fault_next d))

-- what the program leaves in its page
abbrev pub program_left : ChipValue → ℕ → Page → Page
program_left d row page = left_page d.state.flash.geometry (page_at d.state.flash row) (may_program d.state.flash row) (program_passes d row) page (left_by (fault_next d))

-- what the erase leaves in its block
abbrev pub erase_left : ChipValue → ℕ → List Page
erase_left d block = left_block d.state.flash.geometry (block_at d.state.flash block) (may_erase d.state.flash block) (erase_passes d block) (left_by (fault_next d))

-- after a program or an erase: a fault that was due is used up, whether it struck or met an illegal one
abbrev pub changed : ChipValue → Flash → Bool → ChipValue
changed d flash passed = record {
  state = record { flash = flash; phase = Ready NoOutput; status = status_of passed };
  faults = d.faults;
  asked = counted d.asked;
  changes = counted d.changes;
}

-- the die with this bus state, its faults as they were
abbrev pub in_state : DieState → ChipValue → ChipValue
in_state state d = record { state = state; faults = d.faults; asked = d.asked; changes = d.changes }

-- the die after what was due
abbrev pub answered : Due → ChipValue → ChipValue
answered (Moves phase) d = in_state (to_phase phase d.state) d
answered Resets d = in_state (record { flash = d.state.flash; phase = Ready NoOutput; status = 0xE0 }) d
answered (Programs row page) d = changed d (after d.state.flash (Program row page (program_passes d row) (program_left d row page))) (program_passes d row)
answered (Erases block) d = changed d (after d.state.flash (Erase block (erase_passes d block) (erase_left d block))) (erase_passes d block)
answered (Refuses fault) d = in_state (to_phase (given_up d.state.phase) d.state) d

-- its answer to what was due
abbrev pub answer_to : Due → Result (Unit {0}) BusFault
answer_to (Moves phase) = done
answer_to Resets = done
answer_to (Programs row page) = done
answer_to (Erases block) = done
answer_to (Refuses fault) = refused fault

-- what is true of each cycle of a die, by what was due
pub record Acts {A : Type 0} (due : Due) (old new : ChipValue) (result : Result A BusFault) : Type 0 where
  pub does : new ≡ answered due old
  pub follows : Follows due old.state new.state result
  pub own : IfErr result IsProtocolFault
  pub same : new.state.flash.geometry ≡ old.state.flash.geometry
  pub whole : IsWhole new.state.flash

-- what is true of a die's fields
pub record AreFields (g : Geometry) (bytes register : List ℕ) (next_pages : List NextPage) (state : BusState) (faults : List Fault) : Type 0 where
  pub raw : IsRaw g bytes
  pub register_whole : length register ≡ page_bytes g
  pub blocks : length next_pages ≡ g.blocks
  pub within : IsWithin g state
  pub left : ArePagesLeft g faults
