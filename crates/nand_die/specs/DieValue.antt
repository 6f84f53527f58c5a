-- A die in memory as contracts see it, and what it does at each cycle: a function of its value, and a case of the bus protocol.
use Rattle.std.specs.Prelude.{◌≡◌, ℕ, Bool, true, false, not, ◌&&◌, ◌||◌, ◌==◌, ◌-◌, List, [], ◌++◌, length, Option, None, Result, OnOk, IfErr, if◌then◌else◌}
use Rattle.page_layout.specs.Counter.{counted}
use Rattle.page_layout.specs.Page.{Image}
use Rattle.page_layout.specs.Flash.{Flash, Operation, Program, Erase, page_at, block_at}
use Rattle.page_layout.specs.Recording.{Recording, image_after_all}
use Rattle.promises.specs.Stop.{MayLeave}
use Rattle.onfi_cycles.specs.declared.nand.BusFault.{BusFault}
use Rattle.onfi_cycles.specs.declared.nand.BusFault.TheVariants.{Device}
use Rattle.onfi_cycles.specs.Cycles.{DieState, Due, Moves, Resets, Programs, Erases, Refuses, Cycle, Command, Address, DataIn, DataOut, due_of, bytes_out}
use Rattle.onfi_cycles.specs.Spelling.{refused}
use Rattle.nand_die.specs.declared.fault.Fault.{Fault}
use Rattle.nand_die.specs.declared.fault.Stop.{Stop}
use Rattle.nand_die.specs.declared.fault.Stop.TheVariants.{Before}
use Rattle.nand_die.specs.BusState.{IsProtocolFault}
use Rattle.nand_die.specs.Tape.{next_record}
use Rattle.nand_die.specs.ChipValue.{ChipValue, fresh, answered, answer_to}
use Rattle.nand_die.specs.Stopping.{is_change, operation_due, quit, left_by_stop}

-- What its bus shows; the faults that are set on it, how many programs and erases were asked for since, and how many in all; the stop that
-- is set, in so many programs and erases from now, counted from 1 (0 is none); whether it has stopped, and the cycles that failed since; the
-- record that it tells, and how many operations that has room for yet.
pub record DieValue : Type 0 where
  pub state : DieState
  pub faults : List Fault
  pub asked : ℕ
  pub changes : ℕ
  pub stop : Stop
  pub left : ℕ
  pub stopped : Bool
  pub failures : ℕ
  pub recorded : Option Recording
  pub room : ℕ

-- its part that does the work
abbrev pub chip_of : DieValue → ChipValue
chip_of d = record { state = d.state; faults = d.faults; asked = d.asked; changes = d.changes }

-- a die of that part, with its stop and its record
abbrev pub die_of : ChipValue → Stop → ℕ → Bool → ℕ → Option Recording → ℕ → DieValue
die_of c stop left stopped failures recorded room = record {
  state = c.state;
  faults = c.faults;
  asked = c.asked;
  changes = c.changes;
  stop = stop;
  left = left;
  stopped = stopped;
  failures = failures;
  recorded = recorded;
  room = room;
}

-- a die that was not yet reset, with no faults and no stop set, and no record
abbrev pub before_reset : Flash → DieValue
before_reset flash = die_of (fresh flash) Before 0 false 0 None 0

-- no stop is set, none came, and no cycle has failed
abbrev pub is_calm : DieValue → Bool
is_calm d = not d.stopped && ((d.left == 0) && (d.failures == 0))

-- ---- a cycle

-- what a cycle is due to do
abbrev pub due_now : DieValue → Cycle → Due
due_now d cycle = due_of d.state.flash.geometry d.state.phase cycle

-- whether the die stops in the cycle: at the program or the erase that the stop is set for
abbrev pub stops : DieValue → Cycle → Bool
stops d (Command code) = (d.left == 1) && is_change (due_now d (Command code))
stops d (Address byte) = false
stops d (DataIn bytes) = false
stops d (DataOut count) = false

-- a die that fails: its unfinished command is given up, and it tells no record
abbrev pub failed_as : DieValue → ChipValue → ℕ → DieValue
failed_as d c left = die_of (quit c) d.stop left true (counted d.failures) None 0

-- the record after what was due: a program or an erase is noted with its outcome and with what it left, each other cycle leaves the record
abbrev pub record_after : Due → ChipValue → ℕ → Option Recording → Option Recording
record_after (Moves phase) c room told = told
record_after Resets c room told = told
record_after (Programs row page) c room told = next_record room (Program row page (c.state.status == 0xE0) (page_at c.state.flash row)) told
record_after (Erases block) c room told = next_record room (Erase block (c.state.status == 0xE0) (block_at c.state.flash block)) told
record_after (Refuses fault) c room told = told

-- a die that does what was due
abbrev pub done_as : DieValue → Due → ℕ → DieValue
done_as d due left = die_of (answered due (chip_of d)) d.stop left false d.failures (record_after due (answered due (chip_of d)) d.room d.recorded) (if is_change due then d.room - 1 else d.room)

-- a cycle that is no command: a stopped die fails, any other does it
abbrev pub after_quiet : Cycle → DieValue → DieValue
after_quiet cycle d = if d.stopped then failed_as d (chip_of d) d.left else die_of (answered (due_now d cycle) (chip_of d)) d.stop d.left false d.failures d.recorded d.room

-- A command. A stopped die fails. One that stops in it fails with what the stop leaves. Any other does it, and a program or an erase
-- is noted and brings the stop nearer.
abbrev pub after_command : ℕ → DieValue → DieValue
after_command code d =
    if d.stopped then failed_as d (chip_of d) d.left
    else if stops d (Command code) then failed_as d (left_by_stop d.stop (due_now d (Command code)) (chip_of d)) 0
    else done_as d (due_now d (Command code)) (if is_change (due_now d (Command code)) then d.left - 1 else d.left)

-- THE DIE AFTER A CYCLE
abbrev pub after_cycle : Cycle → DieValue → DieValue
after_cycle (Command code) d = after_command code d
after_cycle (Address byte) d = after_quiet (Address byte) d
after_cycle (DataIn bytes) d = after_quiet (DataIn bytes) d
after_cycle (DataOut count) d = after_quiet (DataOut count) d

-- ITS ANSWER: the device's fault from the cycle on in which it stops, else what the protocol asks for
abbrev pub answer_to_cycle : Cycle → DieValue → Result (Unit {0}) BusFault
answer_to_cycle cycle d = if d.stopped || stops d cycle then refused Device else answer_to (due_now d cycle)

-- WHAT A DIE LEAVES THAT STOPS IN A CYCLE: an image that a stop may leave, by the operations that led to the die's image from an earlier
-- one, as a log or a record has them, and by the operation in which it stops
abbrev pub LeavesStopped : DieValue → Cycle → Image → Type 0
LeavesStopped d cycle left = (first : Image) (log : List Operation) → d.state.flash.image ≡ image_after_all d.state.flash.geometry.pages first log →
    MayLeave d.state.flash.geometry first (log ++ operation_due (due_now d cycle) (chip_of d)) left

-- a data out that is taken puts out the bytes that the protocol has; the buffer is as long as it was
pub record PutsOutBytes (d : DieValue) (count : ℕ) (answer : Result (Unit {0}) BusFault) (out : List ℕ) : Type 0 where
  pub gives : OnOk answer (out ≡ bytes_out d.state d.state.phase count)
  pub long : length out ≡ count

-- THE BYTES THAT A CALL PUTS OUT, as they are after it. Cycles but data out have none.
abbrev pub IsOutOf : DieValue → Cycle → Result (Unit {0}) BusFault → List ℕ → Type 0
IsOutOf d (Command code) answer out = out ≡ []
IsOutOf d (Address byte) answer out = out ≡ []
IsOutOf d (DataIn bytes) answer out = out ≡ []
IsOutOf d (DataOut count) answer out = PutsOutBytes d count answer out

-- a call of a die: the die after it, its answer and the bytes that it puts out follow from its value, one on which no stop is set does not
-- fail, and one that stops leaves no other image
pub record IsCall (old : DieValue) (cycle : Cycle) (answer : Result (Unit {0}) BusFault) (out : List ℕ) (new : DieValue) : Type 0 where
  pub does : new ≡ after_cycle cycle old
  pub answers : answer ≡ answer_to_cycle cycle old
  pub puts_out : IsOutOf old cycle answer out
  pub own : is_calm old ≡ true → IfErr answer IsProtocolFault
  pub leaves : old.stopped ≡ false → stops old cycle ≡ true → LeavesStopped old cycle new.state.flash.image
