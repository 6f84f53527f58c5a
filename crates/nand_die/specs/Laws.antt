-- What a die in memory does, said of its value before and after.
use Rattle.std.specs.Prelude.{List, ◌++◌, Some, Contains, ◌≡◌, ◌≢◌, ◌⊎◌, ◌↔◌, ℕ, ◌*◌, ◌<◌, true, false, if◌then◌else◌, length, slice_get, IsSome, None}
use Rattle.std.specs.Prelude.{Option, Result}
use Rattle.page_layout.specs.Block.{past_last}
use Rattle.page_layout.specs.Page.{Page, Image}
use Rattle.page_layout.specs.Counter.{counted}
use Rattle.page_layout.specs.Flash.{Flash, Operation, Leads, may_program, may_erase}
use Rattle.page_layout.specs.Recording.{Recording, IsRecordOf, image_after_all}
use Rattle.promises.specs.Stop.{MayLeave}
use Rattle.onfi_cycles.specs.Driver.{gained}
use Rattle.onfi_cycles.specs.Spelling.{done, refused}
use Rattle.onfi_cycles.specs.declared.nand.BusFault.TheVariants.{Device}
use Rattle.onfi_cycles.specs.Cycles.{Cycle, DataOut, Phase, Due, Moves, Resets, Programs, Erases, Refuses, page_of, bytes_out}
use Rattle.onfi_cycles.specs.declared.nand.BusFault.{BusFault}
use Rattle.page_layout.specs.declared.geometry.Geometry.{Geometry}
use Rattle.nand_die.specs.declared.fault.Fault.{Fault}
use Rattle.nand_die.specs.declared.fault.DieFault.{DieFault}
use Rattle.nand_die.specs.declared.fault.Stop.{Stop}
use Rattle.nand_die.specs.declared.fault.Stop.TheVariants.{Before, After, Torn}
use Rattle.nand_die.specs.Made.{AreNames, IsFirstMisnamed, is_named, IsNextPage}
use Rattle.nand_die.specs.Faults.{ArePagesLeft, HasFirstWrong}
use Rattle.nand_die.specs.ChipValue.{ChipValue, fault_next, answered, answer_to}
use Rattle.nand_die.specs.Tape.{next_record}
use Rattle.nand_die.specs.Stopping.{operation_due, left_by_stop}
use Rattle.nand_die.specs.Buses.{FuseState, Fused, is_blown, GarbleState, Garbled, garbled}
use Rattle.nand_die.specs.DieValue.{DieValue, IsCall, after_cycle, answer_to_cycle, chip_of, due_now, is_calm, stops}

-- A program passes, with status E0h, just where its page is the next of a block that is neither bad nor failed and no fault is due. Else
-- it fails, with status E1h.
abbrev pub ProgramPassesLaw : Type 0
ProgramPassesLaw = (d : ChipValue) (row : ℕ) (page : Page) →
    (((answered (Programs row page) d).state.status ≡ 0xE0) ↔ ((may_program d.state.flash row ≡ true) × (fault_next d ≡ None)))
    × (((answered (Programs row page) d).state.status ≡ 0xE1) ↔ ((may_program d.state.flash row ≡ false) ⊎ IsSome (fault_next d)))

-- An erase passes just where its block is neither bad nor failed and no fault is due.
abbrev pub ErasePassesLaw : Type 0
ErasePassesLaw = (d : ChipValue) (block : ℕ) →
    (((answered (Erases block) d).state.status ≡ 0xE0) ↔ ((may_erase d.state.flash block ≡ true) × (fault_next d ≡ None)))
    × (((answered (Erases block) d).state.status ≡ 0xE1) ↔ ((may_erase d.state.flash block ≡ false) ⊎ IsSome (fault_next d)))

-- An illegal program leaves every page as it was, and it alone counts as abuse.
abbrev pub ProgramAbuseLaw : Type 0
ProgramAbuseLaw = (d : ChipValue) (row : ℕ) (page : Page) →
    ((answered (Programs row page) d).state.flash.abuse ≡ (if may_program d.state.flash row then d.state.flash.abuse else counted d.state.flash.abuse))
    × (may_program d.state.flash row ≡ false → row < length d.state.flash.image → (answered (Programs row page) d).state.flash.image ≡ d.state.flash.image)

-- The same of an erase.
abbrev pub EraseAbuseLaw : Type 0
EraseAbuseLaw = (d : ChipValue) (block : ℕ) →
    ((answered (Erases block) d).state.flash.abuse ≡ (if may_erase d.state.flash block then d.state.flash.abuse else counted d.state.flash.abuse))
    × (may_erase d.state.flash block ≡ false → (answered (Erases block) d).state.flash.image ≡ d.state.flash.image)

-- Each program and each erase uses up one number of the faults' count, and is counted as a change.
abbrev pub CountLaw : Type 0
CountLaw = (d : ChipValue) →
    ((row : ℕ) (page : Page) → ((answered (Programs row page) d).asked ≡ counted d.asked) × ((answered (Programs row page) d).changes ≡ counted d.changes))
    × ((block : ℕ) → ((answered (Erases block) d).asked ≡ counted d.asked) × ((answered (Erases block) d).changes ≡ counted d.changes))

-- No other cycle touches the flash, the faults or the counts.
abbrev pub QuietLaw : Type 0
QuietLaw = (d : ChipValue) →
    ((phase : Phase) → ((answered (Moves phase) d).state.flash ≡ d.state.flash) × ((answered (Moves phase) d).asked ≡ d.asked) × ((answered (Moves phase) d).changes ≡ d.changes))
    × (((answered Resets d).state.flash ≡ d.state.flash) × ((answered Resets d).asked ≡ d.asked) × ((answered Resets d).changes ≡ d.changes))
    × ((fault : BusFault) → ((answered (Refuses fault) d).state.flash ≡ d.state.flash) × ((answered (Refuses fault) d).asked ≡ d.asked) × ((answered (Refuses fault) d).changes ≡ d.changes))

-- ---- stops and records

-- A die on which no stop is set has failed no cycle, and answers what the protocol asks for.
abbrev pub CalmLaw : Type 0
CalmLaw = (d : DieValue) → is_calm d ≡ true → (d.failures ≡ 0) × ((cycle : Cycle) → answer_to_cycle cycle d ≡ answer_to (due_now d cycle))

-- A die that has stopped answers each cycle with the device's fault, and stays as it is.
abbrev pub StoppedLaw : Type 0
StoppedLaw = (d : DieValue) (cycle : Cycle) → d.stopped ≡ true →
    (answer_to_cycle cycle d ≡ refused Device) × ((after_cycle cycle d).stopped ≡ true) × ((after_cycle cycle d).state.flash ≡ d.state.flash) × ((after_cycle cycle d).changes ≡ d.changes)

-- A record gains a program or an erase while it has room, and ends past it.
abbrev pub RoomLaw : Type 0
RoomLaw = (room : ℕ) (op : Operation) (r : Recording) →
    (room ≡ 0 → next_record room op (Some r) ≡ None) × (0 < room → next_record room op (Some r) ≡ Some (gained op r))

-- ---- what a stop leaves

-- A die that stops in a cycle holds an image that a stop may leave: by the log that led to it from any earlier state, or by the record
-- that it told, and by the operation in which it stops.
abbrev pub StopLeavesLaw : Type 0
StopLeavesLaw = (old new : DieValue) (cycle : Cycle) (answer : Result (Unit {0}) BusFault) (out : List ℕ) → IsCall old cycle answer out new → old.stopped ≡ false → stops old cycle ≡ true →
    ((first : Flash) (log : List Operation) → Leads first log old.state.flash →
    MayLeave first.geometry first.image (log ++ operation_due (due_now old cycle) (chip_of old)) new.state.flash.image)
    × ((r : Recording) → old.recorded ≡ Some r → IsRecordOf old.state.flash old.recorded →
    MayLeave old.state.flash.geometry r.image (r.log ++ operation_due (due_now old cycle) (chip_of old)) new.state.flash.image)

-- Stopped before a program or an erase, every page is as it was; stopped after it, the pages are those that the operation leaves.
abbrev pub WholeStopLaw : Type 0
WholeStopLaw = (d : ChipValue) (due : Due) →
    ((left_by_stop Before due d).state.flash ≡ d.state.flash)
    × ((left_by_stop After due d).state.flash.image ≡ image_after_all d.state.flash.geometry.pages d.state.flash.image (operation_due due d))

-- the page stands in the row, and every other page is as it was
pub record HasOnly (row : ℕ) (page : Page) (old new : Image) : Type 0 where
  pub size : length new ≡ length old
  pub here : slice_get new row ≡ Some page
  pub others : (other : ℕ) → other ≢ row → slice_get new other ≡ slice_get old other

-- the page of the stop's bytes, where it leaves one
abbrev pub TornTo : Geometry → Stop → Page → Type 0
TornTo g Before torn = ⊥
TornTo g After torn = ⊥
TornTo g (Torn bytes) torn = torn ≡ page_of g bytes.items

-- Torn, the stop's page stands in the row of the program, of an erase in page 0 of its block, and nowhere else. One that was not due to be
-- done has changed no page.
abbrev pub TornPageLaw : Type 0
TornPageLaw = (stop : Stop) (d : ChipValue) (torn : Page) → TornTo d.state.flash.geometry stop torn →
    ((row : ℕ) (page : Page) → row < length d.state.flash.image → may_program d.state.flash row ≡ true →
    HasOnly row torn d.state.flash.image (left_by_stop stop (Programs row page) d).state.flash.image)
    × ((block : ℕ) → block * d.state.flash.geometry.pages < length d.state.flash.image → may_erase d.state.flash block ≡ true →
    HasOnly (block * d.state.flash.geometry.pages) torn d.state.flash.image (left_by_stop stop (Erases block) d).state.flash.image)
    × ((row : ℕ) (page : Page) → may_program d.state.flash row ≡ false → (left_by_stop stop (Programs row page) d).state.flash.image ≡ d.state.flash.image)
    × ((block : ℕ) → may_erase d.state.flash block ≡ false → (left_by_stop stop (Erases block) d).state.flash.image ≡ d.state.flash.image)

-- ---- buses round a die

-- A data out that is taken by a garble round a die puts out the bytes that the protocol has of that die, garbled. By a fuse that is not
-- blown it puts out just these bytes.
abbrev pub GarbledDieLaw : Type 0
GarbledDieLaw = (old new : GarbleState DieValue) (count : ℕ) (out : List ℕ) → Garbled IsCall old (DataOut count) done out new →
    out ≡ garbled old (bytes_out old.bus.state old.bus.state.phase count)

abbrev pub FusedDieLaw : Type 0
FusedDieLaw = (old new : FuseState DieValue) (count : ℕ) (out : List ℕ) → is_blown old ≡ false → Fused IsCall old (DataOut count) done out new →
    out ≡ bytes_out old.bus.state old.bus.state.phase count

-- ---- what a die is made of

-- The next page of a block, as a die takes it from an image: all pages from there on are erased, the one before is not, and no other
-- number is so.
abbrev pub NextPageLaw : Type 0
NextPageLaw = (ps : List Page) (next : ℕ) → (next ≡ past_last ps) ↔ IsNextPage ps next

-- A block is bad just where the list has it.
abbrev pub NamedLaw : Type 0
NamedLaw = (names : List ℕ) (block : ℕ) → (is_named names block ≡ true) ↔ Contains names block

-- A list that is refused is not one that is taken, and is refused for one block.
abbrev pub NoneMisnamedLaw : Type 0
NoneMisnamedLaw = (g : Geometry) (names : List ℕ) (block : ℕ) → AreNames g names → ¬ IsFirstMisnamed g names block

abbrev pub OneMisnamedLaw : Type 0
OneMisnamedLaw = (g : Geometry) (names : List ℕ) (a b : ℕ) → IsFirstMisnamed g names a → IsFirstMisnamed g names b → a ≡ b

-- Nor is a list of faults that is refused one that is taken, and it is refused for one reason.
abbrev pub NoneWrongLaw : Type 0
NoneWrongLaw = (g : Geometry) (faults : List Fault) (why : DieFault) → ArePagesLeft g faults → ¬ HasFirstWrong g faults why

abbrev pub OneWrongLaw : Type 0
OneWrongLaw = (g : Geometry) (faults : List Fault) (a b : DieFault) → HasFirstWrong g faults a → HasFirstWrong g faults b → a ≡ b

-- ---- records

-- WHAT A BUS OR A DIE TELLS of its programs and erases is what the one behind it tells
abbrev pub TellsLaw : {Outer Inner : Type 0} → (Outer → Inner) → (tells : Outer → Option Recording) → (behind : Inner → Option Recording) → Type 0
TellsLaw {Outer} inner tells behind = (outer : Outer) → tells outer ≡ behind (inner outer)
