-- What a stop leaves of a die.
use Rattle.std.proofs.Common.{◌≡◌, inl, inr, ℕ, ◌-◌, Bool, true, false, not, List, [], ◌∷◌, refl, sym, ◌∙◌, ap, subst, ◌==◌, ◌&&◌, ◌||◌}
use Rattle.std.proofs.Common.{if◌then◌else◌, Ok, Err, Option, Some, None, arith}
use Rattle.std.specs.Prelude.{Result, OnOk}
use Rattle.std.proofs.lemmas.Bool.{eqb-true, eq-eqb, ne_eqb}
use Rattle.page_layout.specs.declared.geometry.Geometry.{Geometry}
use Rattle.page_layout.specs.Page.{Page}
use Rattle.page_layout.specs.Flash.{Operation, Program, Erase, after, page_at, block_at}
use Rattle.page_layout.specs.Recording.{Recording, RecordsOrEnds, noted}
use Rattle.onfi_cycles.specs.declared.nand.BusFault.{BusFault}
use Rattle.onfi_cycles.specs.declared.nand.BusFault.TheVariants.{NoReset, Device}
use Rattle.onfi_cycles.specs.Spelling.{refused}
use Rattle.onfi_cycles.specs.Recorded.{Notes}
use Rattle.nand_die.specs.Tape.{next_record}
use Rattle.nand_die.specs.Laws.{CalmLaw, StoppedLaw, RoomLaw}
use Rattle.onfi_cycles.specs.Cycles.{Phase, Unreset, Ready, Taking, Confirming, Loading, NoOutput, DieState, Cycle, Command, Address, DataIn}
use Rattle.onfi_cycles.specs.Cycles.{DataOut, Due, Moves, Resets, Programs, Erases, Refuses, command_due, given_up}
use Rattle.nand_die.specs.declared.fault.Stop.{Stop}
use Rattle.nand_die.specs.declared.fault.Stop.TheVariants.{Before, After, Torn}
use Rattle.nand_die.specs.ChipValue.{ChipValue, answered, answer_to}
use Rattle.nand_die.specs.Stopping.{is_change, left_by_stop}
use Rattle.nand_die.specs.DieValue.{DieValue, after_cycle, chip_of, die_of, done_as, due_now, failed_as, is_calm, record_after, stops}

no_change : (b : Bool) → is_change (if b then Resets else Refuses NoReset) ≡ true → ⊥
no_change true e = cc
no_change false e = cc

-- a program or an erase is due only after a Reset
phase_open : (g : Geometry) (p : Phase) (code : ℕ) → is_change (command_due g p code) ≡ true → given_up p ≡ Ready NoOutput
unfolding command_due
phase_open g Unreset code e = absurd (no_change (code == 0xFF) e)
phase_open g (Ready out) code e = refl
phase_open g (Taking purpose got) code e = refl
phase_open g (Confirming purpose row column) code e = refl
phase_open g (Loading row column register) code e = refl

answered_open : (due : Due) (d : ChipValue) → is_change due ≡ true → given_up (answered due d).state.phase ≡ Ready NoOutput
answered_open (Moves phase) d e = cc
answered_open Resets d e = cc
answered_open (Programs row page) d e = refl
answered_open (Erases block) d e = refl
answered_open (Refuses fault) d e = cc

-- whatever the stop leaves, the unfinished command is given up
pub stop_phase : (stop : Stop) (d : ChipValue) (code : ℕ) → is_change (command_due d.state.flash.geometry d.state.phase code) ≡ true
    → given_up (left_by_stop stop (command_due d.state.flash.geometry d.state.phase code) d).state.phase ≡ given_up d.state.phase
stop_phase Before d code e = refl
stop_phase After d code e = answered_open (command_due d.state.flash.geometry d.state.phase code) d e ∙ sym (phase_open d.state.flash.geometry d.state.phase code e)
stop_phase (Torn bytes) d code e = refl

answered_geometry : (due : Due) (d : ChipValue) → (answered due d).state.flash.geometry ≡ d.state.flash.geometry
unfolding after
answered_geometry (Moves phase) d = refl
answered_geometry Resets d = refl
answered_geometry (Programs row page) d = refl
answered_geometry (Erases block) d = refl
answered_geometry (Refuses fault) d = refl

-- and the geometry stays
pub stop_geometry : (stop : Stop) (due : Due) (d : ChipValue) → (left_by_stop stop due d).state.flash.geometry ≡ d.state.flash.geometry
stop_geometry Before due d = refl
stop_geometry After due d = answered_geometry due d
stop_geometry (Torn bytes) due d = refl

pub both_true : (a b : Bool) → (a && b) ≡ true → b ≡ true
both_true true b e = e
both_true false b e = cc

-- ---- a call

pub first_true : (a b : Bool) → (a && b) ≡ true → a ≡ true
first_true true b e = refl
first_true false b e = e

pub not_true : (b : Bool) → not b ≡ true → b ≡ false
not_true true e = sym e
not_true false e = refl

-- a die on which no stop is set: nothing has failed
pub calm_failures : (d : DieValue) → is_calm d ≡ true → d.failures ≡ 0
calm_failures d e = eqb-true d.failures 0 (both_true (d.left == 0) (d.failures == 0) (both_true (not d.stopped) ((d.left == 0) && (d.failures == 0)) e))

-- and nothing is to fail
calm_left : (d : DieValue) → is_calm d ≡ true → d.left ≡ 0
calm_left d e = eqb-true d.left 0 (first_true (d.left == 0) (d.failures == 0) (both_true (not d.stopped) ((d.left == 0) && (d.failures == 0)) e))

pub calm_stops : (d : DieValue) (cycle : Cycle) → is_calm d ≡ true → stops d cycle ≡ false
calm_stops d (Command code) e = ap (λ n. (n == 1) && is_change (due_now d (Command code))) (calm_left d e)
calm_stops d (Address byte) e = refl
calm_stops d (DataIn bytes) e = refl
calm_stops d (DataOut count) e = refl

pub calm_runs : (d : DieValue) (cycle : Cycle) → is_calm d ≡ true → (d.stopped || stops d cycle) ≡ false
calm_runs d cycle e = ap (λ b. b || stops d cycle) (not_true d.stopped (first_true (not d.stopped) ((d.left == 0) && (d.failures == 0)) e)) ∙ calm_stops d cycle e

-- ---- the record

-- a chip that did the program that was due, and the record that noted it
pub run_program : (d : DieValue) (due : Due) (row : ℕ) (page left : Page) (c : ChipValue) (told : Option Recording) (free : ℕ) (passed : Bool) → d.stopped ≡ false → due ≡ Programs row page
    → c ≡ answered due (chip_of d) → passed ≡ (c.state.status == 0xE0) → page_at c.state.flash row ≡ left → told ≡ next_record d.room (Program row page passed left) d.recorded → free ≡ d.room - 1
    → die_of c d.stop d.left d.stopped d.failures told free ≡ done_as d due d.left
run_program d due row page left c told free passed runs is does is_passed is_left is_told is_free =
    let noted : ChipValue → Option Recording = λ x. next_record d.room (Program row page (x.state.status == 0xE0) (page_at x.state.flash row)) d.recorded in
    let now : told ≡ noted c = is_told ∙ (ap (λ b. next_record d.room (Program row page b left) d.recorded) is_passed
    ∙ ap (λ l. next_record d.room (Program row page (c.state.status == 0xE0) l) d.recorded) (sym is_left)) in
    ap (λ b. die_of c d.stop d.left b d.failures told free) runs
    ∙ (ap (λ t. die_of c d.stop d.left false d.failures t free) now
    ∙ (ap (λ k. die_of c d.stop d.left false d.failures (noted c) k) is_free
    ∙ (ap (λ x. die_of x d.stop d.left false d.failures (noted x) (d.room - 1)) (does ∙ ap (λ u. answered u (chip_of d)) is)
    ∙ ap (λ u. done_as d u d.left) (sym is))))

-- the same of an erase
pub run_erase : (d : DieValue) (due : Due) (block : ℕ) (left : List Page) (c : ChipValue) (told : Option Recording) (free : ℕ) (passed : Bool) → d.stopped ≡ false → due ≡ Erases block
    → c ≡ answered due (chip_of d) → passed ≡ (c.state.status == 0xE0) → block_at c.state.flash block ≡ left → told ≡ next_record d.room (Erase block passed left) d.recorded → free ≡ d.room - 1
    → die_of c d.stop d.left d.stopped d.failures told free ≡ done_as d due d.left
run_erase d due block left c told free passed runs is does is_passed is_left is_told is_free =
    let noted : ChipValue → Option Recording = λ x. next_record d.room (Erase block (x.state.status == 0xE0) (block_at x.state.flash block)) d.recorded in
    let now : told ≡ noted c = is_told ∙ (ap (λ b. next_record d.room (Erase block b left) d.recorded) is_passed
    ∙ ap (λ l. next_record d.room (Erase block (c.state.status == 0xE0) l) d.recorded) (sym is_left)) in
    ap (λ b. die_of c d.stop d.left b d.failures told free) runs
    ∙ (ap (λ t. die_of c d.stop d.left false d.failures t free) now
    ∙ (ap (λ k. die_of c d.stop d.left false d.failures (noted c) k) is_free
    ∙ (ap (λ x. die_of x d.stop d.left false d.failures (noted x) (d.room - 1)) (does ∙ ap (λ u. answered u (chip_of d)) is)
    ∙ ap (λ u. done_as d u d.left) (sym is))))

quiet_due : (d : DieValue) (due : Due) → is_change due ≡ false → d.stopped ≡ false → die_of (answered due (chip_of d)) d.stop d.left d.stopped d.failures d.recorded d.room ≡ done_as d due d.left
quiet_due d (Moves phase) e runs = ap (λ b. die_of (answered (Moves phase) (chip_of d)) d.stop d.left b d.failures d.recorded d.room) runs
quiet_due d Resets e runs = ap (λ b. die_of (answered Resets (chip_of d)) d.stop d.left b d.failures d.recorded d.room) runs
quiet_due d (Programs row page) e runs = cc
quiet_due d (Erases block) e runs = cc
quiet_due d (Refuses fault) e runs = ap (λ b. die_of (answered (Refuses fault) (chip_of d)) d.stop d.left b d.failures d.recorded d.room) runs

-- a cycle that changes nothing leaves the record
pub run_other : (d : DieValue) (due : Due) (c : ChipValue) → d.stopped ≡ false → is_change due ≡ false → c ≡ answered due (chip_of d)
    → die_of c d.stop d.left d.stopped d.failures d.recorded d.room ≡ done_as d due d.left
run_other d due c runs quiet does = ap (λ x. die_of x d.stop d.left d.stopped d.failures d.recorded d.room) does ∙ quiet_due d due quiet runs

notes_quiet : (due : Due) (told told' : Option Recording) (s : DieState) → is_change due ≡ false → told' ≡ told → Notes due told s told'
notes_quiet (Moves phase) told told' s e same = same
notes_quiet Resets told told' s e same = same
notes_quiet (Programs row page) told told' s e same = cc
notes_quiet (Erases block) told told' s e same = cc
notes_quiet (Refuses fault) told told' s e same = same

pub quiet_noted : (due : Due) (told told' : Option Recording) (s : DieState) (r : Result (Unit {0}) BusFault) → is_change due ≡ false → told' ≡ told → OnOk r (true ≡ true → Notes due told s told')
quiet_noted due told told' s (Ok x) e same = λ h. notes_quiet due told told' s e same
quiet_noted due told told' s (Err fault) e same = tt

next_noted : (b : Bool) (op : Operation) (told : Option Recording) → RecordsOrEnds told (op ∷ []) (if b then None else noted (op ∷ []) told)
next_noted true op told = inl refl
next_noted false op told = inr refl

after_noted : (due : Due) (c : ChipValue) (room : ℕ) (told : Option Recording) → Notes due told c.state (record_after due c room told)
after_noted (Moves phase) c room told = refl
after_noted Resets c room told = refl
after_noted (Programs row page) c room told = next_noted (room == 0) (Program row page (c.state.status == 0xE0) (page_at c.state.flash row)) told
after_noted (Erases block) c room told = next_noted (room == 0) (Erase block (c.state.status == 0xE0) (block_at c.state.flash block)) told
after_noted (Refuses fault) c room told = refl

-- a command that was done is noted
pub done_noted : (d e : DieValue) (due : Due) (left : ℕ) (r : Result (Unit {0}) BusFault) → e ≡ done_as d due left → OnOk r (true ≡ true → Notes due d.recorded e.state e.recorded)
done_noted d e due left (Ok x) is = λ h. subst (λ (v : DieValue). Notes due d.recorded v.state v.recorded) (sym is) (after_noted due (answered due (chip_of d)) d.room d.recorded)
done_noted d e due left (Err fault) is = tt

-- ---- laws

pub calm_law : CalmLaw
calm_law d e = (calm_failures d e, λ cycle. ap (λ b. if b then refused Device else answer_to (due_now d cycle)) (calm_runs d cycle e))

pub after_stopped : (d : DieValue) (cycle : Cycle) → d.stopped ≡ true → after_cycle cycle d ≡ failed_as d (chip_of d) d.left
after_stopped d (Command code) e = rw e refl
after_stopped d (Address byte) e = rw e refl
after_stopped d (DataIn bytes) e = rw e refl
after_stopped d (DataOut count) e = rw e refl

pub stopped_law : StoppedLaw
stopped_law d cycle e = let h = after_stopped d cycle e in (
  ap (λ b. if b || stops d cycle then refused Device else answer_to (due_now d cycle)) e,
  ap (λ (x : DieValue). x.stopped) h,
  ap (λ (x : DieValue). x.state.flash) h,
  ap (λ (x : DieValue). x.changes) h,
)

pub room_law : RoomLaw
room_law room op r = (
  λ none. ap (λ b. if b then None else noted (op ∷ []) (Some r)) (eq-eqb room 0 none),
  λ some. ap (λ b. if b then None else noted (op ∷ []) (Some r)) (ne_eqb room 0 (λ e. omega (arith, e, some))),
)
