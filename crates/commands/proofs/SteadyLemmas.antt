-- No cycle changes whether a die is flawless, on which no stop is set. One that is loaded without bad blocks is.
use Rattle.std.proofs.Common.{◌≡◌, ◌<◌, ◌+◌, ◌-◌, ◌/◌, ◌==◌, ◌&&◌, ◌||◌, ℕ, zero, suc, Bool, true, false, not, List, [], ◌∷◌, refl, sym, ap, ◌∙◌, arith, length, get_or, map, slice_set, is_some, if◌then◌else◌}
use Rattle.std.specs.List.{list_any, range_with_len}
use Rattle.std.proofs.lemmas.Bool.{and_parts, ne_eqb, not-true}
use Rattle.page_layout.specs.declared.geometry.Geometry.{Geometry}
use Rattle.page_layout.specs.Page.{Page}
use Rattle.page_layout.specs.Raw.{raw_image}
use Rattle.page_layout.specs.Flash.{NextState, Program, Erase, no_next_page, next_page_at, may_program, may_erase, after, after_program, after_erase}
use Rattle.onfi_cycles.specs.Cycles.{Cycle, Command, Address, DataIn, DataOut, Due, Moves, Resets, Programs, Erases, Refuses}
use Rattle.nand_die.specs.declared.fault.Fault.{Fault}
use Rattle.nand_die.specs.ChipValue.{ChipValue, answered, fault_next, program_passes, erase_passes, program_left, erase_left}
use Rattle.nand_die.specs.DieValue.{DieValue, after_command, after_cycle, after_quiet, before_reset, chip_of, die_of, done_as, due_now, failed_as, is_calm, stops}
use Rattle.nand_die.specs.Stopping.{is_change, left_by_stop}
use Rattle.nand_die.specs.Faults.{fault_at}
use Rattle.nand_die.specs.Made.{first_next_page, is_named, loaded_flash, next_in}
use Rattle.nand_die.proofs.StopLemmas.{calm_stops, first_true}
use Rattle.commands.specs.Steady.{is_flawless}

-- ---- one next page

or_parts : (x y : Bool) → (x || y) ≡ false → (x ≡ false) × (y ≡ false)
or_parts false y e = (refl, e)
or_parts true y e = absurd (let clash : true ≡ false = e in cc)

-- a next page that takes the place of one that is as good
same_any : (next_pages : List NextState) (block : ℕ) (next_page : NextState) → next_page.barred ≡ (get_or next_pages block no_next_page).barred → list_any (λ t. t.barred) (slice_set next_pages block next_page) ≡ list_any (λ t. t.barred) next_pages
same_any [] block next_page same = refl
same_any (t ∷ next_pages) zero next_page same = ap (λ b. b || list_any (λ u. u.barred) next_pages) same
same_any (t ∷ next_pages) (suc block) next_page same = ap (λ b. t.barred || b) (same_any next_pages block next_page same)

-- an operation that passes wherever it may bars nothing
pub bars_none : (was may passed : Bool) → passed ≡ may → (was || (may && not passed)) ≡ was
bars_none true may passed e = refl
bars_none false true passed e = ap not e
bars_none false false passed e = refl

and_true : (b : Bool) → (b && true) ≡ b
and_true true = refl
and_true false = refl

-- ---- what a cycle asks for

with_faults : (faults : List Fault) (next_pages next_pages' : List NextState) → (faults ≡ [] → list_any (λ t. t.barred) next_pages' ≡ list_any (λ t. t.barred) next_pages)
    → ((length faults == 0) && not (list_any (λ t. t.barred) next_pages')) ≡ ((length faults == 0) && not (list_any (λ t. t.barred) next_pages))
with_faults [] next_pages next_pages' same = ap not (same refl)
with_faults (f ∷ faults) next_pages next_pages' same =
    let some : (length (f ∷ faults) == 0) ≡ false = ne_eqb (length (f ∷ faults)) 0 (λ e. omega (arith, e)) in
    ap (λ b. b && not (list_any (λ t. t.barred) next_pages')) some ∙ sym (ap (λ b. b && not (list_any (λ t. t.barred) next_pages)) some)

-- with no fault set what may be done passes
pub passes : (c : ChipValue) (may : Bool) → c.faults ≡ [] → (may && not (is_some (fault_next c))) ≡ may
passes c may none = ap (λ faults. may && not (is_some (fault_at faults (c.asked + 1)))) none ∙ and_true may

program_bars : (c : ChipValue) (row : ℕ) (page : Page) → c.faults ≡ []
    → list_any (λ t. t.barred) (after c.state.flash (Program row page (program_passes c row) (program_left c row page))).next_pages ≡ list_any (λ t. t.barred) c.state.flash.next_pages
unfolding after
program_bars c row page none =
    let s = c.state.flash in
    let at = row / s.geometry.pages in
    same_any s.next_pages at (after_program (next_page_at s at) (may_program s row) (program_passes c row)) (bars_none (next_page_at s at).barred (may_program s row) (program_passes c row) (passes c (may_program s row) none))

erase_bars : (c : ChipValue) (block : ℕ) → c.faults ≡ []
    → list_any (λ t. t.barred) (after c.state.flash (Erase block (erase_passes c block) (erase_left c block))).next_pages ≡ list_any (λ t. t.barred) c.state.flash.next_pages
unfolding after
erase_bars c block none =
    let s = c.state.flash in
    same_any s.next_pages block (after_erase (next_page_at s block) (may_erase s block) (erase_passes c block)) (bars_none (next_page_at s block).barred (may_erase s block) (erase_passes c block) (passes c (may_erase s block) none))

abbrev flawless_chip : ChipValue → Bool
flawless_chip c = (length c.faults == 0) && not (list_any (λ t. t.barred) c.state.flash.next_pages)

answered_same : (due : Due) (c : ChipValue) → flawless_chip (answered due c) ≡ flawless_chip c
answered_same (Moves phase) c = refl
answered_same Resets c = refl
answered_same (Programs row page) c = with_faults c.faults c.state.flash.next_pages (after c.state.flash (Program row page (program_passes c row) (program_left c row page))).next_pages (program_bars c row page)
answered_same (Erases block) c = with_faults c.faults c.state.flash.next_pages (after c.state.flash (Erase block (erase_passes c block) (erase_left c block))).next_pages (erase_bars c block)
answered_same (Refuses fault) c = refl

-- ---- the cycle

pub not_stopped : (d : DieValue) → is_calm d ≡ true → d.stopped ≡ false
not_stopped d calm = not-true d.stopped (first_true (not d.stopped) ((d.left == 0) && (d.failures == 0)) calm)

quiet_same : (d : DieValue) (cycle : Cycle) → is_calm d ≡ true → is_flawless (after_quiet cycle d) ≡ is_flawless d
quiet_same d cycle calm =
    ap (λ stopped. is_flawless (if stopped then failed_as d (chip_of d) d.left else die_of (answered (due_now d cycle) (chip_of d)) d.stop d.left false d.failures d.recorded d.room)) (not_stopped d calm)
    ∙ answered_same (due_now d cycle) (chip_of d)

command_same : (d : DieValue) (code : ℕ) → is_calm d ≡ true → is_flawless (after_command code d) ≡ is_flawless d
command_same d code calm =
    let due = due_now d (Command code) in
    let done = done_as d due (if is_change due then d.left - 1 else d.left) in
    let struck = failed_as d (left_by_stop d.stop due (chip_of d)) 0 in
    ap (λ stopped. is_flawless (if stopped then failed_as d (chip_of d) d.left else if stops d (Command code) then struck else done)) (not_stopped d calm)
    ∙ (ap (λ stop. is_flawless (if stop then struck else done)) (calm_stops d (Command code) calm) ∙ answered_same due (chip_of d))

pub cycle_same : (cycle : Cycle) (old new : DieValue) → is_calm old ≡ true → new ≡ after_cycle cycle old → is_flawless new ≡ is_flawless old
cycle_same (Command code) old new calm is = ap is_flawless is ∙ command_same old code calm
cycle_same (Address byte) old new calm is = ap is_flawless is ∙ quiet_same old (Address byte) calm
cycle_same (DataIn bytes) old new calm is = ap is_flawless is ∙ quiet_same old (DataIn bytes) calm
cycle_same (DataOut count) old new calm is = ap is_flawless is ∙ quiet_same old (DataOut count) calm

-- ---- as a die is loaded, and as it is left

none_barred : (next : ℕ → ℕ) (blocks : List ℕ) → list_any (λ t. t.barred) (map (λ block. first_next_page (next block) (is_named [] block)) blocks) ≡ false
none_barred next [] = refl
none_barred next (block ∷ blocks) = none_barred next blocks

pub loaded_flawless : (g : Geometry) (bytes : List ℕ) (d : DieValue) → d ≡ before_reset (loaded_flash g bytes []) → is_flawless d ≡ true
loaded_flawless g bytes d is = ap is_flawless is ∙ ap not (none_barred (next_in g (raw_image g bytes)) (range_with_len 0 g.blocks))

open_at : (next_pages : List NextState) (b : ℕ) → list_any (λ t. t.barred) next_pages ≡ false → b < length next_pages → (get_or next_pages b no_next_page).barred ≡ false
open_at [] b none lt = absurd (omega (arith, lt))
open_at (t ∷ next_pages) zero none lt = (or_parts t.barred _ none).0
open_at (t ∷ next_pages) (suc b) none lt = open_at next_pages b (or_parts t.barred _ none).1 (omega (arith, lt))

-- no block of a flawless die is bad or has failed
pub flawless_open : (d : DieValue) → is_flawless d ≡ true → (b : ℕ) → b < length d.state.flash.next_pages → (next_page_at d.state.flash b).barred ≡ false
flawless_open d is b lt = open_at d.state.flash.next_pages b (not-true _ (and_parts (length d.faults == 0) (not (list_any (λ t. t.barred) d.state.flash.next_pages)) is).1) lt
