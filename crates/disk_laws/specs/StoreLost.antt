-- WHAT A LOSS OF POWER LEAVES OF A STORE, by what the cycles of its die came to.
use Rattle.std.specs.Prelude.{◌≡◌, true, List, [], ◌∷◌, ◌++◌, replicate, if◌then◌else◌, None}
use Rattle.page_layout.specs.declared.geometry.Geometry.{Geometry}
use Rattle.page_layout.specs.Sound.{record_of}
use Rattle.page_layout.specs.Change.{erased_page}
use Rattle.page_layout.specs.Flash.{Flash, Operation, Program, Erase, may_erase, may_program}
use Rattle.onfi_cycles.specs.Cycles.{Due, Moves, Resets, Programs, Erases, Refuses}
use Rattle.file_die.specs.declared.die.SyncWhen.{SyncWhen}
use Rattle.file_die.specs.Store.{Held, AreImages, page_in}
use Rattle.file_die.specs.DieLaws.{TakesStoreCycle, StoreCycle}
use Rattle.disk_laws.specs.Lost.{MayLose}

-- the operation that a cycle was, which was done: a program or an erase that its block's next page allowed
abbrev pub operation_in : Geometry → Flash → Due → List Operation
operation_in g flash (Programs row page) = if may_program flash row then Program row page true page ∷ [] else []
operation_in g flash (Erases block) = if may_erase flash block then Erase block true (replicate g.pages (erased_page g)) ∷ [] else []
operation_in g flash (Moves phase) = []
operation_in g flash Resets = []
operation_in g flash (Refuses fault) = []

abbrev pub operations_in : Geometry → List StoreCycle → List Operation
operations_in g [] = []
operations_in g (cycle ∷ cycles) = operation_in g cycle.flash cycle.due ++ operations_in g cycles

-- a program that is allowed is of a row whose page has no record
abbrev pub ProgramsUnsound : Held → Flash → Due → Type 0
ProgramsUnsound s flash (Programs row page) = may_program flash row ≡ true → record_of (page_in s.pages row) ≡ None
ProgramsUnsound s flash (Erases block) = Unit {0}
ProgramsUnsound s flash (Moves phase) = Unit {0}
ProgramsUnsound s flash Resets = Unit {0}
ProgramsUnsound s flash (Refuses fault) = Unit {0}

-- such cycles one after another, each done
abbrev pub GoesDone : SyncWhen → Held → List StoreCycle → Held → Type 0
GoesDone sync_when s [] t = t ≡ s
GoesDone sync_when s (cycle ∷ cycles) t = (mid : Held) × (cycle.done ≡ true) × ProgramsUnsound s cycle.flash cycle.due × TakesStoreCycle sync_when s cycle mid × GoesDone sync_when mid cycles t

-- ---- law

-- WHAT LASTS OF A STORE, since all of its pages did, is what a loss of power may leave by the operations: it is the store that syncs before and after each erase
abbrev pub StoreLosesLaw : Type 0
StoreLosesLaw = (sync_when : SyncWhen) (s t : Held) (cycles : List StoreCycle) → AreImages s → s.durable ≡ s.pages → GoesDone sync_when s cycles t
    → MayLose s.geometry s.pages (operations_in s.geometry cycles) t.durable
