-- What a command does, as the code has it.
use Rattle.std.specs.Prelude.{◌≡◌, ◌<◌, false, length}
use Rattle.page_layout.specs.declared.geometry.Geometry.{Geometry}
use Rattle.page_layout.specs.Geometry.{row_count, page_bytes}
use Rattle.onfi_cycles.specs.Cycles.{Due, Programs, Erases, page_of}
use Rattle.nand_die.specs.declared.chip.Job.{Job}
use Rattle.nand_die.specs.declared.chip.Job.TheVariants as job
use Rattle.nand_die.specs.Stopping.{is_change}

-- the program or the erase that is due, or that none is
abbrev pub IsJob : Geometry → Job → Due → Type 0
IsJob g (job.Program row page) due = (due ≡ Programs row (page_of g page.now)) × (length page.now ≡ page_bytes g) × (row < row_count g)
IsJob g (job.Erase block) due = (due ≡ Erases block) × (block < g.blocks)
IsJob g job.Other due = is_change due ≡ false
