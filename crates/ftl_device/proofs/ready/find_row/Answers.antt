use Rattle.std.proofs.Common.{◌∙◌, Some, ap}
use Rattle.collection.specs.Safe.{ram, page_in_buffer}
use Rattle.collection.proofs.Looks.{finds_row, ok_not_bus}
use Rattle.collection.specs.State.{Ram}
use Rattle.collection.proofs.Gates.{ram_noted}
use Rattle.ftl_device.proofs.ready.find_row.Goals as goal

pub returns-in-Ok-clause-checked : goal.returns-in-Ok-clause-checked
returns-in-Ok-clause-checked g c = finds_row (ram c.args.engine.now) c.args.sector (page_in_buffer c.row_of_sector.new.self.scratch) c.in-Ok.row c.in-Ok.ensures.hit c.in-Ok.ensures.checked

-- ---- it was found

pub returns-in-Ok-clause-safe : goal.returns-in-Ok-clause-safe
returns-in-Ok-clause-safe g c = c.in-Ok.ensures.looks.safe

pub returns-in-Ok-clause-memory : goal.returns-in-Ok-clause-memory
returns-in-Ok-clause-memory g c = c.in-Ok.ensures.looks.memory ∙ ap (λ f. record (ram c.args.engine.now) { fault = f }) c.requires.going

pub returns-in-Ok-clause-honest : goal.returns-in-Ok-clause-honest
returns-in-Ok-clause-honest g c = c.in-Ok.ensures.looks.only_reads.honest_is

pub returns-in-Ok-clause-calm : goal.returns-in-Ok-clause-calm
returns-in-Ok-clause-calm g c = c.in-Ok.ensures.looks.only_reads.calm_is

pub returns-in-Ok-clause-asked : goal.returns-in-Ok-clause-asked
returns-in-Ok-clause-asked g c = c.in-Ok.ensures.looks.asked

pub returns-in-Ok-clause-failed : goal.returns-in-Ok-clause-failed
returns-in-Ok-clause-failed g c = c.in-Ok.ensures.looks.only_reads.failed_is

pub returns-in-Ok-clause-rose : goal.returns-in-Ok-clause-rose
returns-in-Ok-clause-rose g c = λ bus. absurd (ok_not_bus _ bus)

pub returns-in-Ok-clause-faults : goal.returns-in-Ok-clause-faults
returns-in-Ok-clause-faults g c = tt

pub returns-in-Ok-clause-row : goal.returns-in-Ok-clause-row
returns-in-Ok-clause-row g c = c.in-Ok.ensures.row

pub returns-in-Ok-clause-same : goal.returns-in-Ok-clause-same
returns-in-Ok-clause-same g c = c.in-Ok.ensures.looks.same

pub returns-in-Ok-clause-told : goal.returns-in-Ok-clause-told
returns-in-Ok-clause-told g c = c.in-Ok.ensures.looks.told

pub returns-in-Ok-clause-cut : goal.returns-in-Ok-clause-cut
returns-in-Ok-clause-cut g c = λ honest bus. absurd (ok_not_bus _ bus)

pub returns-in-Ok-clause-truth : goal.returns-in-Ok-clause-truth
returns-in-Ok-clause-truth g c = c.in-Ok.ensures.truth

-- ---- the die gave a fault, or damage

pub returns-in-Err-clause-safe : goal.returns-in-Err-clause-safe
returns-in-Err-clause-safe g c = record { memory = ram_noted _ (ram c.row_of_sector.new.self) c.in-Err.ensures.looks.safe.memory; geometry = c.in-Err.ensures.looks.safe.geometry; page = c.in-Err.ensures.looks.safe.page; scratch = c.in-Err.ensures.looks.safe.scratch }

pub returns-in-Err-clause-memory : goal.returns-in-Err-clause-memory
returns-in-Err-clause-memory g c = ap (λ (r : Ram). record r { fault = Some c.in-Err.fault }) c.in-Err.ensures.looks.memory

pub returns-in-Err-clause-honest : goal.returns-in-Err-clause-honest
returns-in-Err-clause-honest g c = c.in-Err.ensures.looks.only_reads.honest_is

pub returns-in-Err-clause-calm : goal.returns-in-Err-clause-calm
returns-in-Err-clause-calm g c = c.in-Err.ensures.looks.only_reads.calm_is

pub returns-in-Err-clause-asked : goal.returns-in-Err-clause-asked
returns-in-Err-clause-asked g c = c.in-Err.ensures.looks.asked

pub returns-in-Err-clause-failed : goal.returns-in-Err-clause-failed
returns-in-Err-clause-failed g c = c.in-Err.ensures.looks.only_reads.failed_is

pub returns-in-Err-clause-rose : goal.returns-in-Err-clause-rose
returns-in-Err-clause-rose g c = c.in-Err.ensures.looks.rose

pub returns-in-Err-clause-faults : goal.returns-in-Err-clause-faults
returns-in-Err-clause-faults g c = c.in-Err.ensures.looks.faults

pub returns-in-Err-clause-checked : goal.returns-in-Err-clause-checked
returns-in-Err-clause-checked g c = tt

pub returns-in-Err-clause-row : goal.returns-in-Err-clause-row
returns-in-Err-clause-row g c = tt

pub returns-in-Err-clause-same : goal.returns-in-Err-clause-same
returns-in-Err-clause-same g c = c.in-Err.ensures.looks.same

pub returns-in-Err-clause-told : goal.returns-in-Err-clause-told
returns-in-Err-clause-told g c = c.in-Err.ensures.looks.told

pub returns-in-Err-clause-cut : goal.returns-in-Err-clause-cut
returns-in-Err-clause-cut g c = c.in-Err.ensures.looks.cut

pub returns-in-Err-clause-truth : goal.returns-in-Err-clause-truth
returns-in-Err-clause-truth g c = c.in-Err.ensures.truth

-- ---- what the calls want

pub row_of_sector-requires-clause-safe : goal.row_of_sector-requires-clause-safe
row_of_sector-requires-clause-safe g c = c.requires.safe

pub row_of_sector-requires-clause-sector : goal.row_of_sector-requires-clause-sector
row_of_sector-requires-clause-sector g c = c.requires.sector
