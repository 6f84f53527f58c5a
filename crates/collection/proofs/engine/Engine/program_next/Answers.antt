use Rattle.std.proofs.Common.{inr, ◌∙◌, ◌<◌, length, ap, refl, sym, subst}
use Rattle.std.proofs.lemmas.List.{with_items_is}
use Rattle.page_layout.specs.Page.{page}
use Rattle.page_layout.specs.Sound.{record_of}
use Rattle.page_layout.specs.Change.{Writes, ProgramMeans}
use Rattle.page_layout.specs.DieCalls.{AskedNothing}
use Rattle.page_layout.proofs.AskedLemmas.{asks_one}
use Rattle.onfi_cycles.specs.declared.nand.Outcome.TheVariants.{Passed, Failed}
use Rattle.onfi_cycles.specs.Outcomes.{is_passed}
use Rattle.bad_blocks.specs.Table.{wear_at}
use Rattle.budget.specs.Stream.{stream_of}
use Rattle.allocation.specs.State.{State}
use Rattle.allocation.specs.View.{state}
use Rattle.collection.specs.Safe.{ram, IsRam}
use Rattle.collection.proofs.Programs.{at_outcome, buffer_spare}
use Rattle.collection.proofs.HalfPuts.{try_cut}
use Rattle.collection.proofs.Looks.{ok_not_bus}
use Rattle.collection.proofs.Memory.{taken_outside}
use Rattle.collection.proofs.Attempts.{taken_by, taken_good, next_record, step_others, asked_ram, asked_goes, failed_ram, failed_goes, failed_cost, failed_went, failed_kept, passed_ram, passed_goes, passed_cost, passed_went, passed_put, can_take, asked_acts, StepOf}
use Rattle.collection.proofs.WriteBacks.{read_went}
use Rattle.promises.proofs.StopLemmas.{leaves_nothing}
use Rattle.page_layout.specs.Geometry.{row_count}
use Rattle.allocation.specs.Step.{HasNone}
use Rattle.collection.proofs.Ends.{read_only_apart, err_apart, no_less, one_before, put_is, same_is}
use Rattle.collection.specs.declared.fault.EngineFault.TheVariants.{ReadOnly}
use Rattle.collection.proofs.engine.Engine.program_next.Goals as goal

pub retire-requires-clause-good : goal.retire-requires-clause-good
retire-requires-clause-good g c =
    taken_good _ _ _ _ _
    (taken_by (ram c.args.self.now) c.of.result c.in-Some.row c.split_row-block.result.0 (state c.take_row.new.self) c.requires.safe.memory c.in-Some.ensures.some c.split_row-block.ensures.block_is)

-- ---- no block takes it

pub returns-in_default : goal.returns-in_default
returns-in_default g c = record {
  acts =
      let same = ap (λ (s : State). record (ram c.args.self.now) { blocks = s }) c.in_default.ensures.none.1 in
      record {
        safe = record { memory = subst IsRam (sym same) c.requires.safe.memory; geometry = c.requires.safe.geometry; page = c.requires.safe.page; scratch = c.requires.safe.scratch };
        fault = refl;
        honest_is = refl;
        calm_is = refl;
        asked = AskedNothing;
        failed_is = no_less _;
        rose = λ e. absurd (err_apart ReadOnly read_only_apart e);
        went = λ honest _. read_went (ram c.args.self.now) _ _ _ _ _ same refl refl;
      };
  goes = put_is (ram c.args.self.now) _ (ap (λ (s : State). record (ram c.args.self.now) { blocks = s }) c.in_default.ensures.none.1);
  page = refl;
  scratch = refl;
  only_programs = record { reads_are = refl; erases_are = refl };
  row = tt;
  programmed = tt;
  cost = record {
    none = subst (HasNone (state c.args.self.now.blocks)) c.of.ensures c.in_default.ensures.none.0;
    same = ap (λ (s : State). record (ram c.args.self.now) { blocks = s }) c.in_default.ensures.none.1;
  };
  truth = λ honest may. same_is (ram c.args.self.now) _ _ (ap (λ (s : State). record (ram c.args.self.now) { blocks = s }) c.in_default.ensures.none.1) may.truth;
  stops = λ honest may ne. leaves_nothing _ _ _ (inr refl);
  cut = λ _ _ e. absurd (err_apart ReadOnly read_only_apart e);
}

-- ---- it passed

pub returns-in-Ok-Passed : goal.returns-in-Ok-Passed
returns-in-Ok-Passed g c =
    let is = taken_by (ram c.args.self.now) c.of.result c.in-Some.row c.split_row-block.result.0 (state c.take_row.new.self) c.requires.safe.memory c.in-Some.ensures.some c.split_row-block.ensures.block_is in
    record {
      acts = asked_acts g.N.PageSource.view c.args.self.now c.program_record.new.nand _ _ _ _
          (passed_ram _ _ _ (ram c.args.self.now) _ c.requires.safe.memory is _ (record { geometry = refl; directory = refl; mapping = refl; pin = refl; next = refl }) c.args.old_row c.count_move.ensures c.requires.old_row c.requires.next) c.requires.safe
          (buffer_spare c.args.self.now.geometry c.args.self.now.page c.program_record.new.spare c.requires.safe.page) c.program_record.ensures.geometry c.program_record.ensures.honest c.program_record.ensures.calm
          (asks_one g.N.PageSource.view.called c.args.self.now.nand c.program_record.new.nand _ c.program_record.ensures.called) c.program_record.ensures.failed
          (λ e. absurd (ok_not_bus _ e))
          (λ honest _. passed_went _ _ _ (ram c.args.self.now) _ c.requires.safe.memory is _ (record { geometry = refl; directory = refl; mapping = refl; pin = refl; next = refl }) _ _ _ _ c.args.old_row c.count_move.ensures c.requires.old_row
          (at_outcome (StepOf g.N.PageSource.view c.in-Some.row c.args.self.now.next c.args.self.now.nand c.program_record.new.nand) c.in-Ok-Passed.field-0 Passed (c.in-Ok-Passed.ensures.step honest) c.in-Ok-Passed.field-0-is));
      goes = passed_goes _ _ _ (ram c.args.self.now) _ c.requires.safe.memory is _ (record { geometry = refl; directory = refl; mapping = refl; pin = refl; next = refl }) c.args.old_row c.count_move.ensures c.requires.old_row;
      page = refl;
      scratch = refl;
      only_programs = record { reads_are = c.program_record.ensures.reads; erases_are = c.program_record.ensures.erases };
      row = taken_outside _ _ _ (ram c.args.self.now) _ c.requires.safe.memory is;
      programmed = rw (with_items_is c.args.self.now.page.spare c.program_record.new.spare (c.program_record.auto.spare ∙ c.deref_mut.ensures.len)) (record {
        its = next_record c.args.kind c.args.number c.args.self.now.next c.wear.result;
        sound = ap (λ b. record_of (page b c.program_record.new.spare)) (sym c.deref.ensures.value) ∙ c.program_record.ensures.spare;
        of_kind = refl;
        of_number = refl;
        last = one_before _;
      });
      cost = passed_cost _ _ _ (ram c.args.self.now) _ c.requires.safe.memory is _ (record { geometry = refl; directory = refl; mapping = refl; pin = refl; next = refl }) (stream_of c.args.kind) c.args.old_row c.of.ensures c.count_move.ensures c.requires.old_row;
      truth = λ honest may.
          let written = next_record c.args.kind c.args.number c.args.self.now.next c.wear.result in
          let after = g.N.PageSource.view.flash c.program_record.new.nand in
          let means = at_outcome (λ o. ProgramMeans c.args.self.now.geometry written c.in-Some.row c.deref.result.now (is_passed o) (g.N.PageSource.view.flash c.args.self.now.nand).image after.image) c.in-Ok-Passed.field-0 Passed (c.in-Ok-Passed.ensures.means honest
          (can_take (ram c.args.self.now) c.of.result c.in-Some.row c.split_row-block.result.0 (state c.take_row.new.self) c.requires.safe.memory c.in-Some.ensures.some c.split_row-block.ensures.block_is
          c.args.kind c.args.number c.args.old_row c.args.self.now.page.body.items _ may c.requires.key c.wear.result)) c.in-Ok-Passed.field-0-is in
          let step = at_outcome (StepOf g.N.PageSource.view c.in-Some.row c.args.self.now.next c.args.self.now.nand c.program_record.new.nand) c.in-Ok-Passed.field-0 Passed (c.in-Ok-Passed.ensures.step honest) c.in-Ok-Passed.field-0-is in
          let writes = subst (λ bytes. Writes c.args.self.now.geometry written c.in-Some.row bytes (g.N.PageSource.view.flash c.args.self.now.nand).image after.image) c.deref.ensures.value means in
          passed_put _ _ _ (ram c.args.self.now) _ c.requires.safe.memory (taken_by (ram c.args.self.now) c.of.result c.in-Some.row c.split_row-block.result.0 (state c.take_row.new.self) c.requires.safe.memory c.in-Some.ensures.some c.split_row-block.ensures.block_is)
          c.args.kind c.args.number c.args.old_row c.args.self.now.page.body.items _ may c.requires.key _ (record { geometry = refl; directory = refl; mapping = refl; pin = refl; next = refl }) after.image (c.in-Ok-Passed.ensures.image honest)
          (step_others c.in-Some.row c.args.self.now.next Passed _ after _ _ step) c.wear.result (c.wear.ensures.is ∙ ap (λ x. wear_at x c.split_row-block.result.0) c.table.ensures)
          c.count_move.ensures c.requires.old_row writes;
      stops = λ honest may ne.
          c.in-Ok-Passed.ensures.stops honest
          (can_take (ram c.args.self.now) c.of.result c.in-Some.row c.split_row-block.result.0 (state c.take_row.new.self) c.requires.safe.memory c.in-Some.ensures.some c.split_row-block.ensures.block_is
          c.args.kind c.args.number c.args.old_row c.args.self.now.page.body.items _ may c.requires.key c.wear.result);
      cut = λ _ _ e. absurd (ok_not_bus _ e);
    }

-- ---- it failed

pub returns-in-Ok-Failed : goal.returns-in-Ok-Failed
returns-in-Ok-Failed g c =
    let is = taken_by (ram c.args.self.now) c.of.result c.in-Some.row c.split_row-block.result.0 (state c.take_row.new.self) c.requires.safe.memory c.in-Some.ensures.some c.split_row-block.ensures.block_is in
    record {
      acts = asked_acts g.N.PageSource.view c.args.self.now c.program_record.new.nand _ _ _ _
          (failed_ram _ _ _ (ram c.args.self.now) _ c.requires.safe.memory is _ (record { geometry = refl; directory = refl; mapping = refl; pin = refl; next = refl }) c.retire.ensures.is c.requires.next) c.requires.safe
          (buffer_spare c.args.self.now.geometry c.args.self.now.page c.program_record.new.spare c.requires.safe.page) c.program_record.ensures.geometry c.program_record.ensures.honest c.program_record.ensures.calm
          (asks_one g.N.PageSource.view.called c.args.self.now.nand c.program_record.new.nand _ c.program_record.ensures.called) c.program_record.ensures.failed
          (λ e. absurd (ok_not_bus _ e))
          (λ honest _. failed_went _ _ _ (ram c.args.self.now) _ c.requires.safe.memory is _ (record { geometry = refl; directory = refl; mapping = refl; pin = refl; next = refl }) _ _ _ _ c.retire.ensures.is
          (at_outcome (StepOf g.N.PageSource.view c.in-Some.row c.args.self.now.next c.args.self.now.nand c.program_record.new.nand) c.in-Ok-Failed.field-0 Failed (c.in-Ok-Failed.ensures.step honest) c.in-Ok-Failed.field-0-is));
      goes = failed_goes _ _ _ (ram c.args.self.now) _ c.requires.safe.memory is _ (record { geometry = refl; directory = refl; mapping = refl; pin = refl; next = refl }) c.retire.ensures.is;
      page = refl;
      scratch = refl;
      only_programs = record { reads_are = c.program_record.ensures.reads; erases_are = c.program_record.ensures.erases };
      row = tt;
      programmed = tt;
      cost = failed_cost _ _ _ (ram c.args.self.now) _ c.requires.safe.memory is _ (record { geometry = refl; directory = refl; mapping = refl; pin = refl; next = refl }) (stream_of c.args.kind) c.of.ensures c.retire.ensures.is;
      truth = λ honest may.
          let written = next_record c.args.kind c.args.number c.args.self.now.next c.wear.result in
          let after = g.N.PageSource.view.flash c.program_record.new.nand in
          let means = at_outcome (λ o. ProgramMeans c.args.self.now.geometry written c.in-Some.row c.deref.result.now (is_passed o) (g.N.PageSource.view.flash c.args.self.now.nand).image after.image) c.in-Ok-Failed.field-0 Failed (c.in-Ok-Failed.ensures.means honest
          (can_take (ram c.args.self.now) c.of.result c.in-Some.row c.split_row-block.result.0 (state c.take_row.new.self) c.requires.safe.memory c.in-Some.ensures.some c.split_row-block.ensures.block_is
          c.args.kind c.args.number c.args.old_row c.args.self.now.page.body.items _ may c.requires.key c.wear.result)) c.in-Ok-Failed.field-0-is in
          let step = at_outcome (StepOf g.N.PageSource.view c.in-Some.row c.args.self.now.next c.args.self.now.nand c.program_record.new.nand) c.in-Ok-Failed.field-0 Failed (c.in-Ok-Failed.ensures.step honest) c.in-Ok-Failed.field-0-is in
          failed_kept _ _ _ (ram c.args.self.now) _ c.requires.safe.memory (taken_by (ram c.args.self.now) c.of.result c.in-Some.row c.split_row-block.result.0 (state c.take_row.new.self) c.requires.safe.memory c.in-Some.ensures.some c.split_row-block.ensures.block_is)
          c.args.kind c.args.number c.args.old_row c.args.self.now.page.body.items _ may c.requires.key _ (record { geometry = refl; directory = refl; mapping = refl; pin = refl; next = refl }) after.image (c.in-Ok-Failed.ensures.image honest)
          (step_others c.in-Some.row c.args.self.now.next Failed _ after _ _ step) c.retire.ensures.is means;
      stops = λ honest may ne.
          c.in-Ok-Failed.ensures.stops honest
          (can_take (ram c.args.self.now) c.of.result c.in-Some.row c.split_row-block.result.0 (state c.take_row.new.self) c.requires.safe.memory c.in-Some.ensures.some c.split_row-block.ensures.block_is
          c.args.kind c.args.number c.args.old_row c.args.self.now.page.body.items _ may c.requires.key c.wear.result);
      cut = λ _ _ e. absurd (ok_not_bus _ e);
    }

-- ---- the die answered nothing

pub returns-in-Err : goal.returns-in-Err
returns-in-Err g c =
    let is = taken_by (ram c.args.self.now) c.of.result c.in-Some.row c.split_row-block.result.0 (state c.take_row.new.self) c.requires.safe.memory c.in-Some.ensures.some c.split_row-block.ensures.block_is in
    record {
      acts = asked_acts g.N.PageSource.view c.args.self.now c.program_record.new.nand _ _ _ _
          (asked_ram _ _ _ (ram c.args.self.now) _ c.requires.safe.memory is _ (record { geometry = refl; directory = refl; mapping = refl; pin = refl; next = refl }) refl c.requires.next) c.requires.safe
          (buffer_spare c.args.self.now.geometry c.args.self.now.page c.program_record.new.spare c.requires.safe.page) c.program_record.ensures.geometry c.program_record.ensures.honest c.program_record.ensures.calm
          (asks_one g.N.PageSource.view.called c.args.self.now.nand c.program_record.new.nand _ c.program_record.ensures.called) c.program_record.ensures.failed
          (λ e. c.in-Err.ensures.rose)
          (λ honest ne. absurd (ne refl));
      goes = asked_goes _ _ _ (ram c.args.self.now) _ c.requires.safe.memory is _ (record { geometry = refl; directory = refl; mapping = refl; pin = refl; next = refl }) refl;
      page = refl;
      scratch = refl;
      only_programs = record { reads_are = c.program_record.ensures.reads; erases_are = c.program_record.ensures.erases };
      row = tt;
      programmed = tt;
      cost = tt;
      truth = λ _ _. tt;
      stops = λ honest may ne. absurd (ne refl);
      cut = λ honest may e.
          try_cut c.args.kind c.args.number c.in-Some.row (next_record c.args.kind c.args.number c.args.self.now.next c.wear.result) c.args.self.now.page.body.items
          c.deref.result.now c.args.self.now.geometry _ _ _ refl refl c.requires.next c.deref.ensures.value (c.in-Err.ensures.cut honest
          (can_take (ram c.args.self.now) c.of.result c.in-Some.row c.split_row-block.result.0 (state c.take_row.new.self) c.requires.safe.memory c.in-Some.ensures.some c.split_row-block.ensures.block_is
          c.args.kind c.args.number c.args.old_row c.args.self.now.page.body.items _ may c.requires.key c.wear.result));
    }

pub split_row-block-requires : goal.split_row-block-requires
split_row-block-requires g c = subst (λ g. c.in-Some.row < row_count g) c.requires.safe.memory.blocks_of c.in-Some.ensures.within

pub program_record-requires-clause-same_geometry : goal.program_record-requires-clause-same_geometry
program_record-requires-clause-same_geometry g c = c.requires.safe.geometry

pub program_record-requires-clause-body_whole : goal.program_record-requires-clause-body_whole
program_record-requires-clause-body_whole g c = ap length c.deref.ensures.value ∙ c.requires.safe.page.body

pub program_record-requires-clause-spare_whole : goal.program_record-requires-clause-spare_whole
program_record-requires-clause-spare_whole g c = c.deref_mut.ensures.len ∙ (c.args.self.now.page.spare.ok.0 ∙ c.requires.safe.page.spare)

pub count_move-requires-clause-block : goal.count_move-requires-clause-block
count_move-requires-clause-block g c = c.split_row-block.ensures.block

pub count_move-requires-clause-old_row : goal.count_move-requires-clause-old_row
count_move-requires-clause-old_row g c = c.requires.old_row
