use Rattle.std.proofs.Common.{is_some, ap, sym, ◌∙◌, refl}
use Rattle.std.proofs.lemmas.List.{with_items_is}
use Rattle.page_layout.specs.Page.{page}
use Rattle.page_layout.proofs.AskedLemmas.{asks_one}
use Rattle.collection.proofs.Looks.{bus_not_damaged, ok_not_damaged, other_not_of, page_of, not_other, not_unsound, ok_not_bus, unsound_not_of}
use Rattle.collection.specs.declared.fault.EngineFault.TheVariants.{Damaged}
use Rattle.collection.proofs.Programs.{buffer_both}
use Rattle.collection.proofs.Ends.{damaged_apart, err_apart}
use Rattle.collection.proofs.engine.look.read_of.Goals as goal

pub returns-in-Ok-None-clause-undamaged : goal.returns-in-Ok-None-clause-undamaged
returns-in-Ok-None-clause-undamaged g c = λ honest is. absurd (not_unsound _ c.args.key c.args.row (page c.read_sound.new.body c.read_sound.new.spare) is (c.in-Ok-None.ensures.page honest) (sym c.in-Ok-None.ensures.record ∙ c.in-Ok-None.field-0-is))

pub returns-in-Ok-Some-clause-undamaged : goal.returns-in-Ok-Some-clause-undamaged
returns-in-Ok-Some-clause-undamaged g c = λ honest is. absurd
    (not_other _ c.args.key c.args.row (page c.read_sound.new.body c.read_sound.new.spare) c.in-Ok-Some.found is (c.in-Ok-Some.ensures.page honest)
    (sym c.in-Ok-Some.ensures.record ∙ c.in-Ok-Some.field-0-is) (ap is_some (sym c.sequence_of.ensures) ∙ c.if-is_none.ensures))

pub returns-in-Ok-Some-2-clause-checked : goal.returns-in-Ok-Some-2-clause-checked
returns-in-Ok-Some-2-clause-checked g c = rw (
  with_items_is c.args.buffer.now.body c.read_sound.new.body (c.read_sound.auto.body ∙ c.deref_mut.ensures.len),
  with_items_is
      c.args.buffer.now.spare c.read_sound.new.spare (c.read_sound.auto.spare ∙ c.deref_mut-2.ensures.len),
)
    (page_of c.args.key (page c.read_sound.new.body c.read_sound.new.spare) c.in-Ok-Some.found
    (sym c.in-Ok-Some.ensures.record ∙ c.in-Ok-Some.field-0-is) (ap is_some (sym c.sequence_of.ensures) ∙ c.if-is_none.ensures))

-- ---- why it is damaged

pub returns-in-Err-clause-damaged : goal.returns-in-Err-clause-damaged
returns-in-Err-clause-damaged g c = λ e. absurd (bus_not_damaged _ refl e)

pub returns-in-Ok-None-clause-damaged : goal.returns-in-Ok-None-clause-damaged
returns-in-Ok-None-clause-damaged g c = λ _.
    let body = with_items_is c.args.buffer.now.body c.read_sound.new.body (c.read_sound.auto.body ∙ c.deref_mut.ensures.len) in
    let spare = with_items_is c.args.buffer.now.spare c.read_sound.new.spare (c.read_sound.auto.spare ∙ c.deref_mut-2.ensures.len) in
    rw (body, spare) (unsound_not_of c.args.key (page c.read_sound.new.body c.read_sound.new.spare) (sym c.in-Ok-None.ensures.record ∙ c.in-Ok-None.field-0-is))

pub returns-in-Ok-Some-clause-damaged : goal.returns-in-Ok-Some-clause-damaged
returns-in-Ok-Some-clause-damaged g c = λ _.
    let body = with_items_is c.args.buffer.now.body c.read_sound.new.body (c.read_sound.auto.body ∙ c.deref_mut.ensures.len) in
    let spare = with_items_is c.args.buffer.now.spare c.read_sound.new.spare (c.read_sound.auto.spare ∙ c.deref_mut-2.ensures.len) in
    rw (body, spare) (other_not_of c.args.key (page c.read_sound.new.body c.read_sound.new.spare) c.in-Ok-Some.found
    (sym c.in-Ok-Some.ensures.record ∙ c.in-Ok-Some.field-0-is) (ap is_some (sym c.sequence_of.ensures) ∙ c.if-is_none.ensures))

pub returns-in-Ok-Some-2-clause-damaged : goal.returns-in-Ok-Some-2-clause-damaged
returns-in-Ok-Some-2-clause-damaged g c = λ e. absurd (ok_not_damaged _ e)

-- ---- whatever the page is, one call was asked

pub returns-in-Err-clause-asked : goal.returns-in-Err-clause-asked
returns-in-Err-clause-asked g c = asks_one g.N.PageSource.view.called c.args.nand.now c.read_sound.new.nand _ c.read_sound.ensures.called

pub returns-in-Ok-None-clause-asked : goal.returns-in-Ok-None-clause-asked
returns-in-Ok-None-clause-asked g c = asks_one g.N.PageSource.view.called c.args.nand.now c.read_sound.new.nand _ c.read_sound.ensures.called

pub returns-in-Ok-Some-clause-asked : goal.returns-in-Ok-Some-clause-asked
returns-in-Ok-Some-clause-asked g c = asks_one g.N.PageSource.view.called c.args.nand.now c.read_sound.new.nand _ c.read_sound.ensures.called

pub returns-in-Ok-Some-2-clause-asked : goal.returns-in-Ok-Some-2-clause-asked
returns-in-Ok-Some-2-clause-asked g c = asks_one g.N.PageSource.view.called c.args.nand.now c.read_sound.new.nand _ c.read_sound.ensures.called

pub returns-in-Err-clause-only_reads : goal.returns-in-Err-clause-only_reads
returns-in-Err-clause-only_reads g c = c.read_sound.ensures.only_reads

pub returns-in-Err-clause-reads : goal.returns-in-Err-clause-reads
returns-in-Err-clause-reads g c = c.read_sound.ensures.reads

pub returns-in-Err-clause-faults : goal.returns-in-Err-clause-faults
returns-in-Err-clause-faults g c = tt

pub returns-in-Ok-None-clause-only_reads : goal.returns-in-Ok-None-clause-only_reads
returns-in-Ok-None-clause-only_reads g c = c.read_sound.ensures.only_reads

pub returns-in-Ok-None-clause-reads : goal.returns-in-Ok-None-clause-reads
returns-in-Ok-None-clause-reads g c = c.read_sound.ensures.reads

pub returns-in-Ok-None-clause-faults : goal.returns-in-Ok-None-clause-faults
returns-in-Ok-None-clause-faults g c = tt

pub returns-in-Ok-None-clause-rose : goal.returns-in-Ok-None-clause-rose
returns-in-Ok-None-clause-rose g c = λ e. absurd (err_apart Damaged damaged_apart e)

pub returns-in-Ok-None-clause-cut : goal.returns-in-Ok-None-clause-cut
returns-in-Ok-None-clause-cut g c = λ _ e. absurd (err_apart Damaged damaged_apart e)

pub returns-in-Ok-Some-clause-only_reads : goal.returns-in-Ok-Some-clause-only_reads
returns-in-Ok-Some-clause-only_reads g c = c.read_sound.ensures.only_reads

pub returns-in-Ok-Some-clause-reads : goal.returns-in-Ok-Some-clause-reads
returns-in-Ok-Some-clause-reads g c = c.read_sound.ensures.reads

pub returns-in-Ok-Some-clause-faults : goal.returns-in-Ok-Some-clause-faults
returns-in-Ok-Some-clause-faults g c = tt

pub returns-in-Ok-Some-clause-rose : goal.returns-in-Ok-Some-clause-rose
returns-in-Ok-Some-clause-rose g c = λ e. absurd (err_apart Damaged damaged_apart e)

pub returns-in-Ok-Some-clause-cut : goal.returns-in-Ok-Some-clause-cut
returns-in-Ok-Some-clause-cut g c = λ _ e. absurd (err_apart Damaged damaged_apart e)

pub returns-in-Ok-Some-2-clause-only_reads : goal.returns-in-Ok-Some-2-clause-only_reads
returns-in-Ok-Some-2-clause-only_reads g c = c.read_sound.ensures.only_reads

pub returns-in-Ok-Some-2-clause-reads : goal.returns-in-Ok-Some-2-clause-reads
returns-in-Ok-Some-2-clause-reads g c = c.read_sound.ensures.reads

pub returns-in-Ok-Some-2-clause-faults : goal.returns-in-Ok-Some-2-clause-faults
returns-in-Ok-Some-2-clause-faults g c = tt

pub returns-in-Ok-Some-2-clause-rose : goal.returns-in-Ok-Some-2-clause-rose
returns-in-Ok-Some-2-clause-rose g c = λ e. absurd (ok_not_bus _ e)

pub returns-in-Ok-Some-2-clause-cut : goal.returns-in-Ok-Some-2-clause-cut
returns-in-Ok-Some-2-clause-cut g c = λ _ e. absurd (ok_not_bus _ e)

pub returns-in-Ok-Some-2-clause-undamaged : goal.returns-in-Ok-Some-2-clause-undamaged
returns-in-Ok-Some-2-clause-undamaged g c = λ _ _. tt

pub returns-in-Err-clause-buffer : goal.returns-in-Err-clause-buffer
returns-in-Err-clause-buffer g c = buffer_both c.args.geometry.now c.args.buffer.now c.read_sound.new.body c.read_sound.new.spare c.requires.buffer

pub returns-in-Err-clause-rose : goal.returns-in-Err-clause-rose
returns-in-Err-clause-rose g c = λ _. c.in-Err.ensures.rose

pub returns-in-Err-clause-checked : goal.returns-in-Err-clause-checked
returns-in-Err-clause-checked g c = tt

pub returns-in-Err-clause-same : goal.returns-in-Err-clause-same
returns-in-Err-clause-same g c = λ _ ne. absurd (ne refl)

pub returns-in-Err-clause-told : goal.returns-in-Err-clause-told
returns-in-Err-clause-told g c = λ _ ne. absurd (ne refl)

pub returns-in-Err-clause-cut : goal.returns-in-Err-clause-cut
returns-in-Err-clause-cut g c = λ honest _. c.in-Err.ensures.cut honest

pub returns-in-Err-clause-page : goal.returns-in-Err-clause-page
returns-in-Err-clause-page g c = λ _. tt

pub returns-in-Err-clause-undamaged : goal.returns-in-Err-clause-undamaged
returns-in-Err-clause-undamaged g c = λ _ _. refl

pub returns-in-Ok-None-clause-buffer : goal.returns-in-Ok-None-clause-buffer
returns-in-Ok-None-clause-buffer g c = buffer_both c.args.geometry.now c.args.buffer.now c.read_sound.new.body c.read_sound.new.spare c.requires.buffer

pub returns-in-Ok-None-clause-same : goal.returns-in-Ok-None-clause-same
returns-in-Ok-None-clause-same g c = λ honest _. c.in-Ok-None.ensures.same honest

pub returns-in-Ok-None-clause-told : goal.returns-in-Ok-None-clause-told
returns-in-Ok-None-clause-told g c = λ honest _. c.in-Ok-None.ensures.told honest

pub returns-in-Ok-None-clause-page : goal.returns-in-Ok-None-clause-page
returns-in-Ok-None-clause-page g c = λ _. tt

pub returns-in-Ok-None-clause-checked : goal.returns-in-Ok-None-clause-checked
returns-in-Ok-None-clause-checked g c = tt

pub returns-in-Ok-Some-clause-buffer : goal.returns-in-Ok-Some-clause-buffer
returns-in-Ok-Some-clause-buffer g c = buffer_both c.args.geometry.now c.args.buffer.now c.read_sound.new.body c.read_sound.new.spare c.requires.buffer

pub returns-in-Ok-Some-clause-same : goal.returns-in-Ok-Some-clause-same
returns-in-Ok-Some-clause-same g c = λ honest _. c.in-Ok-Some.ensures.same honest

pub returns-in-Ok-Some-clause-told : goal.returns-in-Ok-Some-clause-told
returns-in-Ok-Some-clause-told g c = λ honest _. c.in-Ok-Some.ensures.told honest

pub returns-in-Ok-Some-clause-page : goal.returns-in-Ok-Some-clause-page
returns-in-Ok-Some-clause-page g c = λ _. tt

pub returns-in-Ok-Some-clause-checked : goal.returns-in-Ok-Some-clause-checked
returns-in-Ok-Some-clause-checked g c = tt

pub returns-in-Ok-Some-2-clause-buffer : goal.returns-in-Ok-Some-2-clause-buffer
returns-in-Ok-Some-2-clause-buffer g c = buffer_both c.args.geometry.now c.args.buffer.now c.read_sound.new.body c.read_sound.new.spare c.requires.buffer

pub returns-in-Ok-Some-2-clause-same : goal.returns-in-Ok-Some-2-clause-same
returns-in-Ok-Some-2-clause-same g c = λ honest _. c.in-Ok-Some.ensures.same honest

pub returns-in-Ok-Some-2-clause-told : goal.returns-in-Ok-Some-2-clause-told
returns-in-Ok-Some-2-clause-told g c = λ honest _. c.in-Ok-Some.ensures.told honest

pub returns-in-Ok-Some-2-clause-page : goal.returns-in-Ok-Some-2-clause-page
returns-in-Ok-Some-2-clause-page g c = λ honest.
    let body = with_items_is c.args.buffer.now.body c.read_sound.new.body (c.read_sound.auto.body ∙ c.deref_mut.ensures.len) in
    let spare = with_items_is c.args.buffer.now.spare c.read_sound.new.spare (c.read_sound.auto.spare ∙ c.deref_mut-2.ensures.len) in
    rw (body, spare) (c.in-Ok-Some.ensures.page honest)
