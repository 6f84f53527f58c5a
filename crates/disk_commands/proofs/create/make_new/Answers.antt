use Rattle.std.proofs.Common.{subst, sym, ◌∙◌}
use Rattle.disk_commands.specs.Created.{IsNewDieUnformatted}
use Rattle.disk_commands.proofs.BadLemmas.{blank_marks}
use Rattle.disk_commands.proofs.CreateLemmas.{not_blank, not_formatted, not_marked, removed}
use Rattle.disk_commands.proofs.create.make_new.Goals as goal

pub returns-in-Err-clause-fault : goal.returns-in-Err-clause-fault
returns-in-Err-clause-fault g c =
    subst (λ told. IsNewDieUnformatted g.F.Store.Store.held g.F.Store.Store.honest g.F.Store.Store.failed (g.F.DiskFiles.answers c.args.files.now) c.args.path.now c.args.shape.now c.args.bad.now told) (sym c.told_at.ensures)
    (not_blank g.F.Store.Store.held g.F.Store.Store.honest g.F.Store.Store.failed (g.F.DiskFiles.answers c.args.files.now) c.args.path c.args.shape.now c.args.bad.now c.in-Err.fault c.in-Err.ensures.failed)

pub returns-in-Err-mark_blocks-clause-fault : goal.returns-in-Err-mark_blocks-clause-fault
returns-in-Err-mark_blocks-clause-fault g c =
    not_marked g.F.Store.Store.held g.F.Store.Store.honest g.F.Store.Store.failed (g.F.DiskFiles.answers c.args.files.now) c.args.path c.args.shape.now c.args.bad.now c.in-Ok.store c.mark_blocks.new.store
    c.in-Err-mark_blocks.fault c.in-Ok.ensures.honest c.in-Ok.ensures.erased c.in-Err-mark_blocks.ensures.some c.in-Err-mark_blocks.ensures.fault

pub returns-in-Ok-format_store-clause-made : goal.returns-in-Ok-format_store-clause-made
returns-in-Ok-format_store-clause-made g c = λ honest.
    let before = sym c.in-Ok-format_store.ensures.honest ∙ honest in
    let first = sym c.mark_blocks.ensures.honest ∙ before in
    record {
      first = g.F.Store.Store.held c.mark_blocks.new.store;
      marks = c.in-Ok-mark_blocks.ensures.marks first (blank_marks _ _ (c.in-Ok.ensures.erased first));
      good = _;
      made = c.in-Ok-format_store.ensures.made before;
    }

pub returns-clause-fault : goal.returns-clause-fault
returns-clause-fault g c =
    subst (λ told. IsNewDieUnformatted g.F.Store.Store.held g.F.Store.Store.honest g.F.Store.Store.failed (g.F.DiskFiles.answers c.args.files.now) c.args.path.now c.args.shape.now c.args.bad.now told) (sym c.unformatted.ensures)
    (not_formatted g.F.Store.Store.held g.F.Store.Store.honest g.F.Store.Store.failed (g.F.DiskFiles.answers c.args.files.now) c.args.path c.args.shape.now c.args.bad.now
    c.mark_blocks.new.store c.in-Err-format_store.field-0-0 c.in-Err-format_store.fault (c.mark_blocks.ensures.honest ∙ c.in-Ok.ensures.honest)
    (λ honest. let first = sym c.mark_blocks.ensures.honest ∙ honest in c.in-Ok-mark_blocks.ensures.marks first (blank_marks _ _ (c.in-Ok.ensures.erased first))) c.in-Err-format_store.ensures.unmade)

pub returns-in-Err-mark_blocks-clause-no_part : goal.returns-in-Err-mark_blocks-clause-no_part
returns-in-Err-mark_blocks-clause-no_part g c = removed _ _ _ c.in-Ok.ensures.part c.discard.ensures.part

pub returns-clause-no_part : goal.returns-clause-no_part
returns-clause-no_part g c = removed _ _ _ c.in-Ok.ensures.part c.discard-in-Err-format_store.ensures.part
