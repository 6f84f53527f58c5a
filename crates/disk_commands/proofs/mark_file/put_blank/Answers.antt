use Rattle.std.proofs.Common.{inl, inr, refl, subst, sym, ◌∙◌}
use Rattle.disk_commands.specs.declared.files.DiskFileFault.TheVariants.{Write}
use Rattle.disk_commands.specs.MarkFile.{BlankFails}
use Rattle.disk_commands.proofs.MarkFileLemmas.{fault_of}
use Rattle.disk_commands.proofs.mark_file.put_blank.Goals as goal
use Rattle.disk_commands.proofs.mark_file.put_blank.Goals.{then-is_err-via-then-is_err, then-is_err-via-else-is_err+then-is_err-2}

pub returns-then-is_err-clause-fails : goal.returns-then-is_err-clause-fails
returns-then-is_err-clause-fails g c =
    let file = g.F.ByteFile in
    elim c.then-is_err.branch [
      | then-is_err-via-then-is_err w ↦
          subst (BlankFails file.wrote file.refused c.args.file.now Write) (sym w.file-is)
          (let failed = fault_of c.write_all.result _ (sym c.is_err.ensures.value ∙ w.if-is_err.true) c.write_all.ensures.fails in
          inr (refl, failed.0, inl failed.1))
      | then-is_err-via-else-is_err+then-is_err-2 w ↦
          subst (BlankFails file.wrote file.refused c.args.file.now Write) (sym w.file-is)
          (let failed = fault_of w.sync.result _ (sym w.is_err-else-is_err.ensures.value ∙ w.if-is_err-2.true) w.sync.ensures.refused in
          inr (refl, failed.0, inr (c.write_all.new.file, failed.1)))
    ]
