use Rattle.std.proofs.Common.{ap, ◌∙◌, arith}
use Rattle.lab_commands.proofs.UndoneLemmas.{no_more_then}
use Rattle.lab_report.specs.Note.{named_as}
use Rattle.lab_custody.proofs.CheckLemmas.{one_checked}
use Rattle.lab_custody.proofs.checks.check_files.Goals as goal

pub loop-note-preserved : goal.loop-note-preserved
loop-note-preserved g c =
    let a = g.F.LabFiles.answers c.args.files.now in
    let b = g.F.LabFiles.answers c.loop-note.files in
    let inv = c.loop-note.invariant in
    let said = c.verdict_of-verdict.ensures in
    record {
      no_more = no_more_then a b (g.F.LabFiles.answers c.verdict_of-verdict.new.files) inv.no_more said.no_more;
      kept = said.kept ∙ inv.kept;
      checked =
          one_checked a b c.args.notes.now c.loop-note.note-index c.note-item.result c.args.checks.now.items c.loop-note.checks.items c.push_reserved.new.self.items _ c.loop-note-test.true c.note-item.is inv.no_more inv.checked
          (ap (λ name. named_as name c.note-item.result.content) c.as_str-name.ensures.value) said.is c.push_reserved.ensures.items;
      count = omega (arith, c.push_reserved.ensures.len);
      room = c.push_reserved.ensures.capacity ∙ inv.room;
      size = omega arith;
    }
