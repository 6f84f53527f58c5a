use Rattle.std.proofs.Common.{◌≡◌, ◌∙◌, length, map, ap, refl, rules, arith}
use Rattle.program_words.specs.Met.{texts}
use Rattle.lab_commands.specs.Files.{after_opens}
use Rattle.lab_commands.proofs.MergeLemmas.{opens_next}
use Rattle.lab_commands.proofs.UndoneLemmas.{no_more_first, no_more_then}
use Rattle.lab_report.specs.Note.{noted_of}
use Rattle.lab_custody.specs.Reported.{IsSomeUnnoted}
use Rattle.lab_custody.proofs.ReportLemmas.{handed_on, one_noted, some_unnoted}
use Rattle.lab_custody.proofs.reported.note_files.Goals as goal

pub returns-in_err-content-clause-fault : goal.returns-in_err-content-clause-fault
returns-in_err-content-clause-fault g c =
    let a = g.F.LabFiles.answers c.args.files.now in
    let b = g.F.LabFiles.answers c.loop-place.files in
    handed_on (IsSomeUnnoted a (g.F.LabFiles.kept c.args.files.now) (texts c.args.paths.now)) _ _ c.from_residual.ensures.1
    (some_unnoted a b (g.F.LabFiles.kept c.args.files.now) c.args.paths.now c.loop-place.place _ (map noted_of c.loop-place.notes.items) _ (omega arith) c.loop-place.invariant.no_more c.loop-place.invariant.noted c.in_err-content.ensures.fault)

pub loop-place-preserved : goal.loop-place-preserved
loop-place-preserved g c =
    let a = g.F.LabFiles.answers c.args.files.now in
    let b = g.F.LabFiles.answers c.loop-place.files in
    let inv = c.loop-place.invariant in
    record {
      no_more = no_more_then a b (g.F.LabFiles.answers c.note_file.new.files) inv.no_more c.in_ok-content.ensures.no_more;
      kept = c.in_ok-content.ensures.kept ∙ inv.kept;
      noted =
          one_noted a b (g.F.LabFiles.kept c.args.files.now) (g.F.LabFiles.kept c.loop-place.files) c.args.paths.now c.loop-place.place _
          c.loop-place.notes.items c.push_reserved.new.self.items _ (omega arith) inv.no_more inv.kept inv.noted c.in_ok-content.ensures.noted
          c.push_reserved.ensures.items;
      opens = opens_next c.loop-place.place _ _ _ inv.opens c.in_ok-content.ensures.opened;
      count = omega (arith, c.push_reserved.ensures.len);
      room = c.push_reserved.ensures.capacity ∙ inv.room;
      size = omega arith;
    }

pub loop-place-init : goal.loop-place-init
loop-place-init g c = record { no_more = no_more_first _; kept = refl; noted = search rules; opens = refl; count = search rules; room = refl; size = refl }

pub returns-clause-once : goal.returns-clause-once
returns-clause-once g c =
    let end : c.loop-place.place ≡ length c.args.paths.now = omega arith in
    c.loop-place.invariant.opens ∙ ap (λ k. after_opens k (g.F.LabFiles.opened c.args.files.now)) end
