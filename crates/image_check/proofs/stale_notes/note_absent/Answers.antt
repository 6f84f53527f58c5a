use Rattle.std.proofs.Common.{◌-◌, ◌+◌, ℕ, Bool, [], true, false, arith, sym, ap, subst, ◌∙◌}
use Rattle.std.specs.Prelude.{filter}
use Rattle.std.specs.List.{range_with_len}
use Rattle.image_check.specs.declared.noted_sectors.Noted.{Noted}
use Rattle.image_check.specs.Noted.{is_noted, IsKept}
use Rattle.image_check.proofs.NotedLemmas.{kept_more, kept_same, kept_none, absent_here, has_from_kept}
use Rattle.image_check.proofs.stale_notes.note_absent.Goals.{then-is_absent, else-is_absent}
use Rattle.image_check.proofs.stale_notes.note_absent.Goals as goal

pub loop-sector-init : goal.loop-sector-init
loop-sector-init c = record { kept = λ image. kept_none (is_noted c.args.geometry.now image c.args.certificate.now 0) 0 [] c.args.noted.now c.requires.none; most = omega arith }

pub loop-sector-preserved : goal.loop-sector-preserved
loop-sector-preserved c =
    let g = c.args.geometry.now in
    let claim = c.args.certificate.now in
    let n = c.loop-sector.sector in
    let x = c.loop-sector.noted in
    let inv = c.loop-sector.invariant in
    elim c.if-is_absent.branch [
      | then-is_absent w ↦ record {
        kept = λ image. (let p : ℕ → Bool = is_noted g image claim 0 in
            subst (λ y. IsKept (filter p (range_with_len 0 (n + 1 - 0))) y) (sym w.noted-is)
            (kept_more p 0 n [] x w.note.new.self (omega arith) (absent_here g image claim n c.entries.result c.is_absent.result true c.entries.ensures (omega arith) c.is_absent.ensures w.if-is_absent.true) (inv.kept image) w.note.ensures.noted));
        most = ap (λ (y : Noted). y.most) w.noted-is ∙ (w.note.ensures.most ∙ inv.most);
      }
      | else-is_absent w ↦ record {
        kept = λ image. (let p : ℕ → Bool = is_noted g image claim 0 in
            subst (λ y. IsKept (filter p (range_with_len 0 (n + 1 - 0))) y) (sym w.noted-is)
            (kept_same p 0 n [] x (omega arith) (absent_here g image claim n c.entries.result c.is_absent.result false c.entries.ensures (omega arith) c.is_absent.ensures w.if-is_absent.false) (inv.kept image)));
        most = ap (λ (y : Noted). y.most) w.noted-is ∙ inv.most;
      }
    ]

pub returns-clause-noted : goal.returns-clause-noted
returns-clause-noted c = λ image. has_from_kept c.args.geometry.now image c.args.certificate.now c.loop-sector.noted (c.loop-sector.sector - 0) (omega arith) (c.loop-sector.invariant.kept image)
