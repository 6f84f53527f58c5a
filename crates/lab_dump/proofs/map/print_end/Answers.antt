use Rattle.std.proofs.Common.{◌≡◌, true, map, sym, subst, ◌∙◌, arith}
use Rattle.std.specs.Io.KnownBytes.{Appends}
use Rattle.std.proofs.KnownBytes.{Appends-nil}
use Rattle.std.proofs.lemmas.Result.{err_from_is_err_and}
use Rattle.lab_dump.specs.Map.{ends_at}
use Rattle.lab_dump.proofs.MapLemmas.{first_after, first_low, first_still, line_is, line_none}
use Rattle.lab_dump.proofs.map.print_end.Goals as goal

pub returns-then-not-ends_at : goal.returns-then-not-ends_at
returns-then-not-ends_at g c = record {
  next =
      c.requires.first ∙ sym (first_still (map g.M.Marked.marked c.args.sectors.now) c.args.sector (sym c.ends_at.ensures ∙ c.if-not-ends_at.true));
  printed =
      let o = g.W.MapWriter.contents c.args.out.now in
      subst (λ t. Appends o o t) (sym (line_none c.args.geometry.now (map g.M.Marked.marked c.args.sectors.now) c.args.sector (sym c.ends_at.ensures ∙ c.if-not-ends_at.true))) (Appends-nil o);
  failed = tt;
}

pub area_between-requires-clause-rising : goal.area_between-requires-clause-rising
area_between-requires-clause-rising g c =
    let is = c.requires.first in
    let low = first_low (map g.M.Marked.marked c.args.sectors.now) c.args.sector in
    omega arith

pub returns : goal.returns
returns g c = record {
  next = sym (first_after (map g.M.Marked.marked c.args.sectors.now) c.args.sector (sym c.ends_at.ensures ∙ c.if-not-ends_at.false));
  printed =
      let marks = map g.M.Marked.marked c.args.sectors.now in
      let e : ends_at marks c.args.sector ≡ true = sym c.ends_at.ensures ∙ c.if-not-ends_at.false in
      let its = c.area_between.ensures in
      let text = line_is c.args.geometry.now marks c.args.sector c.args.first _ _ _ e c.requires.first its.position its.size (its.mark ∙ c.mark_at-mark.ensures) in
      subst (λ t. Appends (g.W.MapWriter.contents c.args.out.now) (g.W.MapWriter.contents c.print_area.new.out) t) text c.in_ok-print_area.ensures.printed;
  failed = tt;
}

pub returns-in_err-print_area : goal.returns-in_err-print_area
returns-in_err-print_area g c =
    let p = err_from_is_err_and c.from_residual.result c.from_residual.ensures.1 in
    rw p.1 (record { next = tt; printed = tt; failed = c.in_err-print_area.ensures.failed })
