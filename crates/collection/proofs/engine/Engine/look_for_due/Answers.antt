use Rattle.std.proofs.Common.{◌≡◌, ◌∙◌, ℕ, true, List, Option, Some, None, is_some, ap, sym, ◌≤◌, subst, ◌<◌}
use Rattle.std.proofs.lemmas.Result.{err_from_is_err_and}
use Rattle.collection.specs.Safe.{ram}
use Rattle.collection.proofs.Acts.{looks_same, looks_then, looks_ok, looks_err}
use Rattle.collection.proofs.Looks.{ok_not_bus}
use Rattle.page_layout.specs.declared.record.Record.{Record}
use Rattle.page_layout.specs.Page.{Image}
use Rattle.collection.specs.Renew.{HasNoneDue, IsDuePage, LooksAtDue, IsNextDue}
use Rattle.collection.proofs.Renews.{none_past, none_looked, none_before, next_due}
use Rattle.collection.proofs.Rescues.{true_over}
use Rattle.collection.proofs.Exits.{none_not_some, row_below}
use Rattle.page_layout.specs.Geometry.{row_count}
use Rattle.collection.specs.State.{Ram}
use Rattle.collection.proofs.engine.Engine.look_for_due.Goals as goal

-- a look at the row found a page
looked_next : (from row : ℕ) (x x1 : Image) (body : List ℕ) (due : Option Record) → x1 ≡ x → from ≤ row → ((q : ℕ) → from ≤ q → q < row → HasNoneDue q x) → LooksAtDue row body x1 due → is_some due ≡ true → IsNextDue from row x
looked_next from row x x1 body None still ge below looks some = (let never : ⊥ = cc in absurd never)
looked_next from row x x1 body (Some r) still ge below looks some = next_due from row x body r ge below (subst (IsDuePage row body r) still looks)

pub returns : goal.returns
returns g c = record {
  looks = looks_ok _ _ tt _ c.rows.invariant.looks;
  row = λ _ is. absurd (none_not_some _ is);
  truth = λ honest w.
      none_past (ram c.args.self.now) c.args.from c.rows.row _ w (subst (λ k. k ≤ c.rows.row) c.rows-row-end.ensures c.rows-test.false) (c.rows.invariant.truth honest w);
}

-- ---- the looks of each row, one after another

pub rows-init : goal.rows-init
rows-init g c = record { looks = looks_same c.args.self.now c.requires.safe; truth = λ honest w q ge lt. none_before c.args.from _ q ge lt }

pub rows-preserved : goal.rows-preserved
rows-preserved g c =
    let i = c.rows.invariant in
    let old = ram c.args.self.now in
    let now = ram c.rows.self in
    record {
      looks = looks_then _ _ _ tt _ i.looks (looks_ok _ _ _ _ c.in_ok-due.ensures.looks);
      truth = λ honest w.
          let still = ap (λ f. f.image) (i.looks.same honest (ok_not_bus _)) in
          let looked = c.in_ok-due.ensures.truth (i.looks.only_reads.honest_is ∙ honest) (true_over old now _ _ w i.looks.memory still) in
          none_looked c.args.from c.rows.row _ _ _ _ still (i.truth honest w) looked (sym c.is_some.ensures ∙ c.if-is_some.false);
    }

pub returns-in_err-due : goal.returns-in_err-due
returns-in_err-due g c =
    let p = err_from_is_err_and c.from_residual.result c.from_residual.ensures.1 in
    rw (p.1, p.2) (record {
      looks = looks_then _ _ _ tt _ c.rows.invariant.looks (looks_err _ _ _ c.in_err-due.ensures.looks);
      row = tt;
      truth = λ honest w.
          let i = c.rows.invariant in
          c.in_err-due.ensures.truth (i.looks.only_reads.honest_is ∙ honest) (true_over (ram c.args.self.now) (ram c.rows.self) _ _ w i.looks.memory (ap (λ f. f.image) (i.looks.same honest (ok_not_bus _))));
    })

pub returns-then-is_some : goal.returns-then-is_some
returns-then-is_some g c = record {
  looks = looks_then _ _ _ tt _ c.rows.invariant.looks (looks_ok _ _ _ _ c.in_ok-due.ensures.looks);
  row = λ x is. row_below _ _ _ x c.rows-row-end.ensures c.rows-test.true is;
  truth = λ honest w.
      let i = c.rows.invariant in
      let still = ap (λ f. f.image) (i.looks.same honest (ok_not_bus _)) in
      let looked = c.in_ok-due.ensures.truth (i.looks.only_reads.honest_is ∙ honest) (true_over (ram c.args.self.now) (ram c.rows.self) _ _ w i.looks.memory still) in
      looked_next c.args.from c.rows.row _ _ _ c.in_ok-due.due still c.rows.auto.row (i.truth honest w) looked (sym c.is_some.ensures ∙ c.if-is_some.true);
}

pub due_record-requires-clause-safe : goal.due_record-requires-clause-safe
due_record-requires-clause-safe g c = c.rows.invariant.looks.safe

pub due_record-requires-clause-row : goal.due_record-requires-clause-row
due_record-requires-clause-row g c = subst (λ k. c.rows.row < k) (c.rows-row-end.ensures ∙ sym (ap (λ (z : Ram). row_count z.geometry) c.rows.invariant.looks.memory)) c.rows-test.true
