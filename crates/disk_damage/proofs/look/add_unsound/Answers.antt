use Rattle.std.proofs.Common.{◌≡◌, ◌∙◌, ap, arith, rules, sym, subst}
use Rattle.std.specs.Prelude.{filter}
use Rattle.std.specs.List.{range_with_len}
use Rattle.file_die.specs.Store.{Held}
use Rattle.page_layout.specs.Geometry.{row_count}
use Rattle.disk_damage.specs.Look.{is_unsound_unmarked, unsound_numbers}
use Rattle.disk_damage.proofs.NumberLemmas.{fails, passes}
use Rattle.disk_damage.proofs.look.add_unsound.Goals.{then-branch+in_ok-add, else-branch}
use Rattle.disk_damage.proofs.look.add_unsound.Goals as goal

pub loop-row-preserved : goal.loop-row-preserved
loop-row-preserved g c =
    let loop = c.loop-row.invariant in
    let store = g.S.Store.held c.args.store.now in
    let p = is_unsound_unmarked c.args.geometry.now store.pages c.args.certificate.now.blocks in
    record {
      looks = search rules;
      settled = search rules;
      rows = λ h. (
          let told : c.in_ok-is_unsound.field-0 ≡ p c.loop-row.row =
          subst (λ (s : Held). c.in_ok-is_unsound.field-0 ≡ is_unsound_unmarked c.args.geometry.now s.pages c.args.certificate.now.blocks c.loop-row.row) (loop.looks.same h)
          (c.in_ok-is_unsound.ensures.unsound (loop.looks.as_honest ∙ h)) in
          elim c.if-branch.branch [
            | then-branch+in_ok-add w ↦ passes p c.loop-row.row c.loop-row.rows.items _ (sym told ∙ w.if-branch.true) (loop.rows h) (ap (λ s. s.items) w.rows-is ∙ w.in_ok-add.ensures)
            | else-branch w ↦ ap (λ s. s.items) w.rows-is ∙ fails p c.loop-row.row c.loop-row.rows.items (sym told ∙ w.if-branch.false) (loop.rows h)
          ]);
    }

pub returns-clause-rows : goal.returns-clause-rows
unfolding unsound_numbers
returns-clause-rows g c h =
    let p = is_unsound_unmarked c.args.geometry.now (g.S.Store.held c.args.store.now).pages c.args.certificate.now.blocks in
    let all : c.loop-row.row ≡ row_count c.args.geometry.now = omega (arith, c.loop-row-test.false, c.loop-row.auto.row-end, c.rows-row-end.ensures) in
    c.loop-row.invariant.rows h ∙ ap (λ n. filter (is_unsound_unmarked c.args.geometry.now (g.S.Store.held c.args.store.now).pages c.args.certificate.now.blocks) (range_with_len 0 n)) all
