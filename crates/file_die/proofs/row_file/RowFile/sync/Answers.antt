use Rattle.std.proofs.Common.{◌≡◌, ◌∙◌, ap, refl, sym, subst, Bool, true, false}
use Rattle.std.specs.Result.{is_ok}
use Rattle.file_die.specs.Store.{Held, Syncs}
use Rattle.file_die.specs.Rows.{held_in, syncs_lost}
use Rattle.std.specs.Prelude.{◌==◌}
use Rattle.file_die.proofs.RowLemmas.{rows_held, syncs, syncs_none, sync_lost, sync_told, rows_of, kept_of, kept_settled, same_kept, held_is, parts_settled, lost_by, counts_lost, counts_settled}
use Rattle.file_die.proofs.row_file.RowFile.sync.Goals as goal

-- one that failed before: the file is asked nothing
pub returns-then-self : goal.returns-then-self
returns-then-self g c =
    let held = g.F.ByteFile.held in
    let old = c.args.self.now in
    let new = c.settle.new.self in
    let made = c.settle.ensures in
    record {
      syncs = λ reads r e. subst (λ (h : Held). Syncs (held_in held reads old) (is_ok c.settle.result) h) (held_is held reads new old.file old.geometry old.size made.file made.geometry made.size)
          (syncs_none (held_in held reads old) (is_ok c.settle.result) made.answer);
      kept = λ reads. kept_settled held g.F.ByteFile.honest g.F.ByteFile.tells old new old.file made.file refl (λ size r. refl) made.size made.sync_failed (λ h. refl) reads;
      counts = counts_settled old new c.settle.result made.geometry made.size made.ok made.rising made.rose made.first;
      unfilled = made.full;
      once = λ e. (made.answer, made.file);
      refused = sync_lost g.F.ByteFile.refused old new _ c.settle.result (rw (← c.self.view_is) c.if-self.true) made.told;
    }

pub invariant_of-self : goal.invariant_of-self
invariant_of-self g c =
    let i = c.self.inside in
    let by = lost_by c.sync-answer.result c.is_err-self-inside.result c.is_err-self-inside.ensures.value in
    parts_settled (g.F.ByteFile.honest i.file) _ (g.F.ByteFile.held i.file) (g.F.ByteFile.held c.sync-answer.new.self) i.geometry i.size i.erased.items (is_ok c.sync-answer.result) i.failures i.fault c.is_err-self-inside.result c.sync-answer.ensures.honest
    (rw c.if-self.false at c.self.invariant) c.sync-answer.ensures.settles by.0 by.1

pub returns : goal.returns
returns g c =
    let i = c.self.inside in
    let held = g.F.ByteFile.held in
    let honest = g.F.ByteFile.honest in
    let tells = g.F.ByteFile.tells in
    let s = held i.file in
    let left = c.sync-answer.new.self in
    let done = is_ok c.sync-answer.result in
    let lost = c.is_err-self-inside.result in
    let by = lost_by c.sync-answer.result lost c.is_err-self-inside.ensures.value in
    let made = c.settle-2.ensures in
    let new = c.settle-2.new.self in
    rw (← c.self.view_is) (record {
      syncs = λ reads r e.
          let kept = kept_of held honest tells reads _ e in
          let rows = rows_of held honest tells reads _ i.erased.items c.self.invariant e in
          let none : s.failed_syncs ≡ 0 = kept.2 ∙ ap syncs_lost c.if-self.false in
          let all = syncs reads i.geometry i.size done s (held left) r rows none (c.sync-answer.ensures.settles kept.0) (c.sync-answer.ensures.told kept.0 i.size reads kept.1 s) in
          let all_so = subst (λ (h : Held). Syncs (rows_held reads i.geometry i.size s) done h) (held_is held reads new left i.geometry i.size made.file made.geometry made.size) all in
          subst (λ (d : Bool). Syncs (rows_held reads i.geometry i.size s) d (held_in held reads new)) (sym made.answer) all_so;
      kept = λ reads. same_kept held honest tells reads _ new (ap honest made.file ∙ c.sync-answer.ensures.honest) (λ size. ap (λ f. tells f size reads) made.file ∙ c.sync-answer.ensures.tells size reads) made.size
          (λ h. ap (λ z. (held z).failed_syncs == syncs_lost new.sync_failed) made.file
          ∙ (ap (λ b. (held left).failed_syncs == syncs_lost b) made.sync_failed
          ∙ (counts_lost s.failed_syncs (held left).failed_syncs done lost (c.sync-answer.ensures.settles h).syncs by.0 by.1
          ∙ ap (λ b. s.failed_syncs == syncs_lost b) (sym c.if-self.false))));
      counts = counts_settled _ new c.settle-2.result made.geometry made.size made.ok made.rising made.rose made.first;
      unfilled = made.full;
      once = λ e. (let no : true ≡ false = sym e ∙ c.if-self.false in let never : ⊥ = cc in absurd never);
      refused = sync_told g.F.ByteFile.refused _ new left c.sync-answer.result c.settle-2.result c.sync-answer.ensures.refused made.told made.answer made.file;
    })
