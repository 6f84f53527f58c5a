use Rattle.std.proofs.Common.{rules, ◌≡◌, ◌∙◌, ◌≤◌, ◌+◌, inl, inr, ℕ, Ok, Err, [], false, ap, add-zero, refl, subst, sym, zero-add, arith}
use Rattle.nbd_stream.specs.declared.task.Task.TheVariants.{Trim}
use Rattle.nbd_stream.specs.Disk.{PerformsTask, answer_from, error_for}
use Rattle.disk_server.proofs.FaultLemmas.{is_handed_on}
use Rattle.disk_server.proofs.Joining.{writes_trim}
use Rattle.disk_server.proofs.Fronts.{nothing_set, zeros_stopped, zeros_written}
use Rattle.nbd_stream.proofs.ThroughLemmas.{none}
use Rattle.disk_server.specs.Synced.{ClearsDonePart, ClearsParts, HasSynced, NotesFailedSync, after_change, touched}
use Rattle.disk_server.proofs.SyncLemmas.{none_then, one_part, part_counted, part_failed, then_failed, unflushed}
use Rattle.disk_server.proofs.SyncedLemmas.{alone_counted, alone_kept, one_alone, part_on, told_notes, uncounted}
use Rattle.disk_server.proofs.synced.SyncedDisk.clear_parts.Goals as goal

pub loop-done-preserved : goal.loop-done-preserved
loop-done-preserved g c =
    let inv = c.loop-done.invariant in
    let k : ℕ = c.loop-done.done in
    let m : ℕ = c.min-taken.result in
    let within : k + m ≤ c.args.count = omega (arith, inv.0, c.min-taken.ensures) in
    let place : c.from-in-loop-done.result ≡ k = search rules in
    let part = subst (λ n. PerformsTask (λ s. g.D.Disk.contents s.disk) (λ s. g.D.Disk.honest s.disk) (λ _. false) (Trim (c.args.offset + n) m false) [] c.loop-done.self (Ok []) c.clear_part-in-loop-done.new.self) place
    c.in_ok-clear_part.ensures.performs in
    let settled = subst (λ n. HasSynced g.Y.Syncs.synced false (after_change (c.args.offset + n) m c.loop-done.self) c.clear_part-in-loop-done.new.self) place c.in_ok-clear_part.ensures.changes.behind.synced_if_due in (
      within,
      one_part g.Y.Syncs.synced _ _ c.args.self.now c.loop-done.self c.clear_part-in-loop-done.new.self inv.1 c.in_ok-clear_part.ensures.changes.behind.synced_if_due,
      part_counted g.Y.Syncs.synced c.args.offset k m c.args.self.now c.loop-done.self c.clear_part-in-loop-done.new.self inv.1 inv.2 settled,
      zeros_written (λ s. g.D.Disk.contents s.disk) (λ s. g.D.Disk.honest s.disk) (λ _. false) c.args.count c.args.offset k m
          c.args.self.now c.loop-done.self c.clear_part-in-loop-done.new.self within c.requires inv.3 part,
      none_then g.Y.Syncs.failed c.args.self.now c.loop-done.self c.clear_part-in-loop-done.new.self inv.4
          (uncounted g.Y.Syncs.failed (c.args.offset + c.from-in-loop-done.result) m c.loop-done.self c.clear_part-in-loop-done.new.self (Ok tt)
          (told_notes g.Y.Syncs.failed (after_change (c.args.offset + c.from-in-loop-done.result) m c.loop-done.self) c.clear_part-in-loop-done.new.self c.in_ok-clear_part.ensures.changes.answer (Ok tt) c.in_ok-clear_part.ensures.changes.told)),
      part_on g.D.Disk.does g.Y.Syncs.synced g.Y.Syncs.failed g.Y.Syncs.marked g.D.Sequenced.next c.args.offset c.args.count
          c.args.self.now c.loop-done.self c.clear_part-in-loop-done.new.self inv.5
          (record {
            place = c.args.offset + c.from-in-loop-done.result;
            taken = m;
            begins = omega arith;
            inside = omega (arith, within, place);
            few = inl (omega (arith, c.min-taken.ensures));
            change = c.in_ok-clear_part.ensures.changes;
          }),
      unflushed g.Y.Syncs.marked g.D.Sequenced.next false (after_change (c.args.offset + c.from-in-loop-done.result) m c.loop-done.self) c.clear_part-in-loop-done.new.self (Ok tt) c.in_ok-clear_part.ensures.changes.behind.marks ∙ inv.6,
    )

pub returns-in_err-clear_part-clause-performs : goal.returns-in_err-clear_part-clause-performs
returns-in_err-clear_part-clause-performs g c =
    let inv = c.loop-done.invariant in
    let k : ℕ = c.loop-done.done in
    let m : ℕ = c.min-taken.result in
    let within : k + m ≤ c.args.count = omega (arith, inv.0, c.min-taken.ensures) in
    let place : c.from-in-loop-done.result ≡ k = search rules in
    let part = subst (λ n. PerformsTask (λ s. g.D.Disk.contents s.disk) (λ s. g.D.Disk.honest s.disk) (λ _. false) (Trim (c.args.offset + n) m false) [] c.loop-done.self (Err (error_for c.in_err-clear_part.field-0.0))
    c.clear_part-in-loop-done.new.self) place c.in_err-clear_part.ensures.performs in
    subst (λ r. PerformsTask (λ s. g.D.Disk.contents s.disk) (λ s. g.D.Disk.honest s.disk) (λ _. false) (Trim c.args.offset c.args.count false) [] c.args.self.now (answer_from r []) c.clear_part-in-loop-done.new.self)
    (sym (is_handed_on c.from_residual.result c.in_err-clear_part.field-0.0 c.from_residual.ensures.1))
    (writes_trim (λ s. g.D.Disk.contents s.disk) (λ s. g.D.Disk.honest s.disk) (λ _. false) c.args.offset c.args.count false c.args.self.now c.clear_part-in-loop-done.new.self (Err (error_for c.in_err-clear_part.field-0.0))
    (zeros_stopped (λ s. g.D.Disk.contents s.disk) (λ s. g.D.Disk.honest s.disk) (λ _. false) c.args.count c.args.offset k m
    c.args.self.now c.loop-done.self c.clear_part-in-loop-done.new.self within c.requires inv.3 (error_for c.in_err-clear_part.field-0.0) part))

pub returns-in_err-clear_part-clause-syncs : goal.returns-in_err-clear_part-clause-syncs
returns-in_err-clear_part-clause-syncs g c = part_failed g.Y.Syncs.synced _ _ c.args.self.now c.loop-done.self c.clear_part-in-loop-done.new.self c.loop-done.invariant.1 c.in_err-clear_part.ensures.changes.behind.unsynced

pub returns-in_err-clear_part-clause-notes : goal.returns-in_err-clear_part-clause-notes
returns-in_err-clear_part-clause-notes g c =
    subst (λ r. NotesFailedSync g.Y.Syncs.failed c.args.self.now r c.clear_part-in-loop-done.new.self) (sym (is_handed_on c.from_residual.result c.in_err-clear_part.field-0.0 c.from_residual.ensures.1))
    (then_failed g.Y.Syncs.failed c.args.self.now c.loop-done.self c.clear_part-in-loop-done.new.self c.loop-done.invariant.4
    (uncounted g.Y.Syncs.failed (c.args.offset + c.from-in-loop-done.result) c.min-taken.result c.loop-done.self c.clear_part-in-loop-done.new.self (Err c.in_err-clear_part.field-0.0)
    (told_notes g.Y.Syncs.failed (after_change (c.args.offset + c.from-in-loop-done.result) c.min-taken.result c.loop-done.self) c.clear_part-in-loop-done.new.self c.in_err-clear_part.ensures.changes.answer (Err c.in_err-clear_part.field-0.0)
    c.in_err-clear_part.ensures.changes.told)))

pub returns-clause-notes : goal.returns-clause-notes
returns-clause-notes g c = c.loop-done.invariant.4

pub returns-clause-parts : goal.returns-clause-parts
returns-clause-parts g c = c.loop-done.invariant.5

pub returns-in_err-clear_part-clause-parts : goal.returns-in_err-clear_part-clause-parts
returns-in_err-clear_part-clause-parts g c =
    let inv = c.loop-done.invariant in
    let k : ℕ = c.loop-done.done in
    let m : ℕ = c.min-taken.result in
    let within : k + m ≤ c.args.count = omega (arith, inv.0, c.min-taken.ensures) in
    let place : c.from-in-loop-done.result ≡ k = search rules in
    subst (λ r. ClearsParts g.D.Disk.does g.Y.Syncs.synced g.Y.Syncs.failed g.Y.Syncs.marked g.D.Sequenced.next c.args.offset c.args.count c.args.self.now r c.clear_part-in-loop-done.new.self)
    (sym (is_handed_on c.from_residual.result c.in_err-clear_part.field-0.0 c.from_residual.ensures.1)) (
      c.loop-done.self,
      inv.5,
      record {
        place = c.args.offset + c.from-in-loop-done.result;
        taken = m;
        begins = omega arith;
        inside = omega (arith, within, place);
        few = inl (omega (arith, c.min-taken.ensures));
        change = c.in_err-clear_part.ensures.changes;
      },
    )

pub returns-then-is_none-clause-parts : goal.returns-then-is_none-clause-parts
returns-then-is_none-clause-parts g c =
    one_alone g.D.Disk.does g.Y.Syncs.synced g.Y.Syncs.failed g.Y.Syncs.marked g.D.Sequenced.next c.args.offset c.args.count
    c.args.self.now c.args.self.now c.clear_part.new.self c.clear_part.result
    (record { place = c.args.offset; taken = c.args.count; begins = omega arith; inside = omega arith; few = inr (search rules); change = c.clear_part.ensures.changes })

pub returns-clause-unflushed : goal.returns-clause-unflushed
returns-clause-unflushed g c = c.loop-done.invariant.6

pub returns-in_err-clear_part-clause-unflushed : goal.returns-in_err-clear_part-clause-unflushed
returns-in_err-clear_part-clause-unflushed g c =
    let m : ℕ = c.min-taken.result in
    unflushed g.Y.Syncs.marked g.D.Sequenced.next false (after_change (c.args.offset + c.from-in-loop-done.result) m c.loop-done.self) c.clear_part-in-loop-done.new.self (Err c.in_err-clear_part.field-0.0) c.in_err-clear_part.ensures.changes.behind.marks ∙ c.loop-done.invariant.6

pub returns-then-is_none-clause-unflushed : goal.returns-then-is_none-clause-unflushed
returns-then-is_none-clause-unflushed g c = unflushed g.Y.Syncs.marked g.D.Sequenced.next false (after_change c.args.offset c.args.count c.args.self.now) c.clear_part.new.self c.clear_part.result c.clear_part.ensures.changes.behind.marks

pub loop-done-init : goal.loop-done-init
loop-done-init g c = (
  omega arith,
  record { syncs = inl (omega arith); pace_same = refl },
  record {
    pieces = 0;
    low = inr (omega arith);
    more = λ m. omega (arith, ap (touched c.args.self.now.pace.piece c.args.offset) (zero-add m), ap (λ x. touched c.args.self.now.pace.piece x m) (add-zero c.args.offset));
    all = λ some. absurd (omega (arith, some));
  },
  nothing_set (λ s. g.D.Disk.contents s.disk) (λ s. g.D.Disk.honest s.disk) (λ _. false) c.args.offset c.args.self.now,
  record { same = refl; count_same = refl },
  none (ClearsDonePart g.D.Disk.does g.Y.Syncs.synced g.Y.Syncs.failed g.Y.Syncs.marked g.D.Sequenced.next c.args.offset c.args.count)
      c.args.self.now c.args.self.now refl,
  refl,
)

pub returns-then-is_none-clause-syncs : goal.returns-then-is_none-clause-syncs
returns-then-is_none-clause-syncs g c = alone_kept g.Y.Syncs.synced g.Y.Syncs.marked g.D.Sequenced.next c.args.offset c.args.count c.args.self.now c.clear_part.new.self c.clear_part.result c.clear_part.ensures.changes.behind

pub returns-then-is_none-clause-counts : goal.returns-then-is_none-clause-counts
returns-then-is_none-clause-counts g c = alone_counted g.Y.Syncs.synced g.Y.Syncs.marked g.D.Sequenced.next c.args.offset c.args.count c.args.self.now c.clear_part.new.self c.clear_part.result c.clear_part.ensures.changes.behind

pub returns-then-is_none-clause-notes : goal.returns-then-is_none-clause-notes
returns-then-is_none-clause-notes g c =
    uncounted g.Y.Syncs.failed c.args.offset c.args.count c.args.self.now c.clear_part.new.self c.clear_part.result
    (told_notes g.Y.Syncs.failed (after_change c.args.offset c.args.count c.args.self.now) c.clear_part.new.self c.clear_part.ensures.changes.answer c.clear_part.result c.clear_part.ensures.changes.told)
