use Rattle.std.proofs.Common.{◌≡◌, ◌∙◌, ◌+◌, ◌≤◌, ℕ, All, List, ap, arith, length, sym, subst, refl}
use Rattle.std.specs.Vec.{with_items}
use Rattle.std.proofs.lemmas.List.{with_items_is}
use Rattle.page_layout.specs.Page.{page}
use Rattle.page_layout.specs.Array.{marks}
use Rattle.page_layout.specs.Sound.{record_of}
use Rattle.page_layout.specs.Change.{one_if}
use Rattle.page_layout.proofs.ArrayLemmas.{mark-page}
use Rattle.lab_dump.specs.Count as sorts
use Rattle.lab_dump.specs.Doubts.{is_record_past}
use Rattle.lab_dump.specs.declared.trace.Trace.{Trace}
use Rattle.lab_dump.proofs.CountLemmas.{counted_more}
use Rattle.lab_dump.proofs.doubting.Doubting.step.Goals as goal

pub returns : goal.returns
returns c = record {
  is = λ image h at.
      let p = page c.args.body.now c.args.spare.now in
      let g = c.args.geometry.now in
      let row = c.args.row in
      let self = c.args.self.now in
      let found = c.requires.found in
      let erased = c.is_erased-erased.ensures in
      let unsound_is : (with_items self.unsound c.note_unsound.new.unsound).items ≡ c.note_unsound.new.unsound = with_items_is self.unsound c.note_unsound.new.unsound (c.note_unsound.auto.unsound ∙ c.deref_mut.ensures.len) in
      let holes_is : (with_items self.holes c.note_holes-self.new.holes).items ≡ c.note_holes-self.new.holes = with_items_is self.holes c.note_holes-self.new.holes (c.note_holes-self.auto.holes ∙ c.deref_mut-2.ensures.len) in
      let traces_is : (with_items self.traces c.note_trace.new.traces).items ≡ c.note_trace.new.traces = with_items_is self.traces c.note_trace.new.traces (c.note_trace.auto.traces ∙ c.deref_mut-3.ensures.len) in
      let tables_is : (with_items self.tables c.note_table.new.tables).items ≡ c.note_table.new.tables = with_items_is self.tables c.note_table.new.tables (c.note_table.auto.tables ∙ c.deref_mut-4.ensures.len) in
      let traces = c.note_trace.ensures (marks image) (rw c.deref_mut-3.ensures.value h.traces) (mark-page image row p at ∙ sym found) in
      record {
        traces = rw traces_is traces;
        tables = rw tables_is (c.note_table.ensures image p (rw c.deref_mut-4.ensures.value h.tables) (rw (c.deref.ensures.value, traces_is) traces) at found refl);
        unsound = rw unsound_is (c.note_unsound.ensures.noted image p (rw c.deref_mut.ensures.value h.unsound) at erased found);
        holes = rw holes_is (c.note_holes-self.ensures.noted image p (rw c.deref_mut-2.ensures.value h.holes) h.ending_is at erased);
        ending_is = c.note_holes-self.ensures.ending image p h.ending_is at erased;
        said_is = c.note_said.ensures.noted image p h.said_is at erased found refl;
        outside_is = counted_more (λ q. is_record_past g (record_of q)) image row p self.outside _ at h.outside_is (c.one_outside.ensures.is ∙ ap (λ o. one_if (is_record_past g o)) found);
        strange_is = counted_more (λ q. sorts.is_outside g (record_of q)) image row p self.strange _ at h.strange_is (c.one_strange.ensures.is ∙ ap (λ o. one_if (sorts.is_outside g o)) found);
      };
  stands =
      let self = c.args.self.now in
      let row = c.args.row in
      let stands = c.requires.stands in
      let unsound_is : (with_items self.unsound c.note_unsound.new.unsound).items ≡ c.note_unsound.new.unsound = with_items_is self.unsound c.note_unsound.new.unsound (c.note_unsound.auto.unsound ∙ c.deref_mut.ensures.len) in
      let holes_is : (with_items self.holes c.note_holes-self.new.holes).items ≡ c.note_holes-self.new.holes = with_items_is self.holes c.note_holes-self.new.holes (c.note_holes-self.auto.holes ∙ c.deref_mut-2.ensures.len) in
      let traces_is : (with_items self.traces c.note_trace.new.traces).items ≡ c.note_trace.new.traces = with_items_is self.traces c.note_trace.new.traces (c.note_trace.auto.traces ∙ c.deref_mut-3.ensures.len) in
      let tables_is : (with_items self.tables c.note_table.new.tables).items ≡ c.note_table.new.tables = with_items_is self.tables c.note_table.new.tables (c.note_table.auto.tables ∙ c.deref_mut-4.ensures.len) in
      record {
        traces = ap (λ (xs : List Trace). length xs) traces_is ∙ omega (arith, c.note_trace.auto.traces, c.deref_mut-3.ensures.len, stands.traces);
        tables = ap (λ (xs : List ℕ). length xs) tables_is ∙ omega (arith, c.note_table.auto.tables, c.deref_mut-4.ensures.len, stands.tables);
        unsound = ap (λ (xs : List ℕ). length xs) unsound_is ∙ omega (arith, c.note_unsound.auto.unsound, c.deref_mut.ensures.len, stands.unsound);
        few = subst (λ (xs : List ℕ). All (λ n. n ≤ row + 1) xs) (sym unsound_is) c.note_unsound.ensures.few;
        holes = ap (λ (xs : List ℕ). length xs) holes_is ∙ omega (arith, c.note_holes-self.auto.holes, c.deref_mut-2.ensures.len, stands.holes);
        few_holes = subst (λ (xs : List ℕ). All (λ n. n + c.note_holes-self.result ≤ row + 1) xs) (sym holes_is) c.note_holes-self.ensures.few;
        ending = c.note_holes-self.ensures.end;
        said = omega (arith, c.note_said.ensures.few, stands.said);
        said_rows = c.note_said.ensures.rows stands.said_rows;
        said_room = omega (arith, c.note_said.ensures.room, stands.said_room);
        outside = omega (arith, c.one_outside.ensures.small, stands.outside);
        strange = omega (arith, c.one_strange.ensures.small, stands.strange);
        kept = stands.kept;
      };
}

pub note_unsound-requires : goal.note_unsound-requires
note_unsound-requires c =
    let stands = c.requires.stands in
    let same = c.deref_mut.ensures.value in
    record { row_in = c.requires.row_in; size = ap length same ∙ stands.unsound; few = subst (λ (xs : List ℕ). All (λ n. n ≤ c.args.row) xs) (sym same) stands.few }

pub note_holes-self-requires : goal.note_holes-self-requires
note_holes-self-requires c =
    let stands = c.requires.stands in
    let same = c.deref_mut-2.ensures.value in
    record {
      row_in = c.requires.row_in;
      size = ap length same ∙ stands.holes;
      few = subst (λ (xs : List ℕ). All (λ n. n + c.args.self.now.ending ≤ c.args.row) xs) (sym same) stands.few_holes;
      end = stands.ending;
    }

pub note_trace-requires : goal.note_trace-requires
note_trace-requires c = ap length c.deref_mut-3.ensures.value ∙ c.requires.stands.traces
