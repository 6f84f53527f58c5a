use Rattle.std.proofs.Common.{◌/◌, refl, sym, arith, ap, subst, ◌<◌, ◌∙◌}
use Rattle.page_layout.specs.Key.{key_of}
use Rattle.page_layout.specs.Geometry.{row_count}
use Rattle.page_layout.specs.Live.{IsKeyOf}
use Rattle.collection.specs.Safe.{ram}
use Rattle.collection.proofs.Afters.{for_some}
use Rattle.collection.proofs.Brought.{copied_out, copied_brings, written_out, written_brings, written_last, written_fresh, holds_live, written_touches, moved_result}
use Rattle.collection.proofs.engine.Engine.bring_out.Goals as goal
use Rattle.collection.proofs.engine.Engine.bring_out.Goals.{in_default-via-in-Translation+else-share-gt0, in_default-via-in_default}

-- ---- a translation page, where sectors may wait

pub write_loaded-requires-clause-safe : goal.write_loaded-requires-clause-safe
write_loaded-requires-clause-safe g c = c.requires.safe

pub write_loaded-requires-clause-page : goal.write_loaded-requires-clause-page
write_loaded-requires-clause-page g c = subst (IsKeyOf c.args.self.now.geometry) (sym c.in-Translation-true.ensures) c.requires.key

pub write_loaded-requires-clause-row : goal.write_loaded-requires-clause-row
write_loaded-requires-clause-row g c = for_some (λ r. r < row_count c.args.self.now.geometry) c.args.row c.requires.row

pub returns-in-Translation-true : goal.returns-in-Translation-true
returns-in-Translation-true g c = record {
  leaves =
      let a = ram c.args.self.now in
      let b = ram c.write_loaded.new.self in
      let t = c.in-Translation-true.t in
      let of_page = sym c.in-Translation-true.ensures in
      let e = c.write_loaded.ensures in
      record {
        acts = e.acts;
        goes = e.goes;
        only_programs = e.only_programs;
        keys = record { limits = e.no_more.limits; keys = e.keys };
        refreshes = λ _. written_fresh t a b c.write_loaded.result e.goes.geometry e.pin e.cleaned e.cleans e.mapping;
        pinned = λ _. e.pin;
        pin = ap (λ p. p.block) e.pin;
        unmoved = e.mapping;
        touched = λ honest w shut live. written_touches c.args.flushing t (c.args.row / c.args.self.now.geometry.pages) a b _ _ _
            e.goes.geometry e.pin e.no_more.moved shut e.cleaned (e.truth honest w (holds_live c.args.self.now.geometry _ t c.args.row c.args.found.now _ of_page live));
        programmed = written_last c.args.found.now t b _ c.write_loaded.result of_page e.programmed;
        truth = λ honest w shut live.
            let holds = holds_live c.args.self.now.geometry _ t c.args.row c.args.found.now _ of_page live in
            moved_result t c.args.row a b _ _ _ (e.truth honest w holds) (e.moved_out honest w holds c.args.row refl shut);
        stops = λ honest w live ne. e.stops honest w (holds_live c.args.self.now.geometry _ t c.args.row c.args.found.now _ of_page live) ne;
        cut = λ honest w live is. e.cut honest w (holds_live c.args.self.now.geometry _ t c.args.row c.args.found.now _ of_page live) is;
      };
  cost = written_out c.args.flushing (key_of c.args.found.now) c.in-Translation-true.t (ram c.args.self.now)
      (ram c.write_loaded.new.self) _ (sym c.in-Translation-true.ensures) (omega arith) (subst (IsKeyOf c.args.self.now.geometry) (sym c.in-Translation-true.ensures) c.requires.key) c.write_loaded.ensures.goes.geometry
      c.write_loaded.ensures.pin c.write_loaded.ensures.no_more.moved c.write_loaded.ensures.cost c.write_loaded.ensures.cleaned;
  brought = written_brings (key_of c.args.found.now) c.in-Translation-true.t (ram c.args.self.now) (ram c.write_loaded.new.self) c.write_loaded.result
      (sym c.in-Translation-true.ensures) (omega arith) c.write_loaded.ensures.cleaned;
}

-- ---- any other page

pub copy_page-requires : goal.copy_page-requires
copy_page-requires g c = c.requires

pub returns-in_default : goal.returns-in_default
returns-in_default g c = record {
  leaves = c.copy_page.ensures.leaves;
  cost = copied_out c.args.flushing (key_of c.args.found.now) (ram c.args.self.now) (ram c.copy_page.new.self) _
      (λ t is. elim c.in_default.branch [ in_default-via-in-Translation+else-share-gt0 w ↦ omega arith | in_default-via-in_default w ↦ absurd (w.in_default.not-Translation-0 t (c.key.ensures ∙ is)) ])
      c.copy_page.ensures.cost c.copy_page.ensures.settled;
  brought = copied_brings (key_of c.args.found.now) c.args.self.now.mapping c.copy_page.new.self.mapping _
      (λ t is. elim c.in_default.branch [ in_default-via-in-Translation+else-share-gt0 w ↦ omega arith | in_default-via-in_default w ↦ absurd (w.in_default.not-Translation-0 t (c.key.ensures ∙ is)) ])
      c.copy_page.ensures.settled;
}
