use Rattle.std.proofs.Common.{◌∙◌, ap, sym, subst, ◌<◌}
use Rattle.std.proofs.lemmas.Result.{err_from_is_err_and}
use Rattle.page_layout.specs.Key.{key_of}
use Rattle.budget.specs.Stream.{stream_of}
use Rattle.collection.specs.Safe.{ram, page_in_buffer}
use Rattle.collection.proofs.Copies.{may_copy, moved_out, renewed_by, renewed_marked, marked_at, last_marked, goes_marked, cost_marked, refreshes_marked, moved_marked, place_any, keys_set, keys_same, refreshes_same, fault_costs}
use Rattle.collection.proofs.Copies.{pin_marked, followed, moves_one}
use Rattle.collection.proofs.Lefts.{copied_touches}
use Rattle.collection.proofs.Looks.{ok_not_bus}
use Rattle.collection.proofs.Costs.{not_bus}
use Rattle.collection.proofs.Cuts.{cut_put, copied_array}
use Rattle.collection.proofs.Steps.{err_same}
use Rattle.page_layout.specs.Geometry.{row_count}
use Rattle.page_layout.specs.Live.{IsKeyOf}
use Rattle.collection.specs.Settle.{SetsMapping}
use Rattle.collection.specs.Collect.{KeepsKeys}
use Rattle.collection.proofs.Acts.{acts_err}
use Rattle.collection.proofs.Afters.{acts_on, programs_on, for_some}
use Rattle.collection.proofs.engine.Engine.copy_page.Goals as goal

-- ---- what is called

pub replace-requires-clause-safe : goal.replace-requires-clause-safe
replace-requires-clause-safe g c = c.requires.safe

pub replace-requires-clause-key : goal.replace-requires-clause-key
replace-requires-clause-key g c = c.requires.key

pub replace-requires-clause-place : goal.replace-requires-clause-place
replace-requires-clause-place g c = place_any (ram c.args.self.now) (key_of c.args.found.now) c.requires.safe.memory c.requires.room

pub replace-requires-clause-old_row : goal.replace-requires-clause-old_row
replace-requires-clause-old_row g c = for_some (λ r. r < row_count c.args.self.now.geometry) c.args.row c.requires.row

pub mark-requires-clause-safe : goal.mark-requires-clause-safe
mark-requires-clause-safe g c = c.replace.ensures.acts.safe

pub mark-requires-clause-key : goal.mark-requires-clause-key
mark-requires-clause-key g c = subst (IsKeyOf c.replace.new.self.geometry) (sym c.key.ensures) (subst (λ x. IsKeyOf x (key_of c.args.found.now)) (sym c.replace.ensures.goes.geometry) c.requires.key)

-- ---- no page was put

pub returns-in_err-replace : goal.returns-in_err-replace
returns-in_err-replace g c =
    let p = err_from_is_err_and c.from_residual.result c.from_residual.ensures.1 in
    rw (p.1, p.2) (record {
      leaves =
          let r = ram c.args.self.now in
          let old = (g.N.PageSource.view.flash c.args.self.now.nand).image in
          let body = c.args.self.now.page.body.items in
          let e = c.in_err-replace.ensures in
          record {
            acts = acts_err _ _ _ e.acts;
            goes = e.goes;
            only_programs = e.only_programs;
            keys = keys_same _ _ e.mapping;
            refreshes = λ _. refreshes_same r (ram c.replace.new.self) e.mapping e.pin;
            pinned = λ _. e.pin;
            pin = ap (λ p. p.block) e.pin;
            unmoved = e.mapping;
            touched = λ _ _ _ _. tt;
            programmed = tt;
            truth = λ honest w shut live. e.truth honest (may_copy r old c.args.row c.args.found.now body w c.requires.key live);
            stops = λ honest w live ne. e.stops honest (may_copy r old c.args.row c.args.found.now body w c.requires.key live) (not_bus _ ne);
            cut = λ honest w live is. cut_put c.args.found.now.kind c.args.found.now.number body r _ _ _ (copied_array r.geometry old c.args.row c.args.found.now body c.requires.key live)
                (e.cut honest (may_copy r old c.args.row c.args.found.now body w c.requires.key live) (err_same _ _ is));
          };
      cost = fault_costs (stream_of c.args.found.now.kind) (ram c.args.self.now) (ram c.replace.new.self) _ c.in_err-replace.ensures.cost;
      settled = tt;
      renews = λ honest w live.
          (c.in_err-replace.ensures.truth honest (may_copy (ram c.args.self.now) _ c.args.row c.args.found.now _ w c.requires.key live));
    })

-- ---- it was put

pub returns : goal.returns
returns g c =
    let b = ram c.replace.new.self in
    let old = (g.N.PageSource.view.flash c.args.self.now.nand).image in
    let new = (g.N.PageSource.view.flash c.replace.new.self.nand).image in
    record {
      leaves =
          let r = ram c.args.self.now in
          let rec = c.args.found.now in
          let row' = c.in_ok-replace.field-0 in
          let body = c.args.self.now.page.body.items in
          let m = c.mark.ensures in
          let e = c.in_ok-replace.ensures in
          let marked = marked_at c.args.flushing (key_of rec) c.key.result b _ c.key.ensures m.marked in
          record {
            acts = acts_on c.args.self.now c.replace.new.self c.mark.new.self row' _ m.safe (ap (λ r. r.fault) m.marked)
                (ap (λ r. r.blocks) m.marked) (ap (λ r. r.next) m.marked) m.nand e.acts;
            goes = goes_marked c.args.flushing c.key.result 0 r b _ m.marked e.goes;
            only_programs = programs_on g.N.PageSource.view c.args.self.now.nand c.replace.new.self.nand _ m.nand e.only_programs;
            keys = subst (KeepsKeys c.args.self.now.mapping) (sym (ap (λ r. r.mapping) m.marked)) (keys_set (key_of rec) row' _ _ e.mapping);
            refreshes = λ on. refreshes_marked c.args.flushing (key_of rec) row' r b _ marked on c.requires.safe.memory c.requires.key e.goes.geometry e.pin e.mapping;
            pinned = λ off. pin_marked c.args.flushing c.key.result 0 r b _ m.marked off ∙ e.pin;
            pin = ap (λ r. r.pin.block) m.marked ∙ ap (λ p. p.block) e.pin;
            unmoved = tt;
            touched = λ honest w shut live.
                let out = moved_out r b old new c.args.row row' rec body c.requires.safe.memory e.acts.safe.memory e.goes.geometry w live c.requires.key c.requires.row shut e.row
                (e.truth honest (may_copy r old c.args.row rec body w c.requires.key live)) in
                let follows = followed c.args.flushing (key_of rec) row' r b _ marked e.goes.geometry e.pin e.mapping in
                rw m.nand (copied_touches c.args.flushing (key_of rec) c.args.row row' r _ old new
                c.requires.safe.memory c.requires.key live.newest follows shut out.same.leaves out.gone (moves_one (key_of rec) row' _ _ follows.mapping));
            programmed = last_marked rec.kind rec.number b _ _ _ (ap (λ r. r.next) m.marked) (ap page_in_buffer m.page) e.programmed;
            truth = λ honest w shut live.
                let out = moved_out r b old new c.args.row row' rec body c.requires.safe.memory e.acts.safe.memory e.goes.geometry w live c.requires.key c.requires.row shut e.row
                (e.truth honest (may_copy r old c.args.row rec body w c.requires.key live)) in
                rw m.nand (moved_marked c.args.flushing c.key.result row' r b _ m.marked c.args.row old new out);
            stops = λ honest w live ne. rw m.nand (e.stops honest (may_copy r old c.args.row rec body w c.requires.key live) (ok_not_bus _));
            cut = λ _ _ _ e. absurd (ok_not_bus _ e);
          };
      cost = cost_marked c.args.flushing (key_of c.args.found.now) c.in_ok-replace.field-0 (ram c.args.self.now) (ram c.replace.new.self)
          _ (marked_at c.args.flushing (key_of c.args.found.now) c.key.result (ram c.replace.new.self) _ c.key.ensures c.mark.ensures.marked)
          (stream_of c.args.found.now.kind) c.requires.safe.memory c.requires.key c.in_ok-replace.ensures.cost c.replace.ensures.goes.geometry
          c.replace.ensures.pin c.in_ok-replace.ensures.mapping;
      settled = (c.in_ok-replace.field-0, subst (SetsMapping (key_of c.args.found.now) c.in_ok-replace.field-0 c.args.self.now.mapping) (sym (ap (λ r. r.mapping) c.mark.ensures.marked)) c.in_ok-replace.ensures.mapping);
      renews = λ honest w live.
          let r = ram c.args.self.now in
          let replaced = c.in_ok-replace.ensures.truth honest (may_copy r _ c.args.row c.args.found.now _ w c.requires.key live) in
          let renewed = renewed_by r b old new c.args.row c.in_ok-replace.field-0 c.args.found.now c.args.self.now.page.body.items live c.in_ok-replace.ensures.row replaced in
          rw c.mark.ensures.nand (renewed_marked c.args.flushing c.key.result c.in_ok-replace.field-0 r b _ c.mark.ensures.marked (key_of c.args.found.now) old new renewed);
    }
