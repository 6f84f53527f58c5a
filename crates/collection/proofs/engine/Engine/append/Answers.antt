use Rattle.std.proofs.Common.{ap, sym, subst}
use Rattle.std.proofs.lemmas.Result.{err_from_is_err_and}
use Rattle.std.specs.Map.{keys_of}
use Rattle.page_layout.specs.Live.{IsKeyOf}
use Rattle.collection.specs.Safe.{ram}
use Rattle.collection.specs.Settle.{HasPlace}
use Rattle.collection.proofs.Acts.{acts_ok, acts_err}
use Rattle.collection.proofs.Afters.{no_more_is}
use Rattle.collection.proofs.Appends.{may_append, appended, has_settled, moved_still, no_more_set, place_cached}
use Rattle.collection.proofs.Copies.{keys_set}
use Rattle.collection.proofs.Costs.{not_bus}
use Rattle.collection.proofs.Looks.{ok_not_bus}
use Rattle.collection.proofs.Steps.{err_same}
use Rattle.collection.proofs.engine.Engine.append.Goals as goal

-- ---- what is called

pub row_of_key-old_row-requires-clause-safe : goal.row_of_key-old_row-requires-clause-safe
row_of_key-old_row-requires-clause-safe g c = c.requires.safe

pub row_of_key-old_row-requires-clause-key : goal.row_of_key-old_row-requires-clause-key
row_of_key-old_row-requires-clause-key g c = c.requires.sector

pub row_of_key-old_row-requires-clause-cached : goal.row_of_key-old_row-requires-clause-cached
row_of_key-old_row-requires-clause-cached g c = c.requires.cached

pub replace-requires-clause-safe : goal.replace-requires-clause-safe
replace-requires-clause-safe g c = c.requires.safe

pub replace-requires-clause-key : goal.replace-requires-clause-key
replace-requires-clause-key g c = subst (IsKeyOf c.args.self.now.geometry) (sym c.requires.kind) c.requires.sector

pub replace-requires-clause-place : goal.replace-requires-clause-place
replace-requires-clause-place g c = subst (HasPlace c.args.self.now.mapping) (sym c.requires.kind) (place_cached c.args.self.now.mapping c.args.sector c.requires.cached)

pub replace-requires-clause-old_row : goal.replace-requires-clause-old_row
replace-requires-clause-old_row g c = c.row_of_key-old_row.ensures.row

-- ---- no page was put

pub returns-in_err-replace : goal.returns-in_err-replace
returns-in_err-replace g c =
    let p = err_from_is_err_and c.from_residual.result c.from_residual.ensures.1 in
    let e = c.in_err-replace.ensures in
    rw (p.1, p.2) (record {
      acts = acts_err _ _ _ e.acts;
      goes = e.goes;
      page = e.page;
      scratch = e.scratch;
      only_programs = e.only_programs;
      pin = e.pin;
      keys = ap (λ m. keys_of m.cached) e.mapping;
      no_more = no_more_is _ _ e.mapping;
      moved = ap (λ m. m.moved) e.mapping;
      settled = tt;
      programmed = tt;
      cost = e.cost;
      truth = λ honest w. e.truth honest (may_append (ram c.args.self.now) _ c.args.kind c.args.sector c.row_of_key-old_row.result _ w c.requires.kind (c.row_of_key-old_row.ensures.newest _ w));
      stops = λ honest w ne. e.stops honest (may_append (ram c.args.self.now) _ c.args.kind c.args.sector c.row_of_key-old_row.result _ w c.requires.kind (c.row_of_key-old_row.ensures.newest _ w)) (not_bus _ ne);
      cut = λ honest w is. e.cut honest (may_append (ram c.args.self.now) _ c.args.kind c.args.sector c.row_of_key-old_row.result _ w c.requires.kind (c.row_of_key-old_row.ensures.newest _ w)) (err_same _ _ is);
    })

-- ---- it was put

pub returns : goal.returns
returns g c =
    let e = c.in_ok-replace.ensures in
    let row = c.in_ok-replace.field-0 in
    record {
      acts = acts_ok _ _ _ _ e.acts;
      goes = e.goes;
      page = e.page;
      scratch = e.scratch;
      only_programs = e.only_programs;
      pin = e.pin;
      keys = (keys_set _ row _ _ e.mapping).keys;
      no_more = no_more_set _ c.args.sector row c.args.self.now.mapping _ c.requires.kind c.requires.cached e.mapping;
      moved = moved_still _ c.args.sector row c.args.self.now.mapping _ c.requires.kind c.requires.cached e.mapping;
      settled = has_settled c.args.self.now.geometry c.args.sector row (ram c.args.self.now) _ _ c.requires.kind e.mapping e.directory;
      programmed = e.programmed;
      cost = e.cost;
      truth = λ honest w. appended (ram c.args.self.now) _ _ _ c.args.kind c.args.sector row _ c.requires.kind c.requires.sector e.row
          (e.truth honest (may_append (ram c.args.self.now) _ c.args.kind c.args.sector c.row_of_key-old_row.result _ w c.requires.kind (c.row_of_key-old_row.ensures.newest _ w)));
      stops = λ honest w ne. e.stops honest (may_append (ram c.args.self.now) _ c.args.kind c.args.sector c.row_of_key-old_row.result _ w c.requires.kind (c.row_of_key-old_row.ensures.newest _ w)) (ok_not_bus _);
      cut = λ _ _ is. absurd (ok_not_bus _ is);
    }
