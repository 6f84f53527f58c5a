use Rattle.std.proofs.Common.{ap, ℕ, List, Option, sym, ◌∙◌, subst}
use Rattle.page_layout.specs.declared.geometry.Geometry.{Geometry}
use Rattle.collection.specs.Settle.{SetsDirectory, SetsMapping}
use Rattle.page_layout.specs.Key.{key_from}
use Rattle.collection.proofs.Settles.{settled_cost, replaced_by, settled_goes}
use Rattle.std.proofs.lemmas.Result.{err_from_is_err_and}
use Rattle.collection.proofs.Stops.{put_left, refused_same, sets_capacity, fault_not_bus}
use Rattle.collection.proofs.HalfPuts.{put_cut}
use Rattle.collection.proofs.Steps.{err_same}
use Rattle.collection.proofs.Looks.{ok_not_bus}
use Rattle.collection.proofs.Costs.{not_bus}
use Rattle.collection.specs.Safe.{ram, page_in_buffer}
use Rattle.promises.specs.Stop.{LeavesOnly}
use Rattle.collection.specs.Stops.{IsKeptOr}
use Rattle.collection.proofs.Ledgers.{sets_share}
use Rattle.collection.specs.Results.{KeepsTable}
use Rattle.collection.proofs.Copies.{last_marked}
use Rattle.collection.proofs.Afters.{acts_on, programs_on}
use Rattle.collection.proofs.engine.Engine.replace.Goals as goal

pub returns-clause-cost : goal.returns-clause-cost
returns-clause-cost g c = settled_cost _ _ _ _ (key_from c.args.kind c.args.number) c.in_ok-row.row c.in_ok-row.ensures.cost c.settle.ensures.settles

pub returns-clause-truth : goal.returns-clause-truth
returns-clause-truth g c = λ honest may. replaced_by c.args.kind c.args.number c.in_ok-row.row _ _ _ _ _ _ _ (c.in_ok-row.ensures.truth honest may)
    (ap (λ n. (g.N.PageSource.view.flash n).image) c.settle.ensures.nand) c.put_page.ensures.acts.safe.memory c.requires.key c.put_page.ensures.goes.goes
    c.settle.ensures.settles

pub returns-clause-directory : goal.returns-clause-directory
returns-clause-directory g c =
    let key = key_from c.args.kind c.args.number in
    let old = c.args.self.now in
    let put = c.put_page.new.self in
    let new = c.settle.new.self in
    subst (λ (h : Geometry). SetsDirectory h key c.in_ok-row.row old.directory new.directory) c.put_page.ensures.goes.goes.geometry
    (subst (λ (rows : List (Option ℕ)). SetsDirectory put.geometry key c.in_ok-row.row rows new.directory) c.put_page.ensures.goes.directory c.settle.ensures.settles.directory)

pub returns-in_err-row : goal.returns-in_err-row
returns-in_err-row g c =
    let p = err_from_is_err_and c.from_residual.result c.from_residual.ensures.1 in
    rw (p.1, p.2) (record {
      acts = c.in_err-row.ensures.acts;
      goes = c.put_page.ensures.goes.goes;
      page = c.put_page.ensures.page;
      scratch = c.put_page.ensures.scratch;
      only_programs = c.put_page.ensures.only_programs;
      pin = c.put_page.ensures.goes.pin;
      row = tt;
      table = c.put_page.ensures.goes.table;
      mapping = c.put_page.ensures.goes.mapping;
      directory = tt;
      programmed = tt;
      cost = c.in_err-row.ensures.cost;
      truth = c.in_err-row.ensures.truth;
      stops = λ honest may ne.
          let same = refused_same _ _ _ _ _ (fault_not_bus _ ne) (c.in_err-row.ensures.truth honest may) in
          put_left (ram c.args.self.now) (ram c.put_page.new.self) _ _ _ _
          (record { geometry = c.put_page.ensures.goes.goes.geometry; capacity = ap (λ m. m.capacity) c.put_page.ensures.goes.mapping; share = ap (λ m. m.share) c.put_page.ensures.goes.mapping })
          c.requires.safe.memory c.put_page.ensures.acts.safe.memory may.truth same.truth (c.in_err-row.ensures.stops honest may (not_bus _ ne));
      cut = λ honest may e.
          put_cut c.args.kind c.args.number c.args.old_row _ (ram c.args.self.now) _ _ _ c.requires.safe.memory may c.requires.key c.requires.place (c.in_err-row.ensures.cut honest may (err_same _ _ e));
    })

pub returns-clause-stops : goal.returns-clause-stops
returns-clause-stops g c = λ honest may ne.
    let now = returns-clause-truth g c honest may in
    let old = c.args.self.now in
    let stops = subst
    (λ n. LeavesOnly (g.N.PageSource.view.flash old.nand) (g.N.PageSource.view.flash n) (g.N.PageSource.view.recorded old.nand) (g.N.PageSource.view.recorded n)
    (IsKeptOr old.geometry (g.N.PageSource.view.flash old.nand).image (g.N.PageSource.view.flash n).image)) (sym c.settle.ensures.nand)
    (c.in_ok-row.ensures.stops honest may (ok_not_bus _)) in
    put_left (ram old) (ram c.settle.new.self) _ _ _ _ (record {
      geometry = c.settle.ensures.settles.geometry ∙ c.put_page.ensures.goes.goes.geometry;
      capacity = sets_capacity (key_from c.args.kind c.args.number) c.in_ok-row.row _ _ c.settle.ensures.settles.mapping ∙ ap (λ m. m.capacity) c.put_page.ensures.goes.mapping;
      share = sets_share (key_from c.args.kind c.args.number) c.in_ok-row.row _ _ c.settle.ensures.settles.mapping ∙ ap (λ m. m.share) c.put_page.ensures.goes.mapping;
    }) c.requires.safe.memory c.settle.ensures.safe.memory may.truth now.truth stops

-- ---- it was put

pub returns-clause-scratch : goal.returns-clause-scratch
returns-clause-scratch g c = c.settle.ensures.scratch ∙ c.put_page.ensures.scratch

pub returns-clause-row : goal.returns-clause-row
returns-clause-row g c = c.in_ok-row.ensures.row

pub returns-clause-cut : goal.returns-clause-cut
returns-clause-cut g c = λ _ _ e. absurd (ok_not_bus _ e)

pub returns-clause-acts : goal.returns-clause-acts
returns-clause-acts g c = acts_on c.args.self.now c.put_page.new.self c.settle.new.self c.in_ok-row.row _ c.settle.ensures.safe c.settle.ensures.settles.fault
    c.settle.ensures.settles.blocks c.settle.ensures.settles.next c.settle.ensures.nand c.in_ok-row.ensures.acts

pub returns-clause-page : goal.returns-clause-page
returns-clause-page g c = ap (λ p. p.body) c.settle.ensures.page ∙ c.put_page.ensures.page

pub returns-clause-only_programs : goal.returns-clause-only_programs
returns-clause-only_programs g c = programs_on g.N.PageSource.view c.args.self.now.nand c.put_page.new.self.nand _ c.settle.ensures.nand c.put_page.ensures.only_programs

pub returns-clause-pin : goal.returns-clause-pin
returns-clause-pin g c = c.settle.ensures.settles.pin ∙ c.put_page.ensures.goes.pin

pub returns-clause-table : goal.returns-clause-table
returns-clause-table g c = subst (KeepsTable (ram c.args.self.now).blocks) (sym c.settle.ensures.settles.blocks) c.put_page.ensures.goes.table

pub returns-clause-mapping : goal.returns-clause-mapping
returns-clause-mapping g c = subst (λ m. SetsMapping (key_from c.args.kind c.args.number) c.in_ok-row.row m c.settle.new.self.mapping) c.put_page.ensures.goes.mapping c.settle.ensures.settles.mapping

pub returns-clause-programmed : goal.returns-clause-programmed
returns-clause-programmed g c = last_marked c.args.kind c.args.number (ram c.put_page.new.self) (ram c.settle.new.self) _ _ c.settle.ensures.settles.next (ap page_in_buffer c.settle.ensures.page) c.in_ok-row.ensures.programmed

pub returns-clause-goes : goal.returns-clause-goes
returns-clause-goes g c = settled_goes _ _ _ (key_from c.args.kind c.args.number) c.in_ok-row.row c.put_page.ensures.goes.goes c.settle.ensures.settles

pub settle-requires-clause-key : goal.settle-requires-clause-key
settle-requires-clause-key g c = rw c.put_page.ensures.goes.goes.geometry c.requires.key

pub settle-requires-clause-place : goal.settle-requires-clause-place
settle-requires-clause-place g c = rw c.put_page.ensures.goes.mapping c.requires.place

pub settle-requires-clause-row : goal.settle-requires-clause-row
settle-requires-clause-row g c = rw c.put_page.ensures.goes.goes.geometry c.in_ok-row.ensures.row.within

pub put_page-requires-clause-safe : goal.put_page-requires-clause-safe
put_page-requires-clause-safe g c = c.requires.safe

pub put_page-requires-clause-key : goal.put_page-requires-clause-key
put_page-requires-clause-key g c = c.requires.key

pub put_page-requires-clause-old_row : goal.put_page-requires-clause-old_row
put_page-requires-clause-old_row g c = c.requires.old_row

pub settle-requires-clause-safe : goal.settle-requires-clause-safe
settle-requires-clause-safe g c = c.put_page.ensures.acts.safe
