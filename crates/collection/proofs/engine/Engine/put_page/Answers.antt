use Rattle.std.proofs.Common.{inl, ◌∙◌, ap, refl, sym, subst, ◌<◌}
use Rattle.std.proofs.lemmas.Result.{err_from_is_err_and}
use Rattle.budget.specs.Stream.{stream_of}
use Rattle.collection.specs.Safe.{ram}
use Rattle.collection.proofs.Memory.{put_same, put_then, outside_some}
use Rattle.collection.proofs.Acts.{acts_same, acts_then, acts_ok, acts_err, acts_end}
use Rattle.collection.proofs.Costs.{not_bus, not_tried, tried_again, has_put, tries_none, tries_some, costs_then, has_spent}
use Rattle.collection.proofs.Puts.{kept_same, same_kept, kept_then, put_after, refused_then, outside_then, may_still, attempted_none, attempted_some}
use Rattle.promises.proofs.StopLemmas.{leaves_nothing}
use Rattle.collection.proofs.Looks.{ok_not_bus}
use Rattle.collection.proofs.HalfPuts.{tries_cut}
use Rattle.collection.proofs.Steps.{err_same}
use Rattle.collection.proofs.Stops.{tries_then, all_kept, leaves_more}
use Rattle.std.specs.Option.{ForSome}
use Rattle.page_layout.specs.Geometry.{row_count}
use Rattle.page_layout.specs.Live.{IsKeyOf}
use Rattle.page_layout.specs.Key.{key_from}
use Rattle.collection.specs.declared.fault.EngineFault.TheVariants.{SequenceSpent}
use Rattle.collection.proofs.Ends.{spent_apart, err_apart, below_top, some_holds}
use Rattle.page_layout.specs.View.{View}
use Rattle.collection.specs.Acts.{OnlyPrograms}
use Rattle.collection.proofs.engine.Engine.put_page.Goals as goal

-- one call after another that only programs
programs_then : {N : Type 0} (view : View N) (a b c : N) → OnlyPrograms view a b → OnlyPrograms view b c → OnlyPrograms view a c
programs_then view a b c p q = record { reads_are = q.reads_are ∙ p.reads_are; erases_are = q.erases_are ∙ p.erases_are }

pub tries-init : goal.tries-init
tries-init g c = record {
  acts = acts_same _ c.requires.safe;
  goes = put_same (ram c.args.self.now);
  page = refl;
  scratch = refl;
  only_programs = record { reads_are = refl; erases_are = refl };
  tried = not_tried (stream_of c.args.kind) (ram c.args.self.now);
  truth = λ honest may. kept_same (ram c.args.self.now) _ may.truth;
  stops = λ honest may. leaves_nothing _ _ _ (kept_same (ram c.args.self.now) _ may.truth).keeps;
}

-- ---- a try was refused

pub returns-in_err-tried : goal.returns-in_err-tried
returns-in_err-tried g c =
    let p = err_from_is_err_and c.from_residual.result c.from_residual.ensures.1 in
    rw (p.1, p.2) (record {
      acts = acts_then _ _ _ tt _ c.tries.invariant.goes.goes.geometry c.tries.invariant.acts (acts_err _ _ _ c.in_err-tried.ensures.acts);
      goes = put_then _ _ _ c.tries.invariant.goes c.program_next.ensures.goes;
      page = c.program_next.ensures.page ∙ c.tries.invariant.page;
      scratch = c.program_next.ensures.scratch ∙ c.tries.invariant.scratch;
      only_programs = programs_then g.N.PageSource.view _ _ _ c.tries.invariant.only_programs c.program_next.ensures.only_programs;
      row = tt;
      programmed = tt;
      cost = costs_then (stream_of c.args.kind) _ _ _ _ c.tries.invariant.tried c.tries-test.true c.in_err-tried.ensures.cost;
      truth = λ honest may.
          let kept = c.tries.invariant.truth honest may in
          let now = may_still c.args.kind c.args.number c.args.old_row _ _ _ _ _ _ may (ap (λ v. v.items) c.tries.invariant.page) c.tries.invariant.goes kept in
          refused_then _ _ _ _ _ _ c.tries.invariant.goes.goes c.program_next.ensures.goes.goes.geometry _ (same_kept _ _ _ _ kept) (c.in_err-tried.ensures.truth (c.tries.invariant.acts.honest_is ∙ honest) now);
      stops = λ honest may ne.
          let kept = c.tries.invariant.truth honest may in
          let now = may_still c.args.kind c.args.number c.args.old_row _ _ _ _ _ _ may (ap (λ v. v.items) c.tries.invariant.page) c.tries.invariant.goes kept in
          tries_then _ _ _ _ _ _ _ _ c.tries.invariant.goes.goes.geometry kept.keeps (c.tries.invariant.stops honest may) (c.in_err-tried.ensures.stops (c.tries.invariant.acts.honest_is ∙ honest) now (not_bus _ ne));
      cut = λ honest may e.
          let kept = c.tries.invariant.truth honest may in
          let now = may_still c.args.kind c.args.number c.args.old_row _ _ _ _ _ _ may (ap (λ v. v.items) c.tries.invariant.page) c.tries.invariant.goes kept in
          tries_cut c.args.kind c.args.number _ _ _ _ _ _ _ _ _ (ap (λ v. v.items) c.tries.invariant.page) c.tries.invariant.goes.goes.geometry kept.keeps (c.tries.invariant.stops honest may) (c.in_err-tried.ensures.cut (c.tries.invariant.acts.honest_is ∙ honest) now (err_same _ _ e));
    })

-- ---- a try passed

pub returns-in-Some : goal.returns-in-Some
returns-in-Some g c = record {
  acts = acts_then _ _ _ tt _ c.tries.invariant.goes.goes.geometry c.tries.invariant.acts (acts_ok _ _ _ _ c.in_ok-tried.ensures.acts);
  goes = put_then _ _ _ c.tries.invariant.goes c.program_next.ensures.goes;
  page = c.program_next.ensures.page ∙ c.tries.invariant.page;
  scratch = c.program_next.ensures.scratch ∙ c.tries.invariant.scratch;
  only_programs = programs_then g.N.PageSource.view _ _ _ c.tries.invariant.only_programs c.program_next.ensures.only_programs;
  row = outside_then _ _ c.in-Some.row c.tries.invariant.goes.goes (outside_some _ c.in-Some.row c.in_ok-tried.tried c.in_ok-tried.ensures.row c.in-Some.is);
  programmed = some_holds c.in_ok-tried.tried c.in-Some.row c.in_ok-tried.ensures.programmed c.in-Some.is;
  cost = has_put (stream_of c.args.kind) _ _ _ c.tries.invariant.tried c.requires.safe.memory c.tries.invariant.goes.goes.geometry (tries_some (stream_of c.args.kind) _ _ c.in-Some.row c.in_ok-tried.tried c.in_ok-tried.ensures.cost c.in-Some.is);
  truth = λ honest may.
      let kept = c.tries.invariant.truth honest may in
      let now = may_still c.args.kind c.args.number c.args.old_row _ _ _ _ _ _ may (ap (λ v. v.items) c.tries.invariant.page) c.tries.invariant.goes kept in
      put_after _ _ _ _ _ _ c.tries.invariant.goes.goes c.program_next.ensures.goes.goes.geometry c.args.kind c.args.number c.in-Some.row _ kept
      (attempted_some _ _ c.in-Some.row _ _ _ _ _ _ c.in_ok-tried.tried
      (c.in_ok-tried.ensures.truth (c.tries.invariant.acts.honest_is ∙ honest) now) c.in-Some.is (ap (λ v. v.items) c.tries.invariant.page));
  stops = λ honest may ne.
      let kept = c.tries.invariant.truth honest may in
      let now = may_still c.args.kind c.args.number c.args.old_row _ _ _ _ _ _ may (ap (λ v. v.items) c.tries.invariant.page) c.tries.invariant.goes kept in
      tries_then _ _ _ _ _ _ _ _ c.tries.invariant.goes.goes.geometry kept.keeps (c.tries.invariant.stops honest may) (c.in_ok-tried.ensures.stops (c.tries.invariant.acts.honest_is ∙ honest) now (ok_not_bus _));
  cut = λ _ _ e. absurd (ok_not_bus _ e);
}

-- ---- a try failed

pub tries-preserved : goal.tries-preserved
tries-preserved g c = record {
  acts = acts_then _ _ _ tt _ c.tries.invariant.goes.goes.geometry c.tries.invariant.acts (acts_ok _ _ _ _ c.in_ok-tried.ensures.acts);
  only_programs = programs_then g.N.PageSource.view _ _ _ c.tries.invariant.only_programs c.program_next.ensures.only_programs;
  goes = put_then _ _ _ c.tries.invariant.goes c.program_next.ensures.goes;
  page = c.program_next.ensures.page ∙ c.tries.invariant.page;
  scratch = c.program_next.ensures.scratch ∙ c.tries.invariant.scratch;
  tried = tried_again (stream_of c.args.kind) _ _ _ c.tries.invariant.tried (tries_none (stream_of c.args.kind) _ _ c.in_ok-tried.tried c.in_ok-tried.ensures.cost c.in-None.is);
  truth = λ honest may.
      let kept = c.tries.invariant.truth honest may in
      let now = may_still c.args.kind c.args.number c.args.old_row _ _ _ _ _ _ may (ap (λ v. v.items) c.tries.invariant.page) c.tries.invariant.goes kept in
      kept_then _ _ _ _ _ _ c.tries.invariant.goes.goes c.program_next.ensures.goes.goes.geometry kept (attempted_none _ _ _ _ _ _ _ c.in_ok-tried.tried (c.in_ok-tried.ensures.truth (c.tries.invariant.acts.honest_is ∙ honest) now) c.in-None.is);
  stops = λ honest may.
      let kept = c.tries.invariant.truth honest may in
      let now = may_still c.args.kind c.args.number c.args.old_row _ _ _ _ _ _ may (ap (λ v. v.items) c.tries.invariant.page) c.tries.invariant.goes kept in
      let known = c.tries.invariant.acts.honest_is ∙ honest in
      let after = kept_then _ _ _ _ _ _ c.tries.invariant.goes.goes c.program_next.ensures.goes.goes.geometry kept (attempted_none _ _ _ _ _ _ _ c.in_ok-tried.tried (c.in_ok-tried.ensures.truth known now) c.in-None.is) in
      all_kept _ _ _ _ _ after.keeps (tries_then _ _ _ _ _ _ _ _ c.tries.invariant.goes.goes.geometry kept.keeps (c.tries.invariant.stops honest may) (c.in_ok-tried.ensures.stops known now (ok_not_bus _)));
}

-- ---- there is no sequence for the next one

pub returns : goal.returns
returns g c = record {
  acts = acts_end _ _ tt SequenceSpent spent_apart c.tries.invariant.acts;
  goes = c.tries.invariant.goes;
  page = c.tries.invariant.page;
  scratch = c.tries.invariant.scratch;
  only_programs = c.tries.invariant.only_programs;
  row = tt;
  programmed = tt;
  cost = has_spent (stream_of c.args.kind) _ _ c.tries.invariant.tried c.tries-test.false c.tries.invariant.acts.safe.memory.next;
  truth = λ honest may. same_kept _ _ _ _ (c.tries.invariant.truth honest may);
  stops = λ honest may ne. leaves_more _ _ _ _ _ _ (λ image k. inl k) (c.tries.invariant.stops honest may);
  cut = λ _ _ e. absurd (err_apart SequenceSpent spent_apart e);
}

pub program_next-requires-clause-safe : goal.program_next-requires-clause-safe
program_next-requires-clause-safe g c = c.tries.invariant.acts.safe

pub program_next-requires-clause-next : goal.program_next-requires-clause-next
program_next-requires-clause-next g c = below_top _ c.tries-test.true

pub program_next-requires-clause-key : goal.program_next-requires-clause-key
program_next-requires-clause-key g c = subst (λ x. IsKeyOf x (key_from c.args.kind c.args.number)) (sym c.tries.invariant.goes.goes.geometry) c.requires.key

pub program_next-requires-clause-old_row : goal.program_next-requires-clause-old_row
program_next-requires-clause-old_row g c = subst (λ x. ForSome c.args.old_row (λ r. r < row_count x)) (sym c.tries.invariant.goes.goes.geometry) c.requires.old_row
