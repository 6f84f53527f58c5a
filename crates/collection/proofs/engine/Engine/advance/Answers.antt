use Rattle.std.proofs.Common.{Ok, ap, ◌∙◌}
use Rattle.std.proofs.lemmas.Result.{err_from_is_err_and}
use Rattle.collection.specs.Safe.{ram}
use Rattle.collection.proofs.Acts.{acts_ok, acts_err}
use Rattle.collection.proofs.Turns.{ok_told, ok_erased, copied_told, brought_told, told_erases, calm_on, stepped_on, steps_on}
use Rattle.collection.proofs.Looks.{ok_not_bus}
use Rattle.collection.proofs.Costs.{not_bus}
use Rattle.collection.proofs.Steps.{err_same}
use Rattle.collection.proofs.engine.Engine.advance.Goals as goal

pub returns-in_err-progress : goal.returns-in_err-progress
returns-in_err-progress g c =
    let p = err_from_is_err_and c.from_residual.result c.from_residual.ensures.1 in
    rw (p.1, p.2) (record {
      acts = acts_err _ _ _ c.in_err-progress.ensures.acts;
      advances =
          let e = c.in_err-progress.ensures in
          record {
            goes = e.goes;
            goes_still = λ ne. e.goes_still (λ is. (let no : ⊥ = cc in no));
            keys = e.keys;
            refreshes = e.refreshes;
            cost = e.cost;
            brought = λ is. let no : ⊥ = cc in absurd no;
            stays = (e.next, e.unmoved);
            half_done = tt;
            calm = λ off calm. tt;
            idle = λ is. let no : ⊥ = cc in absurd no;
            released = λ is. let no : ⊥ = cc in absurd no;
            few_reads = e.reads;
            copied_reads = λ is. let no : ⊥ = cc in absurd no;
            erases_are = tt;
            truth = e.truth;
          };
      stops = λ honest w passed ne. c.in_err-progress.ensures.stops honest w passed (not_bus _ ne);
      cut = λ honest w passed is. c.in_err-progress.ensures.cut honest w passed (err_same _ _ is);
    })

pub returns : goal.returns
returns g c = record {
  acts = acts_ok _ _ _ _ c.in_ok-progress.ensures.acts;
  advances =
      let done = c.in_ok-progress.progress in
      let r = ram c.args.self.now in
      let b = ram c.step_on.new.self in
      let e = c.in_ok-progress.ensures in
      rw c.told.ensures (record {
        goes = e.goes;
        goes_still = λ ne. e.goes_still (λ is. ne (ok_told done is));
        keys = e.keys;
        refreshes = e.refreshes;
        cost = stepped_on c.args.flushing c.args.pinned r b done e.cost e.next;
        brought = λ is. brought_told _ done e.brought is;
        stays = tt;
        half_done = e.half_done;
        calm = λ off calm. calm_on r b c.args.pinned.block r.geometry.pages done e.goes.geometry (e.unmarked off calm.unmarked) e.next e.half_done (λ is. e.idle (ap (λ d. Ok d) is));
        idle = λ is. e.idle (ok_erased done is);
        released = λ is. e.released (ok_erased done is);
        few_reads = e.reads;
        copied_reads = copied_told c.step_on.new.self.pinned c.args.pinned.block r.geometry.pages c.args.pinned.first _ _ done e.next e.copied_reads;
        erases_are = e.erases ∙ told_erases done _;
        truth = λ known w passed. steps_on c.args.flushing c.args.pinned r b _ _ done e.acts.safe.memory c.requires.half_done e.goes.geometry e.cost e.next (e.truth known w passed) (λ page is. e.touched known w page (ap (λ d. Ok d) is));
      });
  stops = λ honest w passed ne. c.in_ok-progress.ensures.stops honest w passed (ok_not_bus _);
  cut = λ _ _ _ is. absurd (ok_not_bus _ is);
}
