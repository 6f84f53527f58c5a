use Rattle.std.proofs.Common.{◌∙◌, set, false, ap, refl}
use Rattle.collection.specs.Safe.{ram}
use Rattle.collection.proofs.Dues.{written_refreshes}
use Rattle.collection.proofs.Lowest.{due_some, owes_lowest, excess_lowest, written_cost, same_pinned, same_here}
use Rattle.std.proofs.lemmas.Result.{err_from_is_err_and}
use Rattle.promises.proofs.StopLemmas.{leaves_nothing}
use Rattle.collection.proofs.Stops.{same_left}
use Rattle.collection.proofs.Looks.{ok_not_bus, none_from}
use Rattle.collection.proofs.Costs.{not_bus}
use Rattle.collection.proofs.Acts.{acts_same, acts_ok, acts_err}
use Rattle.collection.proofs.Steps.{err_same}
use Rattle.collection.proofs.Memory.{goes_same}
use Rattle.collection.proofs.Copies.{keys_same, refreshes_same}
use Rattle.std.proofs.lemmas.Bool.{false≢true}
use Rattle.collection.specs.State.{Pin}
use Rattle.collection.proofs.Exits.{ok_not_err, err_not_ok, true_not_false, no_more, reads_due, due_none, written_costs, still_unmarked, mark_in, acts_marked}
use Rattle.collection.proofs.engine.Engine.write_back_lowest.Goals as goal

pub returns-in_err-write_page_back : goal.returns-in_err-write_page_back
returns-in_err-write_page_back g c =
    let p = err_from_is_err_and c.from_residual.result c.from_residual.ensures.1 in
    let low = due_some c.args.flushing (ram c.args.self.now) c.lowest_due-due.result c.in-Some.t c.lowest_due-due.ensures c.in-Some.is in
    rw (p.1, p.2) (record {
      acts = acts_err _ _ _ c.in_err-write_page_back.ensures.acts;
      goes = c.write_page_back.ensures.goes;
      reads = reads_due _ _ _ (excess_lowest c.args.flushing (ram c.args.self.now) c.in-Some.t low) c.write_page_back.ensures.reads;
      erases = c.write_page_back.ensures.erases;
      keys = record { limits = c.write_page_back.ensures.no_more.limits; keys = c.write_page_back.ensures.keys };
      refreshes = λ _. refreshes_same _ _ c.in_err-write_page_back.ensures.mapping c.write_page_back.ensures.pin;
      none = λ is. absurd (err_not_ok _ refl is);
      pin = ap (λ (p : Pin). p.block) c.write_page_back.ensures.pin;
      unmoved = c.in_err-write_page_back.ensures.mapping;
      unmarked = λ _. tt;
      owed = λ is. owes_lowest c.args.flushing (ram c.args.self.now) c.in-Some.t low;
      cost = written_costs (ram c.args.self.now) (ram c.write_page_back.new.self) _ c.in_err-write_page_back.ensures.cost;
      truth = c.in_err-write_page_back.ensures.truth;
      stops = λ honest w ne. c.in_err-write_page_back.ensures.stops honest w (not_bus _ ne);
      cut = λ honest w is. c.in_err-write_page_back.ensures.cut honest w (err_same _ _ is);
    })

pub returns : goal.returns
returns g c =
    let low = due_some c.args.flushing (ram c.args.self.now) c.lowest_due-due.result c.in-Some.t c.lowest_due-due.ensures c.in-Some.is in
    record {
      acts = acts_ok _ _ _ _ (acts_marked c.args.self.now c.write_page_back.new.self c.set_mark.new.marks c.in-Some.t _ _ c.set_mark.ensures c.in_ok-write_page_back.ensures.acts);
      goes = record { geometry = c.write_page_back.ensures.goes.geometry; next = c.write_page_back.ensures.goes.next; shut = c.write_page_back.ensures.goes.shut };
      reads = reads_due _ _ _ (excess_lowest c.args.flushing (ram c.args.self.now) c.in-Some.t low) c.write_page_back.ensures.reads;
      erases = c.write_page_back.ensures.erases;
      keys = record { limits = c.write_page_back.ensures.no_more.limits; keys = c.write_page_back.ensures.keys };
      refreshes = λ on.
          written_refreshes c.in-Some.t (ram c.args.self.now) _ c.requires.safe.memory low.within
          (record {
            geometry = c.write_page_back.ensures.goes.geometry;
            mapping = c.in_ok-write_page_back.ensures.cleaned;
            marks = c.set_mark.ensures
                ∙ ap (λ p. set p.marks c.in-Some.t false) c.write_page_back.ensures.pin;
          }) c.in_ok-write_page_back.ensures.cleans;
      none = λ is. absurd (true_not_false is);
      pin = ap (λ (p : Pin). p.block) c.write_page_back.ensures.pin;
      unmoved = tt;
      unmarked = λ fresh. still_unmarked _ c.in-Some.t _ _ _ c.set_mark.ensures (ap (λ (p : Pin). p.marks) c.write_page_back.ensures.pin) fresh;
      owed = λ is. absurd (ok_not_err _ _ is);
      cost = λ on.
          written_cost c.args.flushing c.in-Some.t (ram c.args.self.now) (ram c.write_page_back.new.self) _ c.requires.safe.memory low
          c.in_ok-write_page_back.ensures.cost c.write_page_back.ensures.no_more c.write_page_back.ensures.goes.geometry
          c.in_ok-write_page_back.ensures.cleaned (c.set_mark.ensures ∙ ap (λ p. set p.marks c.in-Some.t false) c.write_page_back.ensures.pin);
      truth = λ honest w. same_pinned (ram c.args.self.now) (ram c.write_page_back.new.self) _ _ _ (c.in_ok-write_page_back.ensures.truth honest w).same;
      stops = λ honest w ne. c.in_ok-write_page_back.ensures.stops honest w (ok_not_bus _);
      cut = λ _ _ is. absurd (ok_not_bus _ is);
    }

pub returns-in_default : goal.returns-in_default
returns-in_default g c = record {
  acts = acts_ok _ _ tt false (acts_same c.args.self.now c.requires.safe);
  goes = goes_same _;
  reads = no_more _ _;
  erases = refl;
  keys = keys_same _ _ refl;
  refreshes = λ _. refreshes_same _ _ refl refl;
  none = λ _. (due_none c.args.flushing (ram c.args.self.now) c.lowest_due-due.result c.lowest_due-due.ensures (none_from c.lowest_due-due.result c.in_default.not-Some), refl);
  pin = refl;
  unmoved = tt;
  unmarked = λ fresh. fresh;
  owed = λ is. absurd (ok_not_err _ _ is);
  cost = λ is. absurd (false≢true is);
  truth = λ honest w. same_here (ram c.args.self.now) _ w;
  stops = λ honest w ne. leaves_nothing _ _ _ (same_left (ram c.args.self.now) _ _ c.requires.safe.memory w);
  cut = λ _ _ is. absurd (ok_not_bus _ is);
}

pub write_page_back-requires-clause-safe : goal.write_page_back-requires-clause-safe
write_page_back-requires-clause-safe g c = c.requires.safe

pub write_page_back-requires-clause-page : goal.write_page_back-requires-clause-page
write_page_back-requires-clause-page g c = (due_some c.args.flushing (ram c.args.self.now) c.lowest_due-due.result c.in-Some.t c.lowest_due-due.ensures c.in-Some.is).within

pub set_mark-requires : goal.set_mark-requires
set_mark-requires g c = mark_in (ram c.args.self.now) (ram c.write_page_back.new.self) c.in-Some.t c.write_page_back.ensures.acts.safe.memory c.write_page_back.ensures.goes.geometry
    (due_some c.args.flushing (ram c.args.self.now) c.lowest_due-due.result c.in-Some.t c.lowest_due-due.ensures c.in-Some.is).within
