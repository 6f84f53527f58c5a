use Rattle.std.proofs.Common.{◌∙◌, inr, Ok, replicate, false, None, ap, sym, subst, ◌≡◌, refl, inl}
use Rattle.std.proofs.lemmas.Result.{err_from_is_err_and}
use Rattle.page_layout.specs.Change.{HoldsNone}
use Rattle.page_layout.specs.Geometry.{translation_pages}
use Rattle.allocation.specs.State.{live_at}
use Rattle.collection.specs.State.{Ram, Pin}
use Rattle.collection.specs.Safe.{ram, image_in}
use Rattle.collection.specs.Truth.{IsTrue}
use Rattle.collection.specs.Results.{Goes, IsImageKept}
use Rattle.collection.specs.Collect.{HasWritten, HasErased, OwesNone, OwesPage, IsReleased, GoesBut}
use Rattle.collection.proofs.Acts.{acts_then, acts_ok, acts_err}
use Rattle.collection.proofs.Looks.{none_from, ok_not_bus}
use Rattle.collection.proofs.Steps.{at_start, err_same, goes_but, found_none, none_now, emptied_written, emptied_erased, refused_written, idle_by, erased_fresh}
use Rattle.collection.proofs.Stops.{stops_then, fault_not_bus, IsSized}
use Rattle.collection.proofs.Costs.{not_bus}
use Rattle.collection.specs.Stops.{Stops, IsLeftByStop, CutsSafely}
use Rattle.collection.proofs.Cuts.{cut_after}
use Rattle.page_layout.specs.Counter.{counted}
use Rattle.collection.proofs.Memory.{goes_same, goes_then}
use Rattle.collection.proofs.Copies.{refreshes_same, refreshes_then, keys_same, keys_then}
use Rattle.collection.proofs.Exits.{ok_not_err, err_not_ok, copied_not_erased, written_not_erased, written_not_copied, erased_not_copied, copied_same, bus_not_full, reads_less, reads_kept, reads_written, fault_from}
use Rattle.collection.proofs.engine.Engine.collect_step.Goals as goal

-- ---- a translation page could not be written

pub returns-in_err-written : goal.returns-in_err-written
returns-in_err-written g c =
    let p = err_from_is_err_and c.from_residual-in_err-written.result c.from_residual-in_err-written.ensures.1 in
    let same = c.in_ok-copied.ensures.none (ap Ok (none_from c.in_ok-copied.copied c.in_default.not-Some)) in
    let is_none = none_from c.in_ok-copied.copied c.in_default.not-Some in
    let sized : IsSized (ram c.args.self.now) (ram c.copy_lowest.new.self) = record { geometry = c.copy_lowest.ensures.goes.geometry; capacity = c.copy_lowest.ensures.keys.limits.capacity; share = c.copy_lowest.ensures.keys.limits.share } in
    rw (p.1, p.2) (record {
      acts = acts_then _ _ _ _ _ c.copy_lowest.ensures.goes.geometry c.in_ok-copied.ensures.acts (acts_err _ _ _ c.in_err-written.ensures.acts);
      goes = goes_but c.args.block _ _ (goes_then _ _ _ c.copy_lowest.ensures.goes c.write_back_lowest.ensures.goes);
      goes_still = λ _. goes_then _ _ _ c.copy_lowest.ensures.goes c.write_back_lowest.ensures.goes;
      keys = keys_then _ _ _ c.copy_lowest.ensures.keys c.write_back_lowest.ensures.keys;
      refreshes = λ on. refreshes_then _ _ _ c.copy_lowest.ensures.goes.geometry (c.copy_lowest.ensures.refreshes on) (c.write_back_lowest.ensures.refreshes on);
      pin = c.write_back_lowest.ensures.pin ∙ c.copy_lowest.ensures.pin;
      unmoved = c.in_err-written.ensures.unmoved ∙ ap (λ (r : Ram). r.mapping) same;
      unmarked = λ _ _. tt;
      idle = λ is. absurd (err_not_ok _ refl is);
      released = λ is. absurd (err_not_ok _ refl is);
      reads = reads_written c.args.flushing (ram c.args.self.now) (ram c.copy_lowest.new.self) _ _ _ _ same c.copy_lowest.ensures.reads c.write_back_lowest.ensures.reads;
      copied_reads = λ _ is. absurd (err_not_ok _ refl is);
      erases = tt;
      owed = λ is. inr (at_start (λ z. OwesPage c.args.flushing z) (ram c.args.self.now) (ram c.copy_lowest.new.self) same (c.in_err-written.ensures.owed (err_same _ _ is)));
      cost = fault_from (ram c.args.self.now) (ram c.copy_lowest.new.self) (ram c.write_back_lowest.new.self) _ same c.in_err-written.ensures.cost;
      brought = λ _ is. absurd (err_not_ok _ refl is);
      truth = λ honest w none.
          let same = c.in_ok-copied.ensures.none (ap Ok is_none) in
          let first = found_none c.args.block (ram c.args.self.now) (ram c.copy_lowest.new.self) _ _ c.in_ok-copied.copied (c.in_ok-copied.ensures.truth honest w none) is_none in
          refused_written c.args.block (ram c.args.self.now) (ram c.copy_lowest.new.self) _ _ same c.copy_lowest.ensures.goes c.requires.closed
          c.requires.block first (ram c.write_back_lowest.new.self) _ _ c.write_back_lowest.ensures.goes.geometry
          (c.in_err-written.ensures.truth (c.copy_lowest.ensures.acts.honest_is ∙ honest) first.0.truth);
      touched = λ _ _ _ is. absurd (err_not_ok _ refl is);
      stops = λ honest w none_in ne.
          let first = found_none c.args.block (ram c.args.self.now) (ram c.copy_lowest.new.self) _ _ c.in_ok-copied.copied (c.in_ok-copied.ensures.truth honest w none_in) is_none in
          let now = c.copy_lowest.ensures.acts.honest_is ∙ honest in
          stops_then (ram c.args.self.now) (ram c.copy_lowest.new.self) _ _ _ _ _ _ sized first.0.array (c.in_ok-copied.ensures.stops honest w (ok_not_bus _)) (c.in_err-written.ensures.stops now first.0.truth (not_bus _ ne));
      cut = λ honest w none_in is.
          let first = found_none c.args.block (ram c.args.self.now) (ram c.copy_lowest.new.self) _ _ c.in_ok-copied.copied (c.in_ok-copied.ensures.truth honest w none_in) is_none in
          let now = c.copy_lowest.ensures.acts.honest_is ∙ honest in
          cut_after (ram c.args.self.now) (ram c.copy_lowest.new.self) _ _ _ _ _ sized first.0.array (c.in_ok-copied.ensures.stops honest w (ok_not_bus _)) (c.in_err-written.ensures.cut now first.0.truth (err_same _ _ is));
    })

-- ---- one was written

pub returns-then-written : goal.returns-then-written
returns-then-written g c =
    let same = c.in_ok-copied.ensures.none (ap Ok (none_from c.in_ok-copied.copied c.in_default.not-Some)) in
    let is_none = none_from c.in_ok-copied.copied c.in_default.not-Some in
    record {
      acts = acts_then _ _ _ _ _ c.copy_lowest.ensures.goes.geometry c.in_ok-copied.ensures.acts (acts_ok _ _ _ _ c.in_ok-written.ensures.acts);
      goes = goes_but c.args.block _ _ (at_start (λ z. Goes z (ram c.write_back_lowest.new.self)) (ram c.args.self.now) (ram c.copy_lowest.new.self) same c.write_back_lowest.ensures.goes);
      goes_still = λ _. goes_then _ _ _ c.copy_lowest.ensures.goes c.write_back_lowest.ensures.goes;
      keys = keys_then _ _ _ c.copy_lowest.ensures.keys c.write_back_lowest.ensures.keys;
      refreshes = λ on. refreshes_then _ _ _ c.copy_lowest.ensures.goes.geometry (c.copy_lowest.ensures.refreshes on) (c.write_back_lowest.ensures.refreshes on);
      pin = c.write_back_lowest.ensures.pin ∙ c.copy_lowest.ensures.pin;
      unmoved = tt;
      unmarked = λ off fresh. c.in_ok-written.ensures.unmarked (subst (λ (z : Ram). z.pin.marks ≡ replicate (translation_pages z.geometry) false) (sym same) fresh)
          ∙ ap (λ (z : Ram). replicate (translation_pages z.geometry) false) same;
      idle = λ is. absurd (written_not_erased is);
      released = λ is. absurd (written_not_erased is);
      reads = reads_written c.args.flushing (ram c.args.self.now) (ram c.copy_lowest.new.self) _ _ _ _ same c.copy_lowest.ensures.reads c.write_back_lowest.ensures.reads;
      copied_reads = λ _ is. absurd (written_not_copied _ is);
      erases = c.write_back_lowest.ensures.erases ∙ c.copy_lowest.ensures.erases;
      owed = λ is. absurd (ok_not_err _ _ is);
      cost = at_start (λ z. HasWritten c.args.flushing z (ram c.write_back_lowest.new.self)) (ram c.args.self.now) (ram c.copy_lowest.new.self) same (c.in_ok-written.ensures.cost c.if-written.true);
      brought = λ _ is. absurd (written_not_copied _ is);
      truth = λ honest w none.
          let same = c.in_ok-copied.ensures.none (ap Ok is_none) in
          let first = found_none c.args.block (ram c.args.self.now) (ram c.copy_lowest.new.self) _ _ c.in_ok-copied.copied (c.in_ok-copied.ensures.truth honest w none) is_none in
          emptied_written c.args.block (ram c.args.self.now) (ram c.copy_lowest.new.self) _ _ same c.copy_lowest.ensures.goes c.requires.closed
          c.requires.block first (ram c.write_back_lowest.new.self) _ c.write_back_lowest.ensures.acts.safe.memory
          c.write_back_lowest.ensures.goes.geometry (c.in_ok-written.ensures.truth (c.copy_lowest.ensures.acts.honest_is ∙ honest) first.0.truth);
      touched = λ _ _ _ is. absurd (written_not_copied _ is);
      stops = λ honest w none_in ne.
          let first = found_none c.args.block (ram c.args.self.now) (ram c.copy_lowest.new.self) _ _ c.in_ok-copied.copied (c.in_ok-copied.ensures.truth honest w none_in) is_none in
          let sized : IsSized (ram c.args.self.now) (ram c.copy_lowest.new.self) = record { geometry = c.copy_lowest.ensures.goes.geometry; capacity = c.copy_lowest.ensures.keys.limits.capacity; share = c.copy_lowest.ensures.keys.limits.share } in
          let now = c.copy_lowest.ensures.acts.honest_is ∙ honest in
          stops_then (ram c.args.self.now) (ram c.copy_lowest.new.self) _ _ _ _ _ _ sized first.0.array (c.in_ok-copied.ensures.stops honest w (ok_not_bus _)) (c.in_ok-written.ensures.stops now first.0.truth (ok_not_bus _));
      cut = λ _ _ _ is. absurd (ok_not_bus _ is);
    }

-- ---- the block was erased

pub returns-in_err-erase_block : goal.returns-in_err-erase_block
returns-in_err-erase_block g c =
    let p = err_from_is_err_and c.from_residual-in_err-erase_block.result c.from_residual-in_err-erase_block.ensures.1 in
    let same = c.in_ok-copied.ensures.none (ap Ok (none_from c.in_ok-copied.copied c.in_default.not-Some)) in
    let none = c.in_ok-written.ensures.none (ap Ok c.if-written.false) in
    let back = ap (λ e. ram e) none.1 ∙ same in
    let all = c.in_err-erase_block.ensures.refused ∙ back in
    rw (p.1, p.2) (record {
      acts = acts_then _ _ _ _ _ c.copy_lowest.ensures.goes.geometry c.in_ok-copied.ensures.acts (acts_then _ _ _ _ _ c.write_back_lowest.ensures.goes.geometry c.in_ok-written.ensures.acts (acts_err _ _ _ c.in_err-erase_block.ensures.acts));
      goes = at_start (λ z. GoesBut c.args.block z (ram c.erase_block.new.self)) (ram c.args.self.now) (ram c.write_back_lowest.new.self) back c.erase_block.ensures.goes;
      goes_still = λ _. subst (λ z. Goes (ram c.args.self.now) z) (sym all) (goes_same _);
      keys = keys_same _ _ (ap (λ (r : Ram). r.mapping) all);
      refreshes =
          let all = c.in_err-erase_block.ensures.refused ∙ (ap (λ e. ram e) none.1 ∙ same) in
          λ on. refreshes_same _ _ (ap (λ (r : Ram). r.mapping) all) (ap (λ (r : Ram). r.pin) all);
      pin = c.erase_block.ensures.pin ∙ ap (λ (r : Ram). r.pin.block) back;
      unmoved = ap (λ (r : Ram). r.mapping) all;
      unmarked = λ _ _. tt;
      idle = λ is. absurd (err_not_ok _ refl is);
      released = λ is. absurd (err_not_ok _ refl is);
      reads = reads_kept _ _ _ _ _ (c.erase_block.ensures.reads ∙ ap (λ e. g.N.PageSource.view.reads e.nand) none.1) c.copy_lowest.ensures.reads;
      copied_reads = λ _ is. absurd (err_not_ok _ refl is);
      erases = tt;
      owed = λ is. absurd (bus_not_full _ c.in_err-erase_block.ensures.bus is);
      cost = rw c.in_err-erase_block.ensures.bus tt;
      brought = λ _ is. absurd (err_not_ok _ refl is);
      truth = λ _ _ _. rw c.in_err-erase_block.ensures.bus tt;
      touched = λ _ _ _ is. absurd (err_not_ok _ refl is);
      stops = λ honest w none_in ne. absurd (fault_not_bus _ ne c.in_err-erase_block.ensures.bus);
      cut = λ honest w none_in is.
          let is_none = none_from c.in_ok-copied.copied c.in_default.not-Some in
          let first = found_none c.args.block (ram c.args.self.now) (ram c.copy_lowest.new.self) _ _ c.in_ok-copied.copied (c.in_ok-copied.ensures.truth honest w none_in) is_none in
          let sized : IsSized (ram c.args.self.now) (ram c.copy_lowest.new.self) = record { geometry = c.copy_lowest.ensures.goes.geometry; capacity = c.copy_lowest.ensures.keys.limits.capacity; share = c.copy_lowest.ensures.keys.limits.share } in
          let now = c.copy_lowest.ensures.acts.honest_is ∙ honest in
          let held = none_now c.args.block (ram c.args.self.now) (ram c.copy_lowest.new.self) _ _ same c.copy_lowest.ensures.goes c.requires.closed c.requires.block first in
          let erased = c.in_err-erase_block.ensures.cut (c.write_back_lowest.ensures.acts.honest_is ∙ now)
          (subst (λ e. IsTrue None (ram e) (image_in g.N.PageSource.view.flash e)) (sym none.1) first.0.truth)
          (subst (λ e. HoldsNone (ram e).geometry.pages c.args.block (image_in g.N.PageSource.view.flash e)) (sym none.1) held) (err_same _ _ is) in
          cut_after (ram c.args.self.now) (ram c.copy_lowest.new.self) _ _ _ _ _ sized first.0.array (c.in_ok-copied.ensures.stops honest w (ok_not_bus _))
          (subst (λ e. CutsSafely g.N.PageSource.view e c.erase_block.new.self) none.1 erased);
    })

pub returns : goal.returns
returns g c =
    let same = c.in_ok-copied.ensures.none (ap Ok (none_from c.in_ok-copied.copied c.in_default.not-Some)) in
    let none = c.in_ok-written.ensures.none (ap Ok c.if-written.false) in
    let back = ap (λ e. ram e) none.1 ∙ same in
    let due = at_start (λ z. OwesNone c.args.flushing z) (ram c.args.self.now) (ram c.copy_lowest.new.self) same none.0 in
    let is_none = none_from c.in_ok-copied.copied c.in_default.not-Some in
    record {
      acts = acts_then _ _ _ _ _ c.copy_lowest.ensures.goes.geometry c.in_ok-copied.ensures.acts (acts_then _ _ _ _ _ c.write_back_lowest.ensures.goes.geometry c.in_ok-written.ensures.acts (acts_ok _ _ _ _ c.in_ok-erase_block.ensures.acts));
      goes = at_start (λ z. GoesBut c.args.block z (ram c.erase_block.new.self)) (ram c.args.self.now) (ram c.write_back_lowest.new.self) back c.erase_block.ensures.goes;
      goes_still = λ ne. absurd (ne refl);
      keys = keys_same _ _ (c.in_ok-erase_block.ensures.erased.mapping ∙ ap (λ (r : Ram). r.mapping) back);
      refreshes = λ on.
          let erased = at_start (λ z. HasErased c.args.block z (ram c.erase_block.new.self)) (ram c.args.self.now) (ram c.write_back_lowest.new.self) (ap (λ e. ram e) none.1 ∙ same) c.in_ok-erase_block.ensures.erased in
          erased_fresh c.args.flushing c.args.block (ram c.args.self.now) (ram c.erase_block.new.self) on due erased;
      pin = c.erase_block.ensures.pin ∙ ap (λ (r : Ram). r.pin.block) back;
      unmoved = tt;
      unmarked = λ off fresh. c.in_ok-erase_block.ensures.unmarked ∙ ap (λ (z : Ram). replicate (translation_pages z.geometry) false) back;
      idle = λ is.
          let same2 = ap (λ e. ram e) none.1 ∙ same in
          let erased = at_start (λ z. HasErased c.args.block z (ram c.erase_block.new.self)) (ram c.args.self.now) (ram c.write_back_lowest.new.self) same2 c.in_ok-erase_block.ensures.erased in
          idle_by c.args.flushing c.args.block (ram c.args.self.now) (ram c.erase_block.new.self) c.requires.safe.memory due erased (c.in_ok-erase_block.ensures.unmarked ∙ ap (λ (z : Ram). replicate (translation_pages z.geometry) false) same2);
      released = λ _. at_start (λ z. IsReleased c.args.block z.blocks (ram c.erase_block.new.self).blocks) (ram c.args.self.now) (ram c.write_back_lowest.new.self) back c.in_ok-erase_block.ensures.released;
      reads = reads_kept _ _ _ _ _ (c.erase_block.ensures.reads ∙ ap (λ e. g.N.PageSource.view.reads e.nand) none.1) c.copy_lowest.ensures.reads;
      copied_reads = λ _ is. absurd (erased_not_copied _ is);
      erases = c.erase_block.ensures.erases ∙ ap counted (ap (λ e. g.N.PageSource.view.erases e.nand) none.1 ∙ c.copy_lowest.ensures.erases);
      owed = λ is. absurd (ok_not_err _ _ is);
      cost =
          let none = c.in_ok-written.ensures.none (ap Ok c.if-written.false) in (
            at_start (λ z. OwesNone c.args.flushing z) (ram c.args.self.now) (ram c.copy_lowest.new.self) same none.0,
            at_start (λ z. HasErased c.args.block z (ram c.erase_block.new.self)) (ram c.args.self.now) (ram c.write_back_lowest.new.self) (ap (λ e. ram e) none.1 ∙ same) c.in_ok-erase_block.ensures.erased,
          );
      brought = λ _ is. absurd (erased_not_copied _ is);
      truth = λ honest w none_below.
          let same = c.in_ok-copied.ensures.none (ap Ok is_none) in
          let first = found_none c.args.block (ram c.args.self.now) (ram c.copy_lowest.new.self) _ _ c.in_ok-copied.copied (c.in_ok-copied.ensures.truth honest w none_below) is_none in
          let held = none_now c.args.block (ram c.args.self.now) (ram c.copy_lowest.new.self) _ _ same c.copy_lowest.ensures.goes c.requires.closed c.requires.block first in
          let kept = c.in_ok-erase_block.ensures.truth (c.write_back_lowest.ensures.acts.honest_is ∙ (c.copy_lowest.ensures.acts.honest_is ∙ honest))
          (subst (λ e. IsTrue None (ram e) (image_in g.N.PageSource.view.flash e)) (sym none.1) first.0.truth)
          (subst (λ e. HoldsNone (ram e).geometry.pages c.args.block (image_in g.N.PageSource.view.flash e)) (sym none.1) held) in
          emptied_erased c.args.block (ram c.args.self.now) (ram c.copy_lowest.new.self) _ _ same c.copy_lowest.ensures.goes c.requires.closed
          c.requires.block first (ram c.erase_block.new.self) _ c.erase_block.ensures.acts.safe.memory
          (c.erase_block.ensures.goes.geometry ∙ ap (λ e. (ram e).geometry) none.1)
          (subst
          (λ e. IsImageKept (ram e) (image_in g.N.PageSource.view.flash e) (ram c.erase_block.new.self)
          (image_in g.N.PageSource.view.flash c.erase_block.new.self)) none.1 kept);
      touched = λ _ _ _ is. absurd (erased_not_copied _ is);
      stops = λ honest w none_in ne.
          let first = found_none c.args.block (ram c.args.self.now) (ram c.copy_lowest.new.self) _ _ c.in_ok-copied.copied (c.in_ok-copied.ensures.truth honest w none_in) is_none in
          let sized : IsSized (ram c.args.self.now) (ram c.copy_lowest.new.self) = record { geometry = c.copy_lowest.ensures.goes.geometry; capacity = c.copy_lowest.ensures.keys.limits.capacity; share = c.copy_lowest.ensures.keys.limits.share } in
          let now = c.copy_lowest.ensures.acts.honest_is ∙ honest in
          let held = none_now c.args.block (ram c.args.self.now) (ram c.copy_lowest.new.self) _ _ same c.copy_lowest.ensures.goes c.requires.closed c.requires.block first in
          let erased = c.in_ok-erase_block.ensures.stops (c.write_back_lowest.ensures.acts.honest_is ∙ now)
          (subst (λ e. IsTrue None (ram e) (image_in g.N.PageSource.view.flash e)) (sym none.1) first.0.truth)
          (subst (λ e. HoldsNone (ram e).geometry.pages c.args.block (image_in g.N.PageSource.view.flash e)) (sym none.1) held) (ok_not_bus _) in
          stops_then (ram c.args.self.now) (ram c.copy_lowest.new.self) _ _ _ _ _ _ sized first.0.array
          (c.in_ok-copied.ensures.stops honest w (ok_not_bus _))
          (subst
          (λ e. Stops g.N.PageSource.view
          (IsLeftByStop (ram e) (image_in g.N.PageSource.view.flash e) (image_in g.N.PageSource.view.flash c.erase_block.new.self)) e
          c.erase_block.new.self) none.1 erased);
      cut = λ _ _ _ is. absurd (ok_not_bus _ is);
    }

pub returns-in_err-copied : goal.returns-in_err-copied
returns-in_err-copied g c =
    let p = err_from_is_err_and c.from_residual.result c.from_residual.ensures.1 in
    rw (p.1, p.2) (record {
      acts = acts_err _ _ _ c.in_err-copied.ensures.acts;
      goes = goes_but _ _ _ c.copy_lowest.ensures.goes;
      goes_still = λ _. c.copy_lowest.ensures.goes;
      keys = c.copy_lowest.ensures.keys;
      refreshes = c.copy_lowest.ensures.refreshes;
      pin = c.copy_lowest.ensures.pin;
      unmoved = c.in_err-copied.ensures.unmoved;
      unmarked = λ _ _. tt;
      idle = λ is. absurd (err_not_ok _ refl is);
      released = λ is. absurd (err_not_ok _ refl is);
      reads = reads_less _ _ _ _ c.copy_lowest.ensures.reads;
      copied_reads = λ _ is. absurd (err_not_ok _ refl is);
      erases = tt;
      owed = λ is. inl (c.in_err-copied.ensures.owed (err_same _ _ is));
      cost = c.in_err-copied.ensures.cost;
      brought = λ _ is. absurd (err_not_ok _ refl is);
      truth = c.in_err-copied.ensures.truth;
      touched = λ _ _ _ is. absurd (err_not_ok _ refl is);
      stops = λ honest w none_in ne. c.in_err-copied.ensures.stops honest w (not_bus _ ne);
      cut = λ honest w none_in is. c.in_err-copied.ensures.cut honest w (err_same _ _ is);
    })

pub returns-in-Some : goal.returns-in-Some
returns-in-Some g c = record {
  acts = acts_ok _ _ _ _ c.in_ok-copied.ensures.acts;
  goes = goes_but _ _ _ c.copy_lowest.ensures.goes;
  goes_still = λ _. c.copy_lowest.ensures.goes;
  keys = c.copy_lowest.ensures.keys;
  refreshes = c.copy_lowest.ensures.refreshes;
  pin = c.copy_lowest.ensures.pin;
  unmoved = tt;
  unmarked = λ off fresh. ap (λ (p : Pin). p.marks) (c.in_ok-copied.ensures.unmarked off) ∙ fresh;
  idle = λ is. absurd (copied_not_erased _ is);
  released = λ is. absurd (copied_not_erased _ is);
  reads = reads_less _ _ _ _ c.copy_lowest.ensures.reads;
  copied_reads = λ page is. c.in_ok-copied.ensures.copied_reads page (c.in-Some.is ∙ copied_same _ _ is);
  erases = c.in_ok-copied.ensures.erases;
  owed = λ is. absurd (ok_not_err _ _ is);
  cost =
      let w = c.in_ok-copied.ensures.within c.in-Some.page c.in-Some.is in
      (w.0, w.1, c.in_ok-copied.ensures.cost c.in-Some.page c.in-Some.is, c.in_ok-copied.ensures.acts.fault);
  brought = λ page is. c.in_ok-copied.ensures.brought page (c.in-Some.is ∙ copied_same _ _ is);
  truth = λ honest w none_in. rw c.in-Some.is at (c.in_ok-copied.ensures.truth honest w none_in);
  touched = λ honest w page is. rw c.in-Some.is at (c.in_ok-copied.ensures.touched honest w);
  stops = λ honest w none_in ne. c.in_ok-copied.ensures.stops honest w (ok_not_bus _);
  cut = λ _ _ _ is. absurd (ok_not_bus _ is);
}

pub erase_block-requires-clause-spent : goal.erase_block-requires-clause-spent
erase_block-requires-clause-spent g c =
    let none = ap Ok (none_from c.in_ok-copied.copied c.in_default.not-Some) in
    let back = ap (λ e. ram e) (c.in_ok-written.ensures.none (ap Ok c.if-written.false)).1 ∙ c.in_ok-copied.ensures.none none in
    subst (λ (z : Ram). live_at z.blocks c.args.block ≡ 0) (sym back) (c.in_ok-copied.ensures.spent none)
