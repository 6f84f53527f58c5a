use Rattle.std.proofs.Common.{refl, ◌∙◌, ap, sym, ◌≡◌, ℕ, ◌<◌, arith}
use Rattle.page_layout.specs.declared.geometry.Geometry.{Geometry}
use Rattle.collection.specs.Safe.{ram}
use Rattle.collection.specs.Left.{pin_after}
use Rattle.collection.proofs.Turns.{cost_pinned, page_pinned, touches_pinned, refreshes_pinned, half_on, half_pinned}
use Rattle.std.proofs.lemmas.Result.{err_from_is_err_and}
use Rattle.collection.proofs.Looks.{ok_not_bus}
use Rattle.collection.proofs.Costs.{not_bus}
use Rattle.collection.proofs.Steps.{err_same}
use Rattle.collection.specs.declared.engine.collect_steps.Progress.TheVariants as step
use Rattle.collection.proofs.Exits.{ok_not_err, err_not_ok, ok_same, stepped_pinned, acts_pinned}
use Rattle.collection.proofs.Ledgers.{within_by}
use Rattle.collection.proofs.engine.Engine.step_on.Goals as goal

-- a block has at most 256 pages
small_pages : (g : Geometry) (n : ℕ) → n ≡ g.pages → n < 4294967295
small_pages g n is = omega (arith, g.limits.page_count.most)

pub returns : goal.returns
returns g c = record {
  acts = acts_pinned c.args.self.now c.collect_step.new.self c.next_pin-next.result _ c.in_ok-progress.ensures.acts;
  goes = record { geometry = c.collect_step.ensures.goes.geometry; next = c.collect_step.ensures.goes.next; shut = c.collect_step.ensures.goes.shut };
  goes_still = λ ne.
      let k = c.in_ok-progress.ensures.goes_still ne in
      record { geometry = k.geometry; next = k.next; shut = k.shut };
  keys = c.collect_step.ensures.keys;
  refreshes = λ on. refreshes_pinned (ram c.args.self.now) (ram c.collect_step.new.self) c.next_pin-next.result (c.collect_step.ensures.refreshes on);
  next = c.next_pin-next.ensures ∙ ap (λ n. pin_after c.args.pinned.block n c.in_ok-progress.progress) (c.pages.ensures ∙ ap (λ k. k.pages) c.collect_step.ensures.goes.geometry);
  unmoved = tt;
  unmarked = c.in_ok-progress.ensures.unmarked;
  half_done = λ q is.
      let next = c.next_pin-next.ensures ∙ ap (λ n. pin_after c.args.pinned.block n c.in_ok-progress.progress) (c.pages.ensures ∙ ap (λ k. k.pages) c.collect_step.ensures.goes.geometry) in
      let half = half_on c.args.flushing (ram c.args.self.now) (ram c.collect_step.new.self) c.args.pinned c.in_ok-progress.progress
      c.requires.half_done (λ ne. c.in_ok-progress.ensures.goes_still (λ same. ne (ok_same _ _ same)))
      c.in_ok-progress.ensures.cost in
      half_pinned (ram c.args.self.now) (ram c.collect_step.new.self) c.next_pin-next.result q (half q (sym next ∙ is));
  idle = λ is.
      let k = c.in_ok-progress.ensures.idle is in
      record { moved = k.moved; unmarked = k.unmarked };
  released = c.in_ok-progress.ensures.released;
  reads = c.collect_step.ensures.reads;
  copied_reads = c.in_ok-progress.ensures.copied_reads;
  erases = c.in_ok-progress.ensures.erases;
  owed = λ is. absurd (ok_not_err _ _ is);
  cost = cost_pinned c.args.flushing c.args.pinned.block c.args.pinned.first (ram c.args.self.now) (ram c.collect_step.new.self) c.next_pin-next.result c.in_ok-progress.progress c.in_ok-progress.ensures.cost;
  brought = λ page is. page_pinned c.args.flushing c.args.pinned.block c.args.pinned.first (ram c.args.self.now) (ram c.collect_step.new.self) c.next_pin-next.result _ (c.in_ok-progress.ensures.brought page is);
  truth = λ honest w passed. stepped_pinned c.args.pinned.block (ram c.args.self.now) (ram c.collect_step.new.self) _ _ _ c.in_ok-progress.progress (c.in_ok-progress.ensures.truth honest w passed);
  touched = λ honest w page is. touches_pinned c.args.flushing c.args.pinned.block c.args.pinned.first (ram c.args.self.now) (ram c.collect_step.new.self) c.next_pin-next.result _ _ (c.in_ok-progress.ensures.touched honest w page is);
  stops = λ honest w passed ne. c.in_ok-progress.ensures.stops honest w passed (ok_not_bus _);
  cut = λ _ _ _ is. absurd (ok_not_bus _ is);
}

pub returns-in_err-progress : goal.returns-in_err-progress
returns-in_err-progress g c =
    let p = err_from_is_err_and c.from_residual.result c.from_residual.ensures.1 in
    rw (p.1, p.2) (record {
      acts = c.in_err-progress.ensures.acts;
      goes = c.collect_step.ensures.goes;
      goes_still = c.in_err-progress.ensures.goes_still;
      keys = c.collect_step.ensures.keys;
      refreshes = c.collect_step.ensures.refreshes;
      next = c.collect_step.ensures.pin;
      unmoved = c.in_err-progress.ensures.unmoved;
      unmarked = λ _ _. tt;
      half_done = tt;
      idle = λ is. absurd (err_not_ok _ refl is);
      released = λ is. absurd (err_not_ok _ refl is);
      reads = c.collect_step.ensures.reads;
      copied_reads = λ _ is. absurd (err_not_ok _ refl is);
      erases = tt;
      owed = c.in_err-progress.ensures.owed;
      cost = c.in_err-progress.ensures.cost;
      brought = λ _ is. absurd (err_not_ok _ refl is);
      truth = c.in_err-progress.ensures.truth;
      touched = λ _ _ _ is. absurd (err_not_ok _ refl is);
      stops = λ honest w passed ne. c.in_err-progress.ensures.stops honest w passed (not_bus _ ne);
      cut = λ honest w passed is. c.in_err-progress.ensures.cut honest w passed (err_same _ _ is);
    })

pub collect_step-requires-clause-safe : goal.collect_step-requires-clause-safe
collect_step-requires-clause-safe g c = c.requires.safe

pub collect_step-requires-clause-block : goal.collect_step-requires-clause-block
collect_step-requires-clause-block g c = c.requires.half_done.within

pub collect_step-requires-clause-closed : goal.collect_step-requires-clause-closed
collect_step-requires-clause-closed g c = c.requires.half_done.closed

pub collect_step-requires-clause-room : goal.collect_step-requires-clause-room
collect_step-requires-clause-room g c = c.requires.half_done.passed

pub next_pin-next-requires-clause-within : goal.next_pin-next-requires-clause-within
next_pin-next-requires-clause-within g c = within_by c.args.flushing c.args.pinned.block c.args.pinned.first _ (ram c.args.self.now) (ram c.collect_step.new.self) c.in_ok-progress.progress
    (c.pages.ensures ∙ ap (λ k. k.pages) c.collect_step.ensures.goes.geometry) c.in_ok-progress.ensures.cost

pub next_pin-next-requires-clause-small : goal.next_pin-next-requires-clause-small
next_pin-next-requires-clause-small g c = small_pages c.collect_step.new.self.geometry _ c.pages.ensures
