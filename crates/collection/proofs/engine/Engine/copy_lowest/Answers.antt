use Rattle.std.proofs.Common.{◌≡◌, ◌∙◌, ap, None, refl, sym, subst, ◌<◌}
use Rattle.std.proofs.lemmas.Result.{err_from_is_err_and}
use Rattle.collection.specs.Safe.{ram}
use Rattle.collection.proofs.Acts.{acts_ok, acts_err, acts_end, acts_then, looked, acts_same}
use Rattle.collection.proofs.Looks.{none_from, ok_not_bus}
use Rattle.collection.proofs.Ends.{damaged_apart}
use Rattle.collection.proofs.Lowest.{same_here, holds_none, copied_from}
use Rattle.collection.proofs.Turns.{touched_from}
use Rattle.promises.proofs.StopLemmas.{leaves_nothing}
use Rattle.collection.proofs.Stops.{same_left, leaves_still, stops_looked, fault_not_bus, live_known}
use Rattle.collection.proofs.Costs.{not_bus}
use Rattle.collection.proofs.Cuts.{cut_read, cut_looking}
use Rattle.collection.proofs.Steps.{err_same, at_start, none_counted}
use Rattle.collection.proofs.Memory.{goes_same}
use Rattle.collection.proofs.Copies.{keys_same, refreshes_same}
use Rattle.collection.specs.State.{Ram}
use Rattle.collection.specs.declared.fault.EngineFault.TheVariants.{Damaged, Bus}
use Rattle.collection.specs.Collect.{HasBroughtOut, Refreshes, KeepsKeys}
use Rattle.collection.specs.Results.{Goes}
use Rattle.collection.proofs.Exits.{ok_not_err, err_not_ok, none_not_some, some_not_none, read_not_full, refused_bus, no_more, as_many, positive_count, reads_at, within_at, goes_looked, keys_looked, refreshes_looked, fault_looked, fault_from, room_left, brought_by, refused_from}
use Rattle.page_layout.specs.declared.geometry.Geometry.{Geometry}
use Rattle.collection.proofs.engine.Engine.copy_lowest.Goals as goal

pub returns-then-live-eq0 : goal.returns-then-live-eq0
returns-then-live-eq0 g c = record {
  acts = acts_ok _ _ tt None (acts_same c.args.self.now c.requires.safe);
  goes = goes_same _;
  reads = no_more _ _;
  copied_reads = λ _ is. absurd (none_not_some _ is);
  erases = refl;
  keys = keys_same _ _ refl;
  refreshes = λ _. refreshes_same _ _ refl refl;
  none = λ _. refl;
  spent = λ _. sym c.live.ensures ∙ c.if-live-eq0.true;
  within = λ _ is. absurd (none_not_some _ is);
  pin = refl;
  unmoved = tt;
  owed = λ is. absurd (ok_not_err _ _ is);
  unmarked = λ _. refl;
  touched = λ _ _. tt;
  cost = λ _ is. absurd (none_not_some _ is);
  brought = λ _ is. absurd (none_not_some _ is);
  truth = λ honest w none. (
    same_here (ram c.args.self.now) _ w,
    holds_none (ram c.args.self.now) _ c.args.block c.requires.safe.memory w c.requires.block (sym c.live.ensures ∙ c.if-live-eq0.true),
  );
  stops = λ honest w ne. leaves_nothing _ _ _ (same_left (ram c.args.self.now) _ _ c.requires.safe.memory w);
  cut = λ _ _ is. absurd (ok_not_bus _ is);
}

pub returns-in_err-live : goal.returns-in_err-live
returns-in_err-live g c =
    let p = err_from_is_err_and c.from_residual.result c.from_residual.ensures.1 in
    rw (p.1, p.2) (record {
      acts = acts_err _ _ _ (looked _ _ _ c.in_err-live.ensures.looks);
      goes = goes_looked _ _ c.first_live.ensures.looks.memory;
      reads = c.first_live.ensures.reads;
      copied_reads = tt;
      erases = c.first_live.ensures.looks.only_reads.erases_are;
      keys = keys_looked (ram c.args.self.now) (ram c.first_live.new.self) c.first_live.ensures.looks.memory;
      refreshes = λ _. refreshes_looked _ _ c.first_live.ensures.looks.memory;
      none = λ is. absurd (err_not_ok _ refl is);
      spent = λ is. absurd (err_not_ok _ refl is);
      within = tt;
      pin = ap (λ (z : Ram). z.pin.block) c.first_live.ensures.looks.memory;
      unmoved = ap (λ (z : Ram). z.mapping) c.first_live.ensures.looks.memory;
      owed = λ is. absurd (read_not_full _ c.in_err-live.ensures.looks.faults is);
      unmarked = λ _. tt;
      touched = λ _ _. tt;
      cost = fault_looked (ram c.args.self.now) (ram c.first_live.new.self) _ c.in_err-live.ensures.looks.faults c.first_live.ensures.looks.memory;
      brought = tt;
      truth = λ honest w none. refused_bus (ram c.args.self.now) (ram c.first_live.new.self) _ _ _ (c.in_err-live.ensures.truth honest w);
      stops = λ honest w ne. absurd (fault_not_bus _ ne (c.in_err-live.ensures.truth honest w));
      cut = λ honest w is. cut_read (ram c.args.self.now) _ _ _ c.requires.safe.memory w (c.in_err-live.ensures.looks.cut honest (err_same _ _ is));
    })

pub returns-in_default : goal.returns-in_default
returns-in_default g c = record {
  acts = acts_end _ _ _ _ damaged_apart (looked _ _ _ c.in_ok-live.ensures.looks);
  goes = goes_looked _ _ c.first_live.ensures.looks.memory;
  reads = c.first_live.ensures.reads;
  copied_reads = tt;
  erases = c.first_live.ensures.looks.only_reads.erases_are;
  keys = keys_looked (ram c.args.self.now) (ram c.first_live.new.self) c.first_live.ensures.looks.memory;
  refreshes = λ _. refreshes_looked _ _ c.first_live.ensures.looks.memory;
  none = λ is. absurd (err_not_ok _ refl is);
  spent = λ is. absurd (err_not_ok _ refl is);
  within = tt;
  pin = ap (λ (z : Ram). z.pin.block) c.first_live.ensures.looks.memory;
  unmoved = ap (λ (z : Ram). z.mapping) c.first_live.ensures.looks.memory;
  owed = λ is. absurd (read_not_full _ tt is);
  unmarked = λ _. tt;
  touched = λ _ _. tt;
  cost = fault_looked (ram c.args.self.now) (ram c.first_live.new.self) Damaged tt c.first_live.ensures.looks.memory;
  brought = tt;
  -- an honest die holds each page that is counted
  truth = λ honest w none.
      let still = ap (λ f. f.image) (c.in_ok-live.ensures.looks.same honest (ok_not_bus _)) in
      absurd (c.if-live-eq0.false (c.live.ensures ∙ none_counted (ram c.args.self.now) (ram c.first_live.new.self) _ _ c.args.block c.args.first c.in_ok-live.live _
      c.requires.safe.memory w c.requires.block c.first_live.ensures.looks.memory still none (c.in_ok-live.ensures.truth honest w) (none_from c.in_ok-live.live c.in_default.not-Some)));
  stops = λ honest w ne. leaves_still _ _ _ _ _ (c.in_ok-live.ensures.looks.same honest (ok_not_bus _)) (c.in_ok-live.ensures.looks.told honest (ok_not_bus _)) (same_left (ram c.args.self.now) _ _ c.requires.safe.memory w);
  cut = λ _ _ is. (let same : ◌≡◌ Damaged Bus = cc in absurd (damaged_apart same));
}

pub bring_out-requires-clause-key : goal.bring_out-requires-clause-key
bring_out-requires-clause-key g c = rw (ap (λ r. r.geometry) c.first_live.ensures.looks.memory) (c.in_ok-live.ensures.checked _ c.in-Some.is).of_key

pub returns-in_err-bring_out : goal.returns-in_err-bring_out
returns-in_err-bring_out g c =
    let p = err_from_is_err_and c.from_residual-in_err-bring_out.result c.from_residual-in_err-bring_out.ensures.1 in
    let looks = c.in_ok-live.ensures.looks in
    rw (p.1, p.2) (record {
      acts = acts_then _ _ _ _ _ (ap (λ r. r.geometry) c.first_live.ensures.looks.memory) (looked _ _ _ c.in_ok-live.ensures.looks) (acts_err _ _ _ c.in_err-bring_out.ensures.leaves.acts);
      goes = at_start (λ z. Goes z (ram c.bring_out.new.self)) (ram c.args.self.now) (ram c.first_live.new.self) c.first_live.ensures.looks.memory c.bring_out.ensures.leaves.goes;
      reads = as_many _ _ _ c.bring_out.ensures.leaves.only_programs.reads_are c.first_live.ensures.reads;
      copied_reads = tt;
      erases = c.bring_out.ensures.leaves.only_programs.erases_are ∙ c.first_live.ensures.looks.only_reads.erases_are;
      keys = at_start (λ (z : Ram). KeepsKeys z.mapping c.bring_out.new.self.mapping) (ram c.args.self.now) (ram c.first_live.new.self) c.first_live.ensures.looks.memory c.bring_out.ensures.leaves.keys;
      refreshes = λ on. at_start (λ z. Refreshes z (ram c.bring_out.new.self)) (ram c.args.self.now) (ram c.first_live.new.self) c.first_live.ensures.looks.memory (c.bring_out.ensures.leaves.refreshes on);
      none = λ is. absurd (err_not_ok _ refl is);
      spent = λ is. absurd (err_not_ok _ refl is);
      within = tt;
      pin = c.bring_out.ensures.leaves.pin ∙ ap (λ (z : Ram). z.pin.block) c.first_live.ensures.looks.memory;
      unmoved = c.in_err-bring_out.ensures.leaves.unmoved ∙ ap (λ (z : Ram). z.mapping) c.first_live.ensures.looks.memory;
      owed = λ _. positive_count _ _ c.live.ensures c.if-live-eq0.false;
      unmarked = λ _. tt;
      touched = λ _ _. tt;
      cost = fault_from (ram c.args.self.now) (ram c.first_live.new.self) (ram c.bring_out.new.self) _ c.first_live.ensures.looks.memory c.in_err-bring_out.ensures.cost;
      brought = tt;
      truth = λ honest w none.
          let still = ap (λ f. f.image) (c.in_ok-live.ensures.looks.same honest (ok_not_bus _)) in
          refused_from (ram c.args.self.now) (ram c.first_live.new.self) (ram c.bring_out.new.self) _ _ _ c.args.block c.args.first c.in-Some.page
          c.row-row.result c.in-Some.found _ c.in_ok-live.live _ w c.first_live.ensures.looks.memory still c.row-row.ensures.is
          (c.in_ok-live.ensures.within _ c.in-Some.is).1 c.requires.closed (c.in_ok-live.ensures.truth honest w) c.in-Some.is
          (c.in_err-bring_out.ensures.leaves.truth (c.first_live.ensures.looks.only_reads.honest_is ∙ honest));
      stops = λ honest w ne.
          let still = looks.same honest (ok_not_bus _) in
          let known = live_known (ram c.args.self.now) (ram c.first_live.new.self) _ _ c.args.block c.args.first c.in-Some.page c.row-row.result
          c.in-Some.found _ c.in_ok-live.live w looks.memory (ap (λ f. f.image) still) c.row-row.ensures.is (c.in_ok-live.ensures.truth honest w)
          c.in-Some.is in
          stops_looked (ram c.args.self.now) (ram c.first_live.new.self) _ _ _ _ _ _ looks.memory still (looks.told honest (ok_not_bus _)) (c.in_err-bring_out.ensures.leaves.stops (looks.only_reads.honest_is ∙ honest) known.0 known.1 (not_bus _ ne));
      cut = λ honest w is.
          let a = ram c.args.self.now in
          let b = ram c.first_live.new.self in
          let still = looks.same honest (ok_not_bus _) in
          let known = live_known a b _ _ c.args.block c.args.first c.in-Some.page c.row-row.result c.in-Some.found _ c.in_ok-live.live w looks.memory
          (ap (λ f. f.image) still) c.row-row.ensures.is (c.in_ok-live.ensures.truth honest w) c.in-Some.is in
          cut_looking a b _ _ _ _ _ looks.memory still (looks.told honest (ok_not_bus _)) (c.in_err-bring_out.ensures.leaves.cut (looks.only_reads.honest_is ∙ honest) known.0 known.1 (err_same _ _ is));
    })

pub returns : goal.returns
returns g c = record {
  acts = acts_then _ _ _ _ _ (ap (λ r. r.geometry) c.first_live.ensures.looks.memory) (looked _ _ _ c.in_ok-live.ensures.looks) (acts_ok _ _ _ _ c.in_ok-bring_out.ensures.leaves.acts);
  goes = at_start (λ z. Goes z (ram c.bring_out.new.self)) (ram c.args.self.now) (ram c.first_live.new.self) c.first_live.ensures.looks.memory c.bring_out.ensures.leaves.goes;
  reads = as_many _ _ _ c.bring_out.ensures.leaves.only_programs.reads_are c.first_live.ensures.reads;
  copied_reads = λ page is. reads_at _ _ _ _ _ _ is c.bring_out.ensures.leaves.only_programs.reads_are (c.in_ok-live.ensures.found_reads (c.in-Some.page, c.in-Some.found) c.in-Some.is);
  erases = c.bring_out.ensures.leaves.only_programs.erases_are ∙ c.first_live.ensures.looks.only_reads.erases_are;
  keys = at_start (λ (z : Ram). KeepsKeys z.mapping c.bring_out.new.self.mapping) (ram c.args.self.now) (ram c.first_live.new.self) c.first_live.ensures.looks.memory c.bring_out.ensures.leaves.keys;
  refreshes = λ on. at_start (λ z. Refreshes z (ram c.bring_out.new.self)) (ram c.args.self.now) (ram c.first_live.new.self) c.first_live.ensures.looks.memory (c.bring_out.ensures.leaves.refreshes on);
  none = λ is. absurd (some_not_none _ is);
  spent = λ is. absurd (some_not_none _ is);
  within = λ page is.
      let within = c.in_ok-live.ensures.within (c.in-Some.page, c.in-Some.found) c.in-Some.is in
      within_at _ _ _ _ is within.0 within.1;
  pin = c.bring_out.ensures.leaves.pin ∙ ap (λ (z : Ram). z.pin.block) c.first_live.ensures.looks.memory;
  unmoved = tt;
  owed = λ is. absurd (ok_not_err _ _ is);
  unmarked = λ off. c.bring_out.ensures.leaves.pinned off ∙ ap (λ (z : Ram). z.pin) c.first_live.ensures.looks.memory;
  touched = λ honest w.
      let still = ap (λ f. f.image) (c.in_ok-live.ensures.looks.same honest (ok_not_bus _)) in
      touched_from c.args.flushing (ram c.args.self.now) (ram c.first_live.new.self) (ram c.bring_out.new.self) _ _ _ c.args.block c.args.first
      c.in-Some.page c.row-row.result c.in-Some.found _ c.in_ok-live.live w c.first_live.ensures.looks.memory still c.row-row.ensures.is
      (c.in_ok-live.ensures.within _ c.in-Some.is).1 (c.in_ok-live.ensures.truth honest w) c.in-Some.is c.requires.closed
      (c.in_ok-bring_out.ensures.leaves.touched (c.first_live.ensures.looks.only_reads.honest_is ∙ honest));
  cost = λ _ _. at_start (λ z. HasBroughtOut c.args.flushing z (ram c.bring_out.new.self)) (ram c.args.self.now) (ram c.first_live.new.self) c.first_live.ensures.looks.memory c.in_ok-bring_out.ensures.cost;
  brought = λ _ _. brought_by (ram c.args.self.now) (ram c.first_live.new.self) (ram c.bring_out.new.self) _ c.in-Some.found c.first_live.ensures.looks.memory c.in_ok-bring_out.ensures.leaves.programmed c.in_ok-bring_out.ensures.brought;
  truth = λ honest w none.
      let still = ap (λ f. f.image) (c.in_ok-live.ensures.looks.same honest (ok_not_bus _)) in
      copied_from (ram c.args.self.now) (ram c.first_live.new.self) (ram c.bring_out.new.self) _ _ _ c.args.block c.args.first c.in-Some.page
      c.row-row.result c.in-Some.found _ c.in_ok-live.live w c.first_live.ensures.looks.memory still c.row-row.ensures.is
      (c.in_ok-live.ensures.within _ c.in-Some.is).1 c.requires.closed none (c.in_ok-live.ensures.truth honest w) c.in-Some.is
      (c.in_ok-bring_out.ensures.leaves.truth (c.first_live.ensures.looks.only_reads.honest_is ∙ honest));
  stops = λ honest w ne.
      let looks = c.in_ok-live.ensures.looks in
      let still = looks.same honest (ok_not_bus _) in
      let known = live_known (ram c.args.self.now) (ram c.first_live.new.self) _ _ c.args.block c.args.first c.in-Some.page c.row-row.result
      c.in-Some.found _ c.in_ok-live.live w looks.memory (ap (λ f. f.image) still) c.row-row.ensures.is (c.in_ok-live.ensures.truth honest w)
      c.in-Some.is in
      stops_looked (ram c.args.self.now) (ram c.first_live.new.self) _ _ _ _ _ _ looks.memory still (looks.told honest (ok_not_bus _)) (c.in_ok-bring_out.ensures.leaves.stops (looks.only_reads.honest_is ∙ honest) known.0 known.1 (ok_not_bus _));
  cut = λ _ _ is. absurd (ok_not_bus _ is);
}

-- ---- what is called

pub first_live-requires-clause-safe : goal.first_live-requires-clause-safe
first_live-requires-clause-safe g c = c.requires.safe

pub first_live-requires-clause-block : goal.first_live-requires-clause-block
first_live-requires-clause-block g c = c.requires.block

pub row-row-requires-clause-block_in : goal.row-row-requires-clause-block_in
row-row-requires-clause-block_in g c = subst (λ (z : Ram). c.args.block < z.geometry.blocks) (sym c.first_live.ensures.looks.memory) c.requires.block

pub row-row-requires-clause-page_in : goal.row-row-requires-clause-page_in
row-row-requires-clause-page_in g c = subst (λ (z : Ram). c.in-Some.page < z.geometry.pages) (sym c.first_live.ensures.looks.memory) (c.in_ok-live.ensures.within _ c.in-Some.is).1

pub bring_out-requires-clause-safe : goal.bring_out-requires-clause-safe
bring_out-requires-clause-safe g c = c.first_live.ensures.looks.safe

pub bring_out-requires-clause-row : goal.bring_out-requires-clause-row
bring_out-requires-clause-row g c = c.row-row.ensures.within

pub bring_out-requires-clause-room : goal.bring_out-requires-clause-room
bring_out-requires-clause-room g c =
    let within = c.in_ok-live.ensures.within _ c.in-Some.is in
    room_left (ram c.args.self.now) (ram c.first_live.new.self) c.args.first c.in-Some.page c.first_live.ensures.looks.memory c.requires.room within.0 within.1

pub live-requires : goal.live-requires
live-requires g c = subst (λ (z : Geometry). c.args.block < z.blocks) (sym c.requires.safe.memory.blocks_of) c.requires.block
