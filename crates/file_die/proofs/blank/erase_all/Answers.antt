use Rattle.std.proofs.Common.{rules, ◌≤◌, ◌∙◌, ap, refl, subst, arith, Bool, true, false}
use Rattle.page_layout.specs.declared.geometry.Geometry.{Geometry}
use Rattle.file_die.specs.Store.{Clears, Syncs}
use Rattle.file_die.proofs.BlankLemmas.{none_erased, all_erased, some_cleared, some_unsynced}
use Rattle.file_die.proofs.blank.erase_all.Goals as goal

pub loop-block-init : goal.loop-block-init
loop-block-init g c = record {
  geometry = refl;
  honest = refl;
  failed = refl;
  erased = λ h. none_erased _ _ refl (c.geometry.ensures.whole h);
  later = λ h row ge. refl;
}

pub returns-clause-blank : goal.returns-clause-blank
returns-clause-blank g c done h =
    let loop = c.loop-block.invariant in
    let held = g.S.Store.held in
    let end : (held c.args.store.now).geometry.blocks ≤ c.loop-block.block = omega (arith, c.loop-block-test.false, c.blocks-block-end.ensures, ap (λ (z : Geometry). z.blocks) c.geometry.ensures.geometry) in
    all_erased (held c.args.store.now).geometry c.loop-block.block (held c.loop-block.store) (held c.sync.new.self) end (loop.erased h) c.sync.ensures.geometry
    (subst (λ (d : Bool). Syncs (held c.loop-block.store) d (held c.sync.new.self)) done (c.sync.ensures.syncs (loop.honest ∙ h)))

pub returns-in_err-clear-clause-left : goal.returns-in_err-clear-clause-left
returns-in_err-clear-clause-left g c failed h =
    let loop = c.loop-block.invariant in
    let held = g.S.Store.held in
    let clears : Clears (held c.loop-block.store) c.loop-block.block false (held c.clear.new.self) = search rules in
    some_cleared (held c.args.store.now).geometry c.loop-block.block (held c.args.store.now) (held c.loop-block.store) (held c.clear.new.self) refl (loop.erased h) (loop.later h) clears

pub returns-clause-left : goal.returns-clause-left
returns-clause-left g c failed h =
    let loop = c.loop-block.invariant in
    let held = g.S.Store.held in
    some_unsynced (held c.args.store.now).geometry c.loop-block.block (held c.args.store.now) (held c.loop-block.store) (held c.sync.new.self) refl (loop.erased h) (loop.later h) (c.sync.ensures.syncs (loop.honest ∙ h)).same
