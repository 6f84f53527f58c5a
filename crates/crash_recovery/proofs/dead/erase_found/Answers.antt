use Rattle.std.proofs.Common.{◌≡◌, ◌∙◌, ℕ, true, false, inl, inr, refl, sym, subst, ap}
use Rattle.page_layout.specs.declared.geometry.Geometry.{Geometry}
use Rattle.file_die.specs.Store.{Held, Syncs}
use Rattle.image_check.specs.Agrees.{Agrees}
use Rattle.crash_recovery.specs.Asked.{KeepsAsked}
use Rattle.crash_recovery.specs.Taken.{Takes, lasting}
use Rattle.crash_recovery.specs.Torn.{IsDeadRow}
use Rattle.crash_recovery.proofs.CutLemmas.{cut_syncs, dead_ends, dead_goes, dead_none, dead_some, was_erased}
use Rattle.crash_recovery.proofs.Kept.{away_all, away_failed, away_none, can_look, claim_of, images_still, keeps_done, keeps_failed, keeps_then, keeps_undone}
use Rattle.crash_recovery.proofs.dead.erase_found.Given.{Over}
use Rattle.crash_recovery.proofs.dead.erase_found.Goals.{After-clear_blocks, In_ok-sync}
use Rattle.crash_recovery.proofs.dead.erase_found.Goals as goal

pub find_dead-requires-clause-look : goal.find_dead-requires-clause-look
find_dead-requires-clause-look g c = can_look _ _ _ _ _ c.geometry-geometry.ensures.geometry c.geometry-geometry.ensures.whole c.requires.room

pub find_dead-requires-clause-claim : goal.find_dead-requires-clause-claim
find_dead-requires-clause-claim g c = claim_of _ _ _ c.geometry-geometry.ensures.geometry c.requires.claim

pub returns-in_err-find_dead-clause-away : goal.returns-in_err-find_dead-clause-away
returns-in_err-find_dead-clause-away g c h = away_failed _ _ _ _ _ _ c.from_residual.result c.from_residual.ensures.0 (λ capacity agrees. inr (inl (c.find_dead.ensures.looks.same h)))

pub returns-in_err-find_dead-clause-keeps : goal.returns-in_err-find_dead-clause-keeps
returns-in_err-find_dead-clause-keeps g c = keeps_failed _ _ _ _ _ c.from_residual.result c.from_residual.ensures.0 c.in_err-find_dead.ensures.looks.keeps

pub returns-then-not-is_any_dead-clause-away : goal.returns-then-not-is_any_dead-clause-away
returns-then-not-is_any_dead-clause-away g c h = away_none _ _ _ _ _ _ (inr (inl (c.find_dead.ensures.looks.same h))) (c.find_dead.ensures.looks.same h) (λ capacity agrees.
    dead_none c.geometry-geometry.result (g.S.Store.held c.args.store.now) c.find_dead.new.dead c.find_dead.new.dead
    c.geometry-geometry.ensures.geometry refl
    (c.find_dead.auto.dead ∙ (c.requires.blocks ∙ ap (λ (x : Geometry). x.blocks) (sym c.geometry-geometry.ensures.geometry)))
    (c.in_ok-find_dead.ensures.finds h capacity (subst (λ (x : Geometry). Agrees x capacity (g.S.Store.held c.args.store.now).pages c.args.certificate.now) (sym c.geometry-geometry.ensures.geometry) agrees))
    (c.is_any_dead.ensures.none c.if-not-is_any_dead.true))

pub returns-then-not-is_any_dead-clause-keeps : goal.returns-then-not-is_any_dead-clause-keeps
returns-then-not-is_any_dead-clause-keeps g c = c.in_ok-find_dead.ensures.looks.keeps

pub returns-in_err-sync-clause-away : goal.returns-in_err-sync-clause-away
returns-in_err-sync-clause-away g c h = away_failed _ _ _ _ _ _ c.from_residual-in_err-sync.result c.from_residual-in_err-sync.ensures.0 (λ capacity agrees.
    inl (subst (λ (s : Held). Syncs s false (g.S.Store.held c.sync.new.self)) (c.find_dead.ensures.looks.same h) (c.in_err-sync.ensures.syncs (c.find_dead.ensures.looks.keeps.as_honest ∙ h))))

pub returns-in_err-sync-clause-keeps : goal.returns-in_err-sync-clause-keeps
returns-in_err-sync-clause-keeps g c =
    keeps_failed _ _ _ _ _ c.from_residual-in_err-sync.result c.from_residual-in_err-sync.ensures.0
    (keeps_then _ _ _ _ _ _ _ c.in_ok-find_dead.ensures.looks.keeps (keeps_undone _ _ _ _ _ c.sync.ensures.geometry c.sync.ensures.honest c.in_err-sync.ensures.rose))

pub clear_blocks-requires-clause-geometry : goal.clear_blocks-requires-clause-geometry
clear_blocks-requires-clause-geometry g c = c.sync.ensures.geometry ∙ (c.find_dead.ensures.looks.keeps.geometry ∙ sym c.geometry-geometry.ensures.geometry)

pub clear_blocks-requires-clause-images : goal.clear_blocks-requires-clause-images
clear_blocks-requires-clause-images g c h =
    let before = sym c.sync.ensures.honest ∙ h in
    (c.sync.ensures.syncs before).whole (images_still _ _ _ _ _ c.in_ok-find_dead.ensures.looks c.geometry-geometry.ensures.whole before)

-- what is kept up to the first sync
keeps_to_sync : (g : Over) (c : In_ok-sync g) → KeepsAsked g.S.Store.held g.S.Store.honest g.S.Store.failed c.args.store.now true c.sync.new.self
keeps_to_sync g c = keeps_then _ _ _ _ _ _ _ c.in_ok-find_dead.ensures.looks.keeps (keeps_done _ _ _ _ _ c.sync.ensures.geometry c.sync.ensures.honest c.in_ok-sync.ensures.settled)

-- what was erased of the blocks that were found, as far as that came
erased_so_far : (g : Over) (c : After-clear_blocks g) → g.S.Store.honest c.args.store.now ≡ true → (capacity : ℕ) → Agrees (g.S.Store.held c.args.store.now).geometry capacity (g.S.Store.held c.args.store.now).pages c.args.certificate.now
    → Takes (IsDeadRow (g.S.Store.held c.args.store.now).geometry (g.S.Store.held c.args.store.now).pages) (lasting (g.S.Store.held c.args.store.now)) (g.S.Store.held c.clear_blocks.new.store)
erased_so_far g c h capacity agrees =
    let honest = c.find_dead.ensures.looks.keeps.as_honest ∙ h in
    dead_goes c.geometry-geometry.result _ _ _ _ c.find_dead.new.dead c.find_dead.new.dead c.geometry-geometry.ensures.geometry
    (c.find_dead.ensures.looks.same h) refl
    (c.find_dead.auto.dead ∙ (c.requires.blocks ∙ ap (λ (x : Geometry). x.blocks) (sym c.geometry-geometry.ensures.geometry)))
    (c.in_ok-find_dead.ensures.finds h capacity (subst (λ (x : Geometry). Agrees x capacity (g.S.Store.held c.args.store.now).pages c.args.certificate.now) (sym c.geometry-geometry.ensures.geometry) agrees))
    (c.in_ok-sync.ensures.syncs honest) c.sync.ensures.geometry (c.clear_blocks.ensures.takes (c.sync.ensures.honest ∙ honest))

pub returns-in_err-clear_blocks-clause-away : goal.returns-in_err-clear_blocks-clause-away
returns-in_err-clear_blocks-clause-away g c h = away_failed _ _ _ _ _ _ c.from_residual-in_err-clear_blocks.result c.from_residual-in_err-clear_blocks.ensures.0 (λ capacity agrees.
    inr (inr (erased_so_far g (goal.at.returns-in_err-clear_blocks-clause-away g c).After-clear_blocks h capacity agrees)))

pub returns-in_err-clear_blocks-clause-keeps : goal.returns-in_err-clear_blocks-clause-keeps
returns-in_err-clear_blocks-clause-keeps g c =
    keeps_failed _ _ _ _ _ c.from_residual-in_err-clear_blocks.result c.from_residual-in_err-clear_blocks.ensures.0
    (keeps_then _ _ _ _ _ _ _ (keeps_to_sync g (goal.at.returns-in_err-clear_blocks-clause-keeps g c).In_ok-sync) c.in_err-clear_blocks.ensures.keeps)

pub returns-in_err-sync-2-clause-away : goal.returns-in_err-sync-2-clause-away
returns-in_err-sync-2-clause-away g c h = away_failed _ _ _ _ _ _ c.from_residual-in_err-sync-2.result c.from_residual-in_err-sync-2.ensures.0 (λ capacity agrees.
    inr (inr (cut_syncs _ _ _ _ _ (erased_so_far g (goal.at.returns-in_err-sync-2-clause-away g c).After-clear_blocks h capacity agrees)
    (c.sync-2.ensures.syncs (c.clear_blocks.ensures.keeps.as_honest ∙ (c.sync.ensures.honest ∙ (c.find_dead.ensures.looks.keeps.as_honest ∙ h)))) c.sync-2.ensures.geometry)))

pub returns-in_err-sync-2-clause-keeps : goal.returns-in_err-sync-2-clause-keeps
returns-in_err-sync-2-clause-keeps g c =
    keeps_failed _ _ _ _ _ c.from_residual-in_err-sync-2.result c.from_residual-in_err-sync-2.ensures.0
    (keeps_then _ _ _ _ _ _ _ (keeps_then _ _ _ _ _ _ _ (keeps_to_sync g (goal.at.returns-in_err-sync-2-clause-keeps g c).In_ok-sync) c.in_ok-clear_blocks.ensures.keeps)
    (keeps_undone _ _ _ _ _ c.sync-2.ensures.geometry c.sync-2.ensures.honest c.in_err-sync-2.ensures.rose))

pub returns-clause-away : goal.returns-clause-away
returns-clause-away g c h =
    let honest = c.find_dead.ensures.looks.keeps.as_honest ∙ h in
    let still = c.sync.ensures.honest ∙ honest in
    let last = c.clear_blocks.ensures.keeps.as_honest ∙ still in
    away_all _ _ _ _ _ _
    (λ capacity agrees. inr (inr (cut_syncs _ _ _ _ _ (erased_so_far g (goal.at.returns-clause-away g c).After-clear_blocks h capacity agrees) (c.sync-2.ensures.syncs last) c.sync-2.ensures.geometry)))
    (λ capacity agrees.
    let long = c.find_dead.auto.dead ∙ (c.requires.blocks ∙ ap (λ (x : Geometry). x.blocks) (sym c.geometry-geometry.ensures.geometry)) in
    let finds = c.in_ok-find_dead.ensures.finds h capacity (subst (λ (x : Geometry). Agrees x capacity (g.S.Store.held c.args.store.now).pages c.args.certificate.now) (sym c.geometry-geometry.ensures.geometry) agrees) in
    was_erased _ _
    (dead_some c.geometry-geometry.result (g.S.Store.held c.args.store.now) c.find_dead.new.dead c.find_dead.new.dead c.geometry-geometry.ensures.geometry refl long finds (c.is_any_dead.ensures.some c.if-not-is_any_dead.false))
    (dead_ends c.geometry-geometry.result _ _ _ _ _ c.find_dead.new.dead c.find_dead.new.dead c.geometry-geometry.ensures.geometry
    (c.find_dead.ensures.looks.same h) refl long finds
    (c.in_ok-sync.ensures.syncs honest) c.sync.ensures.geometry (c.clear_blocks.ensures.takes still) (c.in_ok-clear_blocks.ensures.erased still)
    (c.clear_blocks.ensures.keeps.geometry ∙ (c.sync.ensures.geometry ∙ (c.find_dead.ensures.looks.keeps.geometry ∙ sym c.geometry-geometry.ensures.geometry)))
    (c.in_ok-sync-2.ensures.syncs last) c.sync-2.ensures.geometry))

pub returns-clause-keeps : goal.returns-clause-keeps
returns-clause-keeps g c =
    keeps_then _ _ _ _ _ _ _ (keeps_then _ _ _ _ _ _ _ (keeps_to_sync g (goal.at.returns-clause-keeps g c).In_ok-sync) c.in_ok-clear_blocks.ensures.keeps)
    (keeps_done _ _ _ _ _ c.sync-2.ensures.geometry c.sync-2.ensures.honest c.in_ok-sync-2.ensures.settled)
