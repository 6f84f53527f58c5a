use Rattle.std.proofs.Common.{◌≡◌, ◌∙◌, ℕ, true, refl, sym, subst, ap}
use Rattle.page_layout.specs.declared.geometry.Geometry.{Geometry}
use Rattle.image_check.specs.Agrees.{Agrees}
use Rattle.crash_recovery.specs.Taken.{Takes}
use Rattle.crash_recovery.specs.Torn.{IsCut}
use Rattle.crash_recovery.proofs.CutLemmas.{cut_ends, cut_goes, cut_none, cut_some, cut_syncs, was_cut}
use Rattle.crash_recovery.proofs.Kept.{away_all, away_failed, away_none, can_look, claim_of, images_still, keeps_done, keeps_failed, keeps_then, keeps_undone}
use Rattle.crash_recovery.proofs.TakesLemmas.{takes_same}
use Rattle.crash_recovery.proofs.cut.cut_found.Given.{Over}
use Rattle.crash_recovery.proofs.cut.cut_found.Goals.{After-cut_blocks}
use Rattle.crash_recovery.proofs.cut.cut_found.Goals as goal

pub find_cuts-requires-clause-look : goal.find_cuts-requires-clause-look
find_cuts-requires-clause-look g c = can_look _ _ _ _ _ c.geometry-geometry.ensures.geometry c.geometry-geometry.ensures.whole c.requires.room

pub find_cuts-requires-clause-claim : goal.find_cuts-requires-clause-claim
find_cuts-requires-clause-claim g c = claim_of _ _ _ c.geometry-geometry.ensures.geometry c.requires.claim

pub returns-in_err-find_cuts-clause-away : goal.returns-in_err-find_cuts-clause-away
returns-in_err-find_cuts-clause-away g c h = away_failed _ _ _ _ _ _ c.from_residual.result c.from_residual.ensures.0 (λ capacity agrees. takes_same _ _ _ (c.find_cuts.ensures.looks.same h))

pub returns-in_err-find_cuts-clause-keeps : goal.returns-in_err-find_cuts-clause-keeps
returns-in_err-find_cuts-clause-keeps g c = keeps_failed _ _ _ _ _ c.from_residual.result c.from_residual.ensures.0 c.in_err-find_cuts.ensures.looks.keeps

pub returns-then-not-is_any_cut-clause-away : goal.returns-then-not-is_any_cut-clause-away
returns-then-not-is_any_cut-clause-away g c h = away_none _ _ _ _ _ _ (takes_same _ _ _ (c.find_cuts.ensures.looks.same h)) (c.find_cuts.ensures.looks.same h) (λ capacity agrees.
    cut_none c.geometry-geometry.result (g.S.Store.held c.args.store.now) c.args.mark c.find_cuts.new.cuts c.find_cuts.new.cuts
    c.geometry-geometry.ensures.geometry refl
    (c.find_cuts.auto.cuts ∙ (c.requires.blocks ∙ ap (λ (x : Geometry). x.blocks) (sym c.geometry-geometry.ensures.geometry)))
    (c.in_ok-find_cuts.ensures.finds h capacity (subst (λ (x : Geometry). Agrees x capacity (g.S.Store.held c.args.store.now).pages c.args.certificate.now) (sym c.geometry-geometry.ensures.geometry) agrees))
    (c.is_any_cut.ensures.none c.if-not-is_any_cut.true))

pub returns-then-not-is_any_cut-clause-keeps : goal.returns-then-not-is_any_cut-clause-keeps
returns-then-not-is_any_cut-clause-keeps g c = c.in_ok-find_cuts.ensures.looks.keeps

pub cut_blocks-requires-clause-geometry : goal.cut_blocks-requires-clause-geometry
cut_blocks-requires-clause-geometry g c = c.find_cuts.ensures.looks.keeps.geometry ∙ sym c.geometry-geometry.ensures.geometry

pub cut_blocks-requires-clause-images : goal.cut_blocks-requires-clause-images
cut_blocks-requires-clause-images g c = images_still _ _ _ _ _ c.in_ok-find_cuts.ensures.looks c.geometry-geometry.ensures.whole

-- what was cut of the blocks that were found, as far as that came
cut_so_far : (g : Over) (c : After-cut_blocks g) → g.S.Store.honest c.args.store.now ≡ true → (capacity : ℕ) → Agrees (g.S.Store.held c.args.store.now).geometry capacity (g.S.Store.held c.args.store.now).pages c.args.certificate.now
    → Takes (IsCut (g.S.Store.held c.args.store.now).geometry (g.S.Store.held c.args.store.now).pages c.args.mark) (g.S.Store.held c.args.store.now) (g.S.Store.held c.cut_blocks.new.store)
cut_so_far g c h capacity agrees =
    cut_goes c.geometry-geometry.result _ _ _ c.args.mark c.find_cuts.new.cuts c.find_cuts.new.cuts c.geometry-geometry.ensures.geometry
    (c.find_cuts.ensures.looks.same h) refl
    (c.find_cuts.auto.cuts ∙ (c.requires.blocks ∙ ap (λ (x : Geometry). x.blocks) (sym c.geometry-geometry.ensures.geometry)))
    (c.in_ok-find_cuts.ensures.finds h capacity (subst (λ (x : Geometry). Agrees x capacity (g.S.Store.held c.args.store.now).pages c.args.certificate.now) (sym c.geometry-geometry.ensures.geometry) agrees))
    (c.cut_blocks.ensures.takes (c.find_cuts.ensures.looks.keeps.as_honest ∙ h))

pub returns-in_err-cut_blocks-clause-away : goal.returns-in_err-cut_blocks-clause-away
returns-in_err-cut_blocks-clause-away g c h =
    away_failed _ _ _ _ _ _ c.from_residual-in_err-cut_blocks.result c.from_residual-in_err-cut_blocks.ensures.0 (cut_so_far g (goal.at.returns-in_err-cut_blocks-clause-away g c).After-cut_blocks h)

pub returns-in_err-cut_blocks-clause-keeps : goal.returns-in_err-cut_blocks-clause-keeps
returns-in_err-cut_blocks-clause-keeps g c =
    keeps_failed _ _ _ _ _ c.from_residual-in_err-cut_blocks.result c.from_residual-in_err-cut_blocks.ensures.0
    (keeps_then _ _ _ _ _ _ _ c.in_ok-find_cuts.ensures.looks.keeps c.in_err-cut_blocks.ensures.keeps)

pub returns-in_err-sync-clause-away : goal.returns-in_err-sync-clause-away
returns-in_err-sync-clause-away g c h = away_failed _ _ _ _ _ _ c.from_residual-in_err-sync.result c.from_residual-in_err-sync.ensures.0 (λ capacity agrees.
    cut_syncs _ _ _ _ _ (cut_so_far g (goal.at.returns-in_err-sync-clause-away g c).After-cut_blocks h capacity agrees)
    (c.sync.ensures.syncs (c.cut_blocks.ensures.keeps.as_honest ∙ (c.find_cuts.ensures.looks.keeps.as_honest ∙ h))) c.sync.ensures.geometry)

pub returns-in_err-sync-clause-keeps : goal.returns-in_err-sync-clause-keeps
returns-in_err-sync-clause-keeps g c =
    keeps_failed _ _ _ _ _ c.from_residual-in_err-sync.result c.from_residual-in_err-sync.ensures.0
    (keeps_then _ _ _ _ _ _ _ (keeps_then _ _ _ _ _ _ _ c.in_ok-find_cuts.ensures.looks.keeps c.in_ok-cut_blocks.ensures.keeps)
    (keeps_undone _ _ _ _ _ c.sync.ensures.geometry c.sync.ensures.honest c.in_err-sync.ensures.rose))

pub returns-clause-away : goal.returns-clause-away
returns-clause-away g c h =
    let honest = c.find_cuts.ensures.looks.keeps.as_honest ∙ h in
    let still = c.cut_blocks.ensures.keeps.as_honest ∙ honest in
    away_all _ _ _ _ _ _
    (λ capacity agrees. cut_syncs _ _ _ _ _ (cut_so_far g (goal.at.returns-clause-away g c).After-cut_blocks h capacity agrees) (c.sync.ensures.syncs still) c.sync.ensures.geometry)
    (λ capacity agrees.
    let long = c.find_cuts.auto.cuts ∙ (c.requires.blocks ∙ ap (λ (x : Geometry). x.blocks) (sym c.geometry-geometry.ensures.geometry)) in
    let finds = c.in_ok-find_cuts.ensures.finds h capacity (subst (λ (x : Geometry). Agrees x capacity (g.S.Store.held c.args.store.now).pages c.args.certificate.now) (sym c.geometry-geometry.ensures.geometry) agrees) in
    was_cut c.args.mark _ _
    (cut_some c.geometry-geometry.result (g.S.Store.held c.args.store.now) c.args.mark c.find_cuts.new.cuts c.find_cuts.new.cuts c.geometry-geometry.ensures.geometry refl long finds (c.is_any_cut.ensures.some c.if-not-is_any_cut.false))
    (cut_ends c.geometry-geometry.result _ _ _ _ c.args.mark c.find_cuts.new.cuts c.find_cuts.new.cuts c.geometry-geometry.ensures.geometry
    (c.find_cuts.ensures.looks.same h) refl long finds
    (c.cut_blocks.ensures.takes honest) (c.in_ok-cut_blocks.ensures.erased honest)
    (c.cut_blocks.ensures.keeps.geometry ∙ (c.find_cuts.ensures.looks.keeps.geometry ∙ sym c.geometry-geometry.ensures.geometry))
    (c.in_ok-sync.ensures.syncs still) c.sync.ensures.geometry))

pub returns-clause-keeps : goal.returns-clause-keeps
returns-clause-keeps g c =
    keeps_then _ _ _ _ _ _ _ (keeps_then _ _ _ _ _ _ _ c.in_ok-find_cuts.ensures.looks.keeps c.in_ok-cut_blocks.ensures.keeps)
    (keeps_done _ _ _ _ _ c.sync.ensures.geometry c.sync.ensures.honest c.in_ok-sync.ensures.settled)
