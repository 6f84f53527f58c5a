use Rattle.std.proofs.Common.{◌*◌, ◌+◌, ◌∙◌, ◌≤◌, inr, length, refl, subst, sym}
use Rattle.disk_server.specs.Asked.{SparesZeros}
use Rattle.disk_server.specs.Guarded.{ReadsGuarded, guarded_contents}
use Rattle.disk_server.proofs.Bytes.{sector_fits}
use Rattle.disk_server.proofs.GuardLemmas.{asked, asked_or, changed_so}
use Rattle.disk_server.proofs.GuardedLemmas.{listed_zeros, shown_zeros, zeros_failed, zeros_shown}
use Rattle.disk_server.proofs.guarded.GuardedSectorsSectors.clear_sector.Given.{Over}
use Rattle.disk_server.proofs.guarded.GuardedSectorsSectors.clear_sector.Goals.{After-know}
use Rattle.disk_server.proofs.guarded.GuardedSectorsSectors.clear_sector.Goals as goal

-- the sector lies within the disk
sector_within : (g : Over) (c : After-know g) → c.args.sector * g.S.Sectors.size c.args.self.now.sectors + g.S.Sectors.size c.args.self.now.sectors ≤ length (g.S.Sectors.contents c.args.self.now.sectors).bytes
sector_within g c = sector_fits c.args.sector (g.S.Sectors.count c.args.self.now.sectors) (g.S.Sectors.size c.args.self.now.sectors) _ c.requires.within c.know.ensures.whole

pub returns-in-Ok-clause-performs : goal.returns-in-Ok-clause-performs
returns-in-Ok-clause-performs g c =
    zeros_shown g.S.Sectors.contents g.S.Sectors.size g.S.Sectors.honest g.K.KeepsLost.kept g.S.Sectors.calm c.args.sector c.args.self.now c.know.ensures.some (g.S.Sectors.count c.args.self.now.sectors) c.requires.within c.know.ensures.whole
    c.clear_sector.new.self c.heal.new.self c.in-Ok.ensures.size c.heal.ensures.sectors c.in-Ok.ensures.performs c.heal.result c.heal.ensures.heals c.heal.ensures.unlisted c.heal.ensures.taken c.heal.ensures.fault

pub returns-in-Err-clause-performs : goal.returns-in-Err-clause-performs
returns-in-Err-clause-performs g c =
    zeros_failed g.S.Sectors.contents g.S.Sectors.size g.S.Sectors.honest g.S.Sectors.calm c.args.sector c.args.self.now c.know.ensures.some (g.S.Sectors.count c.args.self.now.sectors) c.requires.within c.know.ensures.whole
    (record { sectors = c.clear_sector.new.self; keeper = c.args.self.now.keeper; lost = c.args.self.now.lost; failed = c.args.self.now.failed })
    _ c.in-Err.ensures.size refl c.in-Err.ensures.performs

pub returns-then-is_listed-clause-spares : goal.returns-then-is_listed-clause-spares
returns-then-is_listed-clause-spares g c = λ h zeros.
    let n = c.args.sector in
    let size = g.S.Sectors.size c.args.self.now.sectors in
    let fits = sector_within g (goal.at.returns-then-is_listed-clause-spares g c).After-know in
    absurd (listed_zeros size n c.args.self.now.lost.items _ c.know.ensures.some fits (sym c.is_listed.ensures ∙ c.if-is_listed.true) zeros)

pub returns-in-Ok-clause-spares : goal.returns-in-Ok-clause-spares
returns-in-Ok-clause-spares g c =
    let n = c.args.sector in
    let size = g.S.Sectors.size c.args.self.now.sectors in
    let fits = sector_within g (goal.at.returns-in-Ok-clause-spares g c).After-know in
    let unlisted = sym c.is_listed.ensures ∙ c.if-is_listed.false in
    subst (λ d. SparesZeros (guarded_contents g.S.Sectors.contents g.S.Sectors.size) (λ x. g.S.Sectors.honest x.sectors) (ReadsGuarded g.S.Sectors.reads) (n * size) size c.args.self.now d) (sym (c.heal.ensures.unlisted unlisted).1)
    (λ h zeros. inr (c.in-Ok.ensures.spares h (shown_zeros size n c.args.self.now.lost.items _ fits unlisted zeros), record { keeper_same = refl; lost_same = refl; failed_same = refl }))

pub returns-in-Err-clause-spares : goal.returns-in-Err-clause-spares
returns-in-Err-clause-spares g c = λ h zeros.
    let n = c.args.sector in
    let size = g.S.Sectors.size c.args.self.now.sectors in
    let fits = sector_within g (goal.at.returns-in-Err-clause-spares g c).After-know in
    let unlisted = sym c.is_listed.ensures ∙ c.if-is_listed.false in
    inr (c.in-Err.ensures.spares h (shown_zeros size n c.args.self.now.lost.items _ fits unlisted zeros), record { keeper_same = refl; lost_same = refl; failed_same = refl })

pub returns-in-Ok-clause-asked : goal.returns-in-Ok-clause-asked
returns-in-Ok-clause-asked g c going unlisted = asked _ _ _ _ _ _ _ _ c.heal.result (c.heal.ensures.unlisted unlisted).0 c.heal.ensures.sectors c.in-Ok.ensures.performs

pub returns-in-Ok-clause-listed : goal.returns-in-Ok-clause-listed
returns-in-Ok-clause-listed g c going = asked_or _ _ _ _ _ _ _ _ c.heal.result _ _ c.heal.ensures.sectors c.heal.ensures.failed c.in-Ok.ensures.performs

pub returns-in-Ok-clause-changes : goal.returns-in-Ok-clause-changes
returns-in-Ok-clause-changes g c = changed_so g.S.Sectors.changes c.args.self.now c.heal.new.self c.clear_sector.new.self c.heal.result _ c.heal.ensures.sectors c.in-Ok.ensures.changes c.heal.ensures.failed c.heal.ensures.fault

pub returns-then-is_listed-clause-trimmed : goal.returns-then-is_listed-clause-trimmed
returns-then-is_listed-clause-trimmed g c = λ on. c.trim_sector.ensures.sets
