use Rattle.std.proofs.Common.{◌≡◌, true, refl, subst, sym}
use Rattle.std.proofs.lemmas.Bool.{both_ways}
use Rattle.disk_recovery.specs.Recovered.{HoldsRecovered, IsOpenedLeft, IsUnrecovered}
use Rattle.disk_server.specs.Disk.{contents_of}
use Rattle.disk_server.specs.Opened.{view_in}
use Rattle.disk_commands.specs.Ready.{HasCacheBy, HoldsPages, IsNoDiskBy, IsNoneOf, KeepsBy}
use Rattle.disk_commands.proofs.DamageLemmas.{told_no_disk}
use Rattle.disk_commands.proofs.ready.disk_of.Goals as goal

-- the store that is listed is the one that was given
pub returns-in-Ok-recover_listed-clause-bytes : goal.returns-in-Ok-recover_listed-clause-bytes
returns-in-Ok-recover_listed-clause-bytes g c =
    let held = g.S.Store.held in
    let honest = g.S.Store.honest in
    let failed = g.S.Store.failed in
    let bytes = (contents_of (view_in held honest failed) c.in-Ok-recover_listed.disk).bytes in
    subst (λ r. HoldsPages r c.args.found.mark.synced (honest c.args.store ≡ true) (held c.args.store) bytes) (sym c.if-words.false)
    (subst (λ s. honest s ≡ true → HoldsRecovered c.args.found.mark.synced (held s) bytes) c.in-Ok-list_first.ensures.same c.in-Ok-recover_listed.ensures.bytes)

pub returns-in-Ok-recover_listed-clause-pages : goal.returns-in-Ok-recover_listed-clause-pages
returns-in-Ok-recover_listed-clause-pages g c only = absurd (both_ways c.args.words.now.read_only c.if-words.false only)

pub returns-in-Ok-recover_listed-clause-cache : goal.returns-in-Ok-recover_listed-clause-cache
returns-in-Ok-recover_listed-clause-cache g c =
    let store = g.S.Store in
    let told = c.args.told.now in
    let mark = c.args.found.mark.synced in
    let entries = c.in-Ok-recover_listed.disk.engine.mapping.capacity in
    subst (λ r. HasCacheBy r store.held store.honest store.failed told mark c.args.store entries) (sym c.if-words.false)
    (subst (λ s. IsOpenedLeft store.held store.honest store.failed mark s told.shape.cache told.shape.share entries) c.in-Ok-list_first.ensures.same c.in-Ok-recover_listed.ensures.entries)

pub returns-in-Err-recover_listed-clause-fault : goal.returns-in-Err-recover_listed-clause-fault
returns-in-Err-recover_listed-clause-fault g c =
    let held = g.S.Store.held in
    let honest = g.S.Store.honest in
    let failed = g.S.Store.failed in
    let why = c.in-Err-recover_listed.why in
    let is_none = IsNoneOf held honest failed g.K.KeepsLost.kept g.K.KeepsLost.failed c.args.words.now.disk.now c.args.words.now.read_only c.args.told.now c.args.found c.args.store c.args.lost.now c.args.keeper.now c.list_first.new.keeper in
    let listed = subst (λ r. KeepsBy r g.K.KeepsLost.kept c.args.lost.now c.args.keeper.now c.list_first.new.keeper) (sym c.if-words.false) c.in-Ok-list_first.ensures.listed in
    let none = subst (λ r. IsNoDiskBy r held honest failed c.args.told.now c.args.found c.args.store why) (sym c.if-words.false)
    (c.in-Err-recover_listed.given, subst (λ s. IsUnrecovered held honest failed s c.args.told.now.shape.cache c.args.told.now.shape.share c.args.found.mark.synced c.in-Err-recover_listed.given why) c.in-Ok-list_first.ensures.same c.in-Err-recover_listed.ensures.fault) in
    subst is_none (sym c.no_disk-in-Err-recover_listed.ensures) (told_no_disk is_none c.args.words.now.disk why listed (λ other. (refl, other, listed, none)))

pub returns-in-Err-clause-fault : goal.returns-in-Err-clause-fault
returns-in-Err-clause-fault g c =
    let held = g.S.Store.held in
    let honest = g.S.Store.honest in
    let failed = g.S.Store.failed in
    let why = c.in-Err.why in
    let is_none = IsNoneOf held honest failed g.K.KeepsLost.kept g.K.KeepsLost.failed c.args.words.now.disk.now c.args.words.now.read_only c.args.told.now c.args.found c.args.store c.args.lost.now c.args.keeper.now c.args.keeper.now in
    let listed = subst (λ r. KeepsBy r g.K.KeepsLost.kept c.args.lost.now c.args.keeper.now c.args.keeper.now) (sym c.if-words.true) refl in
    let none = subst (λ r. IsNoDiskBy r held honest failed c.args.told.now c.args.found c.args.store why) (sym c.if-words.true) (c.in-Err.given, c.in-Err.ensures.fault) in
    subst is_none (sym c.no_disk.ensures) (told_no_disk is_none c.args.words.now.disk why listed (λ other. (refl, other, listed, none)))
