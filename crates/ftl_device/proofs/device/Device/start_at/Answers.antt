use Rattle.std.proofs.Common.{◌≡◌, ◌∙◌, ap, sym, subst, refl, None}
use Rattle.page_layout.specs.declared.geometry.Geometry.{Geometry}
use Rattle.certificate.specs.Claim.{Claim, sizes_of}
use Rattle.certificate.specs.Spelling.{Fits}
use Rattle.collection.specs.State.{Ram}
use Rattle.collection.specs.Safe.{ram}
use Rattle.collection.specs.Truth.{IsTrue}
use Rattle.ftl_device.proofs.GeometryLemmas.{same_geometry}
use Rattle.ftl_device.proofs.StartLemmas.{begun_from, started_calm, directory_row, same_scarce, started_good, started_truth, started_free, started_accounts}
use Rattle.ftl_device.proofs.device.Device.start_at.Goals as goal

geometry_is : (g h : Geometry) (claim given : Claim) → sizes_of g ≡ claim.sizes → sizes_of h ≡ given.sizes → given ≡ claim → g ≡ h
geometry_is g h claim given first second same = same_geometry g h (first ∙ (ap (λ (c : Claim). c.sizes) (sym same) ∙ sym second))

pub new-requires-2-clause-same_geometry : goal.new-requires-2-clause-same_geometry
new-requires-2-clause-same_geometry g c = geometry_is (g.N.PageSource.view.flash c.args.nand).geometry c.geometry-geometry.result c.args.accepted.claim c.certificate-certificate.result.now c.requires.same_geometry c.geometry-geometry.ensures.is c.certificate-certificate.ensures

pub new-requires-2-clause-rows : goal.new-requires-2-clause-rows
new-requires-2-clause-rows g c = λ k row at.
    directory_row c.geometry-geometry.result c.certificate-certificate.result.now c.in-Ok.known.directory k row c.geometry-geometry.ensures.fits (sym c.geometry-geometry.ensures.is)
    (c.in-Ok.ensures.directory ∙ ap (λ (x : Claim). x.directory) (sym c.certificate-certificate.ensures)) at

pub returns-in-Ok-new-clause-begun : goal.returns-in-Ok-new-clause-begun
returns-in-Ok-new-clause-begun g c =
    let claim = c.args.accepted.claim in
    let same = geometry_is (g.N.PageSource.view.flash c.args.nand).geometry c.geometry-geometry.result claim c.certificate-certificate.result.now c.requires.same_geometry c.geometry-geometry.ensures.is c.certificate-certificate.ensures in
    begun_from c.args.share (g.N.PageSource.view.flash c.args.nand).geometry c.geometry-geometry.result _ _ _ _ claim c.args.accepted.stale _ (sym same)
    c.in-Ok.ensures.directory c.in-Ok.ensures.mapping c.in-Ok.ensures.states
    (c.next_sequence-next.ensures ∙ ap (λ (x : Claim). x.next) c.certificate-certificate.ensures) c.in-Ok-new.ensures.memory

pub returns-in-Ok-new-clause-device : goal.returns-in-Ok-new-clause-device
returns-in-Ok-new-clause-device g c =
    let none : c.in-Ok-new.engine.fault ≡ None = ap (λ (r : Ram). r.fault) c.in-Ok-new.ensures.memory in
    record {
      engine = c.in-Ok-new.ensures.safe;
      read_only = same_scarce c.free-read_only.result (ram c.in-Ok-new.engine) _ c.free-read_only.ensures c.in-Ok-new.ensures.memory;
      refuses = λ e. absurd (cc (none, e));
      spent = λ e. absurd (cc (none, e));
      calm = λ going. started_calm c.args.share (g.N.PageSource.view.flash c.args.nand).geometry c.args.accepted.claim c.args.accepted.stale (ram c.in-Ok-new.engine) (returns-in-Ok-new-clause-begun g c);
    }

pub returns-in-Ok-new-clause-good : goal.returns-in-Ok-new-clause-good
returns-in-Ok-new-clause-good g c =
    started_good c.args.share _ c.args.accepted.claim c.args.accepted.stale (ram c.in-Ok-new.engine) (subst Fits c.certificate-certificate.ensures c.geometry-geometry.ensures.fits) (returns-in-Ok-new-clause-begun g c)

pub returns-in-Ok-new-clause-truth : goal.returns-in-Ok-new-clause-truth
returns-in-Ok-new-clause-truth g c = λ honest accepted.
    subst (λ n. IsTrue None (ram c.in-Ok-new.engine) (g.N.PageSource.view.flash n).image) (sym c.in-Ok-new.ensures.die)
    (started_truth c.args.share (g.N.PageSource.view.flash c.args.nand) c.args.accepted (ram c.in-Ok-new.engine) (returns-in-Ok-new-clause-begun g c) accepted)

pub returns-in-Ok-new-clause-free : goal.returns-in-Ok-new-clause-free
returns-in-Ok-new-clause-free g c = λ honest accepted.
    same_scarce c.free-read_only.result (ram c.in-Ok-new.engine) _ c.free-read_only.ensures c.in-Ok-new.ensures.memory
    ∙ started_free c.args.share (g.N.PageSource.view.flash c.args.nand) c.args.accepted (ram c.in-Ok-new.engine) (returns-in-Ok-new-clause-begun g c) accepted

pub returns-in-Ok-new-clause-accounts : goal.returns-in-Ok-new-clause-accounts
returns-in-Ok-new-clause-accounts g c = λ honest accepted.
    started_accounts c.args.share (g.N.PageSource.view.flash c.args.nand) c.args.accepted (ram c.in-Ok-new.engine) (returns-in-Ok-new-clause-begun g c) accepted

-- ---- memory was refused

pub returns-in_default-clause-device : goal.returns-in_default-clause-device
returns-in_default-clause-device g c = tt

pub returns-in_default-clause-nand : goal.returns-in_default-clause-nand
returns-in_default-clause-nand g c = tt

pub returns-in_default-clause-cursor : goal.returns-in_default-clause-cursor
returns-in_default-clause-cursor g c = tt

pub returns-in_default-clause-begun : goal.returns-in_default-clause-begun
returns-in_default-clause-begun g c = tt

pub returns-in_default-clause-good : goal.returns-in_default-clause-good
returns-in_default-clause-good g c = tt

pub returns-in_default-clause-truth : goal.returns-in_default-clause-truth
returns-in_default-clause-truth g c = tt

pub returns-in_default-clause-free : goal.returns-in_default-clause-free
returns-in_default-clause-free g c = tt

pub returns-in_default-clause-accounts : goal.returns-in_default-clause-accounts
returns-in_default-clause-accounts g c = tt

pub returns-clause-device : goal.returns-clause-device
returns-clause-device g c = tt

pub returns-clause-nand : goal.returns-clause-nand
returns-clause-nand g c = tt

pub returns-clause-cursor : goal.returns-clause-cursor
returns-clause-cursor g c = tt

pub returns-clause-begun : goal.returns-clause-begun
returns-clause-begun g c = tt

pub returns-clause-good : goal.returns-clause-good
returns-clause-good g c = tt

pub returns-clause-truth : goal.returns-clause-truth
returns-clause-truth g c = tt

pub returns-clause-free : goal.returns-clause-free
returns-clause-free g c = tt

pub returns-clause-accounts : goal.returns-clause-accounts
returns-clause-accounts g c = tt

pub returns-in-Ok-new-clause-cursor : goal.returns-in-Ok-new-clause-cursor
returns-in-Ok-new-clause-cursor g c = refl

pub returns-in-Ok-new-clause-fault : goal.returns-in-Ok-new-clause-fault
returns-in-Ok-new-clause-fault g c = tt
