use Rattle.std.proofs.Common.{◌≡◌, ◌<◌, ◌∙◌, ap, sym, subst, None, Ok, Err, OnOk}
use Rattle.std.specs.Prelude.{IfOk}
use Rattle.std.specs.Option.{ForSome}
use Rattle.std.proofs.lemmas.Result.{err_from_is_err_and}
use Rattle.page_layout.specs.declared.geometry.Geometry.{Geometry}
use Rattle.page_layout.specs.Geometry.{row_count}
use Rattle.collection.proofs.Acts.{reads_then}
use Rattle.collection.proofs.Looks.{ok_not_bus}
use Rattle.collection.specs.State.{Ram}
use Rattle.collection.specs.Safe.{ram, image_in}
use Rattle.collection.specs.Renew.{FindsDue}
use Rattle.ftl_device.proofs.LeaveLemmas.{leaves_then}
use Rattle.ftl_device.proofs.MigrateLemmas.{still_ok, keeps_look}
use Rattle.ftl_device.proofs.CursorLemmas.{leaves_look}
use Rattle.ftl_device.proofs.AnswerLemmas.{finds_anew, finds_ahead, none_of}
use Rattle.ftl_device.proofs.migrate.next_from.Goals as goal

pub returns-clause-leaves : goal.returns-clause-leaves
returns-clause-leaves g c =
    let old = c.args.engine.now in
    let mid = c.next_old.new.self in
    let stands = c.in_ok-ahead.ensures.stands in
    let same : ram mid ≡ ram old = still_ok (ram old) (ram mid) c.next_old.ensures.still stands.fault in
    let going : mid.fault ≡ None = stands.fault ∙ c.requires.going in
    leaves_then g.N.PageSource.view old mid c.next_old-2.new.self _ c.next_old-2.result
    (keeps_look g.N.PageSource.view old mid same c.in_ok-ahead.ensures.same)
    (record { geometry = ap (λ (r : Ram). r.mapping.geometry) same; capacity = ap (λ (r : Ram). r.mapping.capacity) same; share = ap (λ (r : Ram). r.mapping.share) same })
    (leaves_look g.N.PageSource.view old mid
    (Ok c.in_ok-ahead.ahead) c.requires.going stands c.next_old.ensures.still tt
    (λ honest k ne. c.in_ok-ahead.ensures.stops honest c.requires.going k.truth ne)
    (λ honest k bus. absurd (ok_not_bus c.in_ok-ahead.ahead bus)))
    (leaves_look g.N.PageSource.view mid
    c.next_old-2.new.self c.next_old-2.result going c.next_old-2.ensures.stands c.next_old-2.ensures.still (c.next_old-2.ensures.faults going)
    (λ honest k ne. c.next_old-2.ensures.stops honest going k.truth ne)
    (λ honest k bus. c.next_old-2.ensures.cut honest going k.truth bus))

-- ---- the first look was refused

pub returns-in_err-ahead-clause-leaves : goal.returns-in_err-ahead-clause-leaves
returns-in_err-ahead-clause-leaves g c =
    let p = err_from_is_err_and c.from_residual.result c.from_residual.ensures.1 in
    rw (p.1, p.2) (leaves_look g.N.PageSource.view c.args.engine.now c.next_old.new.self
    (Err _) c.requires.going c.in_err-ahead.ensures.stands c.next_old.ensures.still (c.in_err-ahead.ensures.faults c.requires.going)
    (λ honest k ne. c.in_err-ahead.ensures.stops honest c.requires.going k.truth ne)
    (λ honest k bus. c.in_err-ahead.ensures.cut honest c.requires.going k.truth bus))

pub returns-in_err-ahead-clause-only_reads : goal.returns-in_err-ahead-clause-only_reads
returns-in_err-ahead-clause-only_reads g c = c.next_old.ensures.only_reads

pub returns-in_err-ahead-clause-still : goal.returns-in_err-ahead-clause-still
returns-in_err-ahead-clause-still g c = c.next_old.ensures.still

pub returns-in_err-ahead-clause-same : goal.returns-in_err-ahead-clause-same
returns-in_err-ahead-clause-same g c =
    let p = err_from_is_err_and c.from_residual.result c.from_residual.ensures.1 in
    rw p.1 (λ honest. tt)

pub returns-in_err-ahead-clause-faults : goal.returns-in_err-ahead-clause-faults
returns-in_err-ahead-clause-faults g c =
    let p = err_from_is_err_and c.from_residual.result c.from_residual.ensures.1 in
    rw (p.1, p.2) (c.in_err-ahead.ensures.faults c.requires.going)

pub returns-in_err-ahead-clause-row : goal.returns-in_err-ahead-clause-row
returns-in_err-ahead-clause-row g c =
    let p = err_from_is_err_and c.from_residual.result c.from_residual.ensures.1 in
    rw p.1 tt

pub returns-in_err-ahead-clause-truth : goal.returns-in_err-ahead-clause-truth
returns-in_err-ahead-clause-truth g c =
    let p = err_from_is_err_and c.from_residual.result c.from_residual.ensures.1 in
    rw (p.1, p.2) (λ honest k. c.in_err-ahead.ensures.truth honest c.requires.going k.truth)

-- ---- another one began at row 0

pub returns-clause-only_reads : goal.returns-clause-only_reads
returns-clause-only_reads g c = reads_then c.args.engine.now.nand c.next_old.new.self.nand c.next_old-2.new.self.nand c.next_old.ensures.only_reads c.next_old-2.ensures.only_reads

pub returns-clause-still : goal.returns-clause-still
returns-clause-still g c = c.next_old-2.ensures.still ∙ ap (λ (r : Ram). record r { fault = c.next_old-2.new.self.fault }) c.next_old.ensures.still

pub returns-clause-same : goal.returns-clause-same
returns-clause-same g c = λ honest. subst (λ s. OnOk c.next_old-2.result (g.N.PageSource.view.flash c.next_old-2.new.self.nand ≡ s)) (c.in_ok-ahead.ensures.same honest) (c.next_old-2.ensures.same (c.next_old.ensures.stands.honest_is ∙ honest))

pub returns-clause-faults : goal.returns-clause-faults
returns-clause-faults g c = c.next_old-2.ensures.faults (c.in_ok-ahead.ensures.stands.fault ∙ c.requires.going)

pub returns-clause-row : goal.returns-clause-row
returns-clause-row g c = subst (λ (geometry : Geometry). IfOk c.next_old-2.result (λ found. ForSome found (λ row. row < row_count geometry))) (ap (λ (r : Ram). r.geometry) c.next_old.ensures.still) c.next_old-2.ensures.row

pub returns-clause-truth : goal.returns-clause-truth
returns-clause-truth g c =
    let same : ram c.next_old.new.self ≡ ram c.args.engine.now = still_ok (ram c.args.engine.now) (ram c.next_old.new.self) c.next_old.ensures.still c.in_ok-ahead.ensures.stands.fault in
    λ honest k. finds_anew c.next_old-2.result c.args.cursor (ram c.args.engine.now) (ram c.next_old.new.self) (image_in g.N.PageSource.view.flash c.args.engine.now) (image_in g.N.PageSource.view.flash c.next_old.new.self) same (ap (λ f. f.image) (c.in_ok-ahead.ensures.same honest))
    (subst (FindsDue c.args.cursor (image_in g.N.PageSource.view.flash c.args.engine.now)) (none_of c.in_ok-ahead.ahead c.is_some.result c.is_some.ensures c.if-is_some.false) (c.in_ok-ahead.ensures.truth honest c.requires.going k.truth))
    k.truth (λ is_true. c.next_old-2.ensures.truth (c.next_old.ensures.stands.honest_is ∙ honest) (c.in_ok-ahead.ensures.stands.fault ∙ c.requires.going) is_true)

-- ---- one was found, or it began at row 0

pub returns-then-is_some-clause-leaves : goal.returns-then-is_some-clause-leaves
returns-then-is_some-clause-leaves g c = leaves_look g.N.PageSource.view c.args.engine.now c.next_old.new.self
    (Ok c.in_ok-ahead.ahead) c.requires.going c.in_ok-ahead.ensures.stands c.next_old.ensures.still tt
    (λ honest k ne. c.in_ok-ahead.ensures.stops honest c.requires.going k.truth ne)
    (λ honest k bus. absurd (ok_not_bus c.in_ok-ahead.ahead bus))

pub returns-then-is_some-clause-only_reads : goal.returns-then-is_some-clause-only_reads
returns-then-is_some-clause-only_reads g c = c.next_old.ensures.only_reads

pub returns-then-is_some-clause-still : goal.returns-then-is_some-clause-still
returns-then-is_some-clause-still g c = c.next_old.ensures.still

pub returns-then-is_some-clause-same : goal.returns-then-is_some-clause-same
returns-then-is_some-clause-same g c = c.in_ok-ahead.ensures.same

pub returns-then-is_some-clause-faults : goal.returns-then-is_some-clause-faults
returns-then-is_some-clause-faults g c = tt

pub returns-then-is_some-clause-row : goal.returns-then-is_some-clause-row
returns-then-is_some-clause-row g c = c.in_ok-ahead.ensures.row

pub returns-then-is_some-clause-truth : goal.returns-then-is_some-clause-truth
returns-then-is_some-clause-truth g c = λ honest k. finds_ahead c.in_ok-ahead.ahead c.is_some.result c.args.cursor (image_in g.N.PageSource.view.flash c.args.engine.now) c.is_some.ensures c.then-is_some.either (c.in_ok-ahead.ensures.truth honest c.requires.going k.truth)

-- ---- what the calls want
