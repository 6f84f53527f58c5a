use Rattle.std.proofs.Common.{◌≡◌, inr, refl, true, None, Ok, Err, ◌+◌, ◌∙◌, ap, subst}
use Rattle.std.specs.Prelude.{is_some}
use Rattle.page_layout.specs.OnlyReads.{OnlyReads}
use Rattle.collection.proofs.Looks.{none_from}
use Rattle.std.proofs.lemmas.Result.{err_from_is_err_and}
use Rattle.promises.specs.Step as step
use Rattle.collection.specs.Safe.{ram, image_in}
use Rattle.ftl_device.proofs.LeaveLemmas.{leaves_same}
use Rattle.ftl_device.proofs.ShownLemmas.{left_after}
use Rattle.ftl_device.proofs.SpentLemmas.{five_free}
use Rattle.ftl_device.proofs.UpkeepLemmas.{upkept_by, not_upkept}
use Rattle.std.specs.Option.{ForSome}
use Rattle.ftl_device.specs.Migrate.{FindsFrom, Migrates}
use Rattle.ftl_device.specs.Brings.{HasBrought, BringsPage}
use Rattle.ftl_device.proofs.CostLemmas.{done_after}
use Rattle.ftl_device.proofs.PinLemmas.{knows_well}
use Rattle.ftl_device.proofs.CursorLemmas.{device_at, kept_ready}
use Rattle.ftl_device.proofs.ReadRefusals.{only_reads_none}
use Rattle.ftl_device.proofs.AnswerLemmas.{kept_look, no_true, no_false, no_err, no_other, not_small, not_large, told_scarce, told_fewer, told_spent}
use Rattle.ftl_device.proofs.device.Device.migrate_one.Goals as goal

pub returns-in_err-may_flush-clause-upkeeps : goal.returns-in_err-may_flush-clause-upkeeps
returns-in_err-may_flush-clause-upkeeps g c =
    let p = err_from_is_err_and c.from_residual.result c.from_residual.ensures.1 in
    rw (p.1, p.2) (not_upkept g.N.PageSource.view step.Turn c.args.self.now c.requires.device (λ reply s h. h) _ c.in_err-may_flush.ensures.may_not)

-- ---- nothing was looked for

pub returns-then-spare_bytes-lt-SPARE_FOR_VERSION_2-clause-upkeeps : goal.returns-then-spare_bytes-lt-SPARE_FOR_VERSION_2-clause-upkeeps
returns-then-spare_bytes-lt-SPARE_FOR_VERSION_2-clause-upkeeps g c =
    let d = c.args.self.now in
    let may = c.in_ok-may_flush.ensures.may in
    let five = five_free (ram d.engine) d.read_only c.requires.device.read_only may.writable in
    upkept_by g.N.PageSource.view step.Turn d d c.requires.device c.requires.device may (λ reply s h. h) d.engine _ (Ok tt) (Ok tt) refl refl refl (record {
      kept = kept_look g.N.PageSource.view d.engine d.engine tt (c.requires.device.calm may.going) refl (λ honest. refl) (leaves_same g.N.PageSource.view d.engine c.requires.device.engine may.going);
      no_memory = λ e. no_err _ _ _ refl e;
      lacks = λ honest w fault e. absurd (no_err _ _ _ refl e);
      left = λ honest w log ro flag on. left_after g.N.PageSource.view step.Turn d.engine d.engine d.engine log d.read_only ro (Ok tt) (Ok tt) 0 refl refl c.requires.device.engine.memory c.requires.device.engine.memory refl flag on (inr five);
      worth = λ honest w log its. absurd (no_true its);
    })

-- ---- a page was looked for

pub returns-in_err-finish-clause-upkeeps : goal.returns-in_err-finish-clause-upkeeps
returns-in_err-finish-clause-upkeeps g c =
    let p = err_from_is_err_and c.from_residual-in_err-finish.result c.from_residual-in_err-finish.ensures.1 in
    rw (p.1, p.2) (upkept_by g.N.PageSource.view step.Turn c.args.self.now c.finish.new.self c.requires.device c.finish.ensures.device c.in_ok-may_flush.ensures.may (λ reply s h. h)
    c.migrate_ready-answer.new.engine c.good-good.result c.migrate_ready-answer.result (Err _) c.finish.ensures.engine c.good-good.ensures c.in_err-finish.ensures.answer
    (kept_ready g.N.PageSource.view c.args.self.now c.migrate_ready-answer.new.engine c.migrate_ready-answer.result c.requires.device c.in_ok-may_flush.ensures.may
    c.migrate_ready-answer.ensures.kept c.migrate_ready-answer.ensures.memory c.migrate_ready-answer.ensures.count))

pub returns-in_default-clause-upkeeps : goal.returns-in_default-clause-upkeeps
returns-in_default-clause-upkeeps g c = upkept_by g.N.PageSource.view step.Turn c.args.self.now c.finish.new.self c.requires.device c.finish.ensures.device c.in_ok-may_flush.ensures.may
    (λ reply s h. h)
    c.migrate_ready-answer.new.engine c.good-good.result c.migrate_ready-answer.result (Ok tt) c.finish.ensures.engine c.good-good.ensures c.in_ok-finish.ensures.answer
    (kept_ready g.N.PageSource.view c.args.self.now c.migrate_ready-answer.new.engine c.migrate_ready-answer.result c.requires.device c.in_ok-may_flush.ensures.may
    c.migrate_ready-answer.ensures.kept c.migrate_ready-answer.ensures.memory c.migrate_ready-answer.ensures.count)

-- ---- and the cursor moves on

pub returns-clause-device : goal.returns-clause-device
returns-clause-device g c = device_at g.N.PageSource.view.flash c.finish.new.self (c.in-Some.row + 1) c.finish.ensures.device

pub returns-clause-upkeeps : goal.returns-clause-upkeeps
returns-clause-upkeeps g c = upkept_by g.N.PageSource.view
    step.Turn c.args.self.now (record c.finish.new.self { cursor = c.in-Some.row + 1 }) c.requires.device
    (device_at g.N.PageSource.view.flash c.finish.new.self (c.in-Some.row + 1) c.finish.ensures.device) c.in_ok-may_flush.ensures.may (λ reply s h. h)
    c.migrate_ready-answer.new.engine c.good-good.result c.migrate_ready-answer.result (Ok tt) c.finish.ensures.engine c.good-good.ensures c.in_ok-finish.ensures.answer
    (kept_ready g.N.PageSource.view c.args.self.now c.migrate_ready-answer.new.engine c.migrate_ready-answer.result c.requires.device c.in_ok-may_flush.ensures.may
    c.migrate_ready-answer.ensures.kept c.migrate_ready-answer.ensures.memory c.migrate_ready-answer.ensures.count)

-- ---- what it brought

pub returns-clause-brought : goal.returns-clause-brought
returns-clause-brought g c = λ done. done_after (λ e. ForSome c.migrate_ready-answer.new.found (λ _. HasBrought (ram c.args.self.now.engine) (ram e)))
    c.migrate_ready-answer.new.engine c.finish.new.self.engine c.migrate_ready-answer.result (Ok tt) c.good-good.result c.finish.ensures.engine
    c.in_ok-finish.ensures.answer c.migrate_ready-answer.ensures.brought c.in-Some.row c.in-Some.is

pub returns-clause-brings : goal.returns-clause-brings
returns-clause-brings g c = λ honest w done.
    let known = knows_well g.N.PageSource.view.flash c.args.self.now c.requires.device w c.in_ok-may_flush.ensures.may.going in
    let page = done_after
    (λ e. ForSome c.migrate_ready-answer.new.found (λ row. BringsPage g.N.PageSource.view row c.args.self.now.engine e))
    c.migrate_ready-answer.new.engine c.finish.new.self.engine c.migrate_ready-answer.result (Ok tt) c.good-good.result c.finish.ensures.engine
    c.in_ok-finish.ensures.answer (c.migrate_ready-answer.ensures.brings honest known) c.in-Some.row c.in-Some.is in
    let found = done_after
    (λ _. FindsFrom c.args.self.now.cursor (image_in g.N.PageSource.view.flash c.args.self.now.engine) c.migrate_ready-answer.new.found)
    c.migrate_ready-answer.new.engine c.finish.new.self.engine c.migrate_ready-answer.result (Ok tt) c.good-good.result c.finish.ensures.engine
    c.in_ok-finish.ensures.answer (c.migrate_ready-answer.ensures.next honest known) in
    record { row = c.in-Some.row; found = subst (FindsFrom c.args.self.now.cursor (image_in g.N.PageSource.view.flash c.args.self.now.engine)) c.in-Some.is found; brings = page; cursor_is = refl }

-- ---- it was refused at once

pub returns-in_err-may_flush-clause-rests : goal.returns-in_err-may_flush-clause-rests
returns-in_err-may_flush-clause-rests g c =
    let p = err_from_is_err_and c.from_residual.result c.from_residual.ensures.1 in
    rw p.1 tt

pub returns-in_err-may_flush-clause-migrates : goal.returns-in_err-may_flush-clause-migrates
returns-in_err-may_flush-clause-migrates g c =
    let p = err_from_is_err_and c.from_residual.result c.from_residual.ensures.1 in
    rw p.1 (λ honest w room. tt)

pub returns-in_err-may_flush-clause-brought : goal.returns-in_err-may_flush-clause-brought
returns-in_err-may_flush-clause-brought g c =
    let p = err_from_is_err_and c.from_residual.result c.from_residual.ensures.1 in
    λ done. absurd (no_err _ _ _ done p.1)

pub returns-in_err-may_flush-clause-brings : goal.returns-in_err-may_flush-clause-brings
returns-in_err-may_flush-clause-brings g c =
    let p = err_from_is_err_and c.from_residual.result c.from_residual.ensures.1 in
    λ honest w done. absurd (no_err _ _ _ done p.1)

pub returns-in_err-may_flush-clause-moves_on : goal.returns-in_err-may_flush-clause-moves_on
returns-in_err-may_flush-clause-moves_on g c =
    let p = err_from_is_err_and c.from_residual.result c.from_residual.ensures.1 in
    λ honest w done. absurd (no_err _ _ _ done p.1)

pub returns-in_err-may_flush-clause-device : goal.returns-in_err-may_flush-clause-device
returns-in_err-may_flush-clause-device g c = c.requires.device

pub returns-in_err-may_flush-clause-geometry : goal.returns-in_err-may_flush-clause-geometry
returns-in_err-may_flush-clause-geometry g c = refl

pub returns-in_err-may_flush-clause-stays : goal.returns-in_err-may_flush-clause-stays
returns-in_err-may_flush-clause-stays g c = λ ne. refl

pub returns-in_err-may_flush-clause-small : goal.returns-in_err-may_flush-clause-small
returns-in_err-may_flush-clause-small g c =
    let p = err_from_is_err_and c.from_residual.result c.from_residual.ensures.1 in
    rw p.1 (λ less. (refl, tt))

-- ---- the die has no room for version 2

pub returns-then-spare_bytes-lt-SPARE_FOR_VERSION_2-clause-device : goal.returns-then-spare_bytes-lt-SPARE_FOR_VERSION_2-clause-device
returns-then-spare_bytes-lt-SPARE_FOR_VERSION_2-clause-device g c = c.requires.device

pub returns-then-spare_bytes-lt-SPARE_FOR_VERSION_2-clause-geometry : goal.returns-then-spare_bytes-lt-SPARE_FOR_VERSION_2-clause-geometry
returns-then-spare_bytes-lt-SPARE_FOR_VERSION_2-clause-geometry g c = refl

pub returns-then-spare_bytes-lt-SPARE_FOR_VERSION_2-clause-small : goal.returns-then-spare_bytes-lt-SPARE_FOR_VERSION_2-clause-small
returns-then-spare_bytes-lt-SPARE_FOR_VERSION_2-clause-small g c = λ less. (refl, refl)

pub returns-then-spare_bytes-lt-SPARE_FOR_VERSION_2-clause-rests : goal.returns-then-spare_bytes-lt-SPARE_FOR_VERSION_2-clause-rests
returns-then-spare_bytes-lt-SPARE_FOR_VERSION_2-clause-rests g c = λ none. only_reads_none g.N.PageSource.view c.args.self.now.engine.nand

pub returns-then-spare_bytes-lt-SPARE_FOR_VERSION_2-clause-migrates : goal.returns-then-spare_bytes-lt-SPARE_FOR_VERSION_2-clause-migrates
returns-then-spare_bytes-lt-SPARE_FOR_VERSION_2-clause-migrates g c = λ honest w room. absurd (not_large _ _ 40 c.spare_bytes.ensures c.if-spare_bytes-lt-SPARE_FOR_VERSION_2.true room)

pub returns-then-spare_bytes-lt-SPARE_FOR_VERSION_2-clause-brought : goal.returns-then-spare_bytes-lt-SPARE_FOR_VERSION_2-clause-brought
returns-then-spare_bytes-lt-SPARE_FOR_VERSION_2-clause-brought g c = λ done. absurd (no_other _ refl done)

pub returns-then-spare_bytes-lt-SPARE_FOR_VERSION_2-clause-brings : goal.returns-then-spare_bytes-lt-SPARE_FOR_VERSION_2-clause-brings
returns-then-spare_bytes-lt-SPARE_FOR_VERSION_2-clause-brings g c = λ honest w done. absurd (no_other _ refl done)

pub returns-then-spare_bytes-lt-SPARE_FOR_VERSION_2-clause-stays : goal.returns-then-spare_bytes-lt-SPARE_FOR_VERSION_2-clause-stays
returns-then-spare_bytes-lt-SPARE_FOR_VERSION_2-clause-stays g c = λ ne. refl

pub returns-then-spare_bytes-lt-SPARE_FOR_VERSION_2-clause-moves_on : goal.returns-then-spare_bytes-lt-SPARE_FOR_VERSION_2-clause-moves_on
returns-then-spare_bytes-lt-SPARE_FOR_VERSION_2-clause-moves_on g c = λ honest w done. absurd (no_other _ refl done)

-- ---- it was refused

pub returns-in_err-finish-clause-rests : goal.returns-in_err-finish-clause-rests
returns-in_err-finish-clause-rests g c =
    let p = err_from_is_err_and c.from_residual-in_err-finish.result c.from_residual-in_err-finish.ensures.1 in
    rw p.1 tt

pub returns-in_err-finish-clause-migrates : goal.returns-in_err-finish-clause-migrates
returns-in_err-finish-clause-migrates g c =
    let p = err_from_is_err_and c.from_residual-in_err-finish.result c.from_residual-in_err-finish.ensures.1 in
    rw p.1 (λ honest w room. tt)

pub returns-in_err-finish-clause-brought : goal.returns-in_err-finish-clause-brought
returns-in_err-finish-clause-brought g c =
    let p = err_from_is_err_and c.from_residual-in_err-finish.result c.from_residual-in_err-finish.ensures.1 in
    λ done. absurd (no_err _ _ _ done p.1)

pub returns-in_err-finish-clause-brings : goal.returns-in_err-finish-clause-brings
returns-in_err-finish-clause-brings g c =
    let p = err_from_is_err_and c.from_residual-in_err-finish.result c.from_residual-in_err-finish.ensures.1 in
    λ honest w done. absurd (no_err _ _ _ done p.1)

pub returns-in_err-finish-clause-moves_on : goal.returns-in_err-finish-clause-moves_on
returns-in_err-finish-clause-moves_on g c =
    let p = err_from_is_err_and c.from_residual-in_err-finish.result c.from_residual-in_err-finish.ensures.1 in
    λ honest w done. absurd (no_err _ _ _ done p.1)

pub returns-in_err-finish-clause-device : goal.returns-in_err-finish-clause-device
returns-in_err-finish-clause-device g c = c.finish.ensures.device

pub returns-in_err-finish-clause-geometry : goal.returns-in_err-finish-clause-geometry
returns-in_err-finish-clause-geometry g c = ap (λ e. e.geometry) c.finish.ensures.engine ∙ c.migrate_ready-answer.ensures.kept.ends.geometry

pub returns-in_err-finish-clause-small : goal.returns-in_err-finish-clause-small
returns-in_err-finish-clause-small g c = λ less. absurd (not_small _ _ 40 c.spare_bytes.ensures c.if-spare_bytes-lt-SPARE_FOR_VERSION_2.false less)

pub returns-in_err-finish-clause-stays : goal.returns-in_err-finish-clause-stays
returns-in_err-finish-clause-stays g c = λ ne. c.finish.ensures.cursor

-- ---- none was found

pub returns-in_default-clause-device : goal.returns-in_default-clause-device
returns-in_default-clause-device g c = c.finish.ensures.device

pub returns-in_default-clause-geometry : goal.returns-in_default-clause-geometry
returns-in_default-clause-geometry g c = ap (λ e. e.geometry) c.finish.ensures.engine ∙ c.migrate_ready-answer.ensures.kept.ends.geometry

pub returns-in_default-clause-small : goal.returns-in_default-clause-small
returns-in_default-clause-small g c = λ less. absurd (not_small _ _ 40 c.spare_bytes.ensures c.if-spare_bytes-lt-SPARE_FOR_VERSION_2.false less)

pub returns-in_default-clause-rests : goal.returns-in_default-clause-rests
returns-in_default-clause-rests g c = λ no. done_after (λ e. c.migrate_ready-answer.new.found ≡ None → OnlyReads g.N.PageSource.view c.args.self.now.engine.nand e.nand)
    c.migrate_ready-answer.new.engine c.finish.new.self.engine c.migrate_ready-answer.result (Ok tt) c.good-good.result c.finish.ensures.engine
    c.in_ok-finish.ensures.answer c.migrate_ready-answer.ensures.rests (none_from c.migrate_ready-answer.new.found c.in_default.not-Some)

pub returns-in_default-clause-migrates : goal.returns-in_default-clause-migrates
returns-in_default-clause-migrates g c = λ honest w room.
    let known = knows_well g.N.PageSource.view.flash c.args.self.now c.requires.device w c.in_ok-may_flush.ensures.may.going in
    subst (λ o. Migrates (is_some o) c.args.self.now.engine.geometry (image_in g.N.PageSource.view.flash c.args.self.now.engine) (image_in g.N.PageSource.view.flash c.finish.new.self.engine)) (none_from c.migrate_ready-answer.new.found c.in_default.not-Some)
    (done_after (λ e. Migrates (is_some c.migrate_ready-answer.new.found) c.args.self.now.engine.geometry (image_in g.N.PageSource.view.flash c.args.self.now.engine) (image_in g.N.PageSource.view.flash e))
    c.migrate_ready-answer.new.engine c.finish.new.self.engine c.migrate_ready-answer.result (Ok tt) c.good-good.result c.finish.ensures.engine
    c.in_ok-finish.ensures.answer (c.migrate_ready-answer.ensures.migrates honest known))

pub returns-in_default-clause-brought : goal.returns-in_default-clause-brought
returns-in_default-clause-brought g c = λ done. absurd (no_other _ refl done)

pub returns-in_default-clause-brings : goal.returns-in_default-clause-brings
returns-in_default-clause-brings g c = λ honest w done. absurd (no_other _ refl done)

pub returns-in_default-clause-stays : goal.returns-in_default-clause-stays
returns-in_default-clause-stays g c = λ ne. c.finish.ensures.cursor

pub returns-in_default-clause-moves_on : goal.returns-in_default-clause-moves_on
returns-in_default-clause-moves_on g c = λ honest w done. absurd (no_other _ refl done)

-- ---- one was renewed

pub returns-clause-geometry : goal.returns-clause-geometry
returns-clause-geometry g c = ap (λ e. e.geometry) c.finish.ensures.engine ∙ c.migrate_ready-answer.ensures.kept.ends.geometry

pub returns-clause-small : goal.returns-clause-small
returns-clause-small g c = λ less. absurd (not_small _ _ 40 c.spare_bytes.ensures c.if-spare_bytes-lt-SPARE_FOR_VERSION_2.false less)

pub returns-clause-rests : goal.returns-clause-rests
returns-clause-rests g c = λ no. absurd (no_false no)

pub returns-clause-migrates : goal.returns-clause-migrates
returns-clause-migrates g c = λ honest w room.
    let known = knows_well g.N.PageSource.view.flash c.args.self.now c.requires.device w c.in_ok-may_flush.ensures.may.going in
    subst (λ o. Migrates (is_some o) c.args.self.now.engine.geometry (image_in g.N.PageSource.view.flash c.args.self.now.engine) (image_in g.N.PageSource.view.flash c.finish.new.self.engine)) c.in-Some.is
    (done_after (λ e. Migrates (is_some c.migrate_ready-answer.new.found) c.args.self.now.engine.geometry (image_in g.N.PageSource.view.flash c.args.self.now.engine) (image_in g.N.PageSource.view.flash e))
    c.migrate_ready-answer.new.engine c.finish.new.self.engine c.migrate_ready-answer.result (Ok tt) c.good-good.result c.finish.ensures.engine
    c.in_ok-finish.ensures.answer (c.migrate_ready-answer.ensures.migrates honest known))

pub returns-clause-stays : goal.returns-clause-stays
returns-clause-stays g c = λ ne. absurd (ne refl)

pub returns-clause-moves_on : goal.returns-clause-moves_on
returns-clause-moves_on g c = λ honest w done.
    let known = knows_well g.N.PageSource.view.flash c.args.self.now c.requires.device w c.in_ok-may_flush.ensures.may.going in
    let found = done_after (λ _. FindsFrom c.args.self.now.cursor (image_in g.N.PageSource.view.flash c.args.self.now.engine) c.migrate_ready-answer.new.found)
    c.migrate_ready-answer.new.engine c.finish.new.self.engine c.migrate_ready-answer.result (Ok tt) c.good-good.result c.finish.ensures.engine
    c.in_ok-finish.ensures.answer (c.migrate_ready-answer.ensures.next honest known) in
    record { row = c.in-Some.row; found = subst (FindsFrom c.args.self.now.cursor (image_in g.N.PageSource.view.flash c.args.self.now.engine)) c.in-Some.is found; after_is = refl }

-- ---- what the calls want

pub finish-requires : goal.finish-requires
finish-requires g c =
    let ends = c.migrate_ready-answer.ensures.kept.ends in
    record {
      safe = ends.safe;
      fault = ends.fault;
      scarce = told_scarce c.migrate_ready-answer.result (ram c.args.self.now.engine) (ram c.migrate_ready-answer.new.engine) ends.tells;
      fewer = told_fewer c.migrate_ready-answer.result (ram c.args.self.now.engine) (ram c.migrate_ready-answer.new.engine) _ c.good-good.ensures ends.tells;
      calm = ends.calm_memory;
      spent = told_spent c.migrate_ready-answer.result (ram c.args.self.now.engine) (ram c.migrate_ready-answer.new.engine) ends.tells;
    }

pub migrate_ready-answer-requires : goal.migrate_ready-answer-requires
migrate_ready-answer-requires g c =
    let may = c.in_ok-may_flush.ensures.may in
    record { safe = c.requires.device.engine; going = may.going; calm = c.requires.device.calm may.going }
