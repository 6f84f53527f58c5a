use Rattle.std.proofs.Common.{◌∙◌, ◌<◌, ◌≤◌, Err, ap, sym, subst, refl, inr, OnOk}
use Rattle.std.proofs.lemmas.Result.{err_from_is_err_and}
use Rattle.page_layout.specs.declared.geometry.Geometry.{Geometry}
use Rattle.page_layout.specs.Geometry.{row_count}
use Rattle.collection.specs.State.{Ram}
use Rattle.collection.specs.Safe.{ram, image_in}
use Rattle.collection.specs.Renew.{HasNoneDue}
use Rattle.collection.proofs.Looks.{none_from, ok_not_bus}
use Rattle.collection.specs.Left.{IsCalm}
use Rattle.allocation.specs.State.{free_count}
use Rattle.ftl_device.specs.Calls.{Knows}
use Rattle.ftl_device.specs.Shortage.{HasFunds, CallShort}
use Rattle.ftl_device.specs.Migrate.{Renews, FindsFrom}
use Rattle.ftl_device.proofs.CursorLemmas.{due_from}
use Rattle.ftl_device.proofs.LeaveLemmas.{limits_same}
use Rattle.ftl_device.proofs.MigrateLemmas.{over, kept_after, look_stuck, none_old, ok_fewer, ok_some, still_ok, look_short}
use Rattle.ftl_device.proofs.AnswerLemmas.{no_some, no_err, no_memory, on_ok, from_0, free_still, kept_look, some_rests}
use Rattle.ftl_device.specs.Brings.{HasBrought, BringsPage}
use Rattle.ftl_device.proofs.BringLemmas.{ok_brings}
use Rattle.ftl_device.proofs.migrate.migrate_ready.Goals as goal

pub returns-in_default-clause-count : goal.returns-in_default-clause-count
returns-in_default-clause-count g c = λ known five.
    inr (free_still (ram c.args.engine.now) (ram c.next_from.new.engine) _ c.next_from.ensures.still five)

pub returns-in_default-clause-migrates : goal.returns-in_default-clause-migrates
returns-in_default-clause-migrates g c = λ honest w.
    let found = c.in_ok-next.ensures.truth honest w in
    let none = subst (FindsFrom c.args.cursor (image_in g.N.PageSource.view.flash c.args.engine.now)) (none_from c.in_ok-next.next c.in_default.not-Some) found in
    none_old c.args.engine.now.geometry (image_in g.N.PageSource.view.flash c.args.engine.now) (image_in g.N.PageSource.view.flash c.next_from.new.engine)
    (λ row. subst (HasNoneDue row) (ap (λ f. f.image) (sym (c.in_ok-next.ensures.same honest))) (none row (from_0 row)))

pub returns-clause-kept : goal.returns-clause-kept
returns-clause-kept g c =
    let same = still_ok (ram c.args.engine.now) (ram c.next_from.new.engine) c.next_from.ensures.still (c.in_ok-next.ensures.leaves.fault ∙ sym c.requires.going) in
    kept_after g.N.PageSource.view c.args.engine.now c.next_from.new.engine c.renew_ready.new.engine _ c.renew_ready.result same c.in_ok-next.ensures.same c.in_ok-next.ensures.leaves c.renew_ready.ensures.kept

pub returns-clause-count : goal.returns-clause-count
returns-clause-count g c = λ known five.
    let old = c.args.engine.now in
    let mid = c.next_from.new.engine in
    let same = still_ok (ram old) (ram mid) c.next_from.ensures.still (c.in_ok-next.ensures.leaves.fault ∙ sym c.requires.going) in
    let still = ap (λ f. f.image) (c.in_ok-next.ensures.same known.0) in
    over (λ r i. HasFunds (g.N.PageSource.view.honest mid.nand) r i → 5 ≤ free_count r.blocks → CallShort r (ram c.renew_ready.new.engine) c.renew_ready.result) (ram old) (ram mid) _ _ same still
    c.renew_ready.ensures.count (c.in_ok-next.ensures.leaves.die.honest_is ∙ known.0, known.1, known.2) five

pub returns-clause-migrates : goal.returns-clause-migrates
returns-clause-migrates g c = λ honest w.
    let old = c.args.engine.now in
    let mid = c.next_from.new.engine in
    let same = still_ok (ram old) (ram mid) c.next_from.ensures.still (c.in_ok-next.ensures.leaves.fault ∙ sym c.requires.going) in
    let still = ap (λ f. f.image) (c.in_ok-next.ensures.same honest) in
    let found = subst (FindsFrom c.args.cursor (image_in g.N.PageSource.view.flash old)) c.in-Some.is (c.in_ok-next.ensures.truth honest w) in
    let renews = over (λ r i. Knows r i → OnOk c.renew_ready.result (Renews c.in-Some.row r.geometry i (image_in g.N.PageSource.view.flash c.renew_ready.new.engine))) (ram old) (ram mid) _ _ same still
    (c.renew_ready.ensures.renews (c.in_ok-next.ensures.leaves.die.honest_is ∙ honest)) w in
    ok_fewer c.renew_ready.result old.geometry _ _ c.in-Some.row w.truth.one (due_from c.args.cursor c.in-Some.row _ found) renews

pub returns-clause-brought : goal.returns-clause-brought
returns-clause-brought g c =
    let old = c.args.engine.now in
    let mid = c.next_from.new.engine in
    let same = still_ok (ram old) (ram mid) c.next_from.ensures.still (c.in_ok-next.ensures.leaves.fault ∙ sym c.requires.going) in
    ok_some (λ _. HasBrought (ram old) (ram c.renew_ready.new.engine)) c.renew_ready.result c.in-Some.row (subst (λ r. OnOk c.renew_ready.result (HasBrought r (ram c.renew_ready.new.engine))) same c.renew_ready.ensures.brought)

pub returns-clause-brings : goal.returns-clause-brings
returns-clause-brings g c = λ honest w.
    let old = c.args.engine.now in
    let mid = c.next_from.new.engine in
    let same = still_ok (ram old) (ram mid) c.next_from.ensures.still (c.in_ok-next.ensures.leaves.fault ∙ sym c.requires.going) in
    let flashes = c.in_ok-next.ensures.same honest in
    let brings = over (λ r i. Knows r i → OnOk c.renew_ready.result (BringsPage g.N.PageSource.view c.in-Some.row mid c.renew_ready.new.engine)) (ram old) (ram mid) _ _ same (ap (λ f. f.image) flashes)
    (c.renew_ready.ensures.brings (c.in_ok-next.ensures.leaves.die.honest_is ∙ honest)) w in
    ok_some (λ row. BringsPage g.N.PageSource.view row old c.renew_ready.new.engine) c.renew_ready.result c.in-Some.row
    (ok_brings g.N.PageSource.view c.in-Some.row old mid c.renew_ready.new.engine c.renew_ready.result same flashes (c.in_ok-next.ensures.leaves.went honest (ok_not_bus c.in_ok-next.next)) brings)

-- ---- the look was refused

pub returns-in_err-next-clause-kept : goal.returns-in_err-next-clause-kept
returns-in_err-next-clause-kept g c =
    let p = err_from_is_err_and c.from_residual.result c.from_residual.ensures.1 in
    rw (p.1, p.2)
    (look_stuck g.N.PageSource.view c.args.engine.now c.next_from.new.engine _ c.in_err-next.ensures.leaves (limits_same _ _ (ap (λ (r : Ram). r.mapping) c.next_from.ensures.still)) c.in_err-next.ensures.truth)

pub returns-in_err-next-clause-memory : goal.returns-in_err-next-clause-memory
returns-in_err-next-clause-memory g c =
    let p = err_from_is_err_and c.from_residual.result c.from_residual.ensures.1 in
    no_memory _ _ (p.1 ∙ ap Err p.2)

pub returns-in_err-next-clause-count : goal.returns-in_err-next-clause-count
returns-in_err-next-clause-count g c =
    let p = err_from_is_err_and c.from_residual.result c.from_residual.ensures.1 in
    rw (p.1, p.2) (λ known five. look_short _ (ram c.args.engine.now) (ram c.next_from.new.engine) c.in_err-next.ensures.faults)

pub returns-in_err-next-clause-rests : goal.returns-in_err-next-clause-rests
returns-in_err-next-clause-rests g c =
    let p = err_from_is_err_and c.from_residual.result c.from_residual.ensures.1 in
    rw p.1 tt

pub returns-in_err-next-clause-migrates : goal.returns-in_err-next-clause-migrates
returns-in_err-next-clause-migrates g c =
    let p = err_from_is_err_and c.from_residual.result c.from_residual.ensures.1 in
    rw p.1 (λ honest w. tt)

pub returns-in_err-next-clause-row : goal.returns-in_err-next-clause-row
returns-in_err-next-clause-row g c =
    let p = err_from_is_err_and c.from_residual.result c.from_residual.ensures.1 in
    rw p.1 tt

pub returns-in_err-next-clause-brought : goal.returns-in_err-next-clause-brought
returns-in_err-next-clause-brought g c =
    let p = err_from_is_err_and c.from_residual.result c.from_residual.ensures.1 in
    rw p.1 tt

pub returns-in_err-next-clause-brings : goal.returns-in_err-next-clause-brings
returns-in_err-next-clause-brings g c =
    let p = err_from_is_err_and c.from_residual.result c.from_residual.ensures.1 in
    rw p.1 (λ honest w. tt)

pub returns-in_err-next-clause-next : goal.returns-in_err-next-clause-next
returns-in_err-next-clause-next g c =
    let p = err_from_is_err_and c.from_residual.result c.from_residual.ensures.1 in
    rw p.1 (λ honest w. tt)

-- ---- no page was found

pub returns-in_default-clause-kept : goal.returns-in_default-clause-kept
returns-in_default-clause-kept g c =
    let same = still_ok (ram c.args.engine.now) (ram c.next_from.new.engine) c.next_from.ensures.still (c.in_ok-next.ensures.leaves.fault ∙ sym c.requires.going) in
    kept_look g.N.PageSource.view c.args.engine.now c.next_from.new.engine _ c.requires.calm same c.in_ok-next.ensures.same c.in_ok-next.ensures.leaves

pub returns-in_default-clause-memory : goal.returns-in_default-clause-memory
returns-in_default-clause-memory g c = λ bad. no_err _ _ _ refl bad

pub returns-in_default-clause-rests : goal.returns-in_default-clause-rests
returns-in_default-clause-rests g c = λ none. c.next_from.ensures.only_reads

pub returns-in_default-clause-row : goal.returns-in_default-clause-row
returns-in_default-clause-row g c = λ row is. absurd (no_some _ _ refl is)

pub returns-in_default-clause-brought : goal.returns-in_default-clause-brought
returns-in_default-clause-brought g c = λ row is. absurd (no_some _ _ refl is)

pub returns-in_default-clause-brings : goal.returns-in_default-clause-brings
returns-in_default-clause-brings g c = λ honest w row is. absurd (no_some _ _ refl is)

pub returns-in_default-clause-next : goal.returns-in_default-clause-next
returns-in_default-clause-next g c = λ honest w. subst (FindsFrom c.args.cursor (image_in g.N.PageSource.view.flash c.args.engine.now)) (none_from c.in_ok-next.next c.in_default.not-Some) (c.in_ok-next.ensures.truth honest w)

-- ---- it was renewed

pub returns-clause-memory : goal.returns-clause-memory
returns-clause-memory g c = c.renew_ready.ensures.memory

pub returns-clause-rests : goal.returns-clause-rests
returns-clause-rests g c = some_rests c.renew_ready.result c.in-Some.row _

pub returns-clause-row : goal.returns-clause-row
returns-clause-row g c = ok_some (λ row. row < row_count c.args.engine.now.geometry) c.renew_ready.result c.in-Some.row (on_ok c.renew_ready.result _ (c.in_ok-next.ensures.row c.in-Some.row c.in-Some.is))

pub returns-clause-next : goal.returns-clause-next
returns-clause-next g c = λ honest w. on_ok c.renew_ready.result _ (subst (FindsFrom c.args.cursor (image_in g.N.PageSource.view.flash c.args.engine.now)) c.in-Some.is (c.in_ok-next.ensures.truth honest w))

-- ---- what the calls want

pub renew_ready-requires : goal.renew_ready-requires
renew_ready-requires g c =
    let same = still_ok (ram c.args.engine.now) (ram c.next_from.new.engine) c.next_from.ensures.still (c.in_ok-next.ensures.leaves.fault ∙ sym c.requires.going) in
    record {
      safe = c.in_ok-next.ensures.leaves.safe;
      going = c.in_ok-next.ensures.leaves.fault;
      calm = subst IsCalm (sym same) c.requires.calm;
      row = subst (λ (geometry : Geometry). c.in-Some.row < row_count geometry) (sym (ap (λ (r : Ram). r.geometry) c.next_from.ensures.still)) (c.in_ok-next.ensures.row c.in-Some.row c.in-Some.is);
    }
