use Rattle.std.proofs.Common.{Err, Result, ap, refl, ◌∙◌}
use Rattle.std.proofs.KnownBytes.{Keeps-refl}
use Rattle.std.proofs.lemmas.Result.{err_from_is_err_and}
use Rattle.commands.specs.declared.text.CommandFault.{CommandFault}
use Rattle.commands.specs.Show.{DoesShow}
use Rattle.commands.proofs.CommandLemmas.{ended, has_image, not_whole, shown_does, unnumbered_shows, unread_shows}
use Rattle.commands.proofs.ImageLemmas.{shows_in, unshown_in}
use Rattle.commands.proofs.WordLemmas.{asks_for}
use Rattle.commands.proofs.TakenLemmas as taken
use Rattle.commands.proofs.show.show_command.Goals as goal

pub returns-in_err-asked : goal.returns-in_err-asked
returns-in_err-asked g c =
    let gives = g.F.FileStore.gives c.args.files.now in
    let stop = c.in_err-asked.field-0.0 in
    let p = err_from_is_err_and c.from_residual.result c.from_residual.ensures.1 in
    let P : Result (Unit {0}) CommandFault → Type 0 = λ r. DoesShow gives c.args.words (g.W.Write.contents c.args.out.now) (g.W.Write.contents c.args.out.now) r in
    record { does = ended P _ stop (p.1 ∙ ap Err p.2) (unnumbered_shows gives c.args.words _ _ stop (Keeps-refl _) c.in_err-asked.ensures.fault); stores = refl; takes = taken.some _ 0 _ _ c.from_residual.result stop (p.1 ∙ ap Err p.2) (taken.none _) }

pub returns-in_err-bytes : goal.returns-in_err-bytes
returns-in_err-bytes g c =
    let gives = g.F.FileStore.gives c.args.files.now in
    let its = c.in_ok-asked.asked in
    let stop = c.in_err-bytes.field-0.0 in
    let p = err_from_is_err_and c.from_residual-in_err-bytes.result c.from_residual-in_err-bytes.ensures.1 in
    let P : Result (Unit {0}) CommandFault → Type 0 = λ r. DoesShow gives c.args.words (g.W.Write.contents c.args.out.now) (g.W.Write.contents c.args.out.now) r in
    let asks = asks_for c.args.words its.geometry its.number c.in_ok-asked.ensures.ok in
    record { does = ended P _ stop (p.1 ∙ ap Err p.2) (unread_shows gives c.args.words its.geometry its.number _ _ stop asks (Keeps-refl _) c.in_err-bytes.ensures.fault); stores = c.in_err-bytes.ensures.stores; takes = taken.some _ 1 _ _ c.from_residual-in_err-bytes.result stop (p.1 ∙ ap Err p.2) c.in_err-bytes.ensures.taken }

pub returns-in-Err : goal.returns-in-Err
returns-in-Err g c =
    let its = c.in_ok-asked.asked in
    let bytes = c.in_ok-bytes.bytes.items in
    let short = not_whole its.geometry c.deref.result.now bytes c.in-Err.ensures.accepted.1 c.deref.ensures.value in
    record { does = (Keeps-refl _, (its.geometry, its.number, bytes, asks_for c.args.words its.geometry its.number c.in_ok-asked.ensures.ok, c.in_ok-bytes.ensures.ok, short)); stores = c.in_ok-bytes.ensures.stores; takes = (1, c.in_ok-bytes.ensures.taken) }

pub returns : goal.returns
returns g c =
    let geometry = c.in_ok-asked.asked.geometry in
    let row = c.in_ok-asked.asked.number in
    let bytes = c.in_ok-bytes.bytes.items in
    let flash = c.in-Ok.image.flash in
    let same = c.deref.ensures.value in
    let image = has_image (g.F.FileStore.gives c.args.files.now) c.args.words geometry row _ bytes c.in_ok-asked.ensures.ok c.in_ok-bytes.ensures.ok same (c.in-Ok.ensures.accepted.0 refl) in
    let shown = shows_in flash geometry c.deref.result.now bytes row _ _ c.print_page.result c.in-Ok.ensures.image same c.print_page.ensures.ok in
    let unshown = unshown_in flash geometry c.deref.result.now bytes row _ _ c.print_page.result c.in-Ok.ensures.image same c.print_page.ensures.fault in
    record { does = shown_does _ c.args.words geometry row bytes _ _ c.print_page.result image shown unshown; stores = c.in_ok-bytes.ensures.stores; takes = taken.all _ 1 _ _ c.print_page.result refl c.in_ok-bytes.ensures.taken }
