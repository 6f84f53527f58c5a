use Rattle.std.proofs.Common.{◌<◌, ◌∙◌, Err, refl, sym, ap, subst}
use Rattle.std.proofs.lemmas.Result.{err_from_is_err_and}
use Rattle.std.specs.Map.{keys_of}
use Rattle.page_layout.specs.Geometry.{translation_pages, table_pages}
use Rattle.collection.specs.Safe.{ram, image_in}
use Rattle.collection.proofs.Lefts.{calm_law}
use Rattle.ftl_device.specs.Flush.{IsClean, HasNewTables}
use Rattle.ftl_device.specs.FlushSteps.{FlushesPages}
use Rattle.ftl_device.proofs.FlushLoops.{clean_then, flushed_by}
use Rattle.ftl_device.proofs.FlushRooms.{begin_refused, tables_done, tables_stuck}
use Rattle.ftl_device.proofs.FlushRuns.{passed_1, passed_2, passed_3, stuck_then, kept_then, pages_end, room_end, table_ready}
use Rattle.ftl_device.proofs.SpentLemmas.{flush_tables}
use Rattle.ftl_device.proofs.LeaveLemmas.{kept_stuck, limits_same}
use Rattle.ftl_device.proofs.AnswerLemmas.{no_err, no_memory}
use Rattle.ftl_device.proofs.flush.flush_ready.Goals as goal

-- ---- it is done

pub returns-clause-kept : goal.returns-clause-kept
returns-clause-kept g c =
    let roomed = passed_3 g.N.PageSource.view c.args.engine.now c.begin_flush.new.engine c.flush_translations.new.engine c.make_flush_room.new.engine c.in_ok-begin_flush.ensures.flushes c.in_ok-flush_translations.ensures.flushes c.in_ok-make_flush_room.ensures.flushes in
    kept_then g.N.PageSource.view c.args.engine.now c.make_flush_room.new.engine c.write_tables.new.engine roomed tt c.in_ok-write_tables.ensures.leaves (limits_same _ _ c.write_tables.ensures.mapping)
    (λ none. calm_law (ram c.make_flush_room.new.engine) (ram c.write_tables.new.engine) c.write_tables.ensures.beside c.in_ok-make_flush_room.ensures.flushes.calm) (λ honest k. (c.in_ok-write_tables.ensures.truth honest k).keeps)

pub returns-clause-flushed : goal.returns-clause-flushed
returns-clause-flushed g c = λ honest w.
    let roomed = passed_3 g.N.PageSource.view c.args.engine.now c.begin_flush.new.engine c.flush_translations.new.engine c.make_flush_room.new.engine c.in_ok-begin_flush.ensures.flushes c.in_ok-flush_translations.ensures.flushes c.in_ok-make_flush_room.ensures.flushes in
    let clean = clean_then c.args.engine.now.geometry c.flush_translations.new.engine.geometry c.flush_translations.new.engine.mapping c.make_flush_room.new.engine.mapping
    (c.flush_translations.ensures.flushes.leaves.geometry ∙ c.begin_flush.ensures.flushes.leaves.geometry)
    (let P : _ → Type 0 = λ h. (t : _) → t < translation_pages h → IsClean h t c.flush_translations.new.engine.mapping in subst P c.begin_flush.ensures.flushes.leaves.geometry c.in_ok-flush_translations.ensures.clean)
    c.in_ok-make_flush_room.ensures.cleans in
    flushed_by c.args.engine.now.geometry c.make_flush_room.new.engine.geometry c.make_flush_room.new.engine.mapping (ram c.write_tables.new.engine) _ _ (c.write_tables.ensures.leaves.geometry ∙ roomed.leaves.geometry) roomed.leaves.geometry clean
    c.write_tables.ensures.mapping (c.in_ok-write_tables.ensures.truth (roomed.leaves.die.honest_is ∙ honest) (roomed.keeps honest w).truth)

pub returns-clause-clean : goal.returns-clause-clean
returns-clause-clean g c =
    let now = clean_then c.args.engine.now.geometry c.flush_translations.new.engine.geometry c.flush_translations.new.engine.mapping c.make_flush_room.new.engine.mapping
    (c.flush_translations.ensures.flushes.leaves.geometry ∙ c.begin_flush.ensures.flushes.leaves.geometry)
    (let P : _ → Type 0 = λ h. (t : _) → t < translation_pages h → IsClean h t c.flush_translations.new.engine.mapping in subst P c.begin_flush.ensures.flushes.leaves.geometry c.in_ok-flush_translations.ensures.clean)
    c.in_ok-make_flush_room.ensures.cleans in
    λ t lt. subst (λ m. IsClean c.args.engine.now.geometry t m) (sym c.write_tables.ensures.mapping) (now t lt)

pub returns-clause-renewed : goal.returns-clause-renewed
returns-clause-renewed g c = λ honest w.
    let roomed = passed_3 g.N.PageSource.view c.args.engine.now c.begin_flush.new.engine c.flush_translations.new.engine c.make_flush_room.new.engine c.in_ok-begin_flush.ensures.flushes c.in_ok-flush_translations.ensures.flushes c.in_ok-make_flush_room.ensures.flushes in
    let spells = c.in_ok-write_tables.ensures.truth (roomed.leaves.die.honest_is ∙ honest) (roomed.keeps honest w).truth in
    subst (λ h. HasNewTables (table_pages h) h (image_in g.N.PageSource.view.flash c.write_tables.new.engine)) roomed.leaves.geometry spells.renewed

pub returns-clause-pins : goal.returns-clause-pins
returns-clause-pins g c = λ none. ap (λ p. p.block) c.write_tables.ensures.beside.pin ∙ c.in_ok-make_flush_room.ensures.flushes.pins (c.in_ok-flush_translations.ensures.flushes.pins (c.in_ok-begin_flush.ensures.flushes.pins none))

pub returns-clause-programs : goal.returns-clause-programs
returns-clause-programs g c = record {
  begun = c.begin_flush.new.engine;
  back = c.flush_translations.new.engine;
  ready = c.make_flush_room.new.engine;
  begins = c.in_ok-begin_flush.ensures.begins;
  pages = subst (λ h. FlushesPages g.N.PageSource.view (translation_pages h) c.begin_flush.new.engine c.flush_translations.new.engine) c.begin_flush.ensures.flushes.leaves.geometry c.in_ok-flush_translations.ensures.pages;
  cleared = c.in_ok-make_flush_room.ensures.cleared;
  tables = c.in_ok-write_tables.ensures.rounds;
}

pub returns-clause-memory : goal.returns-clause-memory
returns-clause-memory g c = λ bad. no_err _ _ _ refl bad

pub returns-clause-keys : goal.returns-clause-keys
returns-clause-keys g c = ap (λ m. keys_of m.cached) c.write_tables.ensures.mapping ∙ (c.make_flush_room.ensures.flushes.keys.keys ∙ (c.flush_translations.ensures.flushes.keys.keys ∙ c.begin_flush.ensures.flushes.keys.keys))

-- ---- its free blocks

pub returns-clause-count : goal.returns-clause-count
returns-clause-count g c = λ known.
    let begun = passed_1 g.N.PageSource.view c.args.engine.now c.begin_flush.new.engine c.in_ok-begin_flush.ensures.flushes in
    let paged = passed_2 g.N.PageSource.view c.args.engine.now c.begin_flush.new.engine c.flush_translations.new.engine c.in_ok-begin_flush.ensures.flushes c.in_ok-flush_translations.ensures.flushes in
    let ready = table_ready (ram c.args.engine.now) (ram c.begin_flush.new.engine) c.begin_flush.ensures.flushes.leaves.safe.memory c.begin_flush.ensures.flushes.leaves.geometry
    c.begin_flush.ensures.flushes.keys.limits.share known.2 (λ none. ap (λ e. ram e) (c.in_ok-begin_flush.ensures.begins.still none)) (λ some. c.in_ok-begin_flush.ensures.count some known.0 known.1 0 known.2)
    (ram c.flush_translations.new.engine) (ram c.make_flush_room.new.engine) c.flush_translations.ensures.flushes.leaves.geometry c.flush_translations.ensures.flushes.keys.limits.share
    (λ none. c.in_ok-flush_translations.ensures.count none (begun.leaves.die.honest_is ∙ known.0) (begun.keeps known.0 known.1).truth) c.in_ok-flush_translations.ensures.spends
    c.in_ok-make_flush_room.ensures.flushes.leaves.tells (λ none. c.in_ok-make_flush_room.ensures.count none (paged.leaves.die.honest_is ∙ known.0) (paged.keeps known.0 known.1).truth) c.in_ok-make_flush_room.ensures.spends in
    tables_done (ram c.args.engine.now) (ram c.make_flush_room.new.engine) (ram c.write_tables.new.engine) ready c.in_ok-write_tables.ensures.leaves.tells c.in_ok-write_tables.ensures.cost

pub returns-in_err-write_tables-clause-count : goal.returns-in_err-write_tables-clause-count
returns-in_err-write_tables-clause-count g c =
    let p = err_from_is_err_and c.from_residual-in_err-write_tables.result c.from_residual-in_err-write_tables.ensures.1 in
    rw (p.1, p.2) (λ known.
    let begun = passed_1 g.N.PageSource.view c.args.engine.now c.begin_flush.new.engine c.in_ok-begin_flush.ensures.flushes in
    let paged = passed_2 g.N.PageSource.view c.args.engine.now c.begin_flush.new.engine c.flush_translations.new.engine c.in_ok-begin_flush.ensures.flushes c.in_ok-flush_translations.ensures.flushes in
    flush_tables _ (ram c.args.engine.now) (ram c.make_flush_room.new.engine) (ram c.write_tables.new.engine) c.in_err-write_tables.ensures.leaves.tells
    (λ is less. tables_stuck (ram c.args.engine.now) (ram c.make_flush_room.new.engine) (ram c.write_tables.new.engine)
    (table_ready (ram c.args.engine.now) (ram c.begin_flush.new.engine) c.begin_flush.ensures.flushes.leaves.safe.memory c.begin_flush.ensures.flushes.leaves.geometry
    c.begin_flush.ensures.flushes.keys.limits.share known.2 (λ none. ap (λ e. ram e) (c.in_ok-begin_flush.ensures.begins.still none)) (λ some. c.in_ok-begin_flush.ensures.count some known.0 known.1 0 known.2)
    (ram c.flush_translations.new.engine) (ram c.make_flush_room.new.engine) c.flush_translations.ensures.flushes.leaves.geometry c.flush_translations.ensures.flushes.keys.limits.share
    (λ none. c.in_ok-flush_translations.ensures.count none (begun.leaves.die.honest_is ∙ known.0) (begun.keeps known.0 known.1).truth) c.in_ok-flush_translations.ensures.spends
    c.in_ok-make_flush_room.ensures.flushes.leaves.tells (λ none. c.in_ok-make_flush_room.ensures.count none (paged.leaves.die.honest_is ∙ known.0) (paged.keeps known.0 known.1).truth) c.in_ok-make_flush_room.ensures.spends) less (c.in_err-write_tables.ensures.out is)))

pub returns-in_err-begin_flush-clause-count : goal.returns-in_err-begin_flush-clause-count
returns-in_err-begin_flush-clause-count g c =
    let p = err_from_is_err_and c.from_residual.result c.from_residual.ensures.1 in
    let some = c.in_err-begin_flush.ensures.shared in
    rw (p.1, p.2) (λ known. begin_refused (ram c.args.engine.now) (ram c.begin_flush.new.engine) some c.begin_flush.ensures.flushes.leaves.safe.memory c.begin_flush.ensures.flushes.leaves.geometry
    c.begin_flush.ensures.flushes.keys.limits.share _ (c.in_err-begin_flush.ensures.count some known.0 known.1 0 known.2))

pub returns-in_err-flush_translations-clause-count : goal.returns-in_err-flush_translations-clause-count
returns-in_err-flush_translations-clause-count g c =
    let p = err_from_is_err_and c.from_residual-in_err-flush_translations.result c.from_residual-in_err-flush_translations.ensures.1 in
    rw (p.1, p.2) (λ known.
    let begun = passed_1 g.N.PageSource.view c.args.engine.now c.begin_flush.new.engine c.in_ok-begin_flush.ensures.flushes in
    pages_end (ram c.args.engine.now) (ram c.begin_flush.new.engine) c.begin_flush.ensures.flushes.leaves.safe.memory c.begin_flush.ensures.flushes.leaves.geometry
    c.begin_flush.ensures.flushes.keys.limits.share known.2 (λ none. ap (λ e. ram e) (c.in_ok-begin_flush.ensures.begins.still none)) (λ some. c.in_ok-begin_flush.ensures.count some known.0 known.1 0 known.2) _ (ram c.flush_translations.new.engine)
    (λ none. c.in_err-flush_translations.ensures.count none (begun.leaves.die.honest_is ∙ known.0) (begun.keeps known.0 known.1).truth) c.in_err-flush_translations.ensures.spends)

pub returns-in_err-make_flush_room-clause-count : goal.returns-in_err-make_flush_room-clause-count
returns-in_err-make_flush_room-clause-count g c =
    let p = err_from_is_err_and c.from_residual-in_err-make_flush_room.result c.from_residual-in_err-make_flush_room.ensures.1 in
    rw (p.1, p.2) (λ known.
    let begun = passed_1 g.N.PageSource.view c.args.engine.now c.begin_flush.new.engine c.in_ok-begin_flush.ensures.flushes in
    let paged = passed_2 g.N.PageSource.view c.args.engine.now c.begin_flush.new.engine c.flush_translations.new.engine c.in_ok-begin_flush.ensures.flushes c.in_ok-flush_translations.ensures.flushes in
    room_end (ram c.args.engine.now) (ram c.begin_flush.new.engine) c.begin_flush.ensures.flushes.leaves.safe.memory c.begin_flush.ensures.flushes.leaves.geometry
    c.begin_flush.ensures.flushes.keys.limits.share known.2 (λ none. ap (λ e. ram e) (c.in_ok-begin_flush.ensures.begins.still none)) (λ some. c.in_ok-begin_flush.ensures.count some known.0 known.1 0 known.2)
    (ram c.flush_translations.new.engine) (ram c.make_flush_room.new.engine) c.flush_translations.ensures.flushes.leaves.geometry c.flush_translations.ensures.flushes.keys.limits.share
    (λ none. c.in_ok-flush_translations.ensures.count none (begun.leaves.die.honest_is ∙ known.0) (begun.keeps known.0 known.1).truth) c.in_ok-flush_translations.ensures.spends _
    c.in_err-make_flush_room.ensures.flushes.leaves.tells (λ none. c.in_err-make_flush_room.ensures.count none (paged.leaves.die.honest_is ∙ known.0) (paged.keeps known.0 known.1).truth) c.in_err-make_flush_room.ensures.spends)

-- ---- it was refused

pub returns-in_err-begin_flush-clause-kept : goal.returns-in_err-begin_flush-clause-kept
returns-in_err-begin_flush-clause-kept g c =
    let p = err_from_is_err_and c.from_residual.result c.from_residual.ensures.1 in
    let on = c.in_err-begin_flush.ensures.flushes in
    rw (p.1, p.2) (kept_stuck g.N.PageSource.view c.args.engine.now c.begin_flush.new.engine _ on.leaves on.keys.limits on.truth)

pub returns-in_err-flush_translations-clause-kept : goal.returns-in_err-flush_translations-clause-kept
returns-in_err-flush_translations-clause-kept g c =
    let p = err_from_is_err_and c.from_residual-in_err-flush_translations.result c.from_residual-in_err-flush_translations.ensures.1 in
    let on = c.in_err-flush_translations.ensures.flushes in
    let begun = passed_1 g.N.PageSource.view c.args.engine.now c.begin_flush.new.engine c.in_ok-begin_flush.ensures.flushes in
    rw (p.1, p.2) (stuck_then g.N.PageSource.view c.args.engine.now c.begin_flush.new.engine c.flush_translations.new.engine begun _ on.leaves on.keys.limits on.truth)

pub returns-in_err-make_flush_room-clause-kept : goal.returns-in_err-make_flush_room-clause-kept
returns-in_err-make_flush_room-clause-kept g c =
    let p = err_from_is_err_and c.from_residual-in_err-make_flush_room.result c.from_residual-in_err-make_flush_room.ensures.1 in
    let on = c.in_err-make_flush_room.ensures.flushes in
    let paged = passed_2 g.N.PageSource.view c.args.engine.now c.begin_flush.new.engine c.flush_translations.new.engine c.in_ok-begin_flush.ensures.flushes c.in_ok-flush_translations.ensures.flushes in
    rw (p.1, p.2) (stuck_then g.N.PageSource.view c.args.engine.now c.flush_translations.new.engine c.make_flush_room.new.engine paged _ on.leaves on.keys.limits on.truth)

pub returns-in_err-write_tables-clause-kept : goal.returns-in_err-write_tables-clause-kept
returns-in_err-write_tables-clause-kept g c =
    let p = err_from_is_err_and c.from_residual-in_err-write_tables.result c.from_residual-in_err-write_tables.ensures.1 in
    let roomed = passed_3 g.N.PageSource.view c.args.engine.now c.begin_flush.new.engine c.flush_translations.new.engine c.make_flush_room.new.engine c.in_ok-begin_flush.ensures.flushes c.in_ok-flush_translations.ensures.flushes c.in_ok-make_flush_room.ensures.flushes in
    rw (p.1, p.2)
    (stuck_then g.N.PageSource.view c.args.engine.now c.make_flush_room.new.engine c.write_tables.new.engine roomed _ c.in_err-write_tables.ensures.leaves (limits_same _ _ c.write_tables.ensures.mapping) c.in_err-write_tables.ensures.truth)

-- ---- nothing more is said of a refusal

pub returns-in_err-begin_flush-clause-memory : goal.returns-in_err-begin_flush-clause-memory
returns-in_err-begin_flush-clause-memory g c =
    let p = err_from_is_err_and c.from_residual.result c.from_residual.ensures.1 in
    no_memory _ _ (p.1 ∙ ap Err p.2)

pub returns-in_err-begin_flush-clause-keys : goal.returns-in_err-begin_flush-clause-keys
returns-in_err-begin_flush-clause-keys g c = c.begin_flush.ensures.flushes.keys.keys

pub returns-in_err-begin_flush-clause-pins : goal.returns-in_err-begin_flush-clause-pins
returns-in_err-begin_flush-clause-pins g c =
    let p = err_from_is_err_and c.from_residual.result c.from_residual.ensures.1 in
    rw p.1 tt

pub returns-in_err-begin_flush-clause-clean : goal.returns-in_err-begin_flush-clause-clean
returns-in_err-begin_flush-clause-clean g c =
    let p = err_from_is_err_and c.from_residual.result c.from_residual.ensures.1 in
    rw p.1 tt

pub returns-in_err-begin_flush-clause-programs : goal.returns-in_err-begin_flush-clause-programs
returns-in_err-begin_flush-clause-programs g c =
    let p = err_from_is_err_and c.from_residual.result c.from_residual.ensures.1 in
    rw p.1 tt

pub returns-in_err-begin_flush-clause-flushed : goal.returns-in_err-begin_flush-clause-flushed
returns-in_err-begin_flush-clause-flushed g c =
    let p = err_from_is_err_and c.from_residual.result c.from_residual.ensures.1 in
    rw p.1 (λ honest w. tt)

pub returns-in_err-begin_flush-clause-renewed : goal.returns-in_err-begin_flush-clause-renewed
returns-in_err-begin_flush-clause-renewed g c =
    let p = err_from_is_err_and c.from_residual.result c.from_residual.ensures.1 in
    rw p.1 (λ honest w. tt)

pub returns-in_err-flush_translations-clause-memory : goal.returns-in_err-flush_translations-clause-memory
returns-in_err-flush_translations-clause-memory g c =
    let p = err_from_is_err_and c.from_residual-in_err-flush_translations.result c.from_residual-in_err-flush_translations.ensures.1 in
    no_memory _ _ (p.1 ∙ ap Err p.2)

pub returns-in_err-flush_translations-clause-keys : goal.returns-in_err-flush_translations-clause-keys
returns-in_err-flush_translations-clause-keys g c = c.flush_translations.ensures.flushes.keys.keys ∙ c.begin_flush.ensures.flushes.keys.keys

pub returns-in_err-flush_translations-clause-pins : goal.returns-in_err-flush_translations-clause-pins
returns-in_err-flush_translations-clause-pins g c =
    let p = err_from_is_err_and c.from_residual-in_err-flush_translations.result c.from_residual-in_err-flush_translations.ensures.1 in
    rw p.1 tt

pub returns-in_err-flush_translations-clause-clean : goal.returns-in_err-flush_translations-clause-clean
returns-in_err-flush_translations-clause-clean g c =
    let p = err_from_is_err_and c.from_residual-in_err-flush_translations.result c.from_residual-in_err-flush_translations.ensures.1 in
    rw p.1 tt

pub returns-in_err-flush_translations-clause-programs : goal.returns-in_err-flush_translations-clause-programs
returns-in_err-flush_translations-clause-programs g c =
    let p = err_from_is_err_and c.from_residual-in_err-flush_translations.result c.from_residual-in_err-flush_translations.ensures.1 in
    rw p.1 tt

pub returns-in_err-flush_translations-clause-flushed : goal.returns-in_err-flush_translations-clause-flushed
returns-in_err-flush_translations-clause-flushed g c =
    let p = err_from_is_err_and c.from_residual-in_err-flush_translations.result c.from_residual-in_err-flush_translations.ensures.1 in
    rw p.1 (λ honest w. tt)

pub returns-in_err-flush_translations-clause-renewed : goal.returns-in_err-flush_translations-clause-renewed
returns-in_err-flush_translations-clause-renewed g c =
    let p = err_from_is_err_and c.from_residual-in_err-flush_translations.result c.from_residual-in_err-flush_translations.ensures.1 in
    rw p.1 (λ honest w. tt)

pub returns-in_err-make_flush_room-clause-memory : goal.returns-in_err-make_flush_room-clause-memory
returns-in_err-make_flush_room-clause-memory g c =
    let p = err_from_is_err_and c.from_residual-in_err-make_flush_room.result c.from_residual-in_err-make_flush_room.ensures.1 in
    no_memory _ _ (p.1 ∙ ap Err p.2)

pub returns-in_err-make_flush_room-clause-keys : goal.returns-in_err-make_flush_room-clause-keys
returns-in_err-make_flush_room-clause-keys g c = c.make_flush_room.ensures.flushes.keys.keys ∙ (c.flush_translations.ensures.flushes.keys.keys ∙ c.begin_flush.ensures.flushes.keys.keys)

pub returns-in_err-make_flush_room-clause-pins : goal.returns-in_err-make_flush_room-clause-pins
returns-in_err-make_flush_room-clause-pins g c =
    let p = err_from_is_err_and c.from_residual-in_err-make_flush_room.result c.from_residual-in_err-make_flush_room.ensures.1 in
    rw p.1 tt

pub returns-in_err-make_flush_room-clause-clean : goal.returns-in_err-make_flush_room-clause-clean
returns-in_err-make_flush_room-clause-clean g c =
    let p = err_from_is_err_and c.from_residual-in_err-make_flush_room.result c.from_residual-in_err-make_flush_room.ensures.1 in
    rw p.1 tt

pub returns-in_err-make_flush_room-clause-programs : goal.returns-in_err-make_flush_room-clause-programs
returns-in_err-make_flush_room-clause-programs g c =
    let p = err_from_is_err_and c.from_residual-in_err-make_flush_room.result c.from_residual-in_err-make_flush_room.ensures.1 in
    rw p.1 tt

pub returns-in_err-make_flush_room-clause-flushed : goal.returns-in_err-make_flush_room-clause-flushed
returns-in_err-make_flush_room-clause-flushed g c =
    let p = err_from_is_err_and c.from_residual-in_err-make_flush_room.result c.from_residual-in_err-make_flush_room.ensures.1 in
    rw p.1 (λ honest w. tt)

pub returns-in_err-make_flush_room-clause-renewed : goal.returns-in_err-make_flush_room-clause-renewed
returns-in_err-make_flush_room-clause-renewed g c =
    let p = err_from_is_err_and c.from_residual-in_err-make_flush_room.result c.from_residual-in_err-make_flush_room.ensures.1 in
    rw p.1 (λ honest w. tt)

pub returns-in_err-write_tables-clause-memory : goal.returns-in_err-write_tables-clause-memory
returns-in_err-write_tables-clause-memory g c =
    let p = err_from_is_err_and c.from_residual-in_err-write_tables.result c.from_residual-in_err-write_tables.ensures.1 in
    no_memory _ _ (p.1 ∙ ap Err p.2)

pub returns-in_err-write_tables-clause-keys : goal.returns-in_err-write_tables-clause-keys
returns-in_err-write_tables-clause-keys g c = ap (λ m. keys_of m.cached) c.write_tables.ensures.mapping ∙ (c.make_flush_room.ensures.flushes.keys.keys ∙ (c.flush_translations.ensures.flushes.keys.keys ∙ c.begin_flush.ensures.flushes.keys.keys))

pub returns-in_err-write_tables-clause-pins : goal.returns-in_err-write_tables-clause-pins
returns-in_err-write_tables-clause-pins g c =
    let p = err_from_is_err_and c.from_residual-in_err-write_tables.result c.from_residual-in_err-write_tables.ensures.1 in
    rw p.1 tt

pub returns-in_err-write_tables-clause-clean : goal.returns-in_err-write_tables-clause-clean
returns-in_err-write_tables-clause-clean g c =
    let p = err_from_is_err_and c.from_residual-in_err-write_tables.result c.from_residual-in_err-write_tables.ensures.1 in
    rw p.1 tt

pub returns-in_err-write_tables-clause-programs : goal.returns-in_err-write_tables-clause-programs
returns-in_err-write_tables-clause-programs g c =
    let p = err_from_is_err_and c.from_residual-in_err-write_tables.result c.from_residual-in_err-write_tables.ensures.1 in
    rw p.1 tt

pub returns-in_err-write_tables-clause-flushed : goal.returns-in_err-write_tables-clause-flushed
returns-in_err-write_tables-clause-flushed g c =
    let p = err_from_is_err_and c.from_residual-in_err-write_tables.result c.from_residual-in_err-write_tables.ensures.1 in
    rw p.1 (λ honest w. tt)

pub returns-in_err-write_tables-clause-renewed : goal.returns-in_err-write_tables-clause-renewed
returns-in_err-write_tables-clause-renewed g c =
    let p = err_from_is_err_and c.from_residual-in_err-write_tables.result c.from_residual-in_err-write_tables.ensures.1 in
    rw p.1 (λ honest w. tt)

-- ---- what the calls want

pub begin_flush-requires : goal.begin_flush-requires
begin_flush-requires g c = record { safe = c.requires.safe; going = c.requires.going; calm = c.requires.calm }

pub flush_translations-requires : goal.flush_translations-requires
flush_translations-requires g c = record {
  safe = c.begin_flush.ensures.flushes.leaves.safe;
  going = c.in_ok-begin_flush.ensures.flushes.leaves.fault;
  calm = c.in_ok-begin_flush.ensures.flushes.calm;
}

pub make_flush_room-requires : goal.make_flush_room-requires
make_flush_room-requires g c = record {
  safe = c.flush_translations.ensures.flushes.leaves.safe;
  going = c.in_ok-flush_translations.ensures.flushes.leaves.fault;
  calm = c.in_ok-flush_translations.ensures.flushes.calm;
}

pub write_tables-requires : goal.write_tables-requires
write_tables-requires g c = record { safe = c.make_flush_room.ensures.flushes.leaves.safe; going = c.in_ok-make_flush_room.ensures.flushes.leaves.fault }
