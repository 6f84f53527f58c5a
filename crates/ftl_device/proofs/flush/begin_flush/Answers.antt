use Rattle.std.proofs.Common.{◌<◌, refl}
use Rattle.ftl_device.proofs.FlushStepLemmas.{begun_by, begun_ok}
use Rattle.ftl_device.proofs.AnswerLemmas.{no_true, err_any, flushes_none, flushes_room, zero_some, some_of}
use Rattle.ftl_device.proofs.flush.begin_flush.Goals as goal

-- with share 0
pub returns-then-share-eq0 : goal.returns-then-share-eq0
returns-then-share-eq0 g c =
    let on = flushes_none g.N.PageSource.view c.args.engine.now c.requires.safe c.requires.going c.requires.calm in
    record {
      flushes = on;
      begins = begun_by g.N.PageSource.view c.args.engine.now c.args.engine.now tt on.leaves (λ none. refl) (λ some. absurd (zero_some _ _ c.share.ensures c.if-share-eq0.true some)) on.truth;
      shared = tt;
      count = λ some. absurd (zero_some _ _ c.share.ensures c.if-share-eq0.true some);
    }

-- room was to be made
pub returns : goal.returns
returns g c =
    let some : 0 < c.args.engine.now.mapping.share = some_of _ _ c.share.ensures c.if-share-eq0.false in
    let on = flushes_room g.N.PageSource.view c.args.engine.now c.make_room.new.engine c.make_room.result _ _ c.make_room.ensures.leaves c.make_room.ensures.keys c.make_room.ensures.made c.make_room.ensures.erases
    c.make_room.ensures.truth c.make_room.ensures.pinned in
    record {
      flushes = on;
      begins = begun_ok g.N.PageSource.view c.args.engine.now c.make_room.new.engine c.make_room.result some c.make_room.ensures.leaves c.make_room.ensures.made on.truth;
      shared = err_any c.make_room.result _ some;
      count = λ some. c.make_room.ensures.count;
    }

pub make_room-requires : goal.make_room-requires
make_room-requires g c = record { safe = c.requires.safe; flushes = λ e. absurd (no_true e); going = c.requires.going; calm = c.requires.calm }
