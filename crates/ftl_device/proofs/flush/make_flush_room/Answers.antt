use Rattle.std.proofs.Common.{◌≡◌, ◌∙◌, true, OnOk, refl, ap, sym, subst}
use Rattle.collection.specs.State.{Ram}
use Rattle.collection.specs.Left.{IsCalm}
use Rattle.collection.specs.Safe.{ram}
use Rattle.collection.specs.Collect.{RoomCounts}
use Rattle.ftl_device.specs.Calls.{HasMadeRoom}
use Rattle.ftl_device.specs.Flush.{KeepsClean}
use Rattle.ftl_device.proofs.FlushRooms.{spends_free, wants_nine}
use Rattle.ftl_device.proofs.FlushStepLemmas.{cleared_ok}
use Rattle.ftl_device.proofs.AnswerLemmas.{cleared_still, flushes_room, above_0, ok_then, not_zero, no_more_than_0, zero_at, keys_same, keeps_free}
use Rattle.ftl_device.proofs.flush.make_flush_room.Goals as goal

-- above share 0
pub returns-then-share-gt0 : goal.returns-then-share-gt0
returns-then-share-gt0 g c =
    let still = c.require_free.ensures.still in
    let truth = keeps_free g.N.PageSource.view c.args.engine.now c.require_free.new.engine c.require_free.result _ c.requires.going c.require_free.ensures.memory c.require_free.ensures.same c.require_free.ensures.scarce in
    record {
      flushes = record {
        leaves = c.require_free.ensures.leaves;
        keys = keys_same _ _ (ap (λ (r : Ram). r.mapping) c.require_free.ensures.memory);
        calm = ok_then c.require_free.result _ _ still (λ h. subst (λ e. IsCalm (ram e)) (sym h.0) c.requires.calm);
        pins = ok_then c.require_free.result _ _ still (λ h none. ap (λ e. e.pinned) h.0 ∙ none);
        truth = truth;
      };
      cleans = ok_then c.require_free.result _ _ still (λ h. subst (λ e. KeepsClean c.args.engine.now.geometry c.args.engine.now.mapping e.mapping) (sym h.0) (record { still = λ t within was. was }));
      cleared = cleared_still g.N.PageSource.view c.args.engine.now c.require_free.new.engine c.require_free.result (above_0 _ _ c.share.ensures c.if-share-gt0.true) c.require_free.ensures.leaves still truth;
      spends = λ some. spends_free c.require_free.result (ram c.args.engine.now) (ram c.require_free.new.engine) c.require_free.ensures.memory c.require_free.ensures.scarce;
      count = λ none. absurd (not_zero _ _ c.share.ensures c.if-share-gt0.true none);
    }

-- with share 0
pub returns : goal.returns
returns g c =
    let none : c.args.engine.now.mapping.share ≡ 0 = zero_at _ _ c.share.ensures c.if-share-gt0.false in
    let on = flushes_room g.N.PageSource.view c.args.engine.now c.make_room.new.engine c.make_room.result _ _ c.make_room.ensures.leaves c.make_room.ensures.keys c.make_room.ensures.made c.make_room.ensures.erases
    c.make_room.ensures.truth c.make_room.ensures.pinned in
    record {
      flushes = on;
      cleans = c.make_room.ensures.cleans refl;
      cleared = cleared_ok g.N.PageSource.view c.args.engine.now c.make_room.new.engine c.make_room.result none c.make_room.ensures.leaves
          (subst (λ n. OnOk c.make_room.result (HasMadeRoom n true (ram c.args.engine.now) (ram c.make_room.new.engine))) (wants_nine (ram c.args.engine.now) none) c.make_room.ensures.made) on.truth;
      spends = λ some. absurd (no_more_than_0 _ _ c.share.ensures c.if-share-gt0.false some);
      count = λ none honest w failures funded. subst (λ n. RoomCounts n failures (ram c.args.engine.now) (ram c.make_room.new.engine) c.make_room.result) (wants_nine (ram c.args.engine.now) none) (c.make_room.ensures.count honest w failures funded);
    }

-- ---- what the calls want

pub make_room-requires : goal.make_room-requires
make_room-requires g c = record { safe = c.requires.safe; flushes = λ e. zero_at _ _ c.share.ensures c.if-share-gt0.false; going = c.requires.going; calm = c.requires.calm }

pub require_free-requires : goal.require_free-requires
require_free-requires g c = record { safe = c.requires.safe; going = c.requires.going }
