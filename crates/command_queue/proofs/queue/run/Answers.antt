use Rattle.std.proofs.Common.{◌≡◌, ◌∙◌, ap, subst, refl, arith, length, slice_index_or, Some, ◌<◌}
use Rattle.std.proofs.lemmas.List.{with_items_is}
use Rattle.std.proofs.lemmas.Option.{slice_get-get_or}
use Rattle.std.specs.Vec.{with_items}
use Rattle.command_queue.specs.declared.command.Call.{Call}
use Rattle.command_queue.specs.Commands.{told_command, KeepsBytes}
use Rattle.command_queue.specs.Tells.{Tells}
use Rattle.command_queue.proofs.LoopLemmas.{running_none, running_more, all_told, all_answered, all_kept}
use Rattle.command_queue.proofs.queue.run.Goals as goal

pub loop-call-init : goal.loop-call-init
loop-call-init g c = record {
  running = running_none g.N.PageSource.view c.args.device.now c.args.calls.now c.requires.device c.requires.whole;
  as_calm = refl;
}

pub loop-call-preserved : goal.loop-call-preserved
loop-call-preserved g c =
    let item : Call = slice_index_or c.loop-call.calls c.loop-call.call-index c.call-item.result in
    let below : c.loop-call.call-index < length c.loop-call.calls = omega (arith, c.loop-call-test.true) in
    let long : length c.tell.new.bytes ≡ item.bytes.len = omega (arith, c.tell.auto.bytes, ap length c.deref_mut.ensures.value, item.bytes.ok.0) in
    let after : Call = record { command = item.command; reply = Some c.tell.result; bytes = with_items item.bytes c.tell.new.bytes } in
    let its = c.tell.ensures in
    let tells : Tells g.N.PageSource.view c.loop-call.device (record { command = told_command after; result = c.tell.result; bytes = c.tell.new.bytes }) c.tell.new.device = record {
      device = its.device;
      sized = its.geometry;
      limits = its.limits;
      cursor = its.cursor;
      honest_is = its.honest;
      failed_is = its.failed;
      stopped = its.stopped;
      stops = its.stops;
      standing = its.standing;
      rose = its.rose;
      well = its.well;
      happened = its.happened;
      turned = its.turned;
      programs = its.programs;
      fulfils = its.fulfils;
      pins = its.pins;
    } in
    record {
      running = running_more g.N.PageSource.view c.args.device.now c.loop-call.device c.tell.new.device c.args.calls.now c.loop-call.calls c.loop-call.call-index
          item after c.tell.result c.requires.device c.loop-call.invariant.running (slice_get-get_or c.loop-call.calls c.loop-call.call-index c.call-item.result below) below refl refl
          c.tell.new.bytes (with_items_is item.bytes c.tell.new.bytes long) c.tell.ensures.room tells
          (subst (λ bs. KeepsBytes (told_command after) c.tell.result bs c.tell.new.bytes) c.deref_mut.ensures.value c.tell.ensures.kept);
      as_calm = its.calm ∙ c.loop-call.invariant.as_calm;
    }

pub returns-clause-told : goal.returns-clause-told
returns-clause-told g c = all_told g.N.PageSource.view
    c.args.device.now c.loop-call.device c.args.calls.now c.loop-call.calls c.loop-call.call-index (omega (arith, c.loop-call-test.false))
    c.loop-call.invariant.running

pub returns-clause-answered : goal.returns-clause-answered
returns-clause-answered g c = all_answered g.N.PageSource.view c.args.device.now c.loop-call.device c.args.calls.now c.loop-call.calls c.loop-call.call-index
    (omega (arith, c.loop-call-test.false)) c.loop-call.invariant.running

pub returns-clause-kept : goal.returns-clause-kept
returns-clause-kept g c = all_kept g.N.PageSource.view
    c.args.device.now c.loop-call.device c.args.calls.now c.loop-call.calls c.loop-call.call-index (omega (arith, c.loop-call-test.false))
    c.loop-call.invariant.running
