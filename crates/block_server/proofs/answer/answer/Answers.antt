use Rattle.std.proofs.Common.{◌≡◌, refl, subst}
use Rattle.promises.specs.Stream as stream
use Rattle.promises.specs.Step as step
use Rattle.promises.specs.Stream.{op_code, reply_status, reply_body}
use Rattle.request_stream.specs.Frames.{request_at, SendsBytes, answer_bytes}
use Rattle.command_queue.specs.Commands.{promised_command}
use Rattle.command_queue.specs.Exchanges.{Exchange, reply_to_command}
use Rattle.command_queue.specs.Tells.{Tells}
use Rattle.block_server.proofs.Answering.{room_of}
use Rattle.block_server.proofs.answer.answer.Goals as goal

pub tell-done-requires-clause-room : goal.tell-done-requires-clause-room
tell-done-requires-clause-room g c = room_of c.args.device.now.engine.geometry c.args.body.now c.args.bytes.now c.command_for.result c.command_for.ensures.body c.requires.body c.requires.bytes

pub returns-clause-answers : goal.returns-clause-answers
returns-clause-answers g c =
    let its = c.tell-done.ensures in
    let old = c.args.device.now in
    let new = c.tell-done.new.device in
    let as_told : step.Command → Exchange = λ k. record { command = k; result = c.tell-done.result; bytes = c.tell-done.new.bytes } in
    let asked : step.Command = stream.command_of (request_at c.args.header c.args.body.now) in
    let tells : Tells g.N.PageSource.view old (as_told (promised_command c.command_for.result)) new = record {
      device = its.device;
      sized = its.geometry;
      limits = its.limits;
      cursor = its.cursor;
      honest_is = its.honest;
      failed_is = its.failed;
      stopped = its.stopped;
      stops = its.stops;
      standing = its.standing;
      rose = its.rose;
      well = its.well;
      happened = its.happened;
      turned = its.turned;
      programs = its.programs;
      fulfils = its.fulfils;
      pins = its.pins;
    } in
    let status : c.status_for.result ≡ reply_status (reply_to_command asked c.tell-done.new.bytes c.tell-done.result) = c.status_for.ensures c.args.header c.args.body.now c.tell-done.new.bytes in
    let given : c.sector_for.result.now ≡ reply_body (reply_to_command asked c.tell-done.new.bytes c.tell-done.result) = c.sector_for.ensures c.args.body.now in
    record {
      exchange = as_told asked;
      command_is = refl;
      tells = subst (λ k. Tells g.N.PageSource.view old (as_told k) new) c.command_for.ensures.command tells;
      sends =
          subst (λ l. SendsBytes (g.W.Write.contents c.args.writer.now) (g.W.Write.contents c.send_reply.new.writer) (answer_bytes (op_code c.args.header.op) (reply_status (reply_to_command asked c.tell-done.new.bytes c.tell-done.result)) c.args.header.tag l) c.send_reply.result) given
          (subst (λ n. SendsBytes (g.W.Write.contents c.args.writer.now) (g.W.Write.contents c.send_reply.new.writer) (answer_bytes (op_code c.args.header.op) n c.args.header.tag c.sector_for.result.now) c.send_reply.result) status c.send_reply.ensures.sends);
    }
