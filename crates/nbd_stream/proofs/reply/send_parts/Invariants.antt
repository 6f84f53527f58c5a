use Rattle.std.proofs.Common.{take}
use Rattle.std.specs.List.{flat_map}
use Rattle.std.specs.Io.KnownBytes.{Appends}
use Rattle.nbd_stream.proofs.reply.send_parts.Given as goal

abbrev pub invariant-loop-part : goal.invariant-loop-part
invariant-loop-part g l = Appends (g.W.Write.contents l.fn.writer) (g.W.Write.contents l.writer) (flat_map (λ part. part.now) (take l.part-index l.parts))
