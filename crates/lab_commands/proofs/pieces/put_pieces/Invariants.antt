use Rattle.std.proofs.Common.{take}
use Rattle.std.specs.Io.KnownBytes.{Appends}
use Rattle.lab_commands.specs.Pieces.{pieces_text}
use Rattle.lab_commands.proofs.pieces.put_pieces.Given as goal

abbrev pub invariant-loop-place : goal.invariant-loop-place
invariant-loop-place g l = Appends (g.W.Output.contents l.fn.out) (g.W.Output.contents l.out) (pieces_text (take l.place l.pieces))
