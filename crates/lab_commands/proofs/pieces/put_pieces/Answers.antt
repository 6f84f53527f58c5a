use Rattle.std.proofs.Common.{arith}
use Rattle.std.proofs.KnownBytes.{Appends-nil}
use Rattle.lab_commands.specs.Pieces.{piece_text}
use Rattle.lab_commands.proofs.PieceLemmas.{one_put, stopped_put}
use Rattle.lab_commands.proofs.PrintLemmas.{failed}
use Rattle.lab_commands.proofs.pieces.put_pieces.Goals as goal

pub loop-place-init : goal.loop-place-init
loop-place-init g c = Appends-nil (g.W.Output.contents c.args.out.now)

pub loop-place-preserved : goal.loop-place-preserved
loop-place-preserved g c =
    one_put piece_text c.args.pieces.now c.loop-place.place _ (g.W.Output.contents c.args.out.now) (g.W.Output.contents c.loop-place.out) (g.W.Output.contents c.put_piece.new.out) (omega arith) c.loop-place.invariant c.in_ok-put_piece.ensures

pub returns-in_err-put_piece : goal.returns-in_err-put_piece
returns-in_err-put_piece g c =
    failed _ c.from_residual.result _ _ _ _ c.from_residual.ensures.1
    (stopped_put piece_text _ _ c.args.pieces.now c.loop-place.place _ (g.W.Output.contents c.args.out.now) (g.W.Output.contents c.loop-place.out) (g.W.Output.contents c.put_piece.new.out) (omega arith) c.loop-place.invariant c.in_err-put_piece.ensures)
