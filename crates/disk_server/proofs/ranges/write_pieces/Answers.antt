use Rattle.std.proofs.Common.{◌≡◌, ◌≤◌, ◌+◌, ◌∙◌, ℕ, Err, Ok, [], false, length, refl, subst, sym, rules, arith}
use Rattle.nbd_stream.specs.declared.task.Task.TheVariants.{Write}
use Rattle.nbd_stream.specs.Disk.{PerformsTask, answer_from, error_for}
use Rattle.nbd_stream.proofs.ThroughLemmas.{none}
use Rattle.disk_server.specs.Asked.{AsksPiece, StepsTo}
use Rattle.disk_server.proofs.ChangeLemmas.{steps_on}
use Rattle.disk_server.proofs.FaultLemmas.{is_handed_on}
use Rattle.disk_server.proofs.Fronts.{front_stopped, front_written, nothing_set}
use Rattle.disk_server.proofs.ranges.write_pieces.Goals as goal

pub loop-done-preserved : goal.loop-done-preserved
loop-done-preserved g c =
    let inv = c.loop-done.invariant in
    let k : ℕ = c.loop-done.done in
    let m : ℕ = c.piece_length-taken.result in
    let within : k + m ≤ length c.args.bytes.now = omega (arith, inv.0, c.piece_length-taken.ensures.few) in
    let room : length c.write_piece.new.buffer ≡ length c.args.buffer.now = search rules in (
      within,
      room,
      c.in_ok-write_piece.ensures.size ∙ inv.2,
      front_written g.S.Sectors.contents g.S.Sectors.honest g.S.Sectors.calm c.args.bytes.now c.args.offset k m _
          c.args.sectors.now c.loop-done.sectors c.write_piece.new.sectors within c.requires.within inv.3 c.in_ok-write_piece.ensures.performs,
      steps_on g.S.Sectors.reads g.S.Sectors.changes c.args.sectors.now c.loop-done.sectors c.write_piece.new.sectors (Ok tt) inv.4 c.in_ok-write_piece.ensures.asks,
    )

pub returns-in_err-write_piece-clause-performs : goal.returns-in_err-write_piece-clause-performs
returns-in_err-write_piece-clause-performs g c =
    let inv = c.loop-done.invariant in
    let k : ℕ = c.loop-done.done in
    let m : ℕ = c.piece_length-taken.result in
    let within : k + m ≤ length c.args.bytes.now = omega (arith, inv.0, c.piece_length-taken.ensures.few) in
    subst (λ r. PerformsTask g.S.Sectors.contents g.S.Sectors.honest g.S.Sectors.calm (Write c.args.offset (length c.args.bytes.now) false) c.args.bytes.now c.args.sectors.now (answer_from r []) c.write_piece.new.sectors)
    (sym (is_handed_on c.from_residual.result c.in_err-write_piece.field-0.0 c.from_residual.ensures.1))
    (front_stopped g.S.Sectors.contents g.S.Sectors.honest g.S.Sectors.calm c.args.bytes.now c.args.offset k m _
    c.args.sectors.now c.loop-done.sectors c.write_piece.new.sectors within c.requires.within inv.3
    (length c.args.bytes.now) (error_for c.in_err-write_piece.field-0.0) c.in_err-write_piece.ensures.performs)

pub loop-done-init : goal.loop-done-init
loop-done-init g c =
    (omega arith, refl, refl, nothing_set g.S.Sectors.contents g.S.Sectors.honest g.S.Sectors.calm c.args.offset c.args.sectors.now, none (λ a b. AsksPiece g.S.Sectors.reads g.S.Sectors.changes a (Ok tt) b) c.args.sectors.now c.args.sectors.now refl)

pub returns-in_err-write_piece-clause-asks : goal.returns-in_err-write_piece-clause-asks
returns-in_err-write_piece-clause-asks g c =
    subst (λ r. StepsTo (AsksPiece g.S.Sectors.reads g.S.Sectors.changes) c.args.sectors.now r c.write_piece.new.sectors) (sym (is_handed_on c.from_residual.result c.in_err-write_piece.field-0.0 c.from_residual.ensures.1))
    (steps_on g.S.Sectors.reads g.S.Sectors.changes c.args.sectors.now c.loop-done.sectors c.write_piece.new.sectors (Err c.in_err-write_piece.field-0.0) c.loop-done.invariant.4 c.in_err-write_piece.ensures.asks)

pub returns-clause-asks : goal.returns-clause-asks
returns-clause-asks g c = c.loop-done.invariant.4
