use Rattle.std.proofs.Common.{◌≡◌, ◌≤◌, ◌+◌, ◌∙◌, ℕ, Err, Ok, [], false, length, refl, subst, sym, rules, arith}
use Rattle.nbd_stream.specs.declared.task.Task.TheVariants.{Trim}
use Rattle.nbd_stream.specs.Disk.{PerformsTask, answer_from, error_for}
use Rattle.nbd_stream.proofs.ThroughLemmas.{joined, none, once}
use Rattle.disk_server.specs.Asked.{AsksPiece, StepsTo}
use Rattle.disk_server.proofs.ChangeLemmas.{steps_on}
use Rattle.disk_server.proofs.ClearLemmas.{zeros_left}
use Rattle.disk_server.proofs.FaultLemmas.{is_handed_on}
use Rattle.disk_server.proofs.Joining.{writes_trim}
use Rattle.disk_server.proofs.Fronts.{nothing_set, zeros_stopped, zeros_written}
use Rattle.disk_server.proofs.ranges.clear_pieces.Goals as goal

pub loop-done-init : goal.loop-done-init
loop-done-init g c = (
  omega arith,
  refl,
  refl,
  nothing_set g.S.Sectors.contents g.S.Sectors.honest g.S.Sectors.calm c.args.offset c.args.sectors.now,
  λ h zeros. none g.S.Sectors.reads c.args.sectors.now c.args.sectors.now refl,
  none (λ a b. AsksPiece g.S.Sectors.reads g.S.Sectors.changes a (Ok tt) b) c.args.sectors.now c.args.sectors.now refl,
)

pub loop-done-preserved : goal.loop-done-preserved
loop-done-preserved g c =
    let inv = c.loop-done.invariant in
    let k : ℕ = c.loop-done.done in
    let m : ℕ = c.piece_length-taken.result in
    let within : k + m ≤ c.args.count = omega (arith, inv.0, c.piece_length-taken.ensures.few) in
    let room : length c.clear_piece.new.buffer ≡ length c.args.buffer.now = search rules in (
      within,
      room,
      c.in_ok-clear_piece.ensures.size ∙ inv.2,
      zeros_written g.S.Sectors.contents g.S.Sectors.honest g.S.Sectors.calm c.args.count c.args.offset k m
          c.args.sectors.now c.loop-done.sectors c.clear_piece.new.sectors within c.requires.within inv.3 c.in_ok-clear_piece.ensures.performs,
      λ h zeros. (let before = c.in_ok-clear_piece.ensures.performs.back h in
          joined g.S.Sectors.reads c.args.sectors.now c.loop-done.sectors c.clear_piece.new.sectors (inv.4 before zeros)
          (once g.S.Sectors.reads c.loop-done.sectors c.clear_piece.new.sectors (c.in_ok-clear_piece.ensures.spares h
          (zeros_left g.S.Sectors.contents g.S.Sectors.honest g.S.Sectors.calm c.args.offset c.args.count k m c.args.sectors.now c.loop-done.sectors within c.requires.within inv.3 before zeros)))),
      steps_on g.S.Sectors.reads g.S.Sectors.changes c.args.sectors.now c.loop-done.sectors c.clear_piece.new.sectors (Ok tt) inv.5 c.in_ok-clear_piece.ensures.asks,
    )

pub returns-in_err-clear_piece-clause-performs : goal.returns-in_err-clear_piece-clause-performs
returns-in_err-clear_piece-clause-performs g c =
    let inv = c.loop-done.invariant in
    let k : ℕ = c.loop-done.done in
    let m : ℕ = c.piece_length-taken.result in
    let within : k + m ≤ c.args.count = omega (arith, inv.0, c.piece_length-taken.ensures.few) in
    subst (λ r. PerformsTask g.S.Sectors.contents g.S.Sectors.honest g.S.Sectors.calm (Trim c.args.offset c.args.count false) [] c.args.sectors.now (answer_from r []) c.clear_piece.new.sectors)
    (sym (is_handed_on c.from_residual.result c.in_err-clear_piece.field-0.0 c.from_residual.ensures.1))
    (writes_trim g.S.Sectors.contents g.S.Sectors.honest g.S.Sectors.calm c.args.offset c.args.count false c.args.sectors.now c.clear_piece.new.sectors (Err (error_for c.in_err-clear_piece.field-0.0)) (
    zeros_stopped g.S.Sectors.contents g.S.Sectors.honest g.S.Sectors.calm c.args.count c.args.offset k m
    c.args.sectors.now c.loop-done.sectors c.clear_piece.new.sectors within c.requires.within inv.3 (error_for c.in_err-clear_piece.field-0.0) c.in_err-clear_piece.ensures.performs))

pub returns-in_err-clear_piece-clause-spares : goal.returns-in_err-clear_piece-clause-spares
returns-in_err-clear_piece-clause-spares g c = λ h zeros.
    let inv = c.loop-done.invariant in
    let k : ℕ = c.loop-done.done in
    let m : ℕ = c.piece_length-taken.result in
    let within : k + m ≤ c.args.count = omega (arith, inv.0, c.piece_length-taken.ensures.few) in
    let before = c.in_err-clear_piece.ensures.performs.back h in
    joined g.S.Sectors.reads c.args.sectors.now c.loop-done.sectors c.clear_piece.new.sectors (inv.4 before zeros)
    (once g.S.Sectors.reads c.loop-done.sectors c.clear_piece.new.sectors (c.in_err-clear_piece.ensures.spares h
    (zeros_left g.S.Sectors.contents g.S.Sectors.honest g.S.Sectors.calm c.args.offset c.args.count k m c.args.sectors.now c.loop-done.sectors within c.requires.within inv.3 before zeros)))

pub returns-in_err-clear_piece-clause-asks : goal.returns-in_err-clear_piece-clause-asks
returns-in_err-clear_piece-clause-asks g c =
    subst (λ r. StepsTo (AsksPiece g.S.Sectors.reads g.S.Sectors.changes) c.args.sectors.now r c.clear_piece.new.sectors) (sym (is_handed_on c.from_residual.result c.in_err-clear_piece.field-0.0 c.from_residual.ensures.1))
    (steps_on g.S.Sectors.reads g.S.Sectors.changes c.args.sectors.now c.loop-done.sectors c.clear_piece.new.sectors (Err c.in_err-clear_piece.field-0.0) c.loop-done.invariant.5 c.in_err-clear_piece.ensures.asks)

pub returns-clause-asks : goal.returns-clause-asks
returns-clause-asks g c = c.loop-done.invariant.5
