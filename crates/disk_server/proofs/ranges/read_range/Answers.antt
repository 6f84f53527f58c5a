use Rattle.std.proofs.Common.{◌≡◌, ◌≤◌, ◌+◌, ◌-◌, ◌∙◌, ℕ, Ok, [], length, refl, rules, arith}
use Rattle.nbd_stream.specs.Disk.{PerformsTask}
use Rattle.nbd_stream.specs.declared.task.Task.TheVariants.{Read}
use borrow.Rule.Slice.PartMut.{put_mid}
use Rattle.nbd_stream.proofs.ThroughLemmas.{joined, none, once}
use Rattle.disk_server.proofs.Fronts.{front_given}
use Rattle.disk_server.proofs.ranges.read_range.Goals as goal

pub loop-done-preserved : goal.loop-done-preserved
loop-done-preserved g c =
    let inv = c.loop-done.invariant in
    let k : ℕ = c.loop-done.done in
    let m : ℕ = c.piece_length-taken.result in
    let within : k + m ≤ length c.args.out.now = omega (arith, inv.0, inv.1, c.piece_length-taken.ensures.few) in
    let within' : k + m ≤ length c.loop-done.out = omega (arith, within, inv.1) in
    let room : length c.read_piece.new.buffer ≡ length c.args.buffer.now = search rules in
    let same : length (put_mid k ((k + m) - k) c.loop-done.out c.read_piece.new.out) ≡ length c.args.out.now = search rules in (
      within,
      same,
      room,
      c.in_ok-read_piece.ensures.size ∙ inv.3,
      front_given g.S.Sectors.contents g.S.Sectors.honest g.S.Sectors.calm c.loop-done.out c.read_piece.new.out c.args.offset k m
          c.args.sectors.now c.loop-done.sectors c.read_piece.new.sectors within' inv.4 c.in_ok-read_piece.ensures.performs,
      joined g.S.Sectors.reads c.args.sectors.now c.loop-done.sectors c.read_piece.new.sectors inv.5 (once g.S.Sectors.reads c.loop-done.sectors c.read_piece.new.sectors c.in_ok-read_piece.ensures.reads),
    )

pub loop-done-init : goal.loop-done-init
loop-done-init g c =
    let nothing : PerformsTask g.S.Sectors.contents g.S.Sectors.honest g.S.Sectors.calm (Read c.args.offset 0) [] c.args.sectors.now (Ok []) c.args.sectors.now = search rules in
    (omega arith, refl, refl, refl, nothing, none g.S.Sectors.reads c.args.sectors.now c.args.sectors.now refl)

pub returns-in_err-read_piece-clause-reads : goal.returns-in_err-read_piece-clause-reads
returns-in_err-read_piece-clause-reads g c =
    joined g.S.Sectors.reads c.args.sectors.now c.loop-done.sectors c.read_piece.new.sectors c.loop-done.invariant.5 (once g.S.Sectors.reads c.loop-done.sectors c.read_piece.new.sectors c.in_err-read_piece.ensures.reads)
