use Rattle.std.proofs.Common.{◌*◌, ◌∙◌, Ok, ap, false, inl, inr, refl, replicate, sym}
use Rattle.disk_server.specs.Disk.{contents_of, holds}
use Rattle.disk_server.proofs.Bytes.{sector_fits}
use Rattle.disk_server.proofs.ChangeLemmas.{clears_one}
use Rattle.disk_server.proofs.ClearLemmas.{all_zeros, no_zeros, not_done, trimmed, was_done, zeros_cleared, zeros_read}
use Rattle.disk_server.proofs.device_disk.DeviceDiskSectors.clear_sector.Goals as goal

pub returns-then-are_zeros-clause-performs : goal.returns-then-are_zeros-clause-performs
returns-then-are_zeros-clause-performs g c =
    zeros_cleared (contents_of g.N.PageSource.view) (holds g.N.PageSource.view.honest) (λ d. false) c.args.sector _ c.args.self.now.engine.geometry.sectors c.args.self.now c.read_sector.new.self c.read_sector.new.buffer
    c.requires.within c.sector_count-count.ensures.whole (all_zeros c.read_sector.new.buffer (sym c.are_zeros.ensures ∙ c.if-are_zeros.true)) c.in-Ok.ensures.performs

pub returns-then-are_zeros-clause-spares : goal.returns-then-are_zeros-clause-spares
returns-then-are_zeros-clause-spares g c = λ h zeros. c.in-Ok.ensures.reads

pub returns-then-are_zeros-clause-asked : goal.returns-then-are_zeros-clause-asked
returns-then-are_zeros-clause-asked g c = record {
  mid = c.read_sector.new.self;
  answer = c.read_sector.result;
  given = c.read_sector.new.buffer;
  read = c.read_sector.ensures.performs;
  asks = c.read_sector.ensures.reads;
  answers = c.read_sector.ensures.answers;
  stopped = λ is. (c.read_sector.ensures.stopped is).0;
  trims = inl (c.in-Ok.is, all_zeros c.read_sector.new.buffer (sym c.are_zeros.ensures ∙ c.if-are_zeros.true) ∙ ap (λ k. replicate k 0) c.in-Ok.ensures.performs.given, refl, refl);
}

pub returns-else-are_zeros-clause-performs : goal.returns-else-are_zeros-clause-performs
returns-else-are_zeros-clause-performs g c =
    trimmed g.N.PageSource.view c.args.sector c.args.self.now c.read_sector.new.self c.trim_sector.new.self
    c.read_sector.result c.read_sector.new.buffer c.args.self.now.engine.geometry.data_bytes c.read_sector.new.self.engine.geometry.data_bytes c.read_sector.ensures.size c.trim_sector.result
    c.read_sector.ensures.reads.only_reads.honest_is c.read_sector.ensures.stopped c.trim_sector.ensures.asked c.read_sector.ensures.performs c.trim_sector.ensures.performs

pub returns-else-are_zeros-clause-spares : goal.returns-else-are_zeros-clause-spares
returns-else-are_zeros-clause-spares g c = λ h zeros.
    let fits = sector_fits c.args.sector c.args.self.now.engine.geometry.sectors c.args.self.now.engine.geometry.data_bytes _ c.requires.within c.sector_count-count.ensures.whole in
    absurd (no_zeros c.args.self.now.engine.geometry.data_bytes c.read_sector.new.buffer (sym c.are_zeros.ensures ∙ c.if-are_zeros.false)
    (zeros_read (contents_of g.N.PageSource.view) (holds g.N.PageSource.view.honest) (λ d. false) (c.args.sector * c.args.self.now.engine.geometry.data_bytes) c.args.self.now.engine.geometry.data_bytes
    c.args.self.now c.read_sector.new.self c.read_sector.new.buffer fits c.in-Ok.ensures.performs (c.trim_sector.ensures.performs.back h) zeros))

pub returns-else-are_zeros-clause-asked : goal.returns-else-are_zeros-clause-asked
returns-else-are_zeros-clause-asked g c = record {
  mid = c.read_sector.new.self;
  answer = c.read_sector.result;
  given = c.read_sector.new.buffer;
  read = c.read_sector.ensures.performs;
  asks = c.read_sector.ensures.reads;
  answers = c.read_sector.ensures.answers;
  stopped = λ is. (c.read_sector.ensures.stopped is).0;
  trims = inr ((λ done. no_zeros c.args.self.now.engine.geometry.data_bytes c.read_sector.new.buffer (sym c.are_zeros.ensures ∙ c.if-are_zeros.false)), c.trim_sector.ensures.asked);
}

pub returns-in-Err-clause-performs : goal.returns-in-Err-clause-performs
returns-in-Err-clause-performs g c =
    trimmed g.N.PageSource.view c.args.sector c.args.self.now c.read_sector.new.self c.trim_sector-in-Err.new.self
    c.read_sector.result c.read_sector.new.buffer c.args.self.now.engine.geometry.data_bytes c.read_sector.new.self.engine.geometry.data_bytes c.read_sector.ensures.size c.trim_sector-in-Err.result
    c.read_sector.ensures.reads.only_reads.honest_is c.read_sector.ensures.stopped c.trim_sector-in-Err.ensures.asked c.read_sector.ensures.performs c.trim_sector-in-Err.ensures.performs

pub returns-in-Err-clause-spares : goal.returns-in-Err-clause-spares
returns-in-Err-clause-spares g c = λ h zeros. absurd (was_done c.read_sector.result _ c.in-Err.is (c.read_sector.ensures.given (c.trim_sector-in-Err.ensures.performs.back h)))

pub returns-in-Err-clause-asked : goal.returns-in-Err-clause-asked
returns-in-Err-clause-asked g c = record {
  mid = c.read_sector.new.self;
  answer = c.read_sector.result;
  given = c.read_sector.new.buffer;
  read = c.read_sector.ensures.performs;
  asks = c.read_sector.ensures.reads;
  answers = c.read_sector.ensures.answers;
  stopped = λ is. (c.read_sector.ensures.stopped is).0;
  trims = inr ((λ done. absurd (not_done c.read_sector.result _ c.in-Err.is done)), c.trim_sector-in-Err.ensures.asked);
}

pub returns-then-are_zeros-clause-changes : goal.returns-then-are_zeros-clause-changes
returns-then-are_zeros-clause-changes g c =
    let n = g.N.PageSource in
    clears_one n.view c.args.self.now c.read_sector.new.self c.args.sector (Ok tt) (returns-then-are_zeros-clause-asked g c)

pub returns-else-are_zeros-clause-changes : goal.returns-else-are_zeros-clause-changes
returns-else-are_zeros-clause-changes g c =
    let n = g.N.PageSource in
    clears_one n.view c.args.self.now c.trim_sector.new.self c.args.sector c.trim_sector.result (returns-else-are_zeros-clause-asked g c)

pub returns-in-Err-clause-changes : goal.returns-in-Err-clause-changes
returns-in-Err-clause-changes g c =
    let n = g.N.PageSource in
    clears_one n.view c.args.self.now c.trim_sector-in-Err.new.self c.args.sector c.trim_sector-in-Err.result (returns-in-Err-clause-asked g c)
