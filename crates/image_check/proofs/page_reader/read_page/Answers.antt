use Rattle.std.proofs.Common.{◌+◌, ◌++◌, arith, length}
use Rattle.std.specs.Io.KnownBytes.{Consumes}
use Rattle.std.proofs.KnownBytes.{Consumes-trans}
use Rattle.image_check.specs.PageReader.{ReadsFewer}
use Rattle.image_check.proofs.PassLemmas.{err_map, ok_map}
use Rattle.image_check.proofs.PageReaderLemmas.{cut_after}
use Rattle.image_check.proofs.page_reader.read_page.Goals as goal

pub returns-clause-whole : goal.returns-clause-whole
returns-clause-whole g c =
    let a = g.R.DumpReader.remaining c.args.reader.now in
    let b = g.R.DumpReader.remaining c.fill.new.reader in
    let d = g.R.DumpReader.remaining c.fill-2.new.reader in
    ok_map (Consumes b d c.fill-2.new.buffer) (Consumes a d (c.fill.new.buffer ++ c.fill-2.new.buffer)) c.fill-2.result (λ h. Consumes-trans a b d c.fill.new.buffer c.fill-2.new.buffer c.in_ok-fill.ensures.whole h) c.fill-2.ensures.whole

pub returns-clause-cut : goal.returns-clause-cut
returns-clause-cut g c =
    let a = g.R.DumpReader.remaining c.args.reader.now in
    let b = g.R.DumpReader.remaining c.fill.new.reader in
    let d = g.R.DumpReader.remaining c.fill-2.new.reader in
    err_map (ReadsFewer (length c.fill-2.new.buffer) b d) (ReadsFewer (length c.fill.new.buffer + length c.fill-2.new.buffer) a d) c.fill-2.result
    (λ cut h. cut_after (length c.fill-2.new.buffer) (length c.fill.new.buffer + length c.fill-2.new.buffer) a b d c.fill.new.buffer cut
    c.in_ok-fill.ensures.whole (omega arith) h) c.fill-2.ensures.cut
