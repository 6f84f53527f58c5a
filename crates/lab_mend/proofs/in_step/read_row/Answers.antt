use Rattle.std.proofs.Common.{◌≡◌, ℕ, ◌+◌, ◌-◌, ◌*◌, ◌<◌, ◌≤◌, List, [], length, get_or, map, Option, None, Err, rules, sym, ap, ◌∙◌, subst, arith}
use Rattle.std.specs.Io.KnownBytes.{Consumes}
use Rattle.std.proofs.lemmas.List.{length-map, length-set}
use borrow.Rule.Slice.PartMut.{put_mid}
use Rattle.lab_dump.specs.Scan.{ReadsFewer}
use Rattle.lab_mend.specs.InStep.{IsAt, AreBetween}
use Rattle.lab_mend.proofs.InStepLemmas.{failed_at, cut_at, known_at, known_set, files_count, piece_room, between_more, between_all}
use Rattle.lab_mend.proofs.in_step.read_row.Goals as goal

pub returns-in-Err-clause-cut : goal.returns-in-Err-clause-cut
returns-in-Err-clause-cut g c = λ files at start.
    let f = g.R.DumpReader.remaining in
    let rs = c.loop-reading.readers in
    let i = c.loop-reading.reading in
    let r = c.index-readers-reading.result in
    let count = files_count f c.args.readers.now files at start in
    let within : i < length files = omega arith in
    let between = c.loop-reading.invariant.between files at start in
    let old : IsAt (f (get_or rs i r)) (get_or files i []) at = subst (λ (o : Option (List ℕ)). IsAt o (get_or files i []) at) (known_at f rs i r (omega arith)) (between.unread i (omega arith) within) in
    let size : length c.fill.new.buffer ≡ c.args.size = omega arith in
    cut_at (f (get_or rs i r)) (f c.fill.new.reader) files i at c.args.size c.in-Err.cut within old (subst (λ n. ReadsFewer n (f (get_or rs i r)) (f c.fill.new.reader) c.in-Err.cut) size c.in-Err.ensures.cut)
    (λ j l. (start.each j l).within) (λ j l. (between.read j l).within)

pub returns-in-Err-clause-failed : goal.returns-in-Err-clause-failed
returns-in-Err-clause-failed g c = λ is. failed_at g.R.DumpReader.failed c.loop-reading.readers c.loop-reading.reading c.fill.new.reader (omega arith) (c.fill.ensures.failed (c.in-Err.is ∙ ap Err is))

pub loop-reading-preserved : goal.loop-reading-preserved
loop-reading-preserved g c =
    let f = g.R.DumpReader.remaining in
    let rs = c.loop-reading.readers in
    let i = c.loop-reading.reading in
    let r = c.index-readers-reading.result in
    let n = c.args.size in
    let pieces = c.loop-reading.pieces in
    let ys = c.fill.new.buffer in
    let inv = c.loop-reading.invariant in
    let size : length ys ≡ n = omega arith in
    let end : i * n + n ≤ length c.args.readers.now * n = piece_room i (length c.args.readers.now) n (omega arith) in
    let room : i * n + n ≤ length pieces = omega arith in
    record {
      count = length-set rs i c.fill.new.reader ∙ inv.count;
      room = search rules;
      between = λ files at start.
          let count = files_count f c.args.readers.now files at start in
          let reads : Consumes (get_or (map f rs) i None) (f c.fill.new.reader) ys = subst (λ (o : Option (List ℕ)). Consumes o (f c.fill.new.reader) ys) (sym (known_at f rs i r (omega arith))) c.in-Ok.ensures.whole in
          subst (λ (known : List (Option (List ℕ))). AreBetween known files at n (put_mid (i * n) (i * n + n - i * n) pieces ys) (i + 1)) (sym (known_set f rs i c.fill.new.reader))
          (between_more (map f rs) (f c.fill.new.reader) files at n pieces ys i (inv.between files at start) (omega arith) reads size room);
    }

pub returns-clause-read : goal.returns-clause-read
returns-clause-read g c = λ files at start.
    let f = g.R.DumpReader.remaining in
    let rs = c.loop-reading.readers in
    between_all (map f rs) files at c.args.size c.loop-reading.pieces c.loop-reading.reading (omega (arith, length-map rs f)) (c.loop-reading.invariant.between files at start)
