use Rattle.std.proofs.Common.{arith, ◌<◌, length, ◌∙◌, ap, ◌++◌, ◌∷◌, []}
use Rattle.page_layout.specs.Word.{word_of_row}
use Rattle.mount.proofs.WordLemmas.{one_word_more}
use Rattle.mount.proofs.mount_image.put_sectors.Goals as goal

pub loop-sector-preserved : goal.loop-sector-preserved
loop-sector-preserved c =
    let word = c.word_from.ensures ∙ ap word_of_row c.row-row.ensures in
    let items = (rw c.unwrap.ensures at c.push.ensures.items) ∙ ap (λ w. c.loop-sector.words.items ++ (w ∷ [])) word in
    let within : c.loop-sector.sector < length c.args.shown.now.newest.items = omega (arith, c.requires.shown.newest, c.loop-sector-test.true, c.sectors-sector-end.ensures) in
    record {
      words = one_word_more c.args.shown.now.newest.items 0 c.loop-sector.sector c.loop-sector.sector c.loop-sector.words.items c.push.new.self.items c.index.result.now c.loop-sector.invariant.words (omega arith) within items c.index.ensures;
      room = omega (arith, c.loop-sector.invariant.room, c.push.ensures.capacity, c.push.ensures.upper_bound, c.loop-sector-test.true, c.sectors-sector-end.ensures);
    }
