use Rattle.std.proofs.Common.{arith, ◌<◌, ◌+◌, length, ◌∙◌, ap, ◌++◌, ◌∷◌, []}
use Rattle.page_layout.specs.Word.{word_of_row}
use Rattle.mount.proofs.WordLemmas.{one_word_more}
use Rattle.mount.proofs.mount_image.put_directory.Goals as goal

pub loop-page-preserved : goal.loop-page-preserved
loop-page-preserved c =
    let word = c.word_from.ensures ∙ ap word_of_row c.row-row.ensures in
    let items = (rw c.unwrap.ensures at c.push.ensures.items) ∙ ap (λ w. c.loop-page.words.items ++ (w ∷ [])) word in
    let first = c.args.geometry.now.sectors in
    let within : c.sectors-sectors.result + c.loop-page.page < length c.args.shown.now.newest.items = omega (arith, c.requires.shown.newest, c.loop-page-test.true) in
    record {
      words = one_word_more c.args.shown.now.newest.items first c.loop-page.page (c.sectors-sectors.result + c.loop-page.page) c.loop-page.words.items c.push.new.self.items c.index.result.now c.loop-page.invariant.words (omega arith) within items c.index.ensures;
      room = omega (arith, c.loop-page.invariant.room, c.push.ensures.capacity, c.push.ensures.upper_bound, c.loop-page-test.true);
    }
