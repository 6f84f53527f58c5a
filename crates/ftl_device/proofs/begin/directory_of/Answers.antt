use Rattle.std.proofs.Common.{◌∙◌, ap, map}
use Rattle.page_layout.specs.Word.{row_of_word}
use Rattle.ftl_device.proofs.LoadLemmas.{one_word, word_again}
use Rattle.ftl_device.proofs.begin.directory_of.Goals as goal

pub loop-key-preserved : goal.loop-key-preserved
loop-key-preserved c =
    let claim = c.args.certificate.now in
    let row = c.directory_row.result in
    ap (map row_of_word) c.in_ok-push.ensures.items
    ∙ one_word c.loop-key.words.items claim.directory c.loop-key.key c.word_from.result row c.loop-key.invariant c.directory_row.ensures.is
    (ap row_of_word c.word_from.ensures ∙ word_again claim row c.requires.fits c.directory_row.ensures.row)
