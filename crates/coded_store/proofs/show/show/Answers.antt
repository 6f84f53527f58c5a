use Rattle.std.proofs.Math.Facts.{Fits-lt-pow}
use Rattle.coded_store.proofs.ShowLemmas.{page_at_front, stands_with_codes, shows_right, shows_lost, told_right, told_lost}
use Rattle.coded_store.proofs.show.show.Goals as goal

pub returns-then-tally-gt0-clause-page : goal.returns-then-tally-gt0-clause-page
returns-then-tally-gt0-clause-page c =
    let stood = page_at_front _ _ _ _ c.args.geometry.now c.data_bytes.ensures c.split_at.ensures.front c.split_at.ensures.back in
    shows_lost _ _ _ _ _ stood c.correct_page-tally.ensures.lost c.if-tally-gt0.true c.lose.ensures

pub returns-then-tally-gt0-clause-wrong : goal.returns-then-tally-gt0-clause-wrong
returns-then-tally-gt0-clause-wrong c =
    let stood = page_at_front _ _ _ _ c.args.geometry.now c.data_bytes.ensures c.split_at.ensures.front c.split_at.ensures.back in
    told_lost _ _ _ _ stood c.correct_page-tally.ensures.lost c.if-tally-gt0.true

pub returns-clause-page : goal.returns-clause-page
returns-clause-page c =
    let stood = page_at_front _ _ _ _ c.args.geometry.now c.data_bytes.ensures c.split_at.ensures.front c.split_at.ensures.back in
    shows_right _ _ _ _ _ stood (stands_with_codes c.args.geometry.now c.args.stands.now c.requires.whole (λ i. Fits-lt-pow (c.type_inv.stands i)))
    c.correct_page-tally.ensures.lost c.if-tally-gt0.false c.correct_page-tally.ensures.page

pub returns-clause-wrong : goal.returns-clause-wrong
returns-clause-wrong c =
    let stood = page_at_front _ _ _ _ c.args.geometry.now c.data_bytes.ensures c.split_at.ensures.front c.split_at.ensures.back in
    told_right _ _ _ _ _ stood c.correct_page-tally.ensures.lost c.if-tally-gt0.false c.correct_page-tally.ensures.turned

pub returns-then-tally-gt0-clause-bytes : goal.returns-then-tally-gt0-clause-bytes
returns-then-tally-gt0-clause-bytes c = stands_with_codes c.args.geometry.now c.args.stands.now c.requires.whole (λ i. Fits-lt-pow (c.type_inv.stands i))

pub returns-clause-bytes : goal.returns-clause-bytes
returns-clause-bytes c = stands_with_codes c.args.geometry.now c.args.stands.now c.requires.whole (λ i. Fits-lt-pow (c.type_inv.stands i))
