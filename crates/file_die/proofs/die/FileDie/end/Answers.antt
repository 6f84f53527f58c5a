use Rattle.file_die.proofs.DieLemmas.{ended_so, not_legal, is_legal}
use Rattle.file_die.proofs.die.FileDie.end.Goals as goal

pub returns-then-not-change : goal.returns-then-not-change
returns-then-not-change g c =
    let i = c.self.inside in
    ended_so i.store i.next_pages.items i.abuse _ i.register.items _ i.sync_when _ c.args.block c.args.next_page c.args.change.legal c.args.change.passed _ c.self.view_is (not_legal _ _ _ _ c.if-not-change.true c.saturating_add-self-inside.ensures)

pub returns-else-not-change : goal.returns-else-not-change
returns-else-not-change g c =
    let i = c.self.inside in
    ended_so i.store i.next_pages.items i.abuse _ i.register.items _ i.sync_when _ c.args.block c.args.next_page c.args.change.legal c.args.change.passed _ c.self.view_is (is_legal _ _ _ c.if-not-change.false)
