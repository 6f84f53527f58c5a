use Rattle.std.proofs.Common.{◌∙◌}
use Rattle.std.proofs.lemmas.List.{with_items_is}
use Rattle.page_layout.specs.Page.{page}
use Rattle.collection.proofs.Acts.{looks_filled}
use Rattle.collection.proofs.Programs.{buffer_body}
use Rattle.collection.proofs.WriteBacks.{entries_read, entries_none}
use Rattle.collection.proofs.engine.Engine.load_translation.Goals as goal

pub returns-in_ok-read_of-in-Some-clause-truth : goal.returns-in_ok-read_of-in-Some-clause-truth
returns-in_ok-read_of-in-Some-clause-truth g c = λ honest is. entries_read c.args.self.now.geometry _ c.args.t c.in-Some.at c.args.row (page c.read_of.new.buffer.body.items c.read_of.new.buffer.spare.items) is c.in-Some.is (c.in_ok-read_of-in-Some.ensures.page honest)

pub returns-in-None-clause-truth : goal.returns-in-None-clause-truth
returns-in-None-clause-truth g c = λ honest is. rw
    (with_items_is c.args.self.now.page.body c.clear_entries.new.body (c.clear_entries.auto.body ∙ c.deref_mut.ensures.len))
    (entries_none c.args.self.now.geometry _ c.args.t c.args.row c.deref_mut.result.now c.args.self.now.page.body.items _ is c.in-None.is
    c.clear_entries.ensures c.deref_mut.ensures.value c.requires.safe.page.body)

pub returns-in-None-clause-looks : goal.returns-in-None-clause-looks
returns-in-None-clause-looks g c = looks_filled c.args.self.now _ c.requires.safe (buffer_body c.args.self.now.geometry c.args.self.now.page c.clear_entries.new.body c.requires.safe.page)
