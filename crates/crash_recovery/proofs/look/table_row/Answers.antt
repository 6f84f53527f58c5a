use Rattle.crash_recovery.proofs.LookLemmas as lemma
use Rattle.crash_recovery.proofs.LookLemmas.{key_within, table_there}
use Rattle.crash_recovery.proofs.look.table_row.Goals as goal

pub directory_row-requires : goal.directory_row-requires
directory_row-requires c = key_within c.args.geometry.now c.args.block c.translation_pages.result c.entries-entries.result _ c.requires.in_range c.translation_pages.ensures c.entries-entries.ensures c.requires.claim.whole.directory

pub returns-clause-is : goal.returns-clause-is
returns-clause-is c = record {
  newest_is = λ capacity image agrees. lemma.table_row c.args.geometry.now capacity image c.args.certificate.now c.args.block c.translation_pages.result c.entries-entries.result
      c.directory_row.result agrees c.requires.in_range c.translation_pages.ensures c.entries-entries.ensures c.directory_row.ensures.is;
  there = λ capacity image agrees none. table_there c.args.geometry.now capacity image c.args.certificate.now c.args.block c.translation_pages.result c.entries-entries.result
      c.directory_row.result agrees c.requires.in_range c.translation_pages.ensures c.entries-entries.ensures c.directory_row.ensures.is none;
}
