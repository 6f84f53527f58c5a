use Rattle.std.proofs.Common.{◌≡◌, ◌<◌, ◌≤◌, ℕ, None}
use Rattle.translation_pages.specs.TranslationPage.{entry_at}
use Rattle.collection.proofs.engine.entries.pad_entries.Given as goal

abbrev pub invariant-past : goal.invariant-past
invariant-past l = record {
  cleared : (k : ℕ) → l.used ≤ k → k < l.i → entry_at l.body k ≡ None;
  kept : (k : ℕ) → k < l.used → entry_at l.body k ≡ entry_at l.initial.body k;
}
