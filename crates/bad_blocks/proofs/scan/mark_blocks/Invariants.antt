use Rattle.std.proofs.Common.{◌≡◌, ◌<◌, ◌≤◌, ◌+◌, ◌*◌, ◌^◌, ℕ, true, false, get_or}
use Rattle.page_layout.specs.OnlyReads.{OnlyReads}
use Rattle.bad_blocks.specs.Marks.{is_marked}
use Rattle.bad_blocks.proofs.scan.mark_blocks.Given as goal

abbrev pub invariant-loop-block : goal.invariant-loop-block
invariant-loop-block g l =
    let s = g.S.PageSource in
    record {
      marks : s.view.honest l.initial.source ≡ true → (k : ℕ) → k < l.block → get_or l.marks k false ≡ is_marked l.geometry (s.view.flash l.initial.source).image k;
      same : s.view.honest l.initial.source ≡ true → s.view.flash l.source ≡ s.view.flash l.initial.source;
      only_reads : OnlyReads s.view l.initial.source l.source;
      reads : s.view.reads l.initial.source + 2 * l.block < 2 ^ 64 → s.view.reads l.source ≡ s.view.reads l.initial.source + 2 * l.block;
      most_reads : s.view.reads l.source ≤ s.view.reads l.initial.source + 2 * l.block;
    }
