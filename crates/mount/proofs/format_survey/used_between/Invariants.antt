use Rattle.std.proofs.Common.{◌≡◌, ◌<◌, ◌≤◌, ◌+◌, ◌-◌, ◌^◌, true}
use Rattle.std.specs.Prelude.{IfSome}
use Rattle.page_layout.specs.Flash.{page_at}
use Rattle.page_layout.specs.OnlyReads.{OnlyReads}
use Rattle.mount.specs.Fresh.{is_page_used, IsFirst}
use Rattle.mount.proofs.format_survey.used_between.Given as goal

abbrev pub invariant-loop-row : goal.invariant-loop-row
invariant-loop-row g l =
    let s = g.S.PageSource in
    record {
      first : s.view.honest l.initial.source ≡ true → IsFirst (λ row. is_page_used l.marked (page_at (s.view.flash l.initial.source) row)) l.from l.row l.first;
      row : IfSome l.first (λ row. row < l.row);
      same : s.view.honest l.initial.source ≡ true → s.view.flash l.source ≡ s.view.flash l.initial.source;
      only_reads : OnlyReads s.view l.initial.source l.source;
      reads : s.view.reads l.initial.source + (l.row - l.from) < 2 ^ 64 → s.view.reads l.source ≡ s.view.reads l.initial.source + (l.row - l.from);
      most_reads : s.view.reads l.source ≤ s.view.reads l.initial.source + (l.row - l.from);
    }
