use Rattle.std.proofs.Common.{◌≡◌, ◌<◌, ◌≤◌, ◌+◌, ◌*◌, ◌^◌, ℕ, true, false, get_or}
use Rattle.std.specs.Prelude.{IfSome}
use Rattle.page_layout.specs.Geometry.{row_count}
use Rattle.page_layout.specs.Page.{IsImage}
use Rattle.page_layout.specs.OnlyReads.{OnlyReads}
use Rattle.bad_blocks.specs.declared.class.Class.TheVariants.{Good}
use Rattle.bad_blocks.specs.Marks.{is_marked}
use Rattle.mount.specs.Fresh.{is_used, IsFirst}
use Rattle.mount.specs.Formatted.{class_after}
use Rattle.mount.proofs.format_survey.survey.Given as goal

abbrev pub invariant-loop-block : goal.invariant-loop-block
invariant-loop-block g l =
    let s = g.S.PageSource in
    record {
      classes : s.view.honest l.initial.source ≡ true → (k : ℕ) → k < l.block → get_or l.classes k Good ≡ class_after (is_marked l.geometry (s.view.flash l.initial.source).image k) false;
      first : s.view.honest l.initial.source ≡ true → IsFirst (is_used l.geometry (s.view.flash l.initial.source).image) 0 (l.block * l.geometry.pages) l.first;
      row : IfSome l.first (λ row. row < row_count l.geometry);
      same : s.view.honest l.initial.source ≡ true → s.view.flash l.source ≡ s.view.flash l.initial.source;
      whole : s.view.honest l.initial.source ≡ true → 0 < l.block → IsImage l.geometry (s.view.flash l.initial.source).image;
      only_reads : OnlyReads s.view l.initial.source l.source;
      reads : s.view.reads l.initial.source + l.block * l.geometry.pages < 2 ^ 64 → s.view.reads l.source ≡ s.view.reads l.initial.source + l.block * l.geometry.pages;
      most_reads : s.view.reads l.source ≤ s.view.reads l.initial.source + l.block * l.geometry.pages;
    }
