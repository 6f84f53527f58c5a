use Rattle.std.proofs.Common.{◌≡◌, ◌≤◌, ◌∙◌, sym, subst}
use Rattle.std.proofs.lemmas.Bool.{le-leb, leb-true}
use Rattle.page_layout.specs.Geometry.{need_at}
use Rattle.disk_commands.proofs.ShapeLemmas.{need_same}
use Rattle.disk_commands.proofs.shapes.formats.Goals as goal

pub returns-in-Ok : goal.returns-in-Ok
returns-in-Ok c =
    let p = c.args.pages in
    let b = c.args.blocks in
    let s = c.args.sectors in
    let share = c.args.share in
    let needed : c.need_at.result ≡ need_at c.in-Ok.geometry share = c.need_at.ensures in (
      λ enough. (c.in-Ok.geometry, c.in-Ok.ensures.ok, subst (λ n. n ≤ b) needed (leb-true c.need_at.result b enough)),
      λ formats.
          let same : need_at formats.0 share ≡ c.need_at.result = need_same formats.0 c.in-Ok.geometry p share b s formats.1 c.in-Ok.ensures.ok ∙ sym needed in
          le-leb c.need_at.result b (subst (λ n. n ≤ b) same formats.2),
    )

pub returns-in-Err : goal.returns-in-Err
returns-in-Err c = (λ enough. absurd (cc), λ formats. absurd (c.in-Err.ensures.err formats.0 formats.1))
