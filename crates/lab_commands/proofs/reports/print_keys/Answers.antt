use Rattle.std.proofs.Common.{◌≡◌, ◌+◌, ◌++◌, ℕ, Bool, List, refl, subst}
use Rattle.page_layout.specs.declared.geometry.Geometry.{Geometry}
use Rattle.page_layout.specs.Geometry.{translation_pages, table_pages}
use Rattle.lab_dump.specs.declared.held.KeyState.{KeyState}
use Rattle.lab_commands.specs.declared.document.ReportForm.{ReportForm}
use Rattle.lab_commands.specs.declared.lines.Label.TheVariants as label
use Rattle.lab_commands.specs.Document.{Prints, text_below}
use Rattle.lab_commands.specs.Reports.{key_line_at, keys_text, table_at}
use Rattle.lab_commands.proofs.reports.print_keys.Goals as goal

keys_by : (form : ReportForm) (geo : Geometry) (states : List KeyState) (formed : List Bool) (n t u : ℕ) → n ≡ geo.sectors → t ≡ translation_pages geo → u ≡ table_pages geo
    → text_below form (table_at states (n + t) formed) u ++ (text_below form (key_line_at label.Sector states 0) n ++ (text_below form (key_line_at label.Translation states n) t ++ text_below form (key_line_at label.Table states (n + t)) u)) ≡ keys_text form geo states formed
unfolding keys_text
keys_by form geo states formed n t u ns ts us = rw (ns, ts, us) refl

pub returns : goal.returns
returns g c =
    let o = g.W.Output.contents in
    subst (λ (text : List ℕ). Prints (g.W.Output.failed c.print_parts.new.out) (o c.args.out.now) (o c.print_parts.new.out) text c.print_parts.result)
    (keys_by c.args.printer.form c.args.geometry.now c.args.states.now c.args.formed.now _ _ _ c.sectors-sectors.ensures c.translation_pages-translations.ensures c.table_pages-tables.ensures) c.print_parts.ensures
