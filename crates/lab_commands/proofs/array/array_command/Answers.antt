use Rattle.std.proofs.Common.{List, map, inl, inr, ap, subst, ◌∙◌, ◌≡◌, suc, option_map}
use Rattle.std.proofs.KnownBytes.{Keeps-refl}
use Rattle.lab_dump.specs.declared.held.Held.{Held}
use Rattle.lab_dump.specs.declared.map_head.Remark.TheVariants as remark
use Rattle.lab_dump.specs.Held.{mark_in, shown_in}
use Rattle.lab_dump.specs.Map.{map_text}
use Rattle.lab_commands.specs.Document.{Prints}
use Rattle.lab_commands.proofs.PrintLemmas.{done_by, undone_by}
use Rattle.lab_commands.specs.Reports.{array_text}
use Rattle.lab_commands.specs.Array.{IsArrayFault, PutArray, WroteArray, with_map}
use Rattle.lab_commands.specs.Undone.{form_of_showing}
use Rattle.lab_commands.proofs.ArrayLemmas.{unmapped_before}
use Rattle.lab_commands.proofs.UndoneLemmas.{left_all, handed}
use Rattle.lab_commands.proofs.array.array_command.Goals as goal

pub returns-in_err-told : goal.returns-in_err-told
returns-in_err-told g c =
    rw (handed c.from_residual.result _ c.from_residual.ensures.1) (record { ok = tt; fault = inl (left_all _ _ (g.W.Output.contents c.args.out.now) c.in_err-told.ensures.kept, c.in_err-told.ensures.fault); opened = tt })

pub returns-in_err-put_map : goal.returns-in_err-put_map
returns-in_err-put_map g c =
    let told = c.in_ok-told.told in
    let o = g.W.Output.contents c.args.out.now in
    let a = g.F.LabFiles.answers c.args.files.now in
    let placed = c.in_ok-told.ensures.placed in
    rw (handed c.from_residual-in_err-put_map.result _ c.from_residual-in_err-put_map.ensures.1) (record {
      ok = tt;
      fault = (inr (inl (record { g = told.geometry; last = told.last; pieces = placed.pieces; held = told.held.items; left = told.left; made = placed.made; put = c.in_err-put_map.ensures.kept ∙ placed.put; silent = Keeps-refl o; unmapped = unmapped_before a (g.F.LabFiles.answers c.place.new.files) c.args.words.array _ c.in_ok-told.ensures.no_more c.in_err-put_map.ensures.fault })));
      opened = tt;
    })

pub returns : goal.returns
returns g c =
    let o = g.W.Output.contents c.args.out.now in
    let a = g.F.LabFiles.answers c.args.files.now in
    let p = g.W.Output.contents c.print_array.new.out in
    let broke = g.W.Output.failed c.print_array.new.out in
    let k = g.F.LabFiles.kept c.args.files.now in
    let l = g.F.LabFiles.kept c.put_map.new.files in
    let words = c.args.words.array in
    let made = c.in_ok-told.told in
    let held = made.held.items in
    let placed = c.in_ok-told.ensures.placed in
    let put : PutArray a c.args.words k l made.geometry made.last held made.left = record {
      pieces = placed.pieces;
      made = placed.made;
      put = c.in_ok-put_map.ensures.ok ∙ (ap (λ (hs : List Held). with_map (g.F.LabFiles.kept c.place.new.files) words (map_text remark.Array made.geometry (map mark_in hs))) c.deref.ensures.value
          ∙ ap (λ x. with_map x words (map_text remark.Array made.geometry (map mark_in held))) placed.put);
    } in
    let printed : Prints broke o p (array_text (form_of_showing words.showing) made.geometry made.last (map shown_in held) made.left) c.print_array.result =
    subst (λ f. Prints broke o p (array_text f made.geometry made.last (map shown_in held) made.left) c.print_array.result) c.printer.ensures
    (subst (λ (hs : List Held). Prints broke o p (array_text c.printer.result.form made.geometry made.last (map shown_in hs) made.left) c.print_array.result) c.deref-2.ensures.value c.print_array.ensures) in
    record {
      opened = done_by (g.F.LabFiles.opened c.put_map.new.files ≡ option_map suc (g.F.LabFiles.opened c.args.files.now)) broke o p _ c.print_array.result c.ended.result printed c.ended.ensures (λ told. c.in_ok-put_map.ensures.opened ∙ c.in_ok-told.ensures.opened);
      ok = done_by (WroteArray a c.args.words k l o p) broke o p _ c.print_array.result c.ended.result printed c.ended.ensures (λ told. record { g = made.geometry; last = made.last; held = held; left = made.left; put = put; told = told });
      fault =
          undone_by (IsArrayFault a c.args.words k l (g.F.LabFiles.opened c.args.files.now) (g.F.LabFiles.opened c.put_map.new.files) broke o p) broke o p _ c.print_array.result c.ended.result printed c.ended.ensures
          (λ told half. inr (inr (made.geometry, made.last, held, made.left, put, half)));
    }
