use Rattle.std.proofs.Common.{◌∙◌, ap, inl, inr}
use Rattle.std.proofs.KnownBytes.{Keeps-refl}
use Rattle.disk_commands.specs.Info.{info_text}
use Rattle.disk_commands.specs.Told.{form_of}
use Rattle.disk_server.proofs.FaultLemmas.{is_handed_on}
use Rattle.disk_commands.proofs.TellLemmas.{has_not_told, has_told, result_stops, unlooked_stops}
use Rattle.disk_commands.proofs.info.info_command.Goals as goal

pub returns-in_err-info : goal.returns-in_err-info
returns-in_err-info g c =
    rw (is_handed_on _ _ c.from_residual.ensures.1) (record {
      ok = tt;
      fault = inl (c.in_err-info.ensures.fault, Keeps-refl (g.W.Write.contents c.args.out.now));
      stops = unlooked_stops g.W.Outgoing.fails _ g.F.Store.Store.held g.F.Store.Store.honest g.F.Store.Store.failed (g.F.DiskFiles.answers c.args.files.now) c.args.words.disk.now c.in_err-info.field-0.0 c.in_err-info.ensures.fault;
      kept = c.in_err-info.ensures.kept;
      opened = c.in_err-info.ensures.opened;
    })

pub returns-in_default : goal.returns-in_default
returns-in_default g c = record {
  ok = tt;
  fault = inl (inr (inl tt), Keeps-refl (g.W.Write.contents c.args.out.now));
  stops = tt;
  kept = c.in_ok-info.ensures.kept;
  opened = c.in_ok-info.ensures.opened;
}

pub returns : goal.returns
returns g c =
    let store = g.F.Store.Store in
    let answers = g.F.DiskFiles.answers c.args.files.now in
    let info = c.in_ok-info.info in
    let lost = c.in_ok-info.lost.items in
    let before = g.W.Write.contents c.args.out.now in
    let after = g.W.Write.contents c.print_text.new.out in
    let at = c.in_ok-info.ensures.ok in
    let is = c.as_str.ensures.value ∙ c.in-Ok.ensures ∙ ap (λ f. info_text f info c.deref.result.now) c.form_of.ensures ∙ ap (info_text (form_of c.args.words.json) info) c.deref.ensures.value in
    record {
      ok = has_told store.held store.honest g.F.Store.TellsMended.mended answers c.args.words before after info lost c.as_str.result.now c.print_text.result at is c.print_text.ensures.printed;
      fault = has_not_told store.held store.honest g.F.Store.TellsMended.mended store.failed answers c.args.words before after info lost c.as_str.result.now c.print_text.result at is c.print_text.ensures.fault;
      stops = result_stops g.W.Outgoing.fails c.print_text.new.out answers c.args.words.disk.now c.print_text.result c.print_text.ensures.stops;
      kept = c.in_ok-info.ensures.kept;
      opened = c.in_ok-info.ensures.opened;
    }
