use Rattle.std.proofs.Common.{rules, ◌≡◌, ◌<◌, ◌∙◌, ℕ, Bool, List, Option, ap, inl, inr, refl, subst, length}
use Rattle.std.proofs.KnownBytes.{Keeps-refl}
use Rattle.std.specs.Io.KnownBytes.{Appends}
use Rattle.file_die.specs.Store.{Held}
use Rattle.disk_commands.specs.declared.text.DiskCommandFault.{DiskCommandFault}
use Rattle.disk_commands.specs.declared.text.DiskCommandFault.TheVariants as fault
use Rattle.disk_commands.specs.declared.words.InfoWords.{InfoWords}
use Rattle.disk_commands.specs.Files.{DiskFileAnswers}
use Rattle.disk_commands.specs.Check.{IsDamageAt, IsUnclean, damage_text}
use Rattle.disk_commands.specs.Told.{IsPrintedInPart, form_of}
use Rattle.disk_server.proofs.FaultLemmas.{is_handed_on}
use Rattle.disk_commands.proofs.TellLemmas.{told_stops, unchecked_stops}
use Rattle.disk_commands.proofs.check.check_command.Goals as goal

module _ {S : Type 0} (held : S → Held) (honest : S → Bool) (failed : S → ℕ) (a : DiskFileAnswers) (words : InfoWords) (before after : Option (List ℕ)) (missing bad unsound text : List ℕ)
    (at : IsDamageAt held honest a words.disk.now missing bad unsound) (is : text ≡ damage_text (form_of words.json) missing bad unsound) where
  -- all was looked at, and was not printed
  not_printed : (told : DiskCommandFault) → IsPrintedInPart text before after told → IsUnclean held honest failed a words before after told
  not_printed told part = inr (inl (record { missing = missing; bad = bad; unsound = unsound; at = at; part = subst (λ t. IsPrintedInPart t before after told) is part }))

  -- it was printed, and sectors are lost
  some_lost : (count : ℕ) → count ≡ length missing → 0 < count → Appends before after text → IsUnclean held honest failed a words before after (fault.Lost words.disk count)
  some_lost count count_is some printed =
      inr (inr (refl, some, record { missing = missing; bad = bad; unsound = unsound; at = at; count_is = count_is; printed = subst (Appends before after) is printed }))

pub returns-in_err-damage : goal.returns-in_err-damage
returns-in_err-damage g c =
    rw (is_handed_on _ _ c.from_residual.ensures.1) (record {
      ok = tt;
      fault = inl (c.in_err-damage.ensures.fault, Keeps-refl (g.W.Write.contents c.args.out.now));
      stops = unchecked_stops g.W.Outgoing.fails _ g.F.Store.Store.held g.F.Store.Store.honest g.F.Store.Store.failed (g.F.DiskFiles.answers c.args.files.now) c.args.words.disk.now c.in_err-damage.field-0.0 c.in_err-damage.ensures.fault;
      kept = c.in_err-damage.ensures.kept;
      opened = c.in_err-damage.ensures.opened;
    })

pub returns-in_default : goal.returns-in_default
returns-in_default g c = record {
  ok = tt;
  fault = inl (inr tt, Keeps-refl (g.W.Write.contents c.args.out.now));
  stops = tt;
  kept = c.in_ok-damage.ensures.kept;
  opened = c.in_ok-damage.ensures.opened;
}

pub returns-in_err-print_text : goal.returns-in_err-print_text
returns-in_err-print_text g c =
    let found = c.in_ok-damage.damage in
    let is = c.as_str.ensures.value ∙ c.in-Ok.ensures ∙ ap (λ f. damage_text f found.lost.items found.bad.items found.unsound.items) c.form_of.ensures in
    rw (is_handed_on _ _ c.from_residual-in_err-print_text.ensures.1) (record {
      ok = tt;
      fault = not_printed g.F.Store.Store.held g.F.Store.Store.honest g.F.Store.Store.failed (g.F.DiskFiles.answers c.args.files.now) c.args.words (g.W.Write.contents c.args.out.now) (g.W.Write.contents c.print_text.new.out)
          found.lost.items found.bad.items found.unsound.items c.as_str.result.now c.in_ok-damage.ensures.ok is _ c.in_err-print_text.ensures.fault;
      stops = told_stops g.W.Outgoing.fails c.print_text.new.out (g.F.DiskFiles.answers c.args.files.now) c.args.words.disk.now c.in_err-print_text.field-0.0 c.in_err-print_text.ensures.stops;
      kept = c.in_ok-damage.ensures.kept;
      opened = c.in_ok-damage.ensures.opened;
    })

pub returns : goal.returns
returns g c =
    let found = c.in_ok-damage.damage in
    let is = c.as_str.ensures.value ∙ c.in-Ok.ensures ∙ ap (λ f. damage_text f found.lost.items found.bad.items found.unsound.items) c.form_of.ensures in
    let some : 0 < c.len.result = search rules in
    let count : c.len.result ≡ length found.lost.items = search rules in
    record {
      ok = tt;
      fault = some_lost g.F.Store.Store.held g.F.Store.Store.honest g.F.Store.Store.failed (g.F.DiskFiles.answers c.args.files.now) c.args.words (g.W.Write.contents c.args.out.now) (g.W.Write.contents c.print_text.new.out)
          found.lost.items found.bad.items found.unsound.items c.as_str.result.now c.in_ok-damage.ensures.ok is c.len.result count some c.in_ok-print_text.ensures.printed;
      stops = tt;
      kept = c.in_ok-damage.ensures.kept;
      opened = c.in_ok-damage.ensures.opened;
    }
