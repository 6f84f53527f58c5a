use Rattle.std.proofs.Common.{inl, inr, sym, subst, ◌∙◌}
use Rattle.lab_commands.specs.Arrange.{IsUnordered}
use Rattle.lab_commands.proofs.UndoneLemmas.{unwritten_before, no_more_then, handed}
use Rattle.lab_commands.proofs.ArrangeLemmas.{unordered}
use Rattle.lab_commands.proofs.arrange.put_in_order.Goals as goal

pub returns-in_err-dump : goal.returns-in_err-dump
returns-in_err-dump g c =
    rw (handed c.from_residual.result _ c.from_residual.ensures.1) (record {
      made = tt;
      fault = (inl c.in_err-dump.ensures.fault);
      no_more = c.open_dump.ensures.no_more;
      beside = tt;
      kept = c.open_dump.ensures.kept;
      opened = c.open_dump.ensures.opened;
    })

pub returns-in_err-target : goal.returns-in_err-target
returns-in_err-target g c =
    let a = g.F.LabFiles.answers c.args.files.now in
    let b = g.F.LabFiles.answers c.open_dump.new.files in
    rw (handed c.from_residual-in_err-target.result _ c.from_residual-in_err-target.ensures.1) (record {
      made = tt;
      fault = (inr (inr (inl (unwritten_before a b c.args.words.now.out.now _ c.in_ok-dump.ensures.no_more c.in_err-target.ensures.fault))));
      no_more = no_more_then _ _ _ c.open_dump.ensures.no_more c.create_beside.ensures.no_more;
      beside = tt;
      kept = c.in_err-target.ensures.kept ∙ c.open_dump.ensures.kept;
      opened = c.create_beside.ensures.opened ∙ c.open_dump.ensures.opened;
    })

pub returns-in-Ok-clause-no_more : goal.returns-in-Ok-clause-no_more
returns-in-Ok-clause-no_more g c = no_more_then _ _ _ c.open_dump.ensures.no_more c.create_beside.ensures.no_more

pub returns-in-Ok-clause-beside : goal.returns-in-Ok-clause-beside
returns-in-Ok-clause-beside g c = c.in_ok-target.ensures.made ∙ c.open_dump.ensures.kept

pub returns-clause-no_more : goal.returns-clause-no_more
returns-clause-no_more g c = no_more_then _ _ _ (no_more_then _ _ _ c.open_dump.ensures.no_more c.create_beside.ensures.no_more) c.discard.ensures.no_more

pub returns-clause-kept : goal.returns-clause-kept
returns-clause-kept g c = c.discard.ensures.kept ∙ (c.in_ok-target.ensures.made ∙ c.open_dump.ensures.kept)

pub returns-in-Ok-clause-made : goal.returns-in-Ok-clause-made
returns-in-Ok-clause-made g c =
    record { known = g.F.Dump.Dump.bytes c.in_ok-dump.dump; opened = c.in_ok-dump.ensures.bytes; arranged = c.in-Ok.ensures.ok; sized = c.in-Ok.ensures.sized }

pub returns-clause-fault : goal.returns-clause-fault
returns-clause-fault g c =
    let a = g.F.LabFiles.answers c.args.files.now in
    let dump = c.args.words.now.dump in
    let out = c.args.words.now.out in
    let err = c.in-Err in
    subst (λ told. IsUnordered a c.args.geometry.now c.args.arrangement.now dump.now out.now told) (sym c.unordered_as.ensures)
    (unordered a dump out c.args.geometry.now c.args.arrangement.now _ err.undone.fault c.in_ok-dump.ensures.bytes err.ensures.err (λ is. c.open_dump.ensures.fails c.arrange_dump.new.dump (err.ensures.source is))
    (λ is. c.open_dump.ensures.no_more.writes_same (c.create_beside.ensures.fails err.undone.target (err.ensures.target is))))

pub returns-in-Ok-clause-opened : goal.returns-in-Ok-clause-opened
returns-in-Ok-clause-opened g c = c.in_ok-target.ensures.opened ∙ c.in_ok-dump.ensures.opened

pub returns-clause-opened : goal.returns-clause-opened
returns-clause-opened g c = c.discard.ensures.opened ∙ (c.in_ok-target.ensures.opened ∙ c.in_ok-dump.ensures.opened)
