use Rattle.std.proofs.Common.{inl, inr, refl, rules}
use Rattle.certificate.specs.Claim.{sizes_of}
use Rattle.lab_commands.proofs.CompareLemmas.{same_sizes}
use Rattle.lab_commands.proofs.UndoneLemmas.{handed}
use Rattle.lab_commands.proofs.compare.compare_with.Goals as goal

pub returns-in_err-reader : goal.returns-in_err-reader
returns-in_err-reader g c =
    rw (handed c.from_residual.result _ c.from_residual.ensures.1) (record {
      ok = tt;
      sizes = tt;
      fault = (inl c.in_err-reader.ensures.fault);
      kept = c.open_file.ensures.kept;
      opened = c.open_file.ensures.opened;
    })

pub returns-in-Ok-clause-sizes : goal.returns-in-Ok-clause-sizes
returns-in-Ok-clause-sizes g c = same_sizes c.args.certificate.now.sizes (sizes_of c.args.geometry.now) (λ ne. absurd (let clash = c.in-Ok.ensures.differs.1 ne in cc))

pub returns-clause-fault : goal.returns-clause-fault
returns-clause-fault g c =
    inr (inl (refl, record { known = g.F.Reader.DumpReader.remaining c.in_ok-reader.reader; opened = c.in_ok-reader.ensures.bytes }, c.in_ok-reader.ensures.fails c.compare_dump.new.reader (search rules)))
