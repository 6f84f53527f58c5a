use Rattle.std.proofs.Common.{arith, ◌∙◌, refl, rules, ◌≡◌, length, ap, ◌+◌}
use Rattle.lab_commands.specs.Files.{after_opens}
use Rattle.lab_commands.proofs.MergeLemmas.{opened_next, opens_next, unopened_at}
use Rattle.lab_commands.proofs.UndoneLemmas.{no_more_first, no_more_then, handed}
use Rattle.lab_commands.proofs.merge.open_all.Goals as goal

pub returns-in_err-reader : goal.returns-in_err-reader
returns-in_err-reader g c =
    rw (handed c.from_residual.result _ c.from_residual.ensures.1) (record {
      opened = tt;
      fails = tt;
      fault = (unopened_at _ _ c.args.dumps.now c.loop-place.place _ _ (omega arith) c.loop-place.invariant.so_far.no_more c.in_err-reader.ensures.fault);
      no_more = no_more_then _ _ _ c.loop-place.invariant.so_far.no_more c.open_file.ensures.no_more;
      kept = c.open_file.ensures.kept ∙ c.loop-place.invariant.so_far.kept;
      once = tt;
      some = (c.loop-place.place + 1, omega arith, opens_next c.loop-place.place _ _ _ c.loop-place.invariant.opens c.open_file.ensures.opened);
    })

pub loop-place-preserved : goal.loop-place-preserved
loop-place-preserved g c = record {
  so_far = opened_next g.F.Reader.DumpReader.remaining _ _ _ _ _ _ c.args.dumps.now c.loop-place.readers.items c.push_reserved.new.self.items c.in_ok-reader.reader c.loop-place.place _ _ _ _ (omega arith)
      c.loop-place.invariant.so_far c.in_ok-reader.ensures.no_more c.in_ok-reader.ensures.kept c.in_ok-reader.ensures.bytes c.push_reserved.ensures.items c.push_reserved.ensures.capacity;
  opens = opens_next c.loop-place.place _ _ _ c.loop-place.invariant.opens c.in_ok-reader.ensures.opened;
  fails = λ some reader failed. c.loop-place.invariant.so_far.no_more.reads_same (c.in_ok-reader.ensures.fails reader failed);
}

pub loop-place-init : goal.loop-place-init
loop-place-init g c = record { so_far = record { no_more = no_more_first _; kept = refl; opened = search rules; places = refl }; opens = refl; fails = λ some. absurd (omega arith) }

pub returns-clause-once : goal.returns-clause-once
returns-clause-once g c =
    let end : c.loop-place.place ≡ length c.args.dumps.now = omega arith in
    c.loop-place.invariant.opens ∙ ap (λ k. after_opens k (g.F.LabFiles.opened c.args.files.now)) end
