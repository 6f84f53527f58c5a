use Rattle.std.proofs.Common.{◌∙◌, sym}
use Rattle.lab_mend.specs.Tried.{first_at, pages_at}
use Rattle.lab_mend.proofs.TriedLemmas.{bit_no}
use Rattle.lab_mend.proofs.trial.list_bit.Goals as goal

pub returns-then-not-is_apart-clause-few : goal.returns-then-not-is_apart-clause-few
returns-then-not-is_apart-clause-few c = λ yes.
    bit_no (first_at c.args.geometry.now c.args.pages.now c.args.places.now) (pages_at c.args.geometry.now c.args.pages.now c.args.places.now) c.args.bits.now.items c.args.bit (sym c.is_apart.ensures ∙ c.if-not-is_apart.true)
