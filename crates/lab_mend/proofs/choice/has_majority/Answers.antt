use Rattle.std.proofs.Common.{◌∙◌, ap, arith}
use Rattle.lab_dump.specs.PageBytes.{is_sound, page_from_bytes}
use Rattle.lab_mend.specs.Majority.{majority}
use Rattle.lab_mend.specs.Pages.{pages_in}
use Rattle.lab_mend.proofs.MajorityLemmas.{majority_again}
use Rattle.lab_mend.proofs.FoundLemmas.{few_readings, many_readings}
use Rattle.lab_mend.proofs.choice.has_majority.Goals as goal

pub returns-then-count-lt3-clause-is : goal.returns-then-count-lt3-clause-is
returns-then-count-lt3-clause-is c = few_readings c.args.count (is_sound (majority c.args.geometry.now (pages_in c.args.geometry.now c.args.pages.now c.args.count))) (omega arith)

pub returns-clause-is : goal.returns-clause-is
returns-clause-is c =
    let geo = c.args.geometry.now in
    let ps = pages_in geo c.args.pages.now c.args.count in
    many_readings c.args.count (is_sound (majority geo ps)) c.is_sound.result (omega arith)
    (c.is_sound.ensures ∙ ap is_sound (ap (page_from_bytes geo.data_bytes) c.write_majority.ensures ∙ majority_again geo ps))
