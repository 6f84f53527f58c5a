-- What the command `repair` comes to where it isn't done.
use Rattle.std.proofs.Common.{inl, inr, ℕ, Option}
use Rattle.lab_commands.specs.declared.text.LabFault.{LabFault}
use Rattle.lab_commands.specs.declared.words.RepairWords.{RepairWords}
use Rattle.lab_commands.specs.Files.{StoreAnswers}
use Rattle.lab_commands.specs.Repair.{AreUnasked, IsUnrepairedBy}

-- the words ask nothing
pub unasked : (a : StoreAnswers) (words : RepairWords) (opens opened : Option ℕ) (told : LabFault) → AreUnasked words told → IsUnrepairedBy a words opens opened told
unasked a words opens opened told (inl none) = inl none
unasked a words opens opened told (inr (g, shape, inl rows)) = inr (g, shape, inl rows)
unasked a words opens opened told (inr (g, shape, inr (rows, are, bits))) = inr (g, shape, inr (rows, are, inl bits))
