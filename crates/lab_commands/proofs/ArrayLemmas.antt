-- What the command `array` comes to where it isn't done.
use Rattle.std.proofs.Common.{inl, inr, ℕ, false, List, Option, Some, None}
use Rattle.std.specs.Prelude.{IsSomeAnd}
use Rattle.std.specs.Borrow.{Bor}
use Rattle.lab_commands.specs.declared.words.ArrayWords.{ArrayWords}
use Rattle.lab_commands.specs.declared.text.LabFault.{LabFault}
use Rattle.lab_commands.specs.declared.text.LabFault.TheVariants as fault
use Rattle.lab_commands.specs.Files.{AnswersNoMore, StoreAnswers}
use Rattle.lab_commands.specs.Undone.{IsMapUnplaced, IsUnwritten, MayNotWrite}
use Rattle.lab_commands.specs.Array.{IsMapNotAllowed, IsUnmapped, as_map}
use Rattle.lab_commands.proofs.UndoneLemmas.{map_unplaced_before}

-- ---- whether FILE may be written

pub map_unasked_out : (a : StoreAnswers) (words : ArrayWords) (file : List ℕ) (told : LabFault) → IsUnwritten a words.out.now told → IsMapNotAllowed a words file told
map_unasked_out a words file fault.OutOfMemory k = inl k
map_unasked_out a words file (fault.Write word) k = inl k
map_unasked_out a words file _ k = absurd k

pub map_not_allowed : (a : StoreAnswers) (words : ArrayWords) (file : List ℕ) (told : LabFault) → a.says_same words.out.now file false → MayNotWrite a words.dump.now file words.force told → IsMapNotAllowed a words file (as_map told)
map_not_allowed a words file fault.IsDump other k = (other, k)
map_not_allowed a words file fault.Exists other k = (other, k)
map_not_allowed a words file fault.NoFile other k = (other, k)
map_not_allowed a words file fault.OutOfMemory other (inl k) = inr (other, inl k)
map_not_allowed a words file fault.OutOfMemory other (inr k) = inr (other, inr k)
map_not_allowed a words file (fault.Write word) other (inl k) = inr (other, inl k)
map_not_allowed a words file (fault.Write word) other (inr (stands, k)) = absurd k
map_not_allowed a words file (fault.Read word) other (inl k) = absurd k
map_not_allowed a words file (fault.Read word) other (inr k) = inr (other, inr k)
map_not_allowed a words file _ other (inl k) = absurd k
map_not_allowed a words file _ other (inr (stands, k)) = absurd k

-- ---- the map

pub unmapped_before : (a b : StoreAnswers) (words : ArrayWords) (told : LabFault) → AnswersNoMore a b → IsUnmapped b words told → IsUnmapped a words told
unmapped_before a b words told more h = over words.map h
  where
    over : (m : Option (Bor (List ℕ))) → IsSomeAnd m (λ file. IsMapUnplaced b file.now words.force told) → IsSomeAnd m (λ file. IsMapUnplaced a file.now words.force told)
    over None k = absurd k
    over (Some file) k = map_unplaced_before a b file.now words.force told more k
