-- What the command `correct` comes to.
use Rattle.std.specs.Prelude.{◌≡◌, ◌⊎◌, ℕ, ◌<◌, Bool, List, Option, IfSome}
use Rattle.std.specs.Io.KnownBytes.{Appends, Keeps}
use Rattle.page_layout.specs.declared.geometry.Geometry.{Geometry}
use Rattle.page_layout.specs.declared.geometry.GeometryFault.TheVariants.{SpareSize}
use Rattle.page_code.specs.Layout.{outer_bytes}
use Rattle.page_code.specs.Chip.{IsChipOf}
use Rattle.lab_correct.specs.declared.correcting.Loss.{Loss}
use Rattle.lab_correct.specs.Corrected.{IsCorrected, IsOwnCorrected}
use Rattle.lab_correct.specs.Map.{loss_map_text}
use Rattle.lab_commands.specs.Reports.{correct_text}
use Rattle.lab_commands.specs.declared.words.ArrayWords.{ArrayWords}
use Rattle.lab_commands.specs.declared.text.LabFault.{LabFault}
use Rattle.lab_commands.specs.declared.text.LabFault.TheVariants as fault
use Rattle.lab_commands.specs.Files.{IsFileOpened, Store, StoreAnswers, with_kept}
use Rattle.lab_commands.specs.Array.{AreAllowed, AreNotAllowed, IsUnmapped, IsArrayUnput, with_map}
use Rattle.lab_commands.specs.Undone.{IsGeometryAt, IsHalfPrinted, IsNoGeometry, LeavesAll, form_of_showing}

-- ---- done

-- how many bits were turned back, in how many rows, and the rows with lost chunks
pub record CorrectionCounts : Type 0 where
  pub turned : ℕ
  pub touched : ℕ
  pub losses : List Loss

-- The pieces are made of a dump that reads so: where its bytes are known the pieces and the counts are those of the chip's pages that they are,
-- each put right. Whatever it gave, they are those of some pages of the chip's sizes.
pub record ArePiecesPutRight (a : StoreAnswers) (path : List ℕ) (g chip : Geometry) (pieces : Option (List (List ℕ))) (c : CorrectionCounts) : Type 0 where
  pub known : Option (List ℕ)
  pub opened : IsFileOpened a path known
  pub made : IfSome known (IsCorrected g chip pieces c.turned c.touched c.losses)
  pub own : IsOwnCorrected g pieces c.turned c.touched c.losses

-- the dump was made beside OUT, with these counts
pub record MadeCorrected (a : StoreAnswers) (words : ArrayWords) (g : Geometry) (pieces : Option (List (List ℕ))) (c : CorrectionCounts) : Type 0 where
  pub chip : Geometry
  pub geometry_is : IsGeometryAt words.geometry.now g
  pub chip_is : IsChipOf g chip
  pub allowed : AreAllowed a words
  pub made : ArePiecesPutRight a words.dump.now g chip pieces c

-- of these geometries it was made and put in the place of OUT
pub record HasPutRight (a : StoreAnswers) (words : ArrayWords) (before after : Option Store) (g chip : Geometry) (c : CorrectionCounts) : Type 0 where
  pub pieces : Option (List (List ℕ))
  pub made : ArePiecesPutRight a words.dump.now g chip pieces c
  pub put : after ≡ with_kept before words.out.now pieces words.force

-- it was put in the place of OUT
pub record PlacedCorrected (a : StoreAnswers) (words : ArrayWords) (before after : Option Store) (g : Geometry) (c : CorrectionCounts) : Type 0 where
  pub pieces : Option (List (List ℕ))
  pub made : MadeCorrected a words g pieces c
  pub put : after ≡ with_kept before words.out.now pieces words.force

-- it was put in the place of OUT, and its map in that of FILE, where one is wanted
pub record PutCorrected (a : StoreAnswers) (words : ArrayWords) (before after : Option Store) (c : CorrectionCounts) : Type 0 where
  pub g : Geometry
  pub pieces : Option (List (List ℕ))
  pub made : MadeCorrected a words g pieces c
  pub put : after ≡ with_map (with_kept before words.out.now pieces words.force) words (loss_map_text g c.losses)

-- what is printed
abbrev pub text_of : ArrayWords → CorrectionCounts → List ℕ
text_of words c = correct_text (form_of_showing words.showing) c.turned c.touched c.losses

-- and the report printed
pub record WroteCorrected (a : StoreAnswers) (words : ArrayWords) (before after : Option Store) (out printed : Option (List ℕ)) : Type 0 where
  pub counts : CorrectionCounts
  pub put : PutCorrected a words before after counts
  pub told : Appends out printed (text_of words counts)

-- ---- not done

-- a chip's spare area, with the codes, would be too large
abbrev pub IsNoChip : Geometry → LabFault → Type 0
IsNoChip g told = (told ≡ fault.Geometry SpareSize) × (256 < outer_bytes g)

-- The first of this order: the geometry, and its chip's; whether OUT may be written, and FILE; memory; the dump and OUT.
abbrev pub IsUncorrectedBy : StoreAnswers → ArrayWords → (opens opened : Option ℕ) → LabFault → Type 0
IsUncorrectedBy a words opens opened told =
    IsNoGeometry words.geometry.now told
    ⊎ ((g : Geometry) × IsGeometryAt words.geometry.now g × (IsNoChip g told
    ⊎ ((chip : Geometry) × IsChipOf g chip × (AreNotAllowed a words told ⊎ (AreAllowed a words × IsArrayUnput a chip words opens opened told)))))

-- The dump was put in place and nothing printed, but its map was not put in its.
pub record PutNoMap (a : StoreAnswers) (words : ArrayWords) (before after : Option Store) (out printed : Option (List ℕ)) (told : LabFault) : Type 0 where
  pub g : Geometry
  pub pieces : Option (List (List ℕ))
  pub counts : CorrectionCounts
  pub made : MadeCorrected a words g pieces counts
  pub put : after ≡ with_kept before words.out.now pieces words.force
  pub silent : Keeps out printed
  pub unmapped : IsUnmapped a words told

-- No dump was put in place and nothing printed, for one of these reasons; or it was, and no map; or both were, and a beginning of the report printed.
abbrev pub IsCorrectFault : StoreAnswers → ArrayWords → Option Store → Option Store → (opens opened : Option ℕ) → (broke : Bool) → Option (List ℕ) → Option (List ℕ) → LabFault → Type 0
IsCorrectFault a words before after opens opened broke out printed told =
    (LeavesAll before after out printed × IsUncorrectedBy a words opens opened told)
    ⊎ PutNoMap a words before after out printed told
    ⊎ ((c : CorrectionCounts) × PutCorrected a words before after c × IsHalfPrinted broke out printed (text_of words c) told)
