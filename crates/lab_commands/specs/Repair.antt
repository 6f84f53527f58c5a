-- What the command `repair` comes to.
use Rattle.std.specs.Prelude.{◌≡◌, ◌⊎◌, ℕ, ◌*◌, nat_le, if◌then◌else◌, List, Option, IfSome, Bool}
use Rattle.std.specs.Io.KnownBytes.{Appends}
use Rattle.page_layout.specs.declared.geometry.Geometry.{Geometry}
use Rattle.page_layout.specs.Geometry.{page_bytes}
use Rattle.lab_dump.specs.declared.rows.Rows.{Rows}
use Rattle.lab_mend.specs.declared.repairing.Mend.{Mend}
use Rattle.lab_mend.specs.declared.repairing.RepairAsked.{RepairAsked}
use Rattle.lab_mend.specs.Tries.{turn_tries}
use Rattle.lab_mend.specs.Repaired.{IsOwnRepair, IsRepaired}
use Rattle.lab_commands.specs.Reports.{repair_text}
use Rattle.lab_commands.specs.declared.words.RepairWords.{RepairWords}
use Rattle.lab_commands.specs.declared.text.LabFault.{LabFault}
use Rattle.lab_commands.specs.Files.{IsFileOpened, Store, StoreAnswers, with_kept}
use Rattle.lab_commands.specs.Bits.{AreBitsAt, AreNoBits}
use Rattle.lab_commands.specs.Rows.{AreNoRows, AreRowsAt}
use Rattle.lab_commands.specs.Undone.{IsGeometryAt, IsNoGeometry, IsHalfPrinted, IsFileUnmade, IsUnplaced, IsUnroomed, LeavesAll, MayNotWrite, MayWrite, form_of_showing}

-- ---- done

-- The pieces are made of a dump that reads so: where its bytes are known the pieces and the list are those of the image that they are.
-- Whatever it gave, each piece is what is written of a page by what the list names of its row.
pub record IsRepairOfDump (a : StoreAnswers) (path : List ℕ) (g : Geometry) (asked : RepairAsked) (pieces : Option (List (List ℕ))) (mends : List Mend) : Type 0 where
  pub known : Option (List ℕ)
  pub opened : IsFileOpened a path known
  pub mended : IfSome known (IsRepaired g asked pieces mends)
  pub own : IsOwnRepair g asked pieces mends

-- how many pages are told to have been tried: where two bits may be turned
abbrev pub told_tries : ℕ → Geometry → List Mend → ℕ
told_tries bits g mends = if nat_le 2 bits then turn_tries (8 * page_bytes g) mends else 0

-- what is asked by these words
abbrev pub asked_of : Option Rows → ℕ → RepairAsked
asked_of rows bits = record { rows = rows; bits = bits }

-- the words say this geometry, and ask this of it
pub record AreAsked (words : RepairWords) (g : Geometry) (asked : RepairAsked) : Type 0 where
  pub geometry_is : IsGeometryAt words.geometry.now g
  pub rows_are : AreRowsAt words.rows g asked.rows
  pub bits_are : AreBitsAt words.bits g asked.bits

-- so asked, the mended dump was put in the place of OUT, and so many pages are told to have been tried
pub record HasPutMends (a : StoreAnswers) (words : RepairWords) (before after : Option Store) (g : Geometry) (asked : RepairAsked) (tries : ℕ) (mends : List Mend) : Type 0 where
  pub pieces : Option (List (List ℕ))
  pub made : IsRepairOfDump a words.dump.now g asked pieces mends
  pub put : after ≡ with_kept before words.out.now pieces words.force
  pub tried : tries ≡ told_tries asked.bits g mends

-- the mended dump was put in the place of OUT
pub record PutRepair (a : StoreAnswers) (words : RepairWords) (before after : Option Store) (mends : List Mend) : Type 0 where
  pub g : Geometry
  pub rows : Option Rows
  pub bits : ℕ
  pub pieces : Option (List (List ℕ))
  pub geometry_is : IsGeometryAt words.geometry.now g
  pub rows_are : AreRowsAt words.rows g rows
  pub bits_are : AreBitsAt words.bits g bits
  pub allowed : MayWrite a words.dump.now words.out.now words.force
  pub made : IsRepairOfDump a words.dump.now g (asked_of rows bits) pieces mends
  pub put : after ≡ with_kept before words.out.now pieces words.force

-- and so many pages are told to have been tried
pub record HasPutRepair (a : StoreAnswers) (words : RepairWords) (before after : Option Store) (tries : ℕ) (mends : List Mend) : Type 0 where
  pub put : PutRepair a words before after mends
  pub tried : tries ≡ told_tries put.bits put.g mends

-- and what was mended was printed
pub record WroteRepair (a : StoreAnswers) (words : RepairWords) (before after : Option Store) (out printed : Option (List ℕ)) : Type 0 where
  pub mends : List Mend
  pub put : PutRepair a words before after mends
  pub told : Appends out printed (repair_text (form_of_showing words.showing) (told_tries put.bits put.g mends) mends)

-- ---- not done

-- The first of this order: the geometry; the rows; how many bits.
abbrev pub AreUnasked : RepairWords → LabFault → Type 0
AreUnasked words told =
    IsNoGeometry words.geometry.now told
    ⊎ ((g : Geometry) × IsGeometryAt words.geometry.now g × (AreNoRows words.rows g told ⊎ ((rows : Option Rows) × AreRowsAt words.rows g rows × AreNoBits words.bits g told)))

-- memory was refused, or no dump was made, or it did not get its name
abbrev pub IsRepairUnput : StoreAnswers → RepairWords → Geometry → (opens opened : Option ℕ) → LabFault → Type 0
IsRepairUnput a words g opens opened told = IsUnroomed opens opened told ⊎ IsFileUnmade a g words.dump.now words.out.now told ⊎ IsUnplaced a words.out.now words.force told

-- The first of this order: the geometry; the rows; how many bits; whether OUT may be written; memory; the dump and OUT.
abbrev pub IsUnrepairedBy : StoreAnswers → RepairWords → (opens opened : Option ℕ) → LabFault → Type 0
IsUnrepairedBy a words opens opened told =
    IsNoGeometry words.geometry.now told
    ⊎ ((g : Geometry) × IsGeometryAt words.geometry.now g × (AreNoRows words.rows g told
    ⊎ ((rows : Option Rows) × AreRowsAt words.rows g rows × (AreNoBits words.bits g told
    ⊎ ((bits : ℕ) × AreBitsAt words.bits g bits × (MayNotWrite a words.dump.now words.out.now words.force told
    ⊎ (MayWrite a words.dump.now words.out.now words.force × IsRepairUnput a words g opens opened told)))))))

-- No dump was put in place and nothing printed, for one of these reasons; or it was put in place, and a beginning of the list printed.
abbrev pub IsRepairFault : StoreAnswers → RepairWords → Option Store → Option Store → (opens opened : Option ℕ) → (broke : Bool) → Option (List ℕ) → Option (List ℕ) → LabFault → Type 0
IsRepairFault a words before after opens opened broke out printed told =
    (LeavesAll before after out printed × IsUnrepairedBy a words opens opened told)
    ⊎ ((mends : List Mend) × (put : PutRepair a words before after mends) × IsHalfPrinted broke out printed (repair_text (form_of_showing words.showing) (told_tries put.bits put.g mends) mends) told)
