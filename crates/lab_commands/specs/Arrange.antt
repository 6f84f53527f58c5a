-- What the command `arrange` comes to.
use Rattle.std.specs.Prelude.{◌≡◌, ◌⊎◌, ℕ, suc, Bool, List, length, Option, Some, None, IfSome, option_map}
use Rattle.std.specs.Borrow.{Bor}
use Rattle.std.specs.Io.KnownBytes.{Appends}
use Rattle.page_layout.specs.declared.geometry.Geometry.{Geometry}
use Rattle.page_layout.specs.Geometry.{row_count}
use Rattle.lab_arrange.specs.declared.arrangement.Arrangement.{Arrangement}
use Rattle.lab_arrange.specs.declared.arrange.ArrangeFault.{ArrangeFault}
use Rattle.lab_arrange.specs.declared.arrange.ArrangeFault.TheVariants as arrange
use Rattle.lab_arrange.specs.Arranged.{AreSized, IsArranged, IsUnarranged}
use Rattle.lab_arrange.specs.Place.{IsFitting, IsUnfit}
use Rattle.lab_arrange.specs.Words.{IsArrangementAt, IsBadAt, in_order}
use Rattle.lab_commands.specs.Reports.{arrange_text}
use Rattle.lab_commands.specs.declared.arrange_words.ArrangeWords.{ArrangeWords}
use Rattle.lab_commands.specs.declared.text.LabFault.{LabFault}
use Rattle.lab_commands.specs.declared.text.LabFault.TheVariants as fault
use Rattle.lab_commands.specs.Files.{IsFileOpened, Store, StoreAnswers, with_kept}
use Rattle.lab_commands.specs.Undone.{IsGeometryAt, IsHalfPrinted, IsNoGeometry, IsUnfilled, IsUnplaced, IsUnread, IsUnroomed, IsUnwritten, LeavesAll, MayNotWrite, MayWrite, OpensForReading, form_of_showing}

-- ---- what the words say

-- the word says this arrangement; without a word the dump is in order
abbrev pub SaysArrangement : Option (Bor (List ℕ)) → Arrangement → Type 0
SaysArrangement None a = a ≡ in_order
SaysArrangement (Some word) a = IsArrangementAt word.now a

-- there is a word, and it says none: then the first word of it that is at fault is told
abbrev pub IsUnsaid : Option (Bor (List ℕ)) → LabFault → Type 0
IsUnsaid (Some word) (fault.BadArrangement bad) = IsBadAt word.now bad.now
IsUnsaid _ _ = ⊥

-- the words say this geometry and this arrangement, and such a die can stand so
pub record AreSaid (words : ArrangeWords) (g : Geometry) (a : Arrangement) : Type 0 where
  pub arrangement_is : SaysArrangement words.from a
  pub geometry_is : IsGeometryAt words.geometry.now g
  pub fits : IsFitting g a

-- such a die cannot
abbrev pub IsUnfitting : Geometry → Arrangement → LabFault → Type 0
IsUnfitting g a (fault.Unfit unfit) = IsUnfit g a unfit
IsUnfitting g a _ = ⊥

-- The first of this order: the arrangement; the geometry; whether such a die can stand so.
abbrev pub AreUnsaid : ArrangeWords → LabFault → Type 0
AreUnsaid words told =
    IsUnsaid words.from told
    ⊎ ((a : Arrangement) × SaysArrangement words.from a × (IsNoGeometry words.geometry.now told ⊎ ((g : Geometry) × IsGeometryAt words.geometry.now g × IsUnfitting g a told)))

-- ---- done

-- The pieces are made of a dump that reads so: where its bytes are known each byte of them is the byte of the dump at its place. Whatever it gave,
-- there is a page for each row.
pub record IsMadeInOrder (s : StoreAnswers) (path : List ℕ) (g : Geometry) (a : Arrangement) (pieces : Option (List (List ℕ))) : Type 0 where
  pub known : Option (List ℕ)
  pub opened : IsFileOpened s path known
  pub arranged : (all : List ℕ) → known ≡ Some all → IsArranged g a pieces all
  pub sized : IfSome pieces (AreSized g)

-- the dump of this geometry was made in order and put in the place of OUT
pub record HasPutInOrder (s : StoreAnswers) (words : ArrangeWords) (before after : Option Store) (g : Geometry) (a : Arrangement) : Type 0 where
  pub pieces : Option (List (List ℕ))
  pub made : IsMadeInOrder s words.dump.now g a pieces
  pub put : after ≡ with_kept before words.out.now pieces words.force

-- the dump in order was put in the place of OUT
pub record PutArranged (s : StoreAnswers) (words : ArrangeWords) (before after : Option Store) (g : Geometry) : Type 0 where
  pub a : Arrangement
  pub pieces : Option (List (List ℕ))
  pub said : AreSaid words g a
  pub allowed : MayWrite s words.dump.now words.out.now words.force
  pub made : IsMadeInOrder s words.dump.now g a pieces
  pub put : after ≡ with_kept before words.out.now pieces words.force

-- and the report printed
pub record WroteArranged (s : StoreAnswers) (words : ArrangeWords) (before after : Option Store) (out printed : Option (List ℕ)) : Type 0 where
  pub g : Geometry
  pub put : PutArranged s words before after g
  pub told : Appends out printed (arrange_text (form_of_showing words.showing) (row_count g))

-- ---- not done

-- how it is told that no dump in order was made
abbrev pub unordered_as : ArrangeFault → Bor (List ℕ) → Bor (List ℕ) → LabFault
unordered_as (arrange.WrongLength wanted found) dump out = fault.ArrangedLength wanted found
unordered_as arrange.Source dump out = fault.Read dump
unordered_as arrange.Target dump out = fault.Write out

-- the dump was opened, and has, as far as that is known, not as many bytes as the words say: so many were wanted, and so many found
pub record HasOtherLength (s : StoreAnswers) (path : List ℕ) (g : Geometry) (a : Arrangement) (wanted found : ℕ) : Type 0 where
  pub known : Option (List ℕ)
  pub opened : IsFileOpened s path known
  pub lengths : IsUnarranged g a known (arrange.WrongLength wanted found)

-- Why a dump that was opened was not taken as a whole: it has another length, or a read failed. No want of memory is one.
abbrev pub IsArrangedUntaken : StoreAnswers → List ℕ → Geometry → Arrangement → LabFault → Type 0
IsArrangedUntaken s path g a (fault.ArrangedLength wanted found) = HasOtherLength s path g a wanted found
IsArrangedUntaken s path g a (fault.Read told) = (told.now ≡ path) × OpensForReading s path × s.reads_fail
IsArrangedUntaken s path g a _ = ⊥

-- the dump was not opened or not taken as a whole, or the file beside OUT was not made or not written whole
abbrev pub IsUnordered : StoreAnswers → Geometry → Arrangement → (dump out : List ℕ) → LabFault → Type 0
IsUnordered s g a dump out told = IsUnread s dump told ⊎ IsArrangedUntaken s dump g a told ⊎ IsUnwritten s out told ⊎ IsUnfilled s dump out told

-- memory was refused; or one file was opened, and no dump in order was made, or it did not get its name
abbrev pub IsArrangedUnput : StoreAnswers → ArrangeWords → Geometry → Arrangement → (opens opened : Option ℕ) → LabFault → Type 0
IsArrangedUnput s words g a opens opened told =
    IsUnroomed opens opened told ⊎ ((opened ≡ option_map suc opens) × (IsUnordered s g a words.dump.now words.out.now told ⊎ IsUnplaced s words.out.now words.force told))

-- The first of this order: the words; whether OUT may be written; memory; the dump and OUT. Of the first three no file was opened.
abbrev pub IsUnarrangedBy : StoreAnswers → ArrangeWords → (opens opened : Option ℕ) → LabFault → Type 0
IsUnarrangedBy s words opens opened told =
    (AreUnsaid words told × (opened ≡ opens))
    ⊎ ((g : Geometry) × (a : Arrangement) × AreSaid words g a × ((MayNotWrite s words.dump.now words.out.now words.force told × (opened ≡ opens))
    ⊎ (MayWrite s words.dump.now words.out.now words.force × IsArrangedUnput s words g a opens opened told)))

-- No dump was put in place and nothing printed, for one of these reasons; or it was put in place, and a beginning of the report printed.
abbrev pub IsArrangeFault : StoreAnswers → ArrangeWords → Option Store → Option Store → (opens opened : Option ℕ) → (broke : Bool) → Option (List ℕ) → Option (List ℕ) → LabFault → Type 0
IsArrangeFault s words before after opens opened broke out printed told =
    (LeavesAll before after out printed × IsUnarrangedBy s words opens opened told)
    ⊎ ((g : Geometry) × PutArranged s words before after g × (opened ≡ option_map suc opens) × IsHalfPrinted broke out printed (arrange_text (form_of_showing words.showing) (row_count g)) told)
