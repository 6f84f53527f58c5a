-- The pages that share a sequence, the blocks' states, and the reasons against a mount.
use Rattle.std.proofs.Common.{◌≡◌, ℕ, List, [], length, Option, Some, None, IfNone, IfSome}
use Rattle.std.proofs.Common.{subst, arith}
use Rattle.std.specs.Prelude.{IsPermutation}
use Rattle.page_layout.specs.declared.geometry.Geometry.{Geometry}
use Rattle.page_layout.specs.Geometry.{row_count}
use Rattle.page_layout.specs.Page.{Image}
use Rattle.page_layout.specs.Array.{marks}
use Rattle.certificate.specs.Claim.{Claim, sizes_of}
use Rattle.image_check.specs.declared.refusal.Refusal.{Refusal}
use Rattle.image_check.specs.declared.refusal.Refusal.TheVariants as refusals
use Rattle.image_check.specs.Pairs.{AreInOrder, DifferBelow, IsLowestBelow}
use Rattle.image_check.specs.Refused.{Part, Numbers, Sequences, Tables, Holds, FailsFrom, HoldBetween, IsOfImage}
use Rattle.image_check.specs.Survey.{pairs_below}
use Rattle.image_check.proofs.SequenceLemmas.{distinct_holds, repeated_at}
use Rattle.lab_dump.specs.Surveyed.{HasReadableBlocks, RepeatsAs}

pub repeats : (g : Geometry) (image : Image) (old new : List (ℕ × ℕ)) (o : Option (ℕ × ℕ)) → length image ≡ row_count g → old ≡ pairs_below (marks image) (row_count g) → IsPermutation old new → AreInOrder new
    → IfNone o (DifferBelow (length new) new) → IfSome o (λ rows. IsLowestBelow (length new) new rows.0 rows.1) → RepeatsAs (marks image) o
repeats g image old new None whole is moved ordered none some = distinct_holds g image old new whole is moved ordered none
repeats g image old new (Some rows) whole is moved ordered none some = repeated_at g image old new rows.0 rows.1 whole is moved ordered some

-- ---- the first parts

-- any claim: the first parts don't look at it
pub no_claim : Geometry → Claim
no_claim g = record { sizes = sizes_of g; capacity = 0; next = 0; blocks = []; directory = []; sectors = [] }

pub readable : (g : Geometry) (capacity : ℕ) (image : Image) (claim : Claim) → HoldBetween g capacity image claim 1 4 → HasReadableBlocks g image
readable g capacity image claim h = record {
  numbers = h.part Numbers (omega arith) (omega arith);
  sequences = h.part Sequences (omega arith) (omega arith);
  tables = h.part Tables (omega arith) (omega arith);
}

not_held : (g : Geometry) (capacity : ℕ) (image : Image) (claim : Claim) (named part : Part) → Some named ≡ Some part → (Holds g capacity image claim part → ⊥) → Holds g capacity image claim named → ⊥
not_held g capacity image claim named part e fails holds = let same : named ≡ part = cc in fails (subst (λ p. Holds g capacity image claim p) same holds)

pub unreadable : (g : Geometry) (capacity : ℕ) (image : Image) (claim : Claim) (r : Refusal) → IsOfImage r → FailsFrom g capacity image claim 1 r → HasReadableBlocks g image → ⊥
unreadable g capacity image claim (refusals.NumberRange row) kind f h = not_held g capacity image claim Numbers f.part f.wrong.part_is f.wrong.fails h.numbers
unreadable g capacity image claim (refusals.SequenceRepeated a b) kind f h = not_held g capacity image claim Sequences f.part f.wrong.part_is f.wrong.fails h.sequences
unreadable g capacity image claim refusals.NotFormatted kind f h = not_held g capacity image claim Tables f.part f.wrong.part_is f.wrong.fails h.tables
unreadable g capacity image claim (refusals.TableDamaged u) kind f h = not_held g capacity image claim Tables f.part f.wrong.part_is f.wrong.fails h.tables
unreadable g capacity image claim refusals.OutOfMemory kind f h = let e = f.wrong.part_is in absurd cc
unreadable g capacity image claim refusals.GeometryDiffers kind f h = absurd kind
unreadable g capacity image claim (refusals.DirectoryWrong i) kind f h = absurd kind
unreadable g capacity image claim (refusals.NoSuchRecord n row) kind f h = absurd kind
unreadable g capacity image claim (refusals.NotNewest n row) kind f h = absurd kind
unreadable g capacity image claim (refusals.BadSetWrong b) kind f h = absurd kind
unreadable g capacity image claim (refusals.BlockState b) kind f h = absurd kind
unreadable g capacity image claim (refusals.LiveWrong b) kind f h = absurd kind
unreadable g capacity image claim (refusals.WearWrong b) kind f h = absurd kind
unreadable g capacity image claim refusals.NextSequence kind f h = absurd kind
unreadable g capacity image claim (refusals.TooStale s c) kind f h = absurd kind
unreadable g capacity image claim refusals.Source kind f h = absurd kind
unreadable g capacity image claim refusals.WrongLength kind f h = absurd kind
