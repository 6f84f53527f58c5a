-- What one program does to the die, as its caller sees it.
use Rattle.std.proofs.Common.{◌≡◌, ◌∙◌, inl, inr, ℕ, ◌<◌, List, [], ◌∷◌, length, Option, Result, Ok, Err, Some, IfOk, IsSomeAnd, OnOk, OnErr, ap, arith, length-set, refl, subst, sym}
use Rattle.std.specs.Prelude.{slice_set}
use Rattle.std.specs.Vec.{with_items}
use Rattle.page_layout.specs.declared.geometry.Geometry.{Geometry}
use Rattle.page_layout.specs.declared.record.Record.{Record}
use Rattle.page_layout.specs.Geometry.{row_count}
use Rattle.page_layout.specs.Page.{Page, Image, IsImage, page}
use Rattle.page_layout.specs.Sound.{record_of, version_of, version_for}
use Rattle.page_layout.specs.Flash.{Flash, Program, Steps, IsWhole, page_at}
use Rattle.page_layout.specs.Recording.{Recording, Records, EndsIn, asked_program, image_after}
use Rattle.page_layout.specs.Change.{ProgramMeans}
use Rattle.page_layout.proofs.FlashLemmas.{program_means}
use Rattle.page_layout.proofs.StepLemmas.{Keeps-refl, failed_keeps, passed_writes}
use Rattle.onfi_cycles.specs.declared.nand.Outcome.{Outcome}
use Rattle.onfi_cycles.specs.declared.nand.BusFault.{BusFault}
use Rattle.onfi_cycles.specs.Outcomes.{is_passed}
use Rattle.promises.specs.Stop.{CutShort}
use Rattle.promises.proofs.CutLemmas.{cut_one}
use Rattle.collection.specs.declared.engine.Buffer.{Buffer}
use Rattle.collection.specs.Safe.{IsBuffer}
use Rattle.collection.specs.Results.{CanProgram, IsStep}
use Rattle.collection.specs.Stops.{IsKeptOrWritten}

-- the sequence of a page with this record
numbered_by : (p : Page) (r : Record) → record_of p ≡ Some r → IsSomeAnd (record_of p) (λ (x : Record). x.sequence ≡ r.sequence)
numbered_by p r has = (let P : Option Record → Type 0 = λ o. IsSomeAnd o (λ (x : Record). x.sequence ≡ r.sequence) in subst P (sym has) refl)

pub stepped : (row : ℕ) (p : Page) (r : Record) (old new : Flash) (told told' : Option Recording) (H : Type 0) (result : Result Outcome BusFault)
    → record_of p ≡ Some r → IfOk result (λ o. H → Steps old (Program row p (is_passed o) (page_at new row)) new)
    → IfOk result (λ o. H → Records told (Program row p (is_passed o) (page_at new row) ∷ []) told') → H → IfOk result (λ o. IsStep row r.sequence o old told new told')
stepped row p r old new told told' H (Ok o) has step records h = record { its = p; left = page_at new row; numbered = numbered_by p r has; step = step h; records = records h }
stepped row p r old new told told' H (Err e) has step records h = tt

pub image_by : (g : Geometry) (old new : Flash) (H : Type 0) (result : Result Outcome BusFault) → new.geometry ≡ old.geometry → old.geometry ≡ g → OnOk result (H → IsWhole new) → H → OnOk result (IsImage g new.image)
image_by g old new H (Ok o) same is whole h = (let P : Geometry → Type 0 = λ x. IsImage x new.image in subst P (same ∙ is) (whole h).image_whole)
image_by g old new H (Err e) same is whole h = tt

pub means_by : (g : Geometry) (row : ℕ) (r : Record) (body spare : List ℕ) (old new : Flash) (H : Type 0) (result : Result Outcome BusFault)
    → CanProgram g row r old.image → record_of (page body spare) ≡ Some r → version_of (page body spare) ≡ Some (version_for g)
    → IfOk result (λ o. H → Steps old (Program row (page body spare) (is_passed o) (page_at new row)) new) → H
    → IfOk result (λ o. ProgramMeans g r row body (is_passed o) old.image new.image)
means_by g row r body spare old new H (Ok o) can is version step h = program_means g old new row (page body spare) (page_at new row) (is_passed o) r (step h) can.one can.unsound is version can.below can.in_range
means_by g row r body spare old new H (Err e) can is version step h = tt

-- the image after the program that is asked for
asked_image : (pages : ℕ) (image : Image) (row : ℕ) (p : Page) → image_after pages image (asked_program row p) ≡ slice_set image row p
unfolding image_after
asked_image pages image row p = refl

-- A PROGRAM THAT A FAULT ENDED, of a page that is not sound: nothing that counts has changed, or the page is there
pub program_cut : (g : Geometry) (row : ℕ) (r : Record) (body spare : List ℕ) (old : Flash) (told told' : Option Recording) (H : Type 0) (result : Result Outcome BusFault)
    → old.geometry ≡ g → row < row_count g → CanProgram g row r old.image → record_of (page body spare) ≡ Some r → version_of (page body spare) ≡ Some (version_for g)
    → OnErr result (H → EndsIn (asked_program row (page body spare)) told told') → H → OnErr result (CutShort old told told' (IsKeptOrWritten g r row body old.image))
program_cut g row r body spare old told told' H (Ok o) same lt can is version ends h = tt
program_cut g row r body spare old told told' H (Err e) same lt can is version ends h =
    let its : Page = page body spare in
    let now : Image = image_after old.geometry.pages old.image (asked_program row its) in
    let set_is = asked_image old.geometry.pages old.image row its in
    cut_one old (asked_program row its) told told' (IsKeptOrWritten g r row body old.image) (ends h) (inl (Keeps-refl g old.image can.one))
    (λ image whole torn. inl (failed_keeps g row old.image image can.one can.unsound torn))
    (λ whole.
    let rows : length now ≡ row_count g = whole.rows ∙ ap row_count same in
    let size : length now ≡ length old.image = ap length set_is ∙ length-set old.image row its in
    let within : row < length old.image = omega (arith, lt, rows, size) in
    inr (passed_writes g row old.image now its r can.one within can.unsound is version can.below can.in_range set_is)) tt

-- what a call says, in one of its outcomes
pub at_outcome : (P : Outcome → Type 0) (x y : Outcome) → P x → x ≡ y → P y
at_outcome P x y h is = subst P is h

-- the spare area that a call wrote into keeps its length
pub buffer_spare : (g : Geometry) (b : Buffer) (ws : List ℕ) → IsBuffer g b → IsBuffer g (record { body = b.body; spare = with_items b.spare ws })
buffer_spare g b ws is = record { body = is.body; spare = sym (with_items b.spare ws).ok.0 ∙ (b.spare.ok.0 ∙ is.spare) }

-- and so does the data area, and both
pub buffer_body : (g : Geometry) (b : Buffer) (ws : List ℕ) → IsBuffer g b → IsBuffer g (record { body = with_items b.body ws; spare = b.spare })
buffer_body g b ws is = record { body = sym (with_items b.body ws).ok.0 ∙ (b.body.ok.0 ∙ is.body); spare = is.spare }

pub buffer_both : (g : Geometry) (b : Buffer) (body spare : List ℕ) → IsBuffer g b → IsBuffer g (record { body = with_items b.body body; spare = with_items b.spare spare })
buffer_both g b body spare is = record { body = (buffer_body g b body is).body; spare = (buffer_spare g b spare is).spare }
