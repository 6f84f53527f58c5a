-- Records of a die: its image as it was when the record began, and the programs and erases since. A die may tell a record, or none, which
-- claims nothing. A die that tells one tells it on, unless a fault ends it; a part of a die, as the bus in front of it, may cease to at any call.
use Rattle.std.specs.Prelude.{◌≡◌, ◌⊎◌, ℕ, true, List, [], ◌∷◌, ◌++◌, replicate, slice_set, Option, Some, None, IsSome, IfSome}
use Rattle.page_layout.specs.declared.geometry.Geometry.{Geometry}
use Rattle.page_layout.specs.Page.{Page, Image}
use Rattle.page_layout.specs.Change.{erased_page}
use Rattle.page_layout.specs.Flash.{Flash, Operation, Program, Erase, Leads, with_block}

-- the image as it was, and the operations since in order, each with the page handed in, its outcome and what it left; and the one that was at
-- hand as the die first gave a fault, as it was asked for, with each one behind it; or none
pub record Recording : Type 0 where
  pub image : Image
  pub log : List Operation
  pub at_hand : List Operation

-- what is at hand with these operations more: behind a fault they are noted there too
abbrev pub hand_after : List Operation → List Operation → List Operation
hand_after [] log = []
hand_after (op ∷ ops) log = op ∷ (ops ++ log)

-- the same with these operations more; none stays none
abbrev pub noted : List Operation → Option Recording → Option Recording
noted log None = None
noted log (Some r) = Some (record { image = r.image; log = r.log ++ log; at_hand = hand_after r.at_hand log })

-- A CALL THAT DID THESE OPERATIONS: the record has gained just them. It is told after the call where it was told before it, and nowhere else.
abbrev pub Records : Option Recording → List Operation → Option Recording → Type 0
Records old log new = new ≡ noted log old

-- the same of what may cease to tell: the record has gained just them, or has ended
abbrev pub RecordsOrEnds : Option Recording → List Operation → Option Recording → Type 0
RecordsOrEnds old log new = (new ≡ None) ⊎ Records old log new

-- the same with this operation at hand, or with none more
abbrev pub cut_at : List Operation → Option Recording → Option Recording
cut_at [] told = told
cut_at (op ∷ ops) None = None
cut_at (op ∷ ops) (Some r) = Some (record { image = r.image; log = r.log; at_hand = r.at_hand ++ op ∷ ops })

-- A CALL THAT A FAULT ENDED: the record tells that this operation was at hand, or has ended
abbrev pub EndsAt : List Operation → Option Recording → Option Recording → Type 0
EndsAt at_hand old new = (new ≡ None) ⊎ (new ≡ cut_at at_hand old)

-- what a program of a page, and an erase of a block, asks for: as it would be if it passed
abbrev pub asked_program : ℕ → Page → Operation
asked_program row p = Program row p true p

abbrev pub asked_erase : Geometry → ℕ → Operation
asked_erase g block = Erase block true (replicate g.pages (erased_page g))

-- a program or an erase that a fault ended: it was not begun, or was at hand
abbrev pub EndsIn : Operation → Option Recording → Option Recording → Type 0
EndsIn op old new = EndsAt [] old new ⊎ EndsAt (op ∷ []) old new

-- the image after an operation
unfoldable pub image_after : ℕ → Image → Operation → Image
image_after pages image (Program row page passed left) = slice_set image row left
image_after pages image (Erase block passed left) = with_block pages block left image

abbrev pub image_after_all : ℕ → Image → List Operation → Image
image_after_all pages image [] = image
image_after_all pages image (op ∷ log) = image_after_all pages (image_after pages image op) log

-- a record tells of a die: its operations lead to the image as it is
abbrev pub IsRecordOf : Flash → Option Recording → Type 0
IsRecordOf s told = IfSome told (λ r. s.image ≡ image_after_all s.geometry.pages r.image r.log)

-- ---- laws

-- a record that ran on while the die was led on still tells of it, if it has not ended
abbrev pub RecordStaysLaw : Type 0
RecordStaysLaw = (old new : Flash) (log : List Operation) (told told' : Option Recording) → Leads old log new → IsRecordOf old told → RecordsOrEnds told log told' → IsRecordOf new told'

-- one call after another: the record gained what both did; and so of records that may end
abbrev pub RecordsJoinLaw : Type 0
RecordsJoinLaw = (a b c : Option Recording) (xs ys : List Operation) → Records a xs b → Records b ys c → Records a (xs ++ ys) c

abbrev pub EndsJoinLaw : Type 0
EndsJoinLaw = (a b c : Option Recording) (xs ys : List Operation) → RecordsOrEnds a xs b → RecordsOrEnds b ys c → RecordsOrEnds a (xs ++ ys) c

-- a record that is told is told after each call, and one that is not is told after none
abbrev pub ToldOnLaw : Type 0
ToldOnLaw = (old new : Option Recording) (log : List Operation) → Records old log new → (IsSome old → IsSome new) × (IsSome new → IsSome old)

-- a record that is told after a call was told before it, and began with the same image
pub record RanOn (old : Option Recording) (log : List Operation) (r : Recording) : Type 0 where
  pub before : Recording
  pub was : old ≡ Some before
  pub image_same : r.image ≡ before.image
  pub gained : r.log ≡ before.log ++ log
  pub hand : r.at_hand ≡ hand_after before.at_hand log

abbrev pub RanOnLaw : Type 0
RanOnLaw = (old new : Option Recording) (log : List Operation) (r : Recording) → RecordsOrEnds old log new → new ≡ Some r → RanOn old log r

-- WHAT A CUT RECORD TELLS is one list of operations that were done, and the one at hand, where none was at hand before
abbrev pub OneCutLaw : Type 0
OneCutLaw = (told told' : Option Recording) (xs ys these those : List Operation) → IsSome told' → IfSome told (λ r. r.at_hand ≡ [])
    → EndsAt these (noted xs told) told' → EndsAt those (noted ys told) told' → (xs ≡ ys) × (these ≡ those)
