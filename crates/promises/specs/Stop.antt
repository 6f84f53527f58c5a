-- The images that a stop in the middle of operations may leave.
use Rattle.std.specs.Prelude.{◌≡◌, ◌⊎◌, ◌↔◌, ◌≤◌, ℕ, ◌/◌, Bool, List, [], ◌∷◌, ◌++◌, length, slice_get, slice_set, Option, Some}
use Rattle.page_layout.specs.declared.geometry.Geometry.{Geometry}
use Rattle.page_layout.specs.declared.record.Key.{Key}
use Rattle.page_layout.specs.Page.{Page, Image, IsImage}
use Rattle.page_layout.specs.Array.{marks}
use Rattle.page_layout.specs.Newest.{newest}
use Rattle.page_layout.specs.Change.{FailsAt, HoldsNone, LosesIn, IsUnsoundAt}
use Rattle.page_layout.specs.Flash.{Flash, Operation, Program, Erase, Leads, with_block}
use Rattle.page_layout.specs.Recording.{Recording, Records, EndsAt, noted, image_after, image_after_all}

-- Stopped before an operation or in it. A program: the image is as before, or its page alone has changed and has no sound record. An
-- erase: each page of its block is as before or has no sound record.
abbrev pub Tears : ℕ → Operation → Image → Image → Type 0
Tears pages (Program row page passed left) image torn = FailsAt row image torn
Tears pages (Erase block passed left) image torn = LosesIn pages block image torn

-- stopped before one of the operations or in it, or after the last
abbrev pub LeftBy : ℕ → Image → List Operation → Image → Type 0
LeftBy pages image [] left = left ≡ image
LeftBy pages image (op ∷ log) left = Tears pages op image left ⊎ LeftBy pages (image_after pages image op) log left

-- AN IMAGE THAT A STOP MAY LEAVE, by the operations that came after this image: an image of the die, left by them
pub record MayLeave (g : Geometry) (image : Image) (log : List Operation) (left : Image) : Type 0 where
  pub whole : IsImage g left
  pub by : LeftBy g.pages image log left

-- EACH ERASE IS OF A BLOCK WITHOUT A NEWEST PAGE: as it begins no key has its newest page there, so whatever an erase leaves, done or torn, no page that counts is lost
abbrev pub ErasesDead : ℕ → Image → List Operation → Type 0
ErasesDead pages image [] = Unit {0}
ErasesDead pages image (Program row page passed left ∷ log) = ErasesDead pages (image_after pages image (Program row page passed left)) log
ErasesDead pages image (Erase block passed left ∷ log) = HoldsNone pages block image × ErasesDead pages (image_after pages image (Erase block passed left)) log

-- ---- laws

-- without an operation it is the one image
abbrev pub NoOperationLaw : Type 0
NoOperationLaw = (g : Geometry) (image left : Image) → MayLeave g image [] left → left ≡ image

-- stopped in one of the operations: those before it are done
pub record StopsIn (pages : ℕ) (image : Image) (log : List Operation) (left : Image) : Type 0 where
  pub before : List Operation
  pub op : Operation
  pub after : List Operation
  pub cut : log ≡ before ++ op ∷ after
  pub tears : Tears pages op (image_after_all pages image before) left

-- it is the image after all, or after some of them and torn in the one page or block that the next names, and nothing else
abbrev pub TornInOneLaw : Type 0
TornInOneLaw = (pages : ℕ) (image left : Image) (log : List Operation) → LeftBy pages image log left ↔ ((left ≡ image_after_all pages image log) ⊎ StopsIn pages image log left)

-- the images before, between and after the operations are among them
abbrev pub BetweenLaw : Type 0
BetweenLaw = (pages : ℕ) (image : Image) (before after : List Operation) → LeftBy pages image (before ++ after) (image_after_all pages image before)

-- what two lists of operations in a row may leave is what either may
abbrev pub StopsJoinLaw : Type 0
StopsJoinLaw = (pages : ℕ) (image left : Image) (xs ys : List Operation) → LeftBy pages image (xs ++ ys) left ↔ (LeftBy pages image xs left ⊎ LeftBy pages (image_after_all pages image xs) ys left)

-- the die's image after its log is the image after its operations
abbrev pub ImageLaw : Type 0
ImageLaw = (old new : Flash) (log : List Operation) → Leads old log new → new.image ≡ image_after_all old.geometry.pages old.image log

-- a log whose erases are so is one in which each block that is erased held no newest page, by the image after the operations before it
abbrev pub DeadEraseLaw : Type 0
DeadEraseLaw = (pages : ℕ) (image : Image) (before after : List Operation) (block : ℕ) (passed : Bool) (left : List Page) → ErasesDead pages image (before ++ Erase block passed left ∷ after)
    → HoldsNone pages block (image_after_all pages image before)

-- so it is no such log where a newest page stood in one of these blocks
abbrev pub LiveEraseLaw : Type 0
LiveEraseLaw = (pages : ℕ) (image : Image) (before after : List Operation) (block row : ℕ) (key : Key) (passed : Bool) (left : List Page)
    → newest (marks (image_after_all pages image before)) key ≡ Some row → row / pages ≡ block → ¬ ErasesDead pages image (before ++ Erase block passed left ∷ after)

-- two logs in a row erase such blocks alone where both do
abbrev pub DeadJoinLaw : Type 0
DeadJoinLaw = (pages : ℕ) (image : Image) (xs ys : List Operation) → ErasesDead pages image (xs ++ ys) ↔ (ErasesDead pages image xs × ErasesDead pages (image_after_all pages image xs) ys)

-- each page is as it was, or is one of these and has no sound record
pub record IsTornIn (these : ℕ → Type 0) (image left : Image) : Type 0 where
  pub size : length left ≡ length image
  pub each : (row : ℕ) → (slice_get left row ≡ slice_get image row) ⊎ (these row × IsUnsoundAt left row)

-- Stopped in a program: all of it is done, or each page is as it was but for its own, which may be left without a sound record. Every
-- such image is one, and no other.
abbrev pub StoppedProgramLaw : Type 0
StoppedProgramLaw = (g : Geometry) (image left : Image) (row : ℕ) (page written : Page) (passed : Bool) →
    MayLeave g image (Program row page passed written ∷ []) left
    ↔ (IsImage g left × ((left ≡ slice_set image row written) ⊎ IsTornIn (λ r. r ≡ row) image left))

-- The same of an erase, with the pages of its block.
abbrev pub StoppedEraseLaw : Type 0
StoppedEraseLaw = (g : Geometry) (image left : Image) (block : ℕ) (passed : Bool) (written : List Page) →
    MayLeave g image (Erase block passed written ∷ []) left
    ↔ (IsImage g left × ((left ≡ with_block g.pages block written image) ⊎ IsTornIn (λ r. r / g.pages ≡ block) image left))

-- ---- calls and their stops: `StopLemmas` joins them

-- A CALL, AND WHATEVER A STOP IN IT MAY LEAVE. A log leads the die from one state to the other, the record that is told has gained just
-- that log, each image that a stop in it may leave is so, and no block is erased in it that holds a newest page.
pub record LeavesOnly (old new : Flash) (told told' : Option Recording) (is_so : Image → Type 0) : Type 0 where
  pub log : List Operation
  pub leads : Leads old log new
  pub records : Records told log told'
  pub left : (image : Image) → MayLeave old.geometry old.image log image → is_so image
  pub dead : ErasesDead old.geometry.pages old.image log

-- A CALL THAT A FAULT OF THE DIE ENDED, and whatever the die may be left with. Operations were done from the old state on, and one more was at hand, or none; the record that is told tells just these, each image that a stop in them may leave is
-- so, and none of them is an erase of a block that holds a newest page.
pub record CutShort (old : Flash) (told told' : Option Recording) (is_so : Image → Type 0) : Type 0 where
  pub log : List Operation
  pub at_hand : List Operation
  pub mid : Flash
  pub leads : Leads old log mid
  pub one : length at_hand ≤ 1
  pub ends : EndsAt at_hand (noted log told) told'
  pub left : (image : Image) → MayLeave old.geometry old.image (log ++ at_hand) image → is_so image
  pub dead : ErasesDead old.geometry.pages old.image (log ++ at_hand)
