-- Which logs are legal: a check of the list, by its own account of the blocks.
use Rattle.std.specs.Prelude.{◌≡◌, ◌↔◌, ◌<◌, ◌≤◌, ℕ, ◌+◌, ◌/◌, ◌%◌, Bool, true, false, not, List, [], ◌∷◌, ◌++◌, map, get_or, slice_get, slice_set, Some}
use Rattle.std.specs.List.{range_with_len}
use Rattle.page_layout.specs.declared.geometry.Geometry.{Geometry}
use Rattle.page_layout.specs.Page.{Page, Image}
use Rattle.page_layout.specs.Sound.{is_erased_page}
use Rattle.page_layout.specs.Block.{block_pages, past_last}
use Rattle.page_layout.specs.Flash.{Operation, Program, Erase}
use Rattle.promises.specs.Log.{block_of, bad_of, programs_of, erases_of}

-- the account of a block: its next page, and whether nothing more may be done in it
pub record Account : Type 0 where
  pub next : ℕ
  pub barred : Bool

abbrev pub no_account : Account
no_account = record { next = 0; barred = true }

-- the account of a block; of a block that the die doesn't have nothing is due
abbrev pub account_at : List Account → ℕ → Account
account_at accounts block = get_or accounts block no_account

-- the accounts as an image shows them, with the blocks that are bad
unfoldable pub accounts_of : Geometry → Image → (ℕ → Bool) → List Account
accounts_of g image bad = map (λ block. record { next = past_last (block_pages g image block); barred = bad block }) (range_with_len 0 g.blocks)

-- a program takes the next page, an erase begins the block anew, and after a failure nothing more is done in it
abbrev pub account_after : Account → Operation → Account
account_after account (Program row page passed left) = record { next = account.next + 1; barred = not passed }
account_after account (Erase block passed left) = record { next = 0; barred = not passed }

unfoldable pub accounted : ℕ → List Account → Operation → List Account
accounted pages accounts op = slice_set accounts (block_of pages op) (account_after (account_at accounts (block_of pages op)) op)

abbrev pub accounted_all : ℕ → List Account → List Operation → List Account
accounted_all pages accounts [] = accounts
accounted_all pages accounts (op ∷ log) = accounted_all pages (accounted pages accounts op) log

-- a program is due of the block's next page
pub record IsDueProgram (pages : ℕ) (accounts : List Account) (row : ℕ) : Type 0 where
  pub good : (account_at accounts (row / pages)).barred ≡ false
  pub next : (account_at accounts (row / pages)).next ≡ row % pages

-- an erase is due at any time
pub record IsDueErase (accounts : List Account) (block : ℕ) : Type 0 where
  pub good : (account_at accounts block).barred ≡ false

abbrev pub IsDue : ℕ → List Account → Operation → Type 0
IsDue pages accounts (Program row page passed left) = IsDueProgram pages accounts row
IsDue pages accounts (Erase block passed left) = IsDueErase accounts block

-- each operation is due when it comes
abbrev pub LegalFrom : ℕ → List Account → List Operation → Type 0
LegalFrom pages accounts [] = Unit {0}
LegalFrom pages accounts (op ∷ log) = IsDue pages accounts op × LegalFrom pages (accounted pages accounts op) log

-- A LEGAL LOG. Each block's programs come in the order of its pages, one each, from one past its last page that isn't erased in the
-- image, and from page 0 after an erase. No program and no erase names a block that is bad or has failed earlier in the log.
abbrev pub IsLegal : Geometry → Image → (ℕ → Bool) → List Operation → Type 0
IsLegal g image bad log = LegalFrom g.pages (accounts_of g image bad) log

-- ---- laws of the check

-- the empty log is legal
abbrev pub EmptyLaw : Type 0
EmptyLaw = (g : Geometry) (image : Image) (bad : ℕ → Bool) → IsLegal g image bad []

-- two logs in a row are legal where the first is, and the second is by the accounts that the first leaves
abbrev pub JoinLaw : Type 0
JoinLaw = (pages : ℕ) (accounts : List Account) (xs ys : List Operation) → LegalFrom pages accounts (xs ++ ys) ↔ (LegalFrom pages accounts xs × LegalFrom pages (accounted_all pages accounts xs) ys)

-- the accounts that both leave
abbrev pub AccountsLaw : Type 0
AccountsLaw = (pages : ℕ) (accounts : List Account) (xs ys : List Operation) → accounted_all pages accounts (xs ++ ys) ≡ accounted_all pages (accounted_all pages accounts xs) ys

-- one more operation has to be due
abbrev pub OneMoreIsDueLaw : Type 0
OneMoreIsDueLaw = (pages : ℕ) (accounts : List Account) (log : List Operation) (op : Operation) → LegalFrom pages accounts (log ++ op ∷ [])
    ↔ (LegalFrom pages accounts log × IsDue pages (accounted_all pages accounts log) op)

-- ---- what the check is for, without its account

-- no program and no erase names a block that is bad or has failed before
abbrev pub NoBadBlockLaw : Type 0
NoBadBlockLaw = (g : Geometry) (image : Image) (bad : ℕ → Bool) (before after : List Operation) (op : Operation) → IsLegal g image bad (before ++ op ∷ after)
    → bad_of g.pages bad before (block_of g.pages op) ≡ false

-- no page is programmed twice but for an erase of its block between
abbrev pub NotTwiceLaw : Type 0
NotTwiceLaw = (g : Geometry) (image : Image) (bad : ℕ → Bool) (before between after : List Operation) (row : ℕ) (p q left left' : Page) (passed passed' : Bool)
    → IsLegal g image bad (before ++ Program row p passed left ∷ (between ++ Program row q passed' left' ∷ after)) → 0 < erases_of between (row / g.pages)

-- a page that is programmed before its block is erased was erased in the image
abbrev pub OnErasedLaw : Type 0
OnErasedLaw = (g : Geometry) (image : Image) (bad : ℕ → Bool) (before after : List Operation) (row : ℕ) (p left its : Page) (passed : Bool)
    → IsLegal g image bad (before ++ Program row p passed left ∷ after) → erases_of before (row / g.pages) ≡ 0 → slice_get image row ≡ Some its → is_erased_page its ≡ true

-- the pages of a block are programmed in their order: between two programs of a block without an erase of it the page rises
abbrev pub InOrderLaw : Type 0
InOrderLaw = (g : Geometry) (image : Image) (bad : ℕ → Bool) (before between after : List Operation) (row later : ℕ) (p q left left' : Page) (passed passed' : Bool)
    → IsLegal g image bad (before ++ Program row p passed left ∷ (between ++ Program later q passed' left' ∷ after)) → later / g.pages ≡ row / g.pages → erases_of between (row / g.pages) ≡ 0
    → row % g.pages < later % g.pages

-- ---- which page comes next

-- no operation of the log names the block
pub record LeavesAlone (pages : ℕ) (log : List Operation) (block : ℕ) : Type 0 where
  pub programs : programs_of pages log block ≡ 0
  pub erases : erases_of log block ≡ 0

-- the row is one past the last of its block that isn't erased: it and those after it are erased, and the one before it isn't
pub record IsFirstFree (g : Geometry) (image : Image) (row : ℕ) : Type 0 where
  pub erased : (other : ℕ) (its : Page) → other / g.pages ≡ row / g.pages → row ≤ other → slice_get image other ≡ Some its → is_erased_page its ≡ true
  pub last : (other : ℕ) (its : Page) → other / g.pages ≡ row / g.pages → other + 1 ≡ row → slice_get image other ≡ Some its → is_erased_page its ≡ false

-- a block's first program is of the page one past its last that isn't erased in the image
abbrev pub FirstPageLaw : Type 0
FirstPageLaw = (g : Geometry) (image : Image) (bad : ℕ → Bool) (before after : List Operation) (row : ℕ) (p left : Page) (passed : Bool)
    → IsLegal g image bad (before ++ Program row p passed left ∷ after) → LeavesAlone g.pages before (row / g.pages) → IsFirstFree g image row

-- its first program after an erase is of page 0
abbrev pub AfterEraseLaw : Type 0
AfterEraseLaw = (g : Geometry) (image : Image) (bad : ℕ → Bool) (before between after : List Operation) (row : ℕ) (erased : List Page) (p left : Page) (passed passed' : Bool)
    → IsLegal g image bad (before ++ Erase (row / g.pages) passed erased ∷ (between ++ Program row p passed' left ∷ after)) → LeavesAlone g.pages between (row / g.pages) → row % g.pages ≡ 0

-- and its next program after a program is of the next page
abbrev pub NextProgramLaw : Type 0
NextProgramLaw = (g : Geometry) (image : Image) (bad : ℕ → Bool) (before between after : List Operation) (row later : ℕ) (p q left left' : Page) (passed passed' : Bool)
    → IsLegal g image bad (before ++ Program row p passed left ∷ (between ++ Program later q passed' left' ∷ after)) → later / g.pages ≡ row / g.pages → LeavesAlone g.pages between (row / g.pages)
    → later % g.pages ≡ row % g.pages + 1
