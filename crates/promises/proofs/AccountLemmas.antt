-- The account of one block: as an image gives it, and after one operation more.
use Rattle.std.proofs.Common.{◌≡◌, ◌≢◌, ◌<◌, ℕ, Bool, false, not, List, [], ◌∷◌, refl, sym, ◌∙◌, arith, length}
use Rattle.std.proofs.lemmas.List.{get_or-set_same, get_or-set_other, length-set}
use Rattle.std.proofs.lemmas.List.FromFn.{get_or-map-range_with_len, length-map-range_with_len}
use Rattle.page_layout.specs.declared.geometry.Geometry.{Geometry}
use Rattle.page_layout.specs.Page.{Image}
use Rattle.page_layout.specs.Block.{block_pages, past_last}
use Rattle.page_layout.specs.Flash.{Operation, Program, Erase}
use Rattle.promises.specs.Log.{block_of, has_passed}
use Rattle.promises.specs.Legal.{Account, no_account, account_at, accounts_of, account_after, accounted, accounted_all, IsDue}

-- ---- as an image gives it

abbrev account_in : Geometry → Image → (ℕ → Bool) → ℕ → Account
account_in g image bad block = record { next = past_last (block_pages g image block); barred = bad block }

pub account_of : (g : Geometry) (image : Image) (bad : ℕ → Bool) (block : ℕ) → block < g.blocks → account_at (accounts_of g image bad) block ≡ record { next = past_last (block_pages g image block); barred = bad block }
unfolding accounts_of
account_of g image bad block lt = get_or-map-range_with_len (account_in g image bad) 0 g.blocks block block no_account lt (omega arith)

pub length-accounts_of : (g : Geometry) (image : Image) (bad : ℕ → Bool) → length (accounts_of g image bad) ≡ g.blocks
unfolding accounts_of
length-accounts_of g image bad = length-map-range_with_len (account_in g image bad) 0 g.blocks

-- ---- after one operation more

pub due_good : (pages : ℕ) (accounts : List Account) (op : Operation) → IsDue pages accounts op → (account_at accounts (block_of pages op)).barred ≡ false
due_good pages accounts (Program row page passed left) h = h.good
due_good pages accounts (Erase block passed left) h = h.good

pub length-accounted : (pages : ℕ) (accounts : List Account) (op : Operation) → length (accounted pages accounts op) ≡ length accounts
unfolding accounted
length-accounted pages accounts op = length-set accounts (block_of pages op) (account_after (account_at accounts (block_of pages op)) op)

pub length-accounted_all : (pages : ℕ) (accounts : List Account) (log : List Operation) → length (accounted_all pages accounts log) ≡ length accounts
length-accounted_all pages accounts [] = refl
length-accounted_all pages accounts (op ∷ log) = length-accounted_all pages (accounted pages accounts op) log ∙ length-accounted pages accounts op

-- the account of the block that the operation named
pub accounted-same : (pages : ℕ) (accounts : List Account) (op : Operation) (block : ℕ) → block_of pages op ≡ block → block < length accounts
    → account_at (accounted pages accounts op) block ≡ account_after (account_at accounts block) op
unfolding accounted
accounted-same pages accounts op block is within = rw is (get_or-set_same accounts block (account_after (account_at accounts block) op) no_account within)

-- and of any other
pub accounted-other : (pages : ℕ) (accounts : List Account) (op : Operation) (block : ℕ) → block_of pages op ≢ block → account_at (accounted pages accounts op) block ≡ account_at accounts block
unfolding accounted
accounted-other pages accounts op block ne = get_or-set_other accounts (block_of pages op) block (account_after (account_at accounts (block_of pages op)) op) no_account (λ e. ne (sym e))

pub noted-barred : (account : Account) (op : Operation) → (account_after account op).barred ≡ not (has_passed op)
noted-barred account (Program row page passed left) = refl
noted-barred account (Erase block passed left) = refl
