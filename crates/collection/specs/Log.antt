-- What went on at the die: a log of operations, and the blocks by its account.
use Rattle.std.specs.Prelude.{◌≡◌, ◌↔◌, ℕ, ◌+◌, ◌<◌, ◌≤◌, min, not, true, List, [], ◌∷◌, ◌++◌, length, Option, IsSomeAnd}
use Rattle.page_layout.specs.declared.record.Record.{Record}
use Rattle.page_layout.specs.Sound.{record_of}
use Rattle.page_layout.specs.Flash.{Flash, Operation, Program, Erase, Leads}
use Rattle.page_layout.specs.Recording.{Recording, Records}
use Rattle.bad_blocks.specs.Table.{is_good_at, wear_at, most_wear}
use Rattle.allocation.specs.State.{State, pointer_at}
use Rattle.promises.specs.Log.{programs_in, passed_erases_of}
use Rattle.promises.specs.Legal.{Account, account_at, accounted_all, LegalFrom}
use Rattle.collection.specs.State.{Ram}

-- the accounts of a log bar just the bad blocks, and of the good ones the next page is the memory's
pub record IsAccounted (accounts : List Account) (s : State) : Type 0 where
  pub size : length accounts ≡ s.geometry.blocks
  pub barred : (b : ℕ) → b < s.geometry.blocks → (account_at accounts b).barred ≡ not (is_good_at s.table b)
  pub next : (b : ℕ) → b < s.geometry.blocks → is_good_at s.table b ≡ true → (account_at accounts b).next ≡ pointer_at s b

-- a log that is legal by accounts that agree with the memory leaves accounts that agree with it
pub record FollowsLog (pages : ℕ) (log : List Operation) (old new : State) : Type 0 where
  pub legal : (accounts : List Account) → IsAccounted accounts old → LegalFrom pages accounts log
  pub accounted : (accounts : List Account) → IsAccounted accounts old → IsAccounted (accounted_all pages accounts log) new

-- each block was erased as often more as erases of it passed in the log, up to the greatest count that is told
pub record Wears (log : List Operation) (old new : State) : Type 0 where
  pub worn : (b : ℕ) → wear_at old.table b ≤ most_wear → wear_at new.table b ≡ min (wear_at old.table b + passed_erases_of log b) most_wear

-- EACH PROGRAM TOOK THE NEXT SEQUENCE, from this one on: the page that was handed in has a record with it
abbrev pub NumbersFrom : ℕ → List Operation → Type 0
NumbersFrom next [] = Unit {0}
NumbersFrom next (Program row page passed left ∷ log) = IsSomeAnd (record_of page) (λ (r : Record). r.sequence ≡ next) × NumbersFrom (next + 1) log
NumbersFrom next (Erase block passed left ∷ log) = NumbersFrom next log

-- There is such a log from the one state of the die to the other, and the record that the die tells has gained just it; each program in it took
-- the next sequence, and each erase that passed is counted.
pub record Went (old : Ram) (before : Flash) (told : Option Recording) (new : Ram) (after : Flash) (told' : Option Recording) : Type 0 where
  pub log : List Operation
  pub leads : Leads before log after
  pub records : Records told log told'
  pub follows : FollowsLog old.geometry.pages log old.blocks new.blocks
  pub next : new.next ≡ old.next + programs_in log
  pub wears : Wears log old.blocks new.blocks
  pub numbers : NumbersFrom old.next log

-- ---- laws

-- one log after another: the second goes on with the sequence that the first left
abbrev pub NumbersJoinLaw : Type 0
NumbersJoinLaw = (next : ℕ) (xs ys : List Operation) → NumbersFrom next (xs ++ ys) ↔ (NumbersFrom next xs × NumbersFrom (next + programs_in xs) ys)
