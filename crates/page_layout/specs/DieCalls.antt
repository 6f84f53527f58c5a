-- WHAT A SOURCE OF PAGES, OR A DIE, WAS ASKED: call by call, whatever it did, each by its own word.
use Rattle.std.specs.Prelude.{ℕ, Bool, Option}
use Rattle.page_layout.specs.Page.{Page}

-- ONE CALL: a page was to be read, and was, or there was a fault; or a page was to be programmed with these bytes, or a block to be erased, and passed or failed, or there was a fault
pub data DieCall : Type 0 where
  ReadCall : (row : ℕ) (answered : Bool) → DieCall
  ProgramCall : (row : ℕ) (page : Page) (passed : Option Bool) → DieCall
  EraseCall : (block : ℕ) (passed : Option Bool) → DieCall

-- THE ONE STATE CAME FROM THE OTHER BY SUCH CALLS ALONE, one after another
pub data AsksOnly {S : Type 0} (called : S → DieCall → S → Type 0) (old : S) : S → Type 0 where
  AskedNothing : AsksOnly called old old
  AskedOneMore : (mid new : S) (call : DieCall) → AsksOnly called old mid → called mid call new → AsksOnly called old new
