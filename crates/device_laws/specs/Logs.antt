-- What the one log of a call says.
use Rattle.std.specs.Prelude.{◌≡◌, ◌+◌, ◌<◌, ◌≤◌, ℕ, Bool, List, [], ◌∷◌, ◌++◌, Option, Some}
use Rattle.page_layout.specs.declared.record.Record.{Record}
use Rattle.page_layout.specs.Page.{Page}
use Rattle.page_layout.specs.Sound.{record_of}
use Rattle.page_layout.specs.Flash.{Flash, Operation, Program, Leads}
use Rattle.page_layout.specs.Recording.{Recording}
use Rattle.promises.specs.Log.{programs_in}
use Rattle.promises.specs.Legal.{Account, LegalFrom}
use Rattle.collection.specs.State.{Ram}
use Rattle.collection.specs.Log.{Went, IsAccounted}

-- A CALL WHOSE LOG IS EMPTY left the flash as it was, and took no sequence
abbrev pub NothingLaw : Type 0
NothingLaw = (old new : Ram) (before after : Flash) (told told' : Option Recording) (w : Went old before told new after told') → w.log ≡ []
    → (after ≡ before) × (new.next ≡ old.next)

-- THE LOG LEADS from the flash before the call to the one after it
abbrev pub LedLaw : Type 0
LedLaw = (old new : Ram) (before after : Flash) (told told' : Option Recording) (w : Went old before told new after told') → Leads before w.log after

-- EACH PROGRAM TAKES ONE SEQUENCE, and nothing else does
abbrev pub TakesLaw : Type 0
TakesLaw = (old new : Ram) (before after : Flash) (told told' : Option Recording) (w : Went old before told new after told') → new.next ≡ old.next + programs_in w.log

-- AND IT TAKES THE NEXT ONE: of two programs of a call the page of the later has the greater sequence, and each has one from the call's first on, and below the next call's
pub record AreNumbered (first next : ℕ) (earlier later : Record) : Type 0 where
  pub from : first ≤ earlier.sequence
  pub rises : earlier.sequence < later.sequence
  pub below : later.sequence < next

abbrev pub RisesLaw : Type 0
RisesLaw = (old new : Ram) (before after : Flash) (told told' : Option Recording) (w : Went old before told new after told') (xs ys zs : List Operation) (row row' : ℕ) (p q left left' : Page) (passed passed' : Bool)
    (r r' : Record) → w.log ≡ xs ++ Program row p passed left ∷ (ys ++ Program row' q passed' left' ∷ zs) → record_of p ≡ Some r → record_of q ≡ Some r' → AreNumbered old.next new.next r r'

-- THE LOG IS LEGAL by accounts that agree with the memory before the call
abbrev pub LegalCallLaw : Type 0
LegalCallLaw = (old new : Ram) (before after : Flash) (told told' : Option Recording) (w : Went old before told new after told') (accounts : List Account)
    → IsAccounted accounts old.blocks → LegalFrom old.geometry.pages accounts w.log
